use Rattle.disk_memory.specs.Pasts.{states}
use Rattle.log_cases.proofs.Syncs.{mounted_still}
use Rattle.log_cases.proofs.stops.settle.Goals as goal

pub returns : goal.returns
returns c =
    mounted_still (states c.args.disk.now.past.records) (states c.sync.new.self.past.records) c.args.number c.in_ok-sync.ensures.here c.sync.ensures.elsewhere
