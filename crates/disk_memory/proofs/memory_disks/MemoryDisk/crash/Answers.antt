use Rattle.std.proofs.Common.{ap}
use Rattle.std.proofs.lemmas.Result.{on_ok_weaker}
use Rattle.disk_memory.specs.Pasts.{DiskState}
use Rattle.disk_memory.specs.Meters.{keeps}
use Rattle.disk_memory.proofs.CrashLaws.{crash_settled, crash_leaves}
use Rattle.disk_memory.proofs.memory_disks.MemoryDisk.crash.Goals as goal

pub returns-clause-leaves : goal.returns-clause-leaves
returns-clause-leaves c = on_ok_weaker c.crash_files.result (λ is. crash_leaves c.args.self.now.past c.crash_files.new.self.past
    (keeps c.args.self.now.meter) (ap (λ (d : DiskState). d.past) is)) c.crash_files.ensures.ok

pub returns-clause-settled : goal.returns-clause-settled
returns-clause-settled c = on_ok_weaker c.crash_files.result (λ is. crash_settled c.args.self.now.past c.crash_files.new.self.past
    (keeps c.args.self.now.meter) (ap (λ (d : DiskState). d.past) is)) c.crash_files.ensures.ok
