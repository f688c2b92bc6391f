use Rattle.std.proofs.Common.{◌≡◌, sym, subst, List, ℕ, length}
use Rattle.std.specs.Result.{IfOk}
use Rattle.edge_traits.specs.Stories.{number_of}
use Rattle.disk_memory.specs.Pasts.{record_at}
use Rattle.disk_memory.proofs.Leaving.{reads_of}
use Rattle.disk_memory.proofs.CallLaws.{stays_same, stays_time, stays_remembered}
use Rattle.disk_memory.proofs.memory_disks.MemoryDiskDisk.length.Goals as goal

pub returns-clause-told : goal.returns-clause-told
returns-clause-told c = subst (λ (bytes : List ℕ). IfOk c.call_length.result (λ n. n ≡ length bytes))
    (sym (reads_of (record_at (number_of c.args.file) c.args.self.now.past.records))) c.call_length.ensures.told

pub returns-clause-same : goal.returns-clause-same
returns-clause-same c = stays_same c.args.self.now c.call_length.new.self c.call_length.ensures.past

pub returns-clause-time : goal.returns-clause-time
returns-clause-time c = stays_time c.args.self.now c.call_length.new.self c.call_length.ensures.past

pub returns-clause-remembers : goal.returns-clause-remembers
returns-clause-remembers c = stays_remembered c.args.self.now c.call_length.new.self c.call_length.ensures.past
