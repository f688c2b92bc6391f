use Rattle.disk_memory.specs.Records.{all_synced, reads}
use Rattle.edge_traits.specs.Stories.{number_of}
use Rattle.disk_memory.specs.Pasts.{record_at, put}
use Rattle.disk_memory.proofs.CallLaws.{moves_time, moves_remembered, put_leaves, sync_here, sync_within}
use Rattle.disk_memory.proofs.memory_disks.MemoryDiskDisk.sync.Goals as goal

pub returns-clause-here : goal.returns-clause-here
returns-clause-here c = sync_here c.args.self.now.past c.call_sync.new.self.past c.args.file c.call_sync.result c.call_sync.ensures.past

pub returns-clause-crash : goal.returns-clause-crash
returns-clause-crash c = sync_within c.args.self.now.past c.call_sync.new.self.past c.args.file c.call_sync.result c.call_sync.ensures.past

pub returns-clause-elsewhere : goal.returns-clause-elsewhere
returns-clause-elsewhere c = put_leaves c.args.self.now.past c.call_sync.new.self.past c.args.file
    (all_synced (reads (record_at (number_of c.args.file) c.args.self.now.past.records))) c.call_sync.result c.call_sync.ensures.past

pub returns-clause-time : goal.returns-clause-time
returns-clause-time c = moves_time c.args.self.now c.call_sync.new.self
    (put (number_of c.args.file) (all_synced (reads (record_at
    (number_of c.args.file) c.args.self.now.past.records))) c.args.self.now.past.records) c.call_sync.result c.call_sync.ensures.past

pub returns-clause-remembers : goal.returns-clause-remembers
returns-clause-remembers c = moves_remembered c.args.self.now c.call_sync.new.self
    (put (number_of c.args.file) (all_synced (reads (record_at
    (number_of c.args.file) c.args.self.now.past.records))) c.args.self.now.past.records) c.call_sync.result c.call_sync.ensures.past
