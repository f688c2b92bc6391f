use Rattle.disk_memory.specs.declared.edits.Edit.TheVariants as edit
use Rattle.disk_memory.specs.Records.{with_edit}
use Rattle.edge_traits.specs.Stories.{number_of}
use Rattle.disk_memory.specs.Pasts.{record_at, put}
use Rattle.disk_memory.proofs.CallLaws.{moves_time, moves_remembered, put_leaves, write_here, write_within}
use Rattle.disk_memory.proofs.memory_disks.MemoryDiskDisk.write.Goals as goal

pub returns-clause-here : goal.returns-clause-here
returns-clause-here c =
    write_here c.args.self.now.past c.call_write.new.self.past c.args.file c.args.at c.args.bytes.now c.call_write.result c.call_write.ensures.past

pub returns-clause-crash : goal.returns-clause-crash
returns-clause-crash c =
    write_within c.args.self.now.past c.call_write.new.self.past c.args.file c.args.at c.args.bytes.now c.call_write.result c.call_write.ensures.past

pub returns-clause-elsewhere : goal.returns-clause-elsewhere
returns-clause-elsewhere c = put_leaves c.args.self.now.past c.call_write.new.self.past c.args.file
    (with_edit (record_at (number_of c.args.file) c.args.self.now.past.records)
    (edit.Write c.args.at c.args.bytes.now)) c.call_write.result c.call_write.ensures.past

pub returns-clause-time : goal.returns-clause-time
returns-clause-time c = moves_time c.args.self.now c.call_write.new.self
    (put (number_of c.args.file) (with_edit (record_at (number_of c.args.file) c.args.self.now.past.records)
    (edit.Write c.args.at c.args.bytes.now)) c.args.self.now.past.records) c.call_write.result c.call_write.ensures.past

pub returns-clause-remembers : goal.returns-clause-remembers
returns-clause-remembers c = moves_remembered c.args.self.now c.call_write.new.self
    (put (number_of c.args.file) (with_edit (record_at (number_of c.args.file) c.args.self.now.past.records)
    (edit.Write c.args.at c.args.bytes.now)) c.args.self.now.past.records) c.call_write.result c.call_write.ensures.past
