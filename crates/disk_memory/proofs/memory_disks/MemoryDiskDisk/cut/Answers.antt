use Rattle.disk_memory.specs.declared.edits.Edit.TheVariants as edit
use Rattle.disk_memory.specs.Records.{with_edit}
use Rattle.edge_traits.specs.Stories.{number_of}
use Rattle.disk_memory.specs.Pasts.{record_at, put}
use Rattle.disk_memory.proofs.CallLaws.{moves_time, moves_remembered, put_leaves, cut_here, cut_within}
use Rattle.disk_memory.proofs.memory_disks.MemoryDiskDisk.cut.Goals as goal

pub returns-clause-here : goal.returns-clause-here
returns-clause-here c = cut_here c.args.self.now.past c.call_cut.new.self.past c.args.file c.args.length c.call_cut.result c.call_cut.ensures.past

pub returns-clause-crash : goal.returns-clause-crash
returns-clause-crash c = cut_within c.args.self.now.past c.call_cut.new.self.past c.args.file c.args.length c.call_cut.result c.call_cut.ensures.past

pub returns-clause-elsewhere : goal.returns-clause-elsewhere
returns-clause-elsewhere c = put_leaves c.args.self.now.past c.call_cut.new.self.past c.args.file
    (with_edit (record_at (number_of c.args.file) c.args.self.now.past.records) (edit.Cut c.args.length)) c.call_cut.result c.call_cut.ensures.past

pub returns-clause-time : goal.returns-clause-time
returns-clause-time c = moves_time c.args.self.now c.call_cut.new.self
    (put (number_of c.args.file) (with_edit (record_at (number_of c.args.file) c.args.self.now.past.records)
    (edit.Cut c.args.length)) c.args.self.now.past.records) c.call_cut.result c.call_cut.ensures.past

pub returns-clause-remembers : goal.returns-clause-remembers
returns-clause-remembers c = moves_remembered c.args.self.now c.call_cut.new.self
    (put (number_of c.args.file) (with_edit (record_at (number_of c.args.file) c.args.self.now.past.records)
    (edit.Cut c.args.length)) c.args.self.now.past.records) c.call_cut.result c.call_cut.ensures.past
