use Rattle.std.proofs.Common.{List, ap, ◌∙◌}
use Rattle.std.proofs.lemmas.Result.{on_ok_weaker}
use Rattle.ring_types.specs.declared.gtid_sets.ServerSet.{ServerSet}
use Rattle.event_control.specs.ControlEvents.{head}
use Rattle.entry_group.specs.Files.{set_in_head}
use Rattle.binlog_store.specs.Held.{files_of}
use Rattle.binlog_store.proofs.GoingOn.{next_file, same_file}
use Rattle.binlog_store.proofs.held.Growing.put.Goals as goal

pub returns-in_default : goal.returns-in_default
returns-in_default c = λ before is.
    same_file c.args.schema.now c.args.end.now.place before c.args.entry.now c.args.self.now.ended c.args.self.now.current.items c.write_entry.new.out.items
    c.in_default.not-Rotate c.in_ok-write_entry.ensures.ok

pub returns-in_ok-head-in-Rotate : goal.returns-in_ok-head-in-Rotate
returns-in_ok-head-in-Rotate c = on_ok_weaker c.begin.result
    (λ made. λ before is.
    next_file c.args.schema.now c.args.end.now.place before c.args.entry.now c.args.self.now.ended (files_of c.begin.new.self) c.args.self.now.current.items
    c.write_entry.new.out.items c.in_ok-head-in-Rotate.head.items c.in-Rotate.is c.in_ok-write_entry.ensures.ok
    (c.in_ok-head-in-Rotate.ensures ∙ ap (λ (s : List ServerSet). head (set_in_head s)) is) made)
    c.begin.ensures
