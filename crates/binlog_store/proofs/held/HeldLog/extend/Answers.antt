use Rattle.std.proofs.Common.{◌<◌, List, ap, ◌∙◌, ◌++◌, length, take, get_or, arith}
use Rattle.ring_types.specs.declared.entries.Entry.{Entry}
use Rattle.binlog_store.proofs.Putting.{turn_counted, turn_end, turn_files, turn_stands}
use Rattle.binlog_store.proofs.held.HeldLog.extend.Goals as goal

pub put-requires-clause-stands : goal.put-requires-clause-stands
put-requires-clause-stands c =
    let items = c.as_slice-entry-items.ensures in
    turn_stands c.args.schema.now c.args.self.now.entries c.args.more c.requires.written c.loop-entry.entry-index c.entry-item.result c.entry-item.result c.loop-entry.self.end c.loop-entry.invariant.end
    (omega (arith, ap length items)) (c.entry-item.is ∙ ap (λ (z : List Entry). get_or z c.loop-entry.entry-index c.entry-item.result) items)

pub put-requires-in-loop-entry-clause-stands : goal.put-requires-in-loop-entry-clause-stands
put-requires-in-loop-entry-clause-stands c =
    let items = c.as_slice-entry-items.ensures in
    turn_stands c.args.schema.now c.args.self.now.entries c.args.more c.requires.written c.loop-entry.entry-index c.entry-item.result c.entry-item.result c.loop-entry.self.end c.loop-entry.invariant.end
    (omega (arith, ap length items)) (c.entry-item.is ∙ ap (λ (z : List Entry). get_or z c.loop-entry.entry-index c.entry-item.result) items)

pub put-requires-in-loop-entry-clause-counted : goal.put-requires-in-loop-entry-clause-counted
put-requires-in-loop-entry-clause-counted c =
    turn_counted c.args.schema.now c.args.self.now.entries c.args.more c.requires.written c.loop-entry.entry-index c.loop-entry.self.end c.loop-entry.invariant.end

pub loop-entry-preserved : goal.loop-entry-preserved
loop-entry-preserved c =
    let start = c.args.self.now.entries in
    let i = c.loop-entry.entry-index in
    let items = c.as_slice-entry-items.ensures in
    let within : i < length c.args.more = omega (arith, ap length items) in
    let here = c.entry-item.is ∙ ap (λ (z : List Entry). get_or z i c.entry-item.result) items in
    let end = c.loop-entry.invariant.end in
    record {
      entries = c.loop-entry.invariant.entries;
      end = turn_end c.args.schema.now start c.args.more c.requires.written i c.entry-item.result c.entry-item.result c.loop-entry.self.end _ within here end c.in_ok-put-2.ensures;
      files = turn_files c.args.schema.now start c.args.more c.requires.written i c.entry-item.result c.entry-item.result c.loop-entry.self.end _ _ within here end
          c.loop-entry.invariant.files (c.in_ok-put.ensures (start ++ take i c.args.more) end.set_is);
    }
