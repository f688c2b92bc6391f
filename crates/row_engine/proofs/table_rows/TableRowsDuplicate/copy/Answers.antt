-- the next row's key is above those of the copies, since the map's keys ascend, so its copy goes to the end
use Rattle.std.proofs.Common.{◌∙◌, ap, map, subst, sym}
use Rattle.std.proofs.lemmas.Map.Iter.{rest_more}
use Rattle.std.specs.List.Sorted.{IsStrictlySortedBy}
use Rattle.std.specs.Map.Iter.{deref}
use Rattle.ring_types.specs.Rows.{Rows, key_of, with_row}
use Rattle.row_engine.proofs.Entries.{copied_more, keys_of_rows}
use Rattle.row_engine.proofs.ValueOrder.{agrees, total, value_cmp}
use Rattle.row_engine.proofs.table_rows.TableRowsDuplicate.copy.Goals as goal

pub loop-row-preserved : goal.loop-row-preserved
loop-row-preserved c =
    let all = c.args.self.now in
    let by_entries =
    subst (IsStrictlySortedBy value_cmp) (sym (keys_of_rows c.self.inside.by_key.entries c.self.invariant)) c.values-row-items.ensures.ordered in
    let sorted = subst (λ (rows : Rows). IsStrictlySortedBy value_cmp (map key_of rows)) c.self.view_is by_entries in
    let row = c.in-Some.row.now in
    let step = rest_more deref c.loop-row.row-iterator c.next.new.self c.next.result c.in-Some.row c.in-Some.is c.next.ensures.steps in
    let made = c.in_ok-put.ensures ∙ ap (with_row c.loop-row.rows) c.in_ok-copy.ensures in
    copied_more value_cmp total agrees all c.loop-row.rows c.loop-row.row-iterator c.next.new.self c.put.new.self row sorted c.loop-row.invariant step made
