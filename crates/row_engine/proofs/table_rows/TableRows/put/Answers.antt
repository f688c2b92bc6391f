-- the map puts the copy of the row's key with the row, where the definition places the row
use Rattle.std.proofs.Common.{◌∙◌, ap}
use Rattle.ring_types.specs.Rows.{Rows, key_of, with_row}
use Rattle.row_engine.proofs.Entries.{inserted, keyed_inserted}
use Rattle.row_engine.proofs.ValueOrder.{agrees, total, value_cmp}
use Rattle.row_engine.proofs.table_rows.TableRows.put.Goals as goal

pub invariant_of-self-2 : goal.invariant_of-self-2
invariant_of-self-2 c =
    let key = c.in_ok-key.ensures ∙ ap key_of c.as_slice.ensures in
    let old = c.self.inside.by_key.entries in
    let new = c.insert.new.self.entries in
    keyed_inserted value_cmp total agrees old new c.in_ok-key.key c.args.row c.in_ok-insert.ensures.entries key c.self.invariant

pub returns : goal.returns
returns c =
    let key = c.in_ok-key.ensures ∙ ap key_of c.as_slice.ensures in
    let old = c.self.inside.by_key.entries in
    let new = c.insert.new.self.entries in
    let sorted = c.insert.ensures.was_ordered in
    inserted value_cmp total agrees old new c.in_ok-key.key c.args.row c.in_ok-insert.ensures.entries key sorted c.self.invariant
    ∙ ap (λ (rows : Rows). with_row rows c.args.row) c.self.view_is
