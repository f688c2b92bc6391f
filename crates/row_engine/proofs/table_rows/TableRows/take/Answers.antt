-- the map says that it has no entry of the key left, so it took the one row that the definition leaves out
use Rattle.std.proofs.Common.{◌∙◌, ap, subst, sym}
use Rattle.std.specs.BTreeMap.{is_at}
use Rattle.std.specs.Map.{lookup, values_of}
use Rattle.std.specs.Prelude.{List}
use Rattle.ring_types.specs.Rows.{Rows, without_key}
use Rattle.ring_types.specs.declared.values.Value.{Value}
use Rattle.row_engine.specs.Keyed.{IsKeyed}
use Rattle.row_engine.proofs.Entries.{keyed_removed, removed}
use Rattle.row_engine.proofs.ValueOrder.{agrees, total, value_cmp}
use Rattle.row_engine.proofs.table_rows.TableRows.take.Goals as goal

pub invariant_of-self : goal.invariant_of-self
invariant_of-self c =
    let old = c.self.inside.by_key.entries in
    subst IsKeyed (sym c.remove.ensures.entries) (keyed_removed value_cmp total agrees old (is_at (value_cmp c.args.key.now)) c.self.invariant)

pub returns : goal.returns
returns c =
    let key = c.args.key.now in
    let none = ap (λ (es : List (Value × List Value)). lookup (is_at (value_cmp key)) es) (sym c.remove.ensures.entries) ∙ c.remove.ensures.updates.1 in
    ap values_of c.remove.ensures.entries ∙ removed value_cmp total agrees c.self.inside.by_key.entries key none c.self.invariant
    ∙ ap (λ (rows : Rows). without_key rows key) c.self.view_is
