-- the names' test is the columns' test of their names
use Rattle.std.proofs.Common.{bytes_eq, sym, ◌∙◌}
use Rattle.ring_types.specs.declared.schemas.Column.{Column}
use Rattle.ring_types.proofs.Twice.{any_map}
use Rattle.ring_types.proofs.refusals.column_among.Goals as goal

pub returns : goal.returns
returns c =
    c.column_named.ensures ∙ sym (any_map (λ y. bytes_eq y c.args.name.now) (λ (it : Column). it.name) c.args.columns.now)
