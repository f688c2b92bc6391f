-- the names' test is the tables' test of their names
use Rattle.std.proofs.Common.{bytes_eq, sym, ◌∙◌}
use Rattle.ring_types.specs.declared.schemas.Table.{Table}
use Rattle.ring_types.proofs.Twice.{any_map}
use Rattle.ring_types.proofs.refusals.table_among.Goals as goal

pub returns : goal.returns
returns c =
    c.table_named.ensures ∙ sym (any_map (λ y. bytes_eq y c.args.name.now) (λ (it : Table). it.name) c.args.tables.now)
