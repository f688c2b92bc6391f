-- the map finds by key what the definition finds by a walk
use Rattle.std.proofs.Common.{◌∙◌, ap}
use Rattle.ring_types.specs.Rows.{Rows, row_of}
use Rattle.row_engine.proofs.Entries.{found}
use Rattle.row_engine.proofs.ValueOrder.{agrees, total, value_cmp}
use Rattle.row_engine.proofs.table_rows.TableRows.row_of.Goals as goal

pub returns : goal.returns
returns c =
    c.get.ensures.value
    ∙ found value_cmp total agrees c.self.inside.by_key.entries c.args.key.now c.self.invariant
    ∙ ap (λ (rows : Rows). row_of rows c.args.key.now) c.self.view_is
