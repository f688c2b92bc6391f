-- the last earlier change that names the key decides whether it is there, and the table where none names it
use Rattle.std.proofs.Common.{◌≡◌, ◌∙◌, ◌<◌, ap, subst, sym, arith, length}
use Rattle.std.specs.Option.{option_copied}
use Rattle.std.specs.Prelude.{get_or}
use Rattle.ring_types.specs.Rows.{Rows, has_key}
use Rattle.row_engine.specs.Filled.{Filled}
use Rattle.row_engine.proofs.Checked.{there_by_last, there_by_rows}
use Rattle.row_engine.proofs.Decided.{place_within, rows_read}
use Rattle.row_engine.proofs.tables.Tables.has_key_after.Goals as goal

pub returns-in-Some : goal.returns-in-Some
returns-in-Some c =
    let here = c.args.self.now in
    let same = subst (λ (f : Filled). length f.rows ≡ length f.schema.tables) c.self.view_is c.self.invariant.0 in
    let last = sym c.last_change.ensures ∙ ap option_copied c.in-Some.is in
    c.leaves_row.ensures
    ∙ there_by_last here.schema here.rows c.args.earlier.now c.args.table.now c.args.place c.args.key.now c.in-Some.change.now same c.requires last

pub returns-in-None : goal.returns-in-None
returns-in-None c =
    let here = c.args.self.now in
    let same = subst (λ (f : Filled). length f.rows ≡ length f.schema.tables) c.self.view_is c.self.invariant.0 in
    let last = sym c.last_change.ensures ∙ ap option_copied c.in-None.is in
    let within : c.args.place < length here.rows = omega (arith, place_within here.schema c.args.table.now c.args.place c.requires) in
    let read = c.index.ensures ∙ ap (λ (f : Filled). get_or f.rows c.args.place c.index.result.now) c.self.view_is in
    c.has_key.ensures ∙ ap (λ (rows : Rows). has_key rows c.args.key.now) (rows_read here.rows c.args.place c.index.result.now within read)
    ∙ there_by_rows here.schema here.rows c.args.earlier.now c.args.table.now c.args.place c.args.key.now same c.requires last
