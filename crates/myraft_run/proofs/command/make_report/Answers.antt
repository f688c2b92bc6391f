use Rattle.std.proofs.Common.{List, map, rules, string_bytes, subst}
use Rattle.ring_model.specs.declared.worlds.Event.{Event}
use Rattle.myraft_run.specs.Inputs.{GivesOne}
use Rattle.myraft_run.specs.Replays.{Replays}
use Rattle.myraft_run.specs.Spans.{shelf_span}
use Rattle.myraft_run.proofs.Answering.{works_found, works_stopped}
use Rattle.myraft_run.proofs.command.make_report.Goals as goal

pub returns : goal.returns
returns g c =
    let s = g.H.Shelf in
    let P : List Event → Type 0 = λ es. GivesOne (Replays c.in_ok-inputs.inputs.ring es) c.replayed.result in
    works_found (map string_bytes c.args.words.now) (shelf_span s.files s.faults c.args.shelf.now c.find_inputs.new.shelf) c.in_ok-inputs.inputs c.replayed.result c.in_ok-inputs.ensures c.replayed.ensures.valid (subst P c.as_slice.ensures c.replayed.ensures.replays)

pub returns-in_err-inputs : goal.returns-in_err-inputs
returns-in_err-inputs g c =
    let s = g.H.Shelf in
    let h = works_stopped (map string_bytes c.args.words.now) (shelf_span s.files s.faults c.args.shelf.now c.find_inputs.new.shelf) c.in_err-inputs.field-0.0 c.in_err-inputs.ensures in
    search rules
