use Rattle.std.proofs.Common.{Err, map, refl, rules, string_bytes, subst, List, ℕ}
use Rattle.myraft_run.specs.Parts.{Wrote}
use Rattle.myraft_run.specs.Spans.{shelf_span, sink_span}
use Rattle.myraft_run.proofs.Causes.{stop-cause, write-cause, write-exact, write-printed}
use Rattle.myraft_run.proofs.Exact.{exact}
use Rattle.myraft_run.proofs.Printing.{Laws}
use Rattle.myraft_run.proofs.command.print.Goals as goal

pub returns : goal.returns
returns g c =
    let s = g.H.Shelf in
    let o = g.O.Sink in
    let words = map string_bytes c.args.words.now in
    let shelf = shelf_span s.files s.faults c.args.shelf.now c.make_report.new.shelf in
    let out = sink_span o.taken o.faults c.args.out.now c.write.new.out in
    let laws : Laws = record { safe = c.law_safe.ensures; rows = c.law_rows.ensures; sound = c.law_sound.ensures; lawful = c.law_lawful.ensures } in
    let P : List ℕ → Type 0 = λ t. Wrote t out c.write.result in
    let wrote = subst P c.as_slice.ensures c.write.ensures in
    record {
      printed = write-printed words shelf out c.in_ok-text.text c.write.result laws c.in_ok-text.ensures wrote;
      cause = write-cause words shelf out c.in_ok-text.text c.write.result c.in_ok-text.ensures wrote;
      exact = write-exact words shelf out c.in_ok-text.text c.write.result c.in_ok-text.ensures wrote;
    }

pub returns-in_err-text-clause-cause : goal.returns-in_err-text-clause-cause
returns-in_err-text-clause-cause g c =
    let s = g.H.Shelf in
    let o = g.O.Sink in
    let h = stop-cause (map string_bytes c.args.words.now) (shelf_span s.files s.faults c.args.shelf.now c.make_report.new.shelf) (sink_span o.taken o.faults c.args.out.now c.args.out.now) c.in_err-text.field-0.0 refl c.in_err-text.ensures in
    search rules

pub returns-in_err-text-clause-exact : goal.returns-in_err-text-clause-exact
returns-in_err-text-clause-exact g c =
    let s = g.H.Shelf in
    let o = g.O.Sink in
    let h = exact (map string_bytes c.args.words.now) (shelf_span s.files s.faults c.args.shelf.now c.make_report.new.shelf) (sink_span o.taken o.faults c.args.out.now c.args.out.now) (Err c.in_err-text.field-0.0) _ refl c.in_err-text.ensures in
    search rules
