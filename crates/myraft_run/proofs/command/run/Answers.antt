use Rattle.std.proofs.Common.{◌∙◌, ℕ, List, String, Global, map, string_bytes, subst, sym}
use Rattle.myraft_run.specs.Command.{IsCause, IsExact, Printed, Tells}
use Rattle.myraft_run.specs.Stops.{line_of}
use Rattle.myraft_run.specs.Spans.{shelf_span, sink_span}
use Rattle.myraft_run.proofs.Causes.{stop-status}
use Rattle.myraft_run.proofs.Exact.{complete}
use Rattle.myraft_run.proofs.command.run.Goals as goal

pub returns-in-Ok-clause-printed : goal.returns-in-Ok-clause-printed
returns-in-Ok-clause-printed g c =
    let s = g.H.Shelf in
    let o = g.O.Sink in
    let P : List (String Global) → Type 0 = λ ws. Printed (map string_bytes ws) (shelf_span s.files s.faults c.args.shelf.now c.print.new.shelf) (sink_span o.taken o.faults c.args.out.now c.print.new.out) in
    λ zero. subst P c.as_slice.ensures.value c.in-Ok.ensures.printed

pub returns-in-Ok-clause-exact : goal.returns-in-Ok-clause-exact
returns-in-Ok-clause-exact g c =
    let s = g.H.Shelf in
    let o = g.O.Sink in
    let P : List (String Global) → Type 0 = λ ws. IsExact (map string_bytes ws) (shelf_span s.files s.faults c.args.shelf.now c.print.new.shelf) (sink_span o.taken o.faults c.args.out.now c.print.new.out) 0 in
    subst P c.as_slice.ensures.value c.in-Ok.ensures.exact

pub returns-in-Err-clause-exact : goal.returns-in-Err-clause-exact
returns-in-Err-clause-exact g c =
    let s = g.H.Shelf in
    let o = g.O.Sink in
    let shelf = shelf_span s.files s.faults c.args.shelf.now c.print.new.shelf in
    let out = sink_span o.taken o.faults c.args.out.now c.print.new.out in
    let P : List (String Global) → Type 0 = λ ws. IsExact (map string_bytes ws) shelf out c.status_of.result.0 in
    let Q : ℕ → Type 0 = λ n. IsExact (map string_bytes c.as_slice.result.now) shelf out n in
    subst P c.as_slice.ensures.value (subst Q (sym c.status_of.ensures) c.in-Err.ensures.exact)

pub returns-in-Err-clause-complete : goal.returns-in-Err-clause-complete
returns-in-Err-clause-complete g c =
    let s = g.H.Shelf in
    let o = g.O.Sink in
    let shelf = shelf_span s.files s.faults c.args.shelf.now c.print.new.shelf in
    let out = sink_span o.taken o.faults c.args.out.now c.print.new.out in
    let words = map string_bytes c.args.words.now.items in
    let P : List (String Global) → Type 0 = λ ws. IsExact (map string_bytes ws) shelf out c.status_of.result.0 in
    let Q : ℕ → Type 0 = λ n. IsExact (map string_bytes c.as_slice.result.now) shelf out n in
    let exact : IsExact words shelf out c.status_of.result.0 = subst P c.as_slice.ensures.value (subst Q (sym c.status_of.ensures) c.in-Err.ensures.exact) in
    λ r steady quiet. complete words shelf out c.status_of.result.0 exact r steady quiet

pub returns-in-Err-clause-printed : goal.returns-in-Err-clause-printed
returns-in-Err-clause-printed g c = λ zero. absurd (stop-status c.in-Err.stop (sym c.status_of.ensures ∙ zero))

pub returns-in-Err-clause-stopped : goal.returns-in-Err-clause-stopped
returns-in-Err-clause-stopped g c =
    let s = g.H.Shelf in
    let o = g.O.Sink in
    let e = g.E.Sink in
    let shelf = shelf_span s.files s.faults c.args.shelf.now c.print.new.shelf in
    let out = sink_span o.taken o.faults c.args.out.now c.print.new.out in
    let R : List (String Global) → Type 0 = λ ws. IsCause (map string_bytes ws) shelf out c.in-Err.stop in
    let L : List (String Global) → Type 0 = λ ws. Tells (line_of (map string_bytes ws) c.in-Err.stop) (sink_span e.taken e.faults c.args.err.now c.tell.new.err) in
    λ some. record { why = c.in-Err.stop; status_is = c.status_of.ensures; cause = subst R c.as_slice.ensures.value c.in-Err.ensures.cause; line = subst L c.as_slice-in-Err.ensures.value c.tell.ensures }
