use Rattle.std.proofs.Common.{ℕ, List, Err, Ok, refl, arith, rules, subst}
use Rattle.ring_file.specs.Documents.{ring_of}
use Rattle.myraft_run.specs.Inputs.{Gives, ring_or_fault}
use Rattle.myraft_run.specs.Spans.{shelf_span}
use Rattle.myraft_run.proofs.Answering.{ring_then, unfetched, unread}
use Rattle.myraft_run.proofs.reading.with_names.Goals as goal

pub returns : goal.returns
returns g c =
    let s = g.H.Shelf in
    let P : List ℕ → Type 0 = λ b. Gives (ring_or_fault (ring_of b)) (Ok c.in_ok-ring.ring) in
    ring_then c.args.names.now (shelf_span s.files s.faults c.args.shelf.now c.fetch.new.shelf) (shelf_span s.files s.faults c.fetch.new.shelf c.with_ring.new.shelf) (shelf_span s.files s.faults c.args.shelf.now c.with_ring.new.shelf)
    c.in_ok-bytes.bytes c.in_ok-ring.ring c.with_ring.result refl c.in_ok-bytes.ensures.same (omega arith) (omega arith) (omega arith) c.with_ring.ensures.later c.in_ok-bytes.ensures.fetches (subst P c.as_slice.ensures c.in_ok-ring.ensures)
    c.with_ring.ensures.finds c.in_ok-bytes.ensures.later

pub returns-in_err-ring : goal.returns-in_err-ring
returns-in_err-ring g c =
    let s = g.H.Shelf in
    let P : List ℕ → Type 0 = λ b. Gives (ring_or_fault (ring_of b)) (Err c.in_err-ring.field-0.0) in
    let span = shelf_span s.files s.faults c.args.shelf.now c.fetch.new.shelf in
    let h = unread c.args.names.now span span c.in_ok-bytes.bytes c.in_err-ring.field-0.0 refl (omega arith) (omega arith) c.in_ok-bytes.ensures.fetches (subst P c.as_slice.ensures c.in_err-ring.ensures) in
    search rules

pub returns-in_err-bytes : goal.returns-in_err-bytes
returns-in_err-bytes g c =
    let s = g.H.Shelf in
    let span = shelf_span s.files s.faults c.args.shelf.now c.fetch.new.shelf in
    let h = unfetched c.args.names.now span span c.in_err-bytes.field-0.0 refl (omega arith) (omega arith) c.in_err-bytes.ensures.fetches in
    search rules
