-- One event that is due is found where it was written, and what is found was written so.
use Rattle.std.proofs.Common.{◌≡◌, ℕ, ◌+◌, List, ◌++◌, length, take, drop, Result, Ok, Err, refl, sym, ap, ap₂, subst, ◌∙◌, append_assoc, arith}
use Rattle.std.proofs.lemmas.List.{take_at, drop_at, length-append}
use Rattle.std.specs.Int.{w32, to_le_bytes}
use Rattle.event_frame.specs.Checksums.{crc32}
use Rattle.event_frame.specs.Forms.{body_of}
use Rattle.event_frame.specs.Events.{event, unsummed, header, event_at}
use Rattle.event_frame.specs.declared.frames.Event.{Event}
use Rattle.event_frame.specs.declared.frames.FrameError.{FrameError}
use Rattle.event_frame.proofs.Forms.{IsBytes, IsPart, AreFields, then_ok, body_is_spelled, spelled_is_body}
use Rattle.event_frame.proofs.Fields.{IsBytes-take, IsBytes-drop}
use Rattle.event_frame.proofs.Written.{event_again}
use Rattle.event_frame.proofs.ReadEvents.{event_takes}
use Rattle.event_txn.specs.declared.faults.BodyFault.{BodyFault}
use Rattle.event_txn.specs.declared.faults.BodyFault.TheVariants as fault
use Rattle.event_txn.specs.declared.faults.TxnError.{TxnError}
use Rattle.event_txn.specs.Txns.{Due, Nothing, Bodies, named, within, framed, event_of, IsDue, IsEvent}

-- what is due is made of fields
abbrev pub AreLawful : {A : Type 0} → Due A → Type 0
AreLawful Nothing = Unit {0}
AreLawful (Bodies form value) = AreFields form

-- the body of an event that was written
pub body_in : (kind flags at : ℕ) (body rest : List ℕ) → take (length body) (drop 19 (event kind flags body at ++ rest)) ≡ body
unfolding event header
body_in kind flags at body rest =
    let sum : List ℕ = to_le_bytes w32 (crc32 (unsummed kind flags body at)) in
    ap (take (length body)) (append_assoc body sum rest) ∙ take_at body (sum ++ rest) (length body) refl

pub event_length : (kind flags at : ℕ) (body : List ℕ) → length (event kind flags body at) ≡ length body + 23
unfolding event header
event_length kind flags at body =
    let sum : List ℕ = to_le_bytes w32 (crc32 (unsummed kind flags body at)) in
    omega (arith, length-append body sum)

due_again : {A : Type 0} (offset : ℕ) (d : Due A) (e : Event) (bytes body : List ℕ) (a : A) → AreLawful d → IsDue d body a → take e.body_len (drop 19 bytes) ≡ body → within offset d e bytes ≡ Ok ((a, offset + e.size), drop e.size bytes)
due_again offset Nothing e bytes body a laws due is = absurd due
due_again offset (Bodies form value) e bytes body a laws due is =
    let (x, spelled, value_is) = due in
    rw (is, spelled_is_body fault.Field form body x laws spelled, value_is) refl

named_ok : {X : Type 0} (offset : ℕ) (r : Result X BodyFault) (x : X) → named offset r ≡ Ok x → r ≡ Ok x
named_ok offset (Ok y) x h = let e : y ≡ x = cc in ap (λ (z : _). Ok z) e
named_ok offset (Err k) x h = absurd cc

abbrev fine : {A : Type 0} → (A × ℕ) × List ℕ → Result ((A × ℕ) × List ℕ) TxnError
fine q = Ok q

same_ok : {A : Type 0} (p q : (A × ℕ) × List ℕ) → fine p ≡ fine q → p ≡ q
same_ok p q h = cc

due_takes : {A : Type 0} (offset : ℕ) (d : Due A) (e : Event) (bytes : List ℕ) (p : A × ℕ) (rest : List ℕ) → AreLawful d → IsBytes bytes → within offset d e bytes ≡ Ok (p, rest)
    → IsDue d (take e.body_len (drop 19 bytes)) p.0 × (offset + e.size ≡ p.1) × (drop e.size bytes ≡ rest)
due_takes offset Nothing e bytes p rest laws fits h = absurd cc
due_takes offset (Bodies form value) e bytes p rest laws fits h =
    let body : List ℕ = take e.body_len (drop 19 bytes) in
    let t = then_ok (named offset (body_of fault.Field form body)) (λ x. Ok ((value x, offset + e.size), drop e.size bytes)) (p, rest) h in
    let spelled = body_is_spelled fault.Field form body t.0 laws (IsBytes-take e.body_len (drop 19 bytes) (IsBytes-drop 19 bytes fits)) (named_ok offset (body_of fault.Field form body) t.0 t.1) in
    let whole : ((value t.0, offset + e.size), drop e.size bytes) ≡ (p, rest) = same_ok _ _ t.2 in
    ((t.0, spelled, ap (λ (q : (_ × ℕ) × List ℕ). q.0.0) whole), ap (λ (q : (_ × ℕ) × List ℕ). q.0.1) whole, ap (λ (q : (_ × ℕ) × List ℕ). q.1) whole)

framed_ok : {A : Type 0} (offset : ℕ) (due : ℕ → ℕ → Due A) (r : Result Event FrameError) (bytes : List ℕ) (q : (A × ℕ) × List ℕ) → framed offset due r bytes ≡ Ok q → (e : Event) × (r ≡ Ok e) × (within offset (due e.kind e.flags) e bytes ≡ Ok q)
framed_ok offset due (Ok e) bytes q h = (e, refl, h)
framed_ok offset due (Err f) bytes q h = absurd cc

pub one_event_is_part : {A : Type 0} (at offset : ℕ) (due : ℕ → ℕ → Due A) → ((kind flags : ℕ) → AreLawful (due kind flags)) → IsPart (event_of at offset due) (IsEvent at offset due)
one_event_is_part at offset due laws = record {
  finds = λ text p rest h.
      let (kind, flags, body, is_due, text_is, size_is, small, few) = h in
      let place : ℕ = at + offset in
      let read = event_again kind flags place body rest small few in
      let d = due_again offset (due kind flags) (record { kind = kind; flags = flags; body_at = 19; body_len = length body; size = length body + 23 }) (event kind flags body place ++ rest) body p.0 (laws kind flags) is_due (body_in kind flags place body rest) in
      let behind : drop (length body + 23) (event kind flags body place ++ rest) ≡ rest = drop_at (event kind flags body place) rest (length body + 23) (event_length kind flags place body) in
      rw (text_is, read) (d ∙ ap₂ (λ (n : ℕ) (r : List ℕ). Ok ((p.0, n), r)) (sym size_is) behind);
  only = λ bytes p rest fits h.
      let place : ℕ = at + offset in
      let f = framed_ok offset due (event_at bytes place) bytes (p, rest) h in
      let e : Event = f.0 in
      let t = event_takes bytes place e fits f.1 in
      let d = due_takes offset (due e.kind e.flags) e bytes p rest (laws e.kind e.flags) fits f.2 in
      let body : List ℕ = take e.body_len (drop 19 bytes) in
      let size : e.size ≡ length body + 23 = t.2 ∙ ap (λ (n : ℕ). n + 23) (sym t.1) in (
        event e.kind e.flags body place,
        (e.kind, e.flags, body, d.0, refl, sym d.1 ∙ ap (λ (n : ℕ). offset + n) size, t.4, omega (arith, t.5, size)),
        t.0 ∙ ap (λ (r : List ℕ). event e.kind e.flags body place ++ r) d.2,
        subst IsBytes d.2 (IsBytes-drop e.size bytes fits),
      );
}
