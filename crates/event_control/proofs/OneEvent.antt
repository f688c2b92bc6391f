-- An event of a type and a form is read where it was written, and what is read was written so, since both hold of its frame and of its body.
use Rattle.std.proofs.Common.{◌≡◌, ℕ, ◌+◌, ◌^◌, ◌<◌, Bool, true, false, List, ◌++◌, length, drop, Result, Ok, Err, refl, sym, ap, ap₂, subst, ◌∙◌}
use Rattle.std.specs.Prelude.{◌==◌, ◌&&◌, if◌then◌else◌}
use Rattle.std.proofs.lemmas.Bool.{eq-eqb, eqb-true}
use Rattle.event_frame.specs.Forms.{Form, and_then, body_of, Spells}
use Rattle.event_frame.specs.Events.{event, event_at}
use Rattle.event_frame.specs.Laws.{IsBytes}
use Rattle.event_frame.specs.declared.frames.Event.{Event}
use Rattle.event_frame.specs.declared.frames.FrameError.{FrameError}
use Rattle.event_frame.proofs.Forms.{AreFields, then_ok, body_is_spelled, spelled_is_body}
use Rattle.event_frame.proofs.Fields.{IsBytes-take, IsBytes-drop}
use Rattle.event_frame.proofs.Written.{event_again, written_body}
use Rattle.event_frame.proofs.ReadEvents.{read_is_at_front}
use Rattle.event_control.specs.declared.faults.ControlError.{ControlError}
use Rattle.event_control.specs.declared.faults.ControlError.TheVariants.{Kind, Body}
use Rattle.event_control.specs.ControlEvents.{framed, of_kind, due_at, body_in, said_at}

same_eqb : (n : ℕ) → (n == n) ≡ true
same_eqb n = eq-eqb n n refl

abbrev pub read_as : ℕ → ℕ → ℕ → Event
read_as kind flags n = record { kind = kind; flags = flags; body_at = 19; body_len = n; size = n + 23 }

pub due_again : (kind flags at : ℕ) (body rest : List ℕ) → flags < 2 ^ 16 → length body + 23 < 2 ^ 32
    → due_at kind flags (event kind flags body at ++ rest) at ≡ Ok (read_as kind flags (length body))
due_again kind flags at body rest few small =
    let read : event_at (event kind flags body at ++ rest) at ≡ Ok (read_as kind flags (length body)) = event_again kind flags at body rest few small in
    rw (read, same_eqb kind, same_eqb flags) refl

pub said_again : {A : Type 0} (kind flags : ℕ) (form : Form ControlError A) (at : ℕ) (body rest : List ℕ) (a : A)
    → AreFields form → Spells form body a → flags < 2 ^ 16 → length body + 23 < 2 ^ 32
    → said_at kind flags form (event kind flags body at ++ rest) at ≡ Ok (a, length body + 23)
said_again kind flags form at body rest a laws spelled few small =
    rw (due_again kind flags at body rest few small, written_body kind flags at body rest, spelled_is_body Body form body a laws spelled) refl

-- ---- what is read was written so

framed_ok : (r : Result Event FrameError) (e : Event) → framed r ≡ Ok e → r ≡ Ok e
framed_ok (Ok d) e h = let same : d ≡ e = cc in ap (λ (x : Event). Ok x) same
framed_ok (Err f) e h = absurd cc

of_kind_ok : (a b : Bool) (d e : Event) → (if a && b then Ok d else Err Kind) ≡ Ok e → (a ≡ true) × (b ≡ true) × (d ≡ e)
of_kind_ok true true d e h = (refl, refl, cc)
of_kind_ok true false d e h = absurd cc
of_kind_ok false b d e h = absurd cc

-- the bytes begin with an event of this type with these flags
pub record IsDueAtFront (kind flags : ℕ) (bytes : List ℕ) (at : ℕ) (e : Event) : Type 0 where
  pub parts : bytes ≡ event kind flags (body_in e bytes) at ++ drop e.size bytes
  pub size : e.size ≡ length (body_in e bytes) + 23

pub due_takes : (kind flags : ℕ) (bytes : List ℕ) (at : ℕ) (e : Event)
    → IsBytes bytes → due_at kind flags bytes at ≡ Ok e → IsDueAtFront kind flags bytes at e
due_takes kind flags bytes at e fits h =
    let t = then_ok (framed (event_at bytes at)) (of_kind kind flags) e h in
    let d : Event = t.0 in
    let k = of_kind_ok (d.kind == kind) (d.flags == flags) d e t.2 in
    let read : event_at bytes at ≡ Ok e = framed_ok (event_at bytes at) d t.1 ∙ ap (λ (x : Event). Ok x) k.2 in
    let f = read_is_at_front bytes at e fits read in
    let same_kind : e.kind ≡ kind = ap (λ (x : Event). x.kind) (sym k.2) ∙ eqb-true d.kind kind k.0 in
    let same_flags : e.flags ≡ flags = ap (λ (x : Event). x.flags) (sym k.2) ∙ eqb-true d.flags flags k.1 in
    let body : List ℕ = body_in e bytes in
    record {
      parts = f.parts ∙ ap₂ (λ (x y : ℕ). event x y body at ++ drop e.size bytes) same_kind same_flags;
      size = f.size ∙ ap (λ (n : ℕ). n + 23) (sym f.body_size);
    }

-- the bytes begin with an event whose body says this
pub record SaysAtFront {A : Type 0} (kind flags : ℕ) (form : Form ControlError A) (bytes : List ℕ) (at : ℕ) (p : A × ℕ) : Type 0 where
  pub body : List ℕ
  pub spelled : Spells form body p.0
  pub parts : bytes ≡ event kind flags body at ++ drop p.1 bytes
  pub size : p.1 ≡ length body + 23

abbrev fine : {A : Type 0} → A × ℕ → Result (A × ℕ) ControlError
fine p = Ok p

same_ok : {A : Type 0} (p q : A × ℕ) → fine p ≡ fine q → p ≡ q
same_ok p q h = cc

pub said_takes : {A : Type 0} (kind flags : ℕ) (form : Form ControlError A) (bytes : List ℕ) (at : ℕ) (p : A × ℕ)
    → AreFields form → IsBytes bytes → said_at kind flags form bytes at ≡ Ok p → SaysAtFront kind flags form bytes at p
said_takes {A} kind flags form bytes at p laws fits h =
    let t = then_ok (due_at kind flags bytes at) (λ e. and_then (body_of Body form (body_in e bytes)) (λ said. Ok (said, e.size))) p h in
    let e : Event = t.0 in
    let body : List ℕ = body_in e bytes in
    let s = then_ok (body_of Body form body) (λ said. Ok (said, e.size)) p t.2 in
    let d = due_takes kind flags bytes at e fits t.1 in
    let spelled = body_is_spelled Body form body s.0 laws (IsBytes-take e.body_len (drop e.body_at bytes) (IsBytes-drop e.body_at bytes fits)) s.1 in
    let is : (s.0, e.size) ≡ p = same_ok (s.0, e.size) p s.2 in
    subst (λ (q : A × ℕ). SaysAtFront kind flags form bytes at q) is (record { body = body; spelled = spelled; parts = d.parts; size = d.size })
