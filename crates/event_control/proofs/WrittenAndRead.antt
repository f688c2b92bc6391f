-- Each event that stands around transactions is read where it was written, and what is read was written so, since its body's text is the only spelling of its form.
use Rattle.std.proofs.Common.{◌≡◌, ℕ, ◌+◌, List, ◌++◌, length, take, drop, Result, Ok, refl, sym, ap, ap₂, subst, ◌∙◌, append_assoc, arith}
use Rattle.std.proofs.lemmas.List.{drop_at, drop-drop}
use Rattle.event_frame.specs.Forms.{and_then, found}
use Rattle.event_frame.specs.Fields.{constant}
use Rattle.event_frame.specs.Events.{event}
use Rattle.event_frame.specs.declared.frames.Event.{Event}
use Rattle.event_frame.proofs.Forms.{then_ok, found_ok}
use Rattle.event_frame.proofs.Fields.{constant_is_field, IsBytes-drop}
use Rattle.event_frame.proofs.Written.{event_length}
use Rattle.event_control.specs.declared.faults.ControlError.{ControlError}
use Rattle.event_control.specs.declared.faults.ControlError.TheVariants.{Body}
use Rattle.event_control.specs.declared.heads.Head.{Head}
use Rattle.event_control.specs.Bodies.{format_form, format_body, rotate_form, rotate_body, opid_form, opid_body}
use Rattle.event_control.specs.ControlEvents.{magic, head, rotate_event, opid_event, due_at, said_at, body_in}
use Rattle.event_control.specs.ControlLaws.{HeadIsRead, ReadHeadWasWritten, RotationIsRead, ReadRotationWasWritten, OpidIsRead, ReadOpidWasWritten}
use Rattle.event_control.proofs.Spellings.{format_fields, format_is_spelled, format_spelled_is, format_length, rotate_fields, rotate_is_spelled, rotate_spelled_is, opid_fields, opid_is_spelled, opid_spelled_is}
use Rattle.event_control.proofs.OneEvent.{read_as, due_again, due_takes, said_again, said_takes}

abbrev good : {A : Type 0} → A → Result A ControlError
good a = Ok a

same_value : {A : Type 0} (a b : A) → good a ≡ good b → a ≡ b
same_value a b h = cc

-- an answer that is known goes on
goes_on : {A B : Type 0} (r : Result A ControlError) (a : A) (next : A → Result B ControlError) → r ≡ Ok a → and_then r next ≡ next a
goes_on r a next h = ap (λ (x : Result _ ControlError). and_then x next) h

-- ---- ROTATE

pub rotation_is_read : RotationIsRead
rotation_is_read next_file at rest le =
    rw (said_again 4 0 rotate_form at (rotate_body next_file) rest next_file rotate_fields (rotate_is_spelled next_file le) (omega arith) (omega arith)) refl

pub read_rotation_was_written : ReadRotationWasWritten
read_rotation_was_written bytes at r fits h =
    let t = then_ok (said_at 4 0 rotate_form bytes at) (λ p. Ok (record { next_file = p.0; size = p.1 })) r h in
    let s = said_takes 4 0 rotate_form bytes at t.0 rotate_fields fits t.1 in
    let b = rotate_spelled_is s.body t.0.0 s.spelled in
    let whole : bytes ≡ rotate_event t.0.0 at ++ drop t.0.1 bytes = s.parts ∙ ap (λ (x : List ℕ). event 4 0 x at ++ drop t.0.1 bytes) b.1 in
    let is : record { next_file = t.0.0; size = t.0.1 } ≡ r = same_value (record { next_file = t.0.0; size = t.0.1 }) r t.2 in
    rw (← is) (b.0, whole)

-- ---- the opid event

pub opid_is_read : OpidIsRead
opid_is_read kind opid region at rest fit =
    rw (said_again 28 128 opid_form at (opid_body kind opid region) rest (kind, opid, region) opid_fields (opid_is_spelled kind opid region fit) (omega arith) (omega arith)) refl

pub read_opid_was_written : ReadOpidWasWritten
read_opid_was_written bytes at e fits h =
    let t = then_ok (said_at 28 128 opid_form bytes at) (λ o. Ok (record { kind = o.0.0; opid = o.0.1; region = o.0.2; size = o.1 })) e h in
    let s = said_takes 28 128 opid_form bytes at t.0 opid_fields fits t.1 in
    let b = opid_spelled_is s.body t.0.0 s.spelled in
    let whole : bytes ≡ opid_event t.0.0.0 t.0.0.1 t.0.0.2 at ++ drop t.0.1 bytes = s.parts ∙ ap (λ (x : List ℕ). event 28 128 x at ++ drop t.0.1 bytes) b.1 in
    let is : record { kind = t.0.0.0; opid = t.0.0.1; region = t.0.0.2; size = t.0.1 } ≡ e = same_value (record { kind = t.0.0.0; opid = t.0.0.1; region = t.0.0.2; size = t.0.1 }) e t.2 in
    rw (← is) (b.0, whole)

-- ---- the head of a file

abbrev format_event : List ℕ
format_event = event 15 0 format_body 4

format_size : length format_event ≡ 122
format_size = event_length 15 0 4 format_body ∙ ap (λ (n : ℕ). n + 23) format_length

format_again : (rest : List ℕ) → said_at 15 0 format_form (format_event ++ rest) 4 ≡ Ok (tt, 122)
format_again rest =
    said_again 15 0 format_form 4 format_body rest tt format_fields format_is_spelled (omega arith) (omega (arith, format_length))
    ∙ ap (λ (n : ℕ). Ok (tt, n + 23)) format_length

-- what is made of PREVIOUS_GTIDS, behind FORMAT_DESCRIPTION of this size
abbrev head_of : ℕ → Event → Result Head ControlError
head_of n e = Ok (record { previous_at = 4 + n + e.body_at; previous_len = e.body_len; size = 4 + n + e.size })

abbrev behind_format : List ℕ → Unit {0} × ℕ → Result Head ControlError
behind_format m f = and_then (due_at 35 128 (drop f.1 m) (4 + f.1)) (head_of f.1)

pub head_is_read : HeadIsRead
head_is_read previous rest small =
    let last : List ℕ = event 35 128 previous 126 in
    let behind : List ℕ = format_event ++ (last ++ rest) in
    let whole : head previous ++ rest ≡ magic ++ behind = ap (λ (x : List ℕ). magic ++ x) (append_assoc format_event last rest) in
    let first : found Body Body ((constant magic).at (head previous ++ rest)) ≡ Ok (tt, behind) =
    ap (λ (x : List ℕ). found Body Body ((constant magic).at x)) whole ∙ ap (found Body Body) ((constant_is_field magic).finds tt behind tt) in
    let next : drop 122 behind ≡ last ++ rest = drop_at format_event (last ++ rest) 122 format_size in
    let third : due_at 35 128 (drop 122 behind) 126 ≡ Ok (read_as 35 128 (length previous)) =
    ap (λ (x : List ℕ). due_at 35 128 x 126) next ∙ due_again 35 128 126 previous rest (omega arith) small in
    let size : 126 + (length previous + 23) ≡ length previous + 149 = omega arith in
    goes_on (found Body Body ((constant magic).at (head previous ++ rest))) (tt, behind) (λ m. and_then (said_at 15 0 format_form m.1 4) (behind_format m.1)) first
    ∙ goes_on (said_at 15 0 format_form behind 4) (tt, 122) (behind_format behind) (format_again (last ++ rest))
    ∙ goes_on (due_at 35 128 (drop 122 behind) 126) (read_as 35 128 (length previous)) (head_of 122) third
    ∙ ap (λ (n : ℕ). Ok (record { previous_at = 145; previous_len = length previous; size = n })) size

-- the set of earlier transactions in what begins with a head
pub record HasHead (bytes : List ℕ) (h : Head) : Type 0 where
  pub is : bytes ≡ head (take h.previous_len (drop h.previous_at bytes)) ++ drop h.size bytes

-- the parts of a head, one behind the other
joined : (bytes m r : List ℕ) (e : Event) → bytes ≡ magic ++ m → m ≡ format_event ++ r → r ≡ event 35 128 (body_in e r) 126 ++ drop e.size r
    → HasHead bytes (record { previous_at = 126 + e.body_at; previous_len = e.body_len; size = 126 + e.size })
joined bytes m r e first second third =
    let behind_magic : drop 4 bytes ≡ m = ap (drop 4) first in
    let behind_format : drop 126 bytes ≡ r =
    sym (drop-drop 122 4 bytes) ∙ ap (drop 122) (behind_magic ∙ second) ∙ drop_at format_event r 122 format_size in
    let body : drop (126 + e.body_at) bytes ≡ drop e.body_at r = sym (drop-drop e.body_at 126 bytes) ∙ ap (drop e.body_at) behind_format in
    let behind : drop (126 + e.size) bytes ≡ drop e.size r = sym (drop-drop e.size 126 bytes) ∙ ap (drop e.size) behind_format in
    let last : List ℕ = event 35 128 (body_in e r) 126 in
    let whole : bytes ≡ head (body_in e r) ++ drop e.size r =
    first ∙ ap (λ (x : List ℕ). magic ++ x) (second ∙ ap (λ (x : List ℕ). format_event ++ x) third ∙ sym (append_assoc format_event last (drop e.size r))) in
    record { is = rw (body, behind) whole }

pub read_head_was_written : ReadHeadWasWritten
read_head_was_written bytes h fits eq =
    let t = then_ok (found Body Body ((constant magic).at bytes)) (λ m. and_then (said_at 15 0 format_form m.1 4) (behind_format m.1)) h eq in
    let m : List ℕ = t.0.1 in
    let o = (constant_is_field magic).only bytes t.0.0 m fits (found_ok Body Body ((constant magic).at bytes) t.0.0 m t.1) in
    let u = then_ok (said_at 15 0 format_form m 4) (behind_format m) h t.2 in
    let s = said_takes 15 0 format_form m 4 u.0 format_fields o.2 u.1 in
    let body : s.body ≡ format_body = format_spelled_is s.body u.0.0 s.spelled in
    let n : u.0.1 ≡ 122 = s.size ∙ ap (λ (x : List ℕ). length x + 23) body ∙ ap (λ (x : ℕ). x + 23) format_length in
    let r : List ℕ = drop 122 m in
    let second : m ≡ format_event ++ r = s.parts ∙ ap₂ (λ (x : List ℕ) (k : ℕ). event 15 0 x 4 ++ drop k m) body n in
    let rest = subst (λ (k : ℕ). behind_format m (tt, k) ≡ Ok h) n u.2 in
    let v = then_ok (due_at 35 128 r 126) (head_of 122) h rest in
    let e : Event = v.0 in
    let d = due_takes 35 128 r 126 e (IsBytes-drop 122 m o.2) v.1 in
    let j = joined bytes m r e o.1 second d.parts in
    let made : Head = record { previous_at = 126 + e.body_at; previous_len = e.body_len; size = 126 + e.size } in
    let is : made ≡ h = same_value made h v.2 in
    (subst (λ (x : Head). HasHead bytes x) {x = made} is j).is
