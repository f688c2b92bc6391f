-- A group is its opid event and what that event says stands behind it, each of which is read as it was written; so the group is, and none begins another.
use Rattle.std.proofs.Common.{◌≡◌, ◌⊎◌, ℕ, ◌+◌, ◌%◌, ◌^◌, ◌<◌, ◌≤◌, Bool, true, false, List, [], ◌∷◌, ◌++◌, length, drop, Ok, Err, refl, sym, ap, ◌∙◌, arith, append_assoc, length-append}
use Rattle.std.specs.Prelude.{◌==◌, nat_lt, nat_le, Result}
use Rattle.std.proofs.lemmas.Bool.{eq-eqb}
use Rattle.std.proofs.lemmas.Bool.Decides.{nat_tests}
use Rattle.std.proofs.lemmas.List.{drop_at}
use Rattle.event_frame.specs.Events.{event}
use Rattle.event_frame.proofs.Written.{event_length}
use Rattle.event_control.specs.Bodies.{opid_body, rotate_body}
use Rattle.event_control.specs.ControlEvents.{opid_event, rotate_event, rotation_at}
use Rattle.event_control.specs.declared.opid_events.OpidEvent.{OpidEvent}
use Rattle.event_control.proofs.WrittenAndRead.{opid_is_read, rotation_is_read}
use Rattle.event_txn.specs.Txns.{txn_events, txn_at}
use Rattle.event_txn.proofs.GroupSizes.{txn_length}
use Rattle.event_txn.proofs.SpelledTxns.{txn_again}
use Rattle.ring_types.specs.Sizes.{group_bytes}
use Rattle.ring_types.specs.declared.entries.Entry.{Entry}
use Rattle.ring_types.specs.declared.entries.Opid.{Opid}
use Rattle.ring_types.specs.declared.entries.Payload.{Payload}
use Rattle.ring_types.specs.declared.entries.Payload.TheVariants as payload
use Rattle.ring_types.specs.declared.entries.Place.{Place}
use Rattle.ring_types.specs.declared.limits.TheConstants.{LAST_FILE}
use Rattle.ring_types.specs.declared.schemas.Schema.{Schema}
use Rattle.entry_group.specs.declared.groups.EntryError.{EntryError}
use Rattle.entry_group.specs.declared.groups.EntryRead.{EntryRead}
use Rattle.entry_group.specs.Groups.{behind_opid, can_stand, entry_at, further, group, kind_of, payload_at}
use Rattle.entry_group.specs.Laws.{StandsAt, FitsPayload, GroupIsRead, NoGroupBeginsAnother, GroupHasItsSize}

pub opid_length : (kind : ℕ) (opid : Opid) (region at : ℕ) → length (opid_event kind opid region at) ≡ 42
opid_length kind opid region at = event_length 28 128 at (opid_body kind opid region)

least : (k : Payload) → 1 ≤ kind_of k
least payload.NoOp = omega arith
least payload.Rotate = omega arith
least (payload.Txn t) = omega arith

most : (k : Payload) → kind_of k ≤ 3
most payload.NoOp = omega arith
most payload.Rotate = omega arith
most (payload.Txn t) = omega arith

-- what stands behind the opid event is read as it was written
payload_is_read : (schema : Schema) (k : Payload) (opid : Opid) (region : ℕ) (p : Place) (rest : List ℕ) → can_stand schema p (kind_of k) ≡ true → FitsPayload schema k
    → payload_at schema (behind_opid schema opid.position k (further 42 p) ++ rest) 42 (record { kind = kind_of k; opid = opid; region = region; size = 42 }) (further 42 p)
    ≡ Ok (k, length (behind_opid schema opid.position k (further 42 p)))
payload_is_read schema payload.NoOp opid region p rest room fits = refl
payload_is_read schema payload.Rotate opid region p rest room fits =
    let le : p.file + 1 ≤ LAST_FILE = grind (arith, nat_tests, room) in
    let read = rotation_is_read (p.file + 1) (further 42 p).at rest le in
    let same : (p.file + 1 == p.file + 1) ≡ true = eq-eqb _ _ refl in
    rw (read, same, event_length 4 0 (further 42 p).at (rotate_body (p.file + 1))) refl
payload_is_read schema (payload.Txn t) opid region p rest room fits =
    let some : 1 ≤ p.sequence = grind (arith, nat_tests, room) in
    rw (txn_again schema t opid.position (further 42 p) rest fits some) refl

pub group_is_read : GroupIsRead
unfolding entry_at group
group_is_read schema e p rest s =
    let front : List ℕ = opid_event (kind_of e.payload) e.opid e.region p.at in
    let back : List ℕ = behind_opid schema e.opid.position e.payload (further 42 p) in
    let len : length front ≡ 42 = opid_length (kind_of e.payload) e.opid e.region p.at in
    let whole : (front ++ back) ++ rest ≡ front ++ (back ++ rest) = append_assoc front back rest in
    let told = opid_is_read (kind_of e.payload) e.opid e.region p.at (back ++ rest) (record { least = least e.payload; most = most e.payload; term_fits = s.term_fits; position_fits = s.position_fits; region_fits = s.region_fits }) in
    let size : length (front ++ back) ≡ 42 + length back = length-append front back ∙ ap (λ (n : ℕ). n + length back) len in
    rw (whole, told, s.room, drop_at front (back ++ rest) 42 len, payload_is_read schema e.payload e.opid e.region p rest s.room s.payload, size) refl

pub cancel : (g x y : List ℕ) → g ++ x ≡ g ++ y → x ≡ y
cancel [] x y e = e
cancel (b ∷ g) x y e = cancel g x y (let t : g ++ x ≡ g ++ y = cc in t)

abbrev entry_in : Entry → Result EntryRead EntryError → Entry
entry_in other (Ok r) = r.entry
entry_in other (Err fault) = other

pub no_group_begins_another : NoGroupBeginsAnother
no_group_begins_another schema a b p x y sa sb e =
    let one = sym (group_is_read schema a p x sa) ∙ ap (λ (bytes : List ℕ). entry_at schema bytes p) e ∙ group_is_read schema b p y sb in
    let same : a ≡ b = ap (entry_in a) one in
    (same, cancel (group schema b p) x y (ap (λ (z : Entry). group schema z p ++ x) (sym same) ∙ e))

payload_length : (schema : Schema) (k : Payload) (position : ℕ) (p : Place) → FitsPayload schema k → 42 + length (behind_opid schema position k p) ≡ group_bytes schema k
payload_length schema payload.NoOp position p fits = refl
payload_length schema payload.Rotate position p fits = ap (λ (n : ℕ). 42 + n) (event_length 4 0 p.at (rotate_body (p.file + 1)))
payload_length schema (payload.Txn t) position p fits = omega (arith, txn_length schema t position p fits.tables fits.fit)

pub group_length : GroupHasItsSize
unfolding group
group_length schema e p s =
    let front : List ℕ = opid_event (kind_of e.payload) e.opid e.region p.at in
    let back : List ℕ = behind_opid schema e.opid.position e.payload (further 42 p) in
    length-append front back ∙ ap (λ (n : ℕ). n + length back) (opid_length (kind_of e.payload) e.opid e.region p.at) ∙ payload_length schema e.payload e.opid.position (further 42 p) s.payload
