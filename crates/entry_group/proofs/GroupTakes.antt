-- What is read of a group is its opid event and what that event says stands behind it, each of which was written as it is read; so the group was.
use Rattle.std.proofs.Common.{◌≡◌, ◌≢◌, ℕ, ◌+◌, ◌%◌, ◌^◌, ◌<◌, ◌≤◌, Bool, true, false, cond, List, [], ◌∷◌, ◌++◌, length, drop, Ok, Err, refl, sym, ap, subst, ◌∙◌, arith, append_assoc, length-append}
use Rattle.std.specs.Prelude.{◌==◌, ◌&&◌, ◌||◌, nat_lt, nat_le, Result}
use Rattle.std.proofs.lemmas.Bool.Decides.{nat_tests}
use Rattle.std.proofs.lemmas.List.{drop_at}
use Rattle.event_frame.specs.Forms.{and_then}
use Rattle.event_frame.specs.Laws.{IsBytes}
use Rattle.event_frame.proofs.Fields.{IsBytes-drop}
use Rattle.event_frame.proofs.Written.{event_length}
use Rattle.event_control.specs.Bodies.{rotate_body}
use Rattle.event_control.specs.ControlEvents.{opid_event, opid_event_at, rotate_event, rotation_at}
use Rattle.event_control.specs.ControlLaws.{FitOpidEvent}
use Rattle.event_control.specs.declared.faults.ControlError.{ControlError}
use Rattle.event_control.specs.declared.opid_events.OpidEvent.{OpidEvent}
use Rattle.event_control.specs.declared.rotations.Rotation.{Rotation}
use Rattle.event_control.proofs.WrittenAndRead.{opid_is_read, rotation_is_read, read_opid_was_written, read_rotation_was_written}
use Rattle.event_txn.specs.Laws.{IsTxnAtFront}
use Rattle.event_txn.specs.Txns.{txn_events, txn_at}
use Rattle.event_txn.specs.declared.faults.TxnError.{TxnError}
use Rattle.event_txn.specs.declared.reading.TxnRead.{TxnRead}
use Rattle.event_txn.proofs.TakenTxns.{txn_takes}
use Rattle.ring_types.specs.Rings.{is_schema}
use Rattle.ring_types.specs.declared.entries.Entry.{Entry}
use Rattle.ring_types.specs.declared.entries.Opid.{Opid}
use Rattle.ring_types.specs.declared.entries.Payload.{Payload}
use Rattle.ring_types.specs.declared.entries.Payload.TheVariants as payload
use Rattle.ring_types.specs.declared.entries.Place.{Place}
use Rattle.ring_types.specs.declared.limits.TheConstants.{LAST_FILE}
use Rattle.ring_types.specs.declared.schemas.Schema.{Schema}
use Rattle.entry_group.specs.declared.groups.EntryError.{EntryError}
use Rattle.entry_group.specs.declared.groups.EntryError.TheVariants.{NotAnEntry}
use Rattle.entry_group.specs.declared.groups.EntryRead.{EntryRead}
use Rattle.entry_group.specs.Groups.{behind, behind_opid, can_stand, entry_at, further, group, kind_of, payload_at, rotation_of, txn_of}
use Rattle.entry_group.specs.Laws.{FitsPayload, IsGroupAtFront, ReadGroupWasWritten, StandsAt}
use Rattle.entry_group.proofs.GroupLaws.{opid_length}

-- what was read behind an opid event of this kind was written there
record Behind (schema : Schema) (bytes : List ℕ) (position kind : ℕ) (p : Place) (k : Payload) (size : ℕ) : Type 0 where
  pub kind_is : kind ≡ kind_of k
  pub rest : List ℕ
  pub parts : bytes ≡ behind_opid schema position k p ++ rest
  pub size_is : size ≡ length (behind_opid schema position k p)
  pub fits : FitsPayload schema k

abbrev payload_in : Payload → Result (Payload × ℕ) EntryError → Payload
payload_in other (Ok q) = q.0
payload_in other (Err fault) = other

abbrev size_in : Result (Payload × ℕ) EntryError → ℕ
size_in (Ok q) = q.1
size_in (Err fault) = 0

pair_first : (a x : Payload) (b y : ℕ) → ◌≡◌ {A = Result (Payload × ℕ) EntryError} (Ok (a, b)) (Ok (x, y)) → a ≡ x
pair_first a x b y e = ap (payload_in a) e

pair_second : (a x : Payload) (b y : ℕ) → ◌≡◌ {A = Result (Payload × ℕ) EntryError} (Ok (a, b)) (Ok (x, y)) → b ≡ y
pair_second a x b y e = ap size_in e

noop_behind : (schema : Schema) (bytes : List ℕ) (position kind : ℕ) (p : Place) (k : Payload) (size : ℕ) → kind ≡ 1 → ◌≡◌ {A = Result (Payload × ℕ) EntryError} (Ok (payload.NoOp, 0)) (Ok (k, size)) → Behind schema bytes position kind p k size
noop_behind schema bytes position kind p k size one e =
    let x : payload.NoOp ≡ k = pair_first payload.NoOp k 0 size e in
    let n : 0 ≡ size = pair_second payload.NoOp k 0 size e in
    subst (λ (h : Payload). Behind schema bytes position kind p h size) x (record { kind_is = one; rest = bytes; parts = refl; size_is = sym n; fits = tt })

abbrev rotation_size : Result Rotation ControlError → ℕ
rotation_size (Ok r) = r.size
rotation_size (Err fault) = 0

rotate_behind : (schema : Schema) (bytes : List ℕ) (position kind : ℕ) (p : Place) (k : Payload) (size : ℕ) (r : Result Rotation ControlError) → IsBytes bytes → kind ≡ 2 → rotation_at bytes p.at ≡ r
    → rotation_of 42 p r ≡ Ok (k, size) → Behind schema bytes position kind p k size
rotate_behind schema bytes position kind p k size (Err fault) fits two read e = absurd cc
rotate_behind schema bytes position kind p k size (Ok r) fits two read e = next (r.next_file == p.file + 1) refl e
  where
    next : (b : Bool) → (r.next_file == p.file + 1) ≡ b → ◌≡◌ {A = Result (Payload × ℕ) EntryError} (cond b (Ok (payload.Rotate, r.size)) (Err (NotAnEntry 42 2))) (Ok (k, size)) → Behind schema bytes position kind p k size
    next false differs is = absurd cc
    next true agrees is =
        let same : r.next_file ≡ p.file + 1 = grind (arith, nat_tests, agrees) in
        let x : payload.Rotate ≡ k = pair_first payload.Rotate k r.size size is in
        let n : r.size ≡ size = pair_second payload.Rotate k r.size size is in
        let t = read_rotation_was_written bytes p.at r fits read in
        let s : r.size ≡ 44 = ap rotation_size (sym read ∙ ap (λ (b : List ℕ). rotation_at b p.at) t.1 ∙ rotation_is_read r.next_file p.at (drop r.size bytes) t.0) in
        subst (λ (h : Payload). Behind schema bytes position kind p h size) x (record {
          kind_is = two;
          rest = drop r.size bytes;
          parts = t.1 ∙ ap (λ (f : ℕ). rotate_event f p.at ++ drop r.size bytes) same;
          size_is = sym n ∙ s ∙ sym (event_length 4 0 p.at (rotate_body (p.file + 1)));
          fits = tt;
        })

txn_behind : (schema : Schema) (bytes : List ℕ) (position kind : ℕ) (p : Place) (k : Payload) (size : ℕ) (r : Result TxnRead TxnError) → is_schema schema ≡ true → IsBytes bytes → kind ≡ 3 → txn_at schema bytes position p ≡ r
    → txn_of 42 r ≡ Ok (k, size) → Behind schema bytes position kind p k size
txn_behind schema bytes position kind p k size (Err fault) h fits three read e = absurd cc
txn_behind schema bytes position kind p k size (Ok r) h fits three read e =
    let x : payload.Txn r.txn ≡ k = pair_first (payload.Txn r.txn) k r.size size e in
    let n : r.size ≡ size = pair_second (payload.Txn r.txn) k r.size size e in
    let t = txn_takes schema bytes position p r h fits read in
    subst (λ (h : Payload). Behind schema bytes position kind p h size) x (record { kind_is = three; rest = t.rest; parts = t.parts; size_is = sym n ∙ t.size; fits = t.txn })

by_kind : (schema : Schema) (bytes : List ℕ) (o : OpidEvent) (p : Place) (k : Payload) (size : ℕ) (one two : Bool) → is_schema schema ≡ true → IsBytes bytes → 1 ≤ o.kind → o.kind ≤ 3 → (o.kind == 1) ≡ one → (o.kind == 2) ≡ two
    → cond one (Ok (payload.NoOp, 0)) (cond two (rotation_of 42 p (rotation_at bytes p.at)) (txn_of 42 (txn_at schema bytes o.opid.position p))) ≡ Ok (k, size)
    → Behind schema bytes o.opid.position o.kind p k size
by_kind schema bytes o p k size true two h fits low high a b e = noop_behind schema bytes o.opid.position o.kind p k size (grind (arith, nat_tests, a)) e
by_kind schema bytes o p k size false true h fits low high a b e = rotate_behind schema bytes o.opid.position o.kind p k size (rotation_at bytes p.at) fits (grind (arith, nat_tests, b)) refl e
by_kind schema bytes o p k size false false h fits low high a b e =
    txn_behind schema bytes o.opid.position o.kind p k size (txn_at schema bytes o.opid.position p) h fits (grind (arith, nat_tests, a, b, low, high)) refl e

-- ---- the whole group

abbrev opid_size_in : Result OpidEvent ControlError → ℕ
opid_size_in (Ok o) = o.size
opid_size_in (Err fault) = 0

room_of : (b : Bool) (x : Result EntryRead EntryError) (read : EntryRead) → cond b x (Err (NotAnEntry 0 1)) ≡ Ok read → (b ≡ true) × (x ≡ Ok read)
room_of true x read e = (refl, e)
room_of false x read e = absurd cc

record Made (o : OpidEvent) (r : Result (Payload × ℕ) EntryError) (read : EntryRead) : Type 0 where
  pub k : Payload
  pub n : ℕ
  pub is : r ≡ Ok (k, n)
  pub read_is : record { entry = record { opid = o.opid; region = o.region; payload = k }; size = o.size + n } ≡ read

abbrev read_in : EntryRead → Result EntryRead EntryError → EntryRead
read_in other (Ok r) = r
read_in other (Err fault) = other

made : (o : OpidEvent) (r : Result (Payload × ℕ) EntryError) (read : EntryRead)
    → and_then r (λ q. Ok (record { entry = record { opid = o.opid; region = o.region; payload = q.0 }; size = o.size + q.1 })) ≡ Ok read → Made o r read
made o (Ok q) read e = record { k = q.0; n = q.1; is = refl; read_is = ap (read_in read) e }
made o (Err fault) read e = absurd cc

group_behind : (schema : Schema) (bytes : List ℕ) (p : Place) (read : EntryRead) (r : Result OpidEvent ControlError) → is_schema schema ≡ true → IsBytes bytes → opid_event_at bytes p.at ≡ r → behind schema bytes p r ≡ Ok read
    → IsGroupAtFront schema bytes p read
unfolding group
group_behind schema bytes p read (Err fault) h fits told e = absurd cc
group_behind schema bytes p read (Ok o) h fits told e =
    let t = read_opid_was_written bytes p.at o fits told in
    let s : o.size ≡ 42 = ap opid_size_in (sym told ∙ ap (λ (b : List ℕ). opid_event_at b p.at) t.1 ∙ opid_is_read o.kind o.opid o.region p.at (drop o.size bytes) t.0) in
    let front : List ℕ = opid_event o.kind o.opid o.region p.at in
    let room = room_of (can_stand schema p o.kind) _ read e in
    let m = made o (payload_at schema (drop o.size bytes) o.size o (further o.size p)) read room.1 in
    let at_42 : payload_at schema (drop o.size bytes) 42 o (further 42 p) ≡ Ok (m.k, m.n) = ap (λ (n : ℕ). payload_at schema (drop o.size bytes) n o (further n p)) (sym s) ∙ m.is in
    let b = by_kind schema (drop o.size bytes) o (further 42 p) m.k m.n (o.kind == 1) (o.kind == 2) h (IsBytes-drop o.size bytes fits) t.0.least t.0.most refl refl at_42 in
    let back : List ℕ = behind_opid schema o.opid.position m.k (further 42 p) in
    let named : List ℕ = opid_event (kind_of m.k) o.opid o.region p.at in
    let whole : bytes ≡ (named ++ back) ++ b.rest =
    t.1 ∙ ap (λ (x : List ℕ). front ++ x) b.parts ∙ ap (λ (n : ℕ). opid_event n o.opid o.region p.at ++ (back ++ b.rest)) b.kind_is ∙ sym (append_assoc named back b.rest) in
    let size : o.size + m.n ≡ length (named ++ back) = omega (arith, s, b.size_is, length-append named back, opid_length (kind_of m.k) o.opid o.region p.at) in
    subst (IsGroupAtFront schema bytes p) m.read_is (record {
      rest = b.rest;
      parts = whole;
      size = size;
      entry = record {
        room = ap (can_stand schema p) (sym b.kind_is) ∙ room.0;
        term_fits = t.0.term_fits;
        position_fits = t.0.position_fits;
        region_fits = t.0.region_fits;
        payload = b.fits;
      };
    })

pub group_takes : ReadGroupWasWritten
unfolding entry_at
group_takes schema bytes p read h fits e = group_behind schema bytes p read (opid_event_at bytes p.at) h fits refl e
