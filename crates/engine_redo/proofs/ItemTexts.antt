-- The text of an item whose numbers fit their fields is spelled by the form of items.
use Rattle.std.proofs.Common.{◌≡◌, ℕ, ◌+◌, ◌^◌, ◌<◌, ◌≤◌, List, [], ◌∷◌, ◌++◌, length, drop, slice_index_or, Result, Ok, Err, IfOk, refl, sym, ap, ◌∙◌, append_assoc, arith}
use Rattle.std.specs.Int.{w32, w64, to_le_bytes}
use Rattle.std.proofs.lemmas.Bool.{eq-eqb, le-leb}
use Rattle.std.proofs.lemmas.List.{append-nil, drop_more}
use Rattle.event_frame.specs.Forms.{Spells}
use Rattle.event_txn.specs.Laws.{IsTxn}
use Rattle.event_txn.specs.declared.reading.TxnRead.{TxnRead}
use Rattle.ring_model.specs.declared.effects.Action.{Action}
use Rattle.ring_model.specs.declared.effects.Action.TheVariants as action
use Rattle.ring_types.specs.Sizes.{group_limit}
use Rattle.ring_types.specs.declared.entries.Opid.{Opid}
use Rattle.ring_types.specs.declared.entries.Pair.{Pair}
use Rattle.ring_types.specs.declared.schemas.Schema.{Schema}
use Rattle.engine_redo.specs.Items.{IsItem, drop_form, opid_form, opids_form, position_form, prepare_form}
use Rattle.engine_redo.specs.Writing.{FitOpids, FitsItem, FitsOpid, events_of, item_text, opid_text, opids_text}

opid_spelled : (o : Opid) → FitsOpid o → Spells opid_form (opid_text o) o
opid_spelled o fits = (
  o.term,
  to_le_bytes w64 o.term,
  to_le_bytes w64 o.position,
  ((fits.0, refl), refl),
  (o.position, to_le_bytes w64 o.position, [], ((fits.1, refl), refl), (refl, refl), sym (append-nil (to_le_bytes w64 o.position))),
  refl,
)

opids_spelled : (opids : List Opid) → FitOpids opids → Spells (opids_form (length opids)) (opids_text opids) opids
opids_spelled [] fits = (refl, refl)
opids_spelled (o ∷ opids) fits = (
  o,
  opid_text o,
  opids_text opids,
  opid_spelled o fits.0,
  (opids, opids_text opids, [], opids_spelled opids fits.1, (refl, refl), sym (append-nil (opids_text opids))),
  refl,
)

position_spelled : (action_at : ℕ → Action) (position : ℕ) → position < 2 ^ 64 → Spells (position_form action_at) (to_le_bytes w64 position) (action_at position)
position_spelled action_at position fits = (position, to_le_bytes w64 position, [], ((fits, refl), refl), (refl, refl), sym (append-nil (to_le_bytes w64 position)))

drop_spelled : (opids : List Opid) → length opids < 2 ^ 64 → FitOpids opids → Spells drop_form (to_le_bytes w64 (length opids) ++ opids_text opids) (action.DropPairs opids)
drop_spelled opids long fits = (
  length opids,
  to_le_bytes w64 (length opids),
  opids_text opids,
  ((long, refl), refl),
  (opids, opids_text opids, [], opids_spelled opids fits, (refl, refl), sym (append-nil (opids_text opids))),
  refl,
)

prepare_spelled : (schema : Schema) (p : Pair) → FitsOpid p.opid → IsTxn schema p.txn → length (events_of schema p) + 42 ≤ group_limit
    → Spells (prepare_form schema) (opid_text p.opid ++ to_le_bytes w32 (length (events_of schema p)) ++ events_of schema p) (action.Prepare p)
prepare_spelled schema p fits txn small =
    let events : List ℕ = events_of schema p in
    let size : ℕ = length events in
    let read : TxnRead = record { txn = p.txn; size = size } in (
      p.opid,
      opid_text p.opid,
      to_le_bytes w32 size ++ events,
      opid_spelled p.opid fits,
      (
        size,
        to_le_bytes w32 size,
        events,
        ((omega (arith, small), le-leb _ _ small), refl),
        (
          read,
          events,
          [],
          record { txn = txn; events = refl; size = refl },
          (tt, [], [], (eq-eqb size size refl, refl), (refl, refl), refl),
          sym (append-nil events),
        ),
        refl,
      ),
      refl,
    )

pub text_is_item : (schema : Schema) (a : Action) → FitsItem schema a → IsItem schema (item_text schema a) a
text_is_item schema (action.Prepare p) fits = (1, 1 ∷ [], opid_text p.opid ++ to_le_bytes w32 (length (events_of schema p)) ++ events_of schema p, ((omega arith, refl), refl), prepare_spelled schema p fits.0 fits.1 fits.2, refl)
text_is_item schema (action.Commit position) fits = (2, 2 ∷ [], to_le_bytes w64 position, ((omega arith, refl), refl), position_spelled action.Commit position fits, refl)
text_is_item schema (action.RollBackAfter position) fits = (3, 3 ∷ [], to_le_bytes w64 position, ((omega arith, refl), refl), position_spelled action.RollBackAfter position fits, refl)
text_is_item schema (action.DropPairs opids) fits = (4, 4 ∷ [], to_le_bytes w64 (length opids) ++ opids_text opids, ((omega arith, refl), refl), drop_spelled opids fits.0 fits.1, refl)
text_is_item schema _ fits = absurd fits

-- what was made for an action is its item
pub item_made : {X E : Type 0} (schema : Schema) (items : X → List ℕ) (a made : Action) (r : Result X E) → a ≡ made → IfOk r (λ it. items it ≡ item_text schema made) → IfOk r (λ it. FitsItem schema made)
    → IfOk r (λ it. IsItem schema (items it) a)
item_made schema items a made (Ok it) same text fits = rw (same, text) (text_is_item schema made fits)
item_made schema items a made (Err e) same text fits = tt

pub all_fit : {X E : Type 0} (schema : Schema) (made : Action) (r : Result X E) → FitsItem schema made → IfOk r (λ it. FitsItem schema made)
all_fit schema made (Ok it) fits = fits
all_fit schema made (Err e) fits = tt

-- ---- opids put one behind another

abbrev no_opid : Opid
no_opid = record { term = 0; position = 0 }

pub opid_is_put : (opids : List Opid) (i : ℕ) (old mid new : List ℕ) → i < length opids → mid ++ opids_text (drop i opids) ≡ old ++ opids_text opids → new ≡ mid ++ opid_text (slice_index_or opids i no_opid)
    → new ++ opids_text (drop (i + 1) opids) ≡ old ++ opids_text opids
opid_is_put opids i old mid new lt so_far put =
    let o = slice_index_or opids i no_opid in
    let behind : List ℕ = opids_text (drop (i + 1) opids) in
    ap (λ (x : List ℕ). x ++ behind) put ∙ append_assoc mid (opid_text o) behind ∙ ap (λ (x : List Opid). mid ++ opids_text x) (sym (drop_more opids i no_opid lt)) ∙ so_far

pub opid_fits : (opids : List Opid) (i : ℕ) → i < length opids → FitsOpid (slice_index_or opids i no_opid) → FitOpids (drop (i + 1) opids) → FitOpids (drop i opids)
opid_fits opids i lt fits others = rw (drop_more opids i no_opid lt) (fits, others)
