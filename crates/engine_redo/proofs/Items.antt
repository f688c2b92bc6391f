-- The fields of an item are found exactly where they are spelled; so an item is found where one stands, and one alone stands there.
use Rattle.std.proofs.Common.{◌≡◌, ◌⊎◌, inl, inr, ℕ, zero, suc, ◌+◌, ◌≤◌, Bool, true, false, List, ◌++◌, length, drop, Result, Ok, Err, refl, sym, ap, subst, ◌∙◌, arith, append_assoc, length-append}
use Rattle.std.specs.Prelude.{◌==◌}
use Rattle.std.specs.Int.{w8, w32, w64}
use Rattle.std.proofs.lemmas.Bool.Decides.{nat_tests}
use Rattle.std.proofs.lemmas.List.{drop_at}
use Rattle.event_frame.specs.Forms.{Any, Form, One, Part, Spells, Then, Whole, front_of}
use Rattle.event_frame.specs.declared.field_readers.FieldFault.{FieldFault}
use Rattle.event_frame.specs.declared.field_readers.FieldFault.TheVariants.{Cut}
use Rattle.event_frame.proofs.Forms.{AreFields, IsBytes, read_is_spelled}
use Rattle.event_frame.proofs.Fields.{IsBytes-drop, agrees_is_field, number_is_field, wide8, wide32, wide64}
use Rattle.event_txn.specs.Laws.{IsTxn}
use Rattle.event_txn.specs.Txns.{txn_at, txn_events}
use Rattle.event_txn.specs.declared.faults.TxnError.{TxnError}
use Rattle.event_txn.specs.declared.reading.TxnRead.{TxnRead}
use Rattle.event_txn.proofs.GroupSizes.{txn_length}
use Rattle.event_txn.proofs.SpelledTxns.{txn_again}
use Rattle.event_txn.proofs.TakenTxns.{txn_takes}
use Rattle.ring_model.specs.declared.effects.Action.{Action}
use Rattle.ring_model.specs.declared.effects.Action.TheVariants as action
use Rattle.ring_types.specs.Rings.{is_schema}
use Rattle.ring_types.specs.Rows.{payload_fits}
use Rattle.ring_types.specs.Sizes.{group_bytes, group_limit}
use Rattle.ring_types.specs.declared.entries.Pair.{Pair}
use Rattle.ring_types.specs.declared.entries.Payload.TheVariants as payload
use Rattle.ring_types.specs.declared.schemas.Schema.{Schema}
use Rattle.engine_redo.specs.Items.{IsEvents, IsItem, any, drop_form, events_form, form_if, front_place, is_small, item_form, kind_form, none_form, opid_form, opids_form, position_form, prepare_form, taken_off}
use Rattle.engine_redo.specs.Writing.{MayBeItem}

-- ---- the fields

taken_off_ok : (bytes : List ℕ) (r : Result TxnRead TxnError) (read : TxnRead) (rest : List ℕ) → taken_off bytes r ≡ Ok (read, rest) → (r ≡ Ok read) × (drop read.size bytes ≡ rest)
taken_off_ok bytes (Ok x) read rest h =
    let p : (x, drop x.size bytes) ≡ (read, rest) = cc in
    let same : x ≡ read = ap (λ (q : TxnRead × List ℕ). q.0) p in
    (ap (λ (q : TxnRead). Ok q) same, ap (λ (q : TxnRead). drop q.size bytes) (sym same) ∙ ap (λ (q : TxnRead × List ℕ). q.1) p)
taken_off_ok bytes (Err e) read rest h = absurd cc

-- the events of a transaction are read, whatever stands behind them
events_found : (schema : Schema) (position : ℕ) (text : List ℕ) (read : TxnRead) (rest : List ℕ) → IsEvents schema position text read
    → taken_off (text ++ rest) (txn_at schema (text ++ rest) position front_place) ≡ Ok (read, rest)
events_found schema position text read rest e =
    let some : 1 ≤ front_place.sequence = omega arith in
    let events : List ℕ = txn_events schema read.txn position front_place in
    let long : length events ≡ read.size = ap length (sym e.events) ∙ sym e.size in
    let same : txn_at schema (text ++ rest) position front_place ≡ Ok read =
    ap (λ (t : List ℕ). txn_at schema (t ++ rest) position front_place) e.events
    ∙ txn_again schema read.txn position front_place rest e.txn some
    ∙ ap (λ (n : ℕ). Ok (record { txn = read.txn; size = n })) long in
    rw (same, drop_at text rest read.size (sym e.size)) refl

events_are_part : (schema : Schema) (position : ℕ) → is_schema schema ≡ true → AreFields (events_form schema position)
events_are_part schema position tables = record {
  finds = λ text read rest e. events_found schema position text read rest e;
  only = λ bytes read rest fits h.
      let o = taken_off_ok bytes (txn_at schema bytes position front_place) read rest h in
      let t = txn_takes schema bytes position front_place read tables fits o.0 in
      let events : List ℕ = txn_events schema read.txn position front_place in
      let behind : t.rest ≡ rest = sym (drop_at events t.rest read.size (sym t.size)) ∙ ap (drop read.size) (sym t.parts) ∙ o.1 in (
        events,
        record { txn = t.txn; events = refl; size = t.size },
        t.parts ∙ ap (λ (x : List ℕ). events ++ x) behind,
        subst IsBytes o.1 (IsBytes-drop read.size bytes fits),
      );
}

none_is_part : AreFields none_form
none_is_part = record { finds = λ text a rest no. absurd no; only = λ bytes a rest fits h. absurd cc }

opid_fields : AreFields opid_form
opid_fields = (number_is_field w64 wide64 any, λ term. (number_is_field w64 wide64 any, λ position. tt))

opids_fields : (count : ℕ) → AreFields (opids_form count)
opids_fields zero = tt
opids_fields (suc count) = (opid_fields, λ opid. (opids_fields count, λ others. tt))

position_fields : (action_at : ℕ → Action) → AreFields (position_form action_at)
position_fields action_at = (number_is_field w64 wide64 any, λ position. tt)

drop_fields : AreFields drop_form
drop_fields = (number_is_field w64 wide64 any, λ count. (opids_fields count, λ opids. tt))

prepare_fields : (schema : Schema) → is_schema schema ≡ true → AreFields (prepare_form schema)
prepare_fields schema tables =
    (opid_fields, λ opid. (number_is_field w32 wide32 is_small, λ size. (events_are_part schema opid.position tables, λ read. (agrees_is_field (read.size == size), λ told. tt))))

if_fields : (b : Bool) (this other : Form FieldFault Action) → AreFields this → AreFields other → AreFields (form_if b this other)
if_fields true this other f g = f
if_fields false this other f g = g

kind_fields : (schema : Schema) (kind : ℕ) → is_schema schema ≡ true → AreFields (kind_form schema kind)
kind_fields schema kind tables =
    if_fields (kind == 1) _ _ (prepare_fields schema tables)
    (if_fields (kind == 2) _ _ (position_fields action.Commit)
    (if_fields (kind == 3) _ _ (position_fields action.RollBackAfter)
    (if_fields (kind == 4) _ _ drop_fields none_is_part)))

-- the events of a transaction are told by their bytes only where the tables are a schema's
pub item_fields : (schema : Schema) → is_schema schema ≡ true → AreFields (item_form schema)
item_fields schema tables = (number_is_field w8 wide8 any, λ kind. kind_fields schema kind tables)

-- what was read is an item at the front
pub item_read : (schema : Schema) (bytes : List ℕ) (a : Action) (rest : List ℕ) → is_schema schema ≡ true → IsBytes bytes → front_of Cut (item_form schema) bytes ≡ Ok (a, rest)
    → (text : List ℕ) × IsItem schema text a × (bytes ≡ text ++ rest)
item_read schema bytes a rest tables fits h =
    let t = read_is_spelled Cut (item_form schema) bytes a rest (item_fields schema tables) fits h in
    (t.text, t.spelled, t.parts)

-- ---- one item

-- a form whose texts are found, whatever stands behind them
abbrev AreFound : {E A : Type 0} → Form E A → Type 0
AreFound (Whole a) = Unit {0}
AreFound (One {A} e f) = (x : A) (rest : List ℕ) → f.IsAllowed x → f.at (f.spell x ++ rest) ≡ Part x rest
AreFound (Any {A} at IsText) = (text : List ℕ) (a : A) (rest : List ℕ) → IsText text a → at (text ++ rest) ≡ Ok (a, rest)
AreFound (Then {X} form next) = AreFound form × ((x : X) → AreFound (next x))

fields_found : {E A : Type 0} (form : Form E A) → AreFields form → AreFound form
fields_found (Whole a) laws = tt
fields_found (One e f) laws = λ x rest ok. laws.finds x rest ok
fields_found (Any at IsText) laws = λ text a rest is. laws.finds text a rest is
fields_found (Then form next) laws = (fields_found form laws.0, λ x. fields_found (next x) (laws.1 x))

text_found : {E A : Type 0} (cut : E) (form : Form E A) (text : List ℕ) (a : A) (rest : List ℕ) → AreFound form → Spells form text a → front_of cut form (text ++ rest) ≡ Ok (a, rest)
text_found cut (Whole b) text a rest laws h = rw (h.0, h.1) refl
text_found cut (One e f) text a rest laws h = rw (h.1, laws a rest h.0) refl
text_found cut (Any at IsText) text a rest laws h = laws text a rest h
text_found cut (Then form next) text a rest laws h =
    let x = h.0 in
    let whole : text ++ rest ≡ h.1 ++ (h.2 ++ rest) = ap (λ (t : List ℕ). t ++ rest) h.5 ∙ append_assoc h.1 h.2 rest in
    rw (whole, text_found cut form h.1 x (h.2 ++ rest) laws.0 h.3) (text_found cut (next x) h.2 a rest (laws.1 x) h.4)

prepare_found : (schema : Schema) → AreFound (prepare_form schema)
prepare_found schema = (
  fields_found opid_form opid_fields,
  λ opid. ((number_is_field w32 wide32 is_small).finds, λ size. (λ text read rest e. events_found schema opid.position text read rest e, λ read. ((agrees_is_field (read.size == size)).finds, λ told. tt))),
)

if_found : (b : Bool) (this other : Form FieldFault Action) → AreFound this → AreFound other → AreFound (form_if b this other)
if_found true this other f g = f
if_found false this other f g = g

item_found : (schema : Schema) → AreFound (item_form schema)
item_found schema = (
  (number_is_field w8 wide8 any).finds,
  λ kind.
      if_found (kind == 1) _ _ (prepare_found schema)
      (if_found (kind == 2) _ _ (fields_found (position_form action.Commit) (position_fields action.Commit))
      (if_found (kind == 3) _ _ (fields_found (position_form action.RollBackAfter) (position_fields action.RollBackAfter))
      (if_found (kind == 4) _ _ (fields_found drop_form drop_fields) (fields_found none_form none_is_part)))),
)

-- an item is read, whatever stands behind it
pub item_again : (schema : Schema) (text : List ℕ) (a : Action) (rest : List ℕ) → IsItem schema text a → front_of Cut (item_form schema) (text ++ rest) ≡ Ok (a, rest)
item_again schema text a rest is = text_found Cut (item_form schema) text a rest (item_found schema) is

read_same : (p q : Action × List ℕ) → ◌≡◌ {A = Result (Action × List ℕ) FieldFault} (Ok p) (Ok q) → (p.0 ≡ q.0) × (p.1 ≡ q.1)
read_same p q h = let e : p ≡ q = cc in (ap (λ (r : Action × List ℕ). r.0) e, ap (λ (r : Action × List ℕ). r.1) e)

pub one_item : (schema : Schema) (s t : List ℕ) (a b : Action) (x y : List ℕ) → IsItem schema s a → IsItem schema t b → s ++ x ≡ t ++ y → (a ≡ b) × (x ≡ y)
one_item schema s t a b x y hs ht e =
    read_same (a, x) (b, y) (sym (item_again schema s a x hs) ∙ ap (front_of Cut (item_form schema)) e ∙ item_again schema t b y ht)

differ : (r : Result (Action × List ℕ) FieldFault) (f : FieldFault) (p : Action × List ℕ) → r ≡ Err f → r ≡ Ok p → ⊥
differ (Ok x) f p h g = absurd cc
differ (Err e) f p h g = absurd cc

-- where none was read, none stands
pub no_item : (schema : Schema) (bytes : List ℕ) (f : FieldFault) → front_of Cut (item_form schema) bytes ≡ Err f → (a : Action) (text rest : List ℕ) → bytes ≡ text ++ rest → IsItem schema text a → ⊥
no_item schema bytes f h a text rest parts is =
    differ (front_of Cut (item_form schema) bytes) f (a, rest) h (ap (front_of Cut (item_form schema)) parts ∙ item_again schema text a rest is)

pub item_some : (schema : Schema) (text : List ℕ) (a : Action) → IsItem schema text a → 1 ≤ length text
item_some schema text a h =
    let long : length text ≡ length h.1 + length h.2 = ap length h.5 ∙ length-append h.1 h.2 in
    let kind : length h.1 ≡ 1 = ap length h.3.1 ∙ wide8.len h.0 in
    omega (arith, long, kind)

-- ---- the action of an item

-- the form of an item's kind is one of four
of_kind : (schema : Schema) (more : List ℕ) (a : Action) (one two three four : Bool)
    → Spells (form_if one (prepare_form schema) (form_if two (position_form action.Commit) (form_if three (position_form action.RollBackAfter) (form_if four drop_form none_form)))) more a
    → Spells (prepare_form schema) more a ⊎ Spells (position_form action.Commit) more a ⊎ Spells (position_form action.RollBackAfter) more a ⊎ Spells drop_form more a
of_kind schema more a true two three four h = inl h
of_kind schema more a false true three four h = inr (inl h)
of_kind schema more a false false true four h = inr (inr (inl h))
of_kind schema more a false false false true h = inr (inr (inr h))
of_kind schema more a false false false false h = absurd h

prepare_may : (schema : Schema) (more : List ℕ) (a : Action) → Spells (prepare_form schema) more a → MayBeItem schema a
prepare_may schema more a h =
    let s = h.4 in
    let r = s.4 in
    let e = r.3 in
    let read : TxnRead = r.0 in
    let size : ℕ = s.0 in
    let told : read.size ≡ size = grind (arith, nat_tests, r.4.3.0) in
    let small : size + 42 ≤ group_limit = grind (arith, nat_tests, s.3.0.1) in
    let long : length (txn_events schema read.txn h.0.position front_place) + 42 ≡ group_bytes schema (payload.Txn read.txn) = txn_length schema read.txn h.0.position front_place e.txn.tables e.txn.fit in
    let same : read.size ≡ length (txn_events schema read.txn h.0.position front_place) = e.size ∙ ap length e.events in
    subst (MayBeItem schema) r.4.4.1 (e.txn, omega (arith, told, small, long, same))

-- the actions that are no engine's are no items
pub item_kind : (schema : Schema) (text : List ℕ) (a : Action) → IsItem schema text a → MayBeItem schema a
item_kind schema text a h =
    elim (of_kind schema h.2 a (h.0 == 1) (h.0 == 2) (h.0 == 3) (h.0 == 4) h.4) [
      | inl s ↦ prepare_may schema h.2 a s
      | inr (inl s) ↦ subst (MayBeItem schema) s.4.1 tt
      | inr (inr (inl s)) ↦ subst (MayBeItem schema) s.4.1 tt
      | inr (inr (inr s)) ↦ subst (MayBeItem schema) s.4.4.1 tt
    ]

-- an item that prepares has a transaction that fits the schema, and no too large a group
pub item_txn : (schema : Schema) (text : List ℕ) (p : Pair) → IsItem schema text (action.Prepare p) → IsTxn schema p.txn × (payload_fits schema (payload.Txn p.txn) ≡ true) × (group_bytes schema (payload.Txn p.txn) ≤ group_limit)
item_txn schema text p h =
    let may = item_kind schema text (action.Prepare p) h in
    let fits : payload_fits schema (payload.Txn p.txn) ≡ true = rw (may.0.fit, may.0.number) refl in
    (may.0, fits, may.1)
