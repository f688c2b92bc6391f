-- Tables that have the same of the keys that a change names accept or refuse it alike, and a change of another key leaves what they have of this one.
use Rattle.std.proofs.Common.{◌≡◌, ℕ, ◌<◌, ◌==◌, ◌||◌, [], ◌∷◌, ◌∙◌, if◌then◌else◌, cond, Bool, List, None, Option, Some, ap, arith, false, length, refl, subst, suc, sym, true, zero}
use Rattle.std.proofs.lemmas.Bool.Decides.{nat_tests}
use Rattle.std.proofs.lemmas.List.{length-set}
use Rattle.std.proofs.lemmas.List.Sums.{passes_at_first}
use Rattle.std.proofs.lemmas.Slice.Eq.{bytes_eq-Decides}
use Rattle.std.specs.Prelude.{bytes_eq, get_or, is_none, nat_lt, position, slice_get, slice_set}
use Rattle.std.specs.List.{list_any, position_or_len}
use Rattle.std.specs.Option.{option_map_or}
use Rattle.ring_types.specs.declared.entries.Entry.{Entry}
use Rattle.ring_types.specs.declared.entries.Payload.{Payload}
use Rattle.ring_types.specs.declared.entries.Payload.TheVariants as payload
use Rattle.ring_types.specs.declared.schemas.Schema.{Schema}
use Rattle.ring_types.specs.declared.schemas.Table.{Table}
use Rattle.ring_types.specs.declared.values.Change.{Change}
use Rattle.ring_types.specs.declared.values.Change.TheVariants.{Delete, Insert, Update}
use Rattle.ring_types.specs.declared.values.RowRefusal.{RowRefusal}
use Rattle.ring_types.specs.declared.values.RowRefusal.TheVariants.{BadRow, NoTable}
use Rattle.ring_types.specs.declared.values.Value.{Value}
use Rattle.ring_types.specs.Rows.{Rows, Tables, after_payload, all_changed, applied, change_key, changed, check, fits_table, has_key, key_refusal, place_in, refusal_in, refusal_of, rows_after, rows_at, rows_from, same_value, table_name}
use Rattle.ring_model.specs.Actions.{is_held, pairs_in, same_key, writes_key}
use Rattle.ring_lawful.proofs.RowKeys.{after_here, after_there, same_turned, set_here, set_past, set_there}

-- ---- whether the tables have the key that a change names
abbrev pub key_in : Tables → Value → Option ℕ → Bool
key_in tables key place = option_map_or (λ p. has_key (rows_at tables p) key) place false

abbrev set_in : Tables → Change → Option ℕ → Tables
set_in tables c place = option_map_or (λ p. slice_set tables p (rows_after (rows_at tables p) c)) place tables

abbrev pub holds_key : Schema → Tables → Change → Bool
holds_key schema tables c = key_in tables (change_key c) (place_in schema (table_name c))

refused_alike : (T S : Rows) (c : Change) → has_key T (change_key c) ≡ has_key S (change_key c) → key_refusal T c ≡ key_refusal S c
refused_alike T S (Insert name row) is = rw is refl
refused_alike T S (Update name row) is = rw is refl
refused_alike T S (Delete name key) is = rw is refl

refusal_alike : (schema : Schema) (T S : Tables) (c : Change) → holds_key schema T c ≡ holds_key schema S c → refusal_of schema T c ≡ refusal_of schema S c
unfolding refusal_of
refusal_alike schema T S c is = go (place_in schema (table_name c)) is
  where
    go : (o : Option ℕ) → key_in T (change_key c) o ≡ key_in S (change_key c) o
        → option_map_or (λ place. refusal_in schema T place c) o (Some NoTable) ≡ option_map_or (λ place. refusal_in schema S place c) o (Some NoTable)
    go None x = refl
    go (Some p) x =
        ap (λ (r : Option RowRefusal). if option_map_or (λ (t : Table). fits_table t c) (slice_get schema.tables p) false then r else Some BadRow)
        (refused_alike (rows_at T p) (rows_at S p) c x)

set_alike : (T S : Tables) (c : Change) (key : Value) (o q : Option ℕ) → length T ≡ length S → key_in T key q ≡ key_in S key q
    → key_in (set_in T c o) key q ≡ key_in (set_in S c o) key q
set_alike T S c key o None same is = refl
set_alike T S c key None (Some r) same is = is
set_alike T S c key (Some p) (Some r) same is = go (p == r) refl
  where
    here : (b : Bool) → same_value (change_key c) key ≡ b → has_key (rows_at T p) key ≡ has_key (rows_at S p) key
        → has_key (rows_after (rows_at T p) c) key ≡ has_key (rows_after (rows_at S p) c) key
    here true x y = after_here (rows_at T p) c key x ∙ sym (after_here (rows_at S p) c key x)
    here false x y = after_there (rows_at T p) c key x ∙ (y ∙ sym (after_there (rows_at S p) c key x))

    within : (b : Bool) → nat_lt p (length T) ≡ b → has_key (rows_at T p) key ≡ has_key (rows_at S p) key
        → key_in (set_in T c (Some p)) key (Some p) ≡ key_in (set_in S c (Some p)) key (Some p)
    within true x y =
        ap (λ (r : Rows). has_key r key) (set_here T p (rows_after (rows_at T p) c) (grind (arith, nat_tests, x)))
        ∙ (here (same_value (change_key c) key) refl y ∙ ap (λ (r : Rows). has_key r key) (sym (set_here S p (rows_after (rows_at S p) c) (grind (arith, nat_tests, x, same)))))
    within false x y =
        let z : nat_lt p (length S) ≡ false = subst (λ (n : ℕ). nat_lt p n ≡ false) same x in
        ap (λ (r : Rows). has_key r key) (set_past T p (rows_after (rows_at T p) c) x ∙ sym (set_past S p (rows_after (rows_at S p) c) z))

    go : (b : Bool) → (p == r) ≡ b → key_in (set_in T c (Some p)) key (Some r) ≡ key_in (set_in S c (Some p)) key (Some r)
    go true x =
        let z : p ≡ r = grind (arith, nat_tests, x) in
        subst (λ (n : ℕ). key_in (set_in T c (Some p)) key (Some n) ≡ key_in (set_in S c (Some p)) key (Some n)) z
        (within (nat_lt p (length T)) refl (subst (λ (n : ℕ). has_key (rows_at T n) key ≡ has_key (rows_at S n) key) (sym z) is))
    go false x =
        ap (λ (w : Rows). has_key w key) (set_there T p r (rows_after (rows_at T p) c) x)
        ∙ (is ∙ ap (λ (w : Rows). has_key w key) (sym (set_there S p r (rows_after (rows_at S p) c) x)))

changed_alike : (schema : Schema) (T S : Tables) (c x : Change) → length T ≡ length S → holds_key schema T x ≡ holds_key schema S x
    → holds_key schema (changed schema T c) x ≡ holds_key schema (changed schema S c) x
unfolding changed
changed_alike schema T S c x same is = set_alike T S c (change_key x) (place_in schema (table_name c)) (place_in schema (table_name x)) same is

pub changed_length : (schema : Schema) (T : Tables) (c : Change) → length (changed schema T c) ≡ length T
unfolding changed
changed_length schema T c = go (place_in schema (table_name c))
  where
    go : (o : Option ℕ) → length (set_in T c o) ≡ length T
    go None = refl
    go (Some p) = length-set T p (rows_after (rows_at T p) c)

-- the tables have, or lack, the same of the keys that the changes name
abbrev pub AllAlike : Schema → Tables → Tables → List Change → Type 0
AllAlike schema T S [] = Unit {0}
AllAlike schema T S (c ∷ changes) = (holds_key schema T c ≡ holds_key schema S c) × AllAlike schema T S changes

all_alike : (schema : Schema) (T S : Tables) (c : Change) (changes : List Change) → length T ≡ length S → AllAlike schema T S changes
    → AllAlike schema (changed schema T c) (changed schema S c) changes
all_alike schema T S c [] same x = tt
all_alike schema T S c (y ∷ changes) same x = (changed_alike schema T S c y same x.0, all_alike schema T S c changes same x.1)

pub check_alike : (schema : Schema) (T S : Tables) (changes : List Change) → length T ≡ length S → AllAlike schema T S changes
    → check schema T changes ≡ check schema S changes
check_alike schema T S [] same x = refl
check_alike schema T S (c ∷ changes) same x =
    let more =
    check_alike schema (changed schema T c) (changed schema S c) changes (changed_length schema T c ∙ (same ∙ sym (changed_length schema S c)))
    (all_alike schema T S c changes same x.1) in
    go (refusal_of schema T c) (refusal_of schema S c) (refusal_alike schema T S c x.0) more
  where
    go : (a b : Option RowRefusal) → a ≡ b → check schema (changed schema T c) changes ≡ check schema (changed schema S c) changes
        → ◌≡◌ {A = Option RowRefusal} (elim a [ None ↦ check schema (changed schema T c) changes | Some r ↦ Some r ]) (elim b [ None ↦ check schema (changed schema S c) changes | Some r ↦ Some r ])
    go None None is more = more
    go None (Some r) is more = absurd cc
    go (Some r) None is more = absurd cc
    go (Some r) (Some q) is more = is

-- ---- a change of another key
cond_some : (b : Bool) (x p : ℕ) → cond b (Some x) None ≡ Some p → (b ≡ true) × (x ≡ p)
cond_some true x p is = (refl, cc)
cond_some false x p is = absurd cc

named : (ts : List Table) (a : List ℕ) (p : ℕ) (d : Table) → position (λ (t : Table). bytes_eq t.name a) ts ≡ Some p → (get_or ts p d).name ≡ a
named ts a p d is =
    let x = cond_some (nat_lt (position_or_len (λ (t : Table). bytes_eq t.name a) ts) (length ts)) (position_or_len (λ (t : Table). bytes_eq t.name a) ts) p is in
    let lt : position_or_len (λ (t : Table). bytes_eq t.name a) ts < length ts = (let z = x.0 in grind (arith, nat_tests, z)) in
    let y = passes_at_first (λ (t : Table). bytes_eq t.name a) ts d lt in
    subst (λ (n : ℕ). (get_or ts n d).name ≡ a) x.1 ((bytes_eq-Decides (get_or ts (position_or_len (λ (t : Table). bytes_eq t.name a) ts) d).name a).0 y)

one_name : (ts : List Table) (a b : List ℕ) (p : ℕ) → position (λ (t : Table). bytes_eq t.name a) ts ≡ Some p
    → position (λ (t : Table). bytes_eq t.name b) ts ≡ Some p → a ≡ b
one_name [] a b p x y = absurd cc
one_name (t ∷ ts) a b p x y = sym (named (t ∷ ts) a p t x) ∙ named (t ∷ ts) b p t y

set_apart : (T : Tables) (c : Change) (key : Value) (p r : ℕ) → same_value (change_key c) key ≡ false
    → key_in (set_in T c (Some p)) key (Some r) ≡ key_in T key (Some r)
set_apart T c key p r other = go (p == r) refl
  where
    within : (b : Bool) → nat_lt p (length T) ≡ b → key_in (set_in T c (Some p)) key (Some p) ≡ key_in T key (Some p)
    within true x =
        ap (λ (w : Rows). has_key w key) (set_here T p (rows_after (rows_at T p) c) (grind (arith, nat_tests, x))) ∙ after_there (rows_at T p) c key other
    within false x = ap (λ (w : Rows). has_key w key) (set_past T p (rows_after (rows_at T p) c) x ∙ sym (none_past T p x))
      where
        none_past : (T : Tables) (p : ℕ) → nat_lt p (length T) ≡ false → rows_at T p ≡ []
        none_past [] p past = refl
        none_past (t ∷ T) zero past =
            absurd (let z : nat_lt zero (suc (length T)) ≡ true = grind (arith, nat_tests) in let q : true ≡ false = sym z ∙ past in cc)
        none_past (t ∷ T) (suc p) past = none_past T p (grind (arith, nat_tests, past))

    go : (b : Bool) → (p == r) ≡ b → key_in (set_in T c (Some p)) key (Some r) ≡ key_in T key (Some r)
    go true x =
        let z : p ≡ r = grind (arith, nat_tests, x) in
        subst (λ (n : ℕ). key_in (set_in T c (Some p)) key (Some n) ≡ key_in T key (Some n)) z (within (nat_lt p (length T)) refl)
    go false x = ap (λ (w : Rows). has_key w key) (set_there T p r (rows_after (rows_at T p) c) x)

-- a change of another key leaves what the tables have of this one
changed_apart : (schema : Schema) (T : Tables) (c x : Change) → same_key x c ≡ false → holds_key schema (changed schema T c) x ≡ holds_key schema T x
unfolding changed
changed_apart schema T c x apart = go (place_in schema (table_name c)) refl (place_in schema (table_name x)) refl (bytes_eq (table_name x) (table_name c)) refl (same_value (change_key x) (change_key c)) refl
  where
    go : (o : Option ℕ) → place_in schema (table_name c) ≡ o → (q : Option ℕ) → place_in schema (table_name x) ≡ q → (a : Bool)
        → bytes_eq (table_name x) (table_name c) ≡ a → (b : Bool) → same_value (change_key x) (change_key c) ≡ b
        → key_in (set_in T c o) (change_key x) q ≡ key_in T (change_key x) q
    go o at None to a y b z = refl
    go None at (Some r) to a y b z = refl
    go (Some p) at (Some r) to a y false z = set_apart T c (change_key x) p r (same_turned (change_key x) (change_key c) z)
    go (Some p) at (Some r) to true y true z = absurd (let u : same_key x c ≡ true = rw (y, z) refl in let w : true ≡ false = sym u ∙ apart in cc)
    go (Some p) at (Some r) to false y true z = other (p == r) refl
      where
        other : (t : Bool) → (p == r) ≡ t → key_in (set_in T c (Some p)) (change_key x) (Some r) ≡ key_in T (change_key x) (Some r)
        other false u = ap (λ (w : Rows). has_key w (change_key x)) (set_there T p r (rows_after (rows_at T p) c) u)
        other true u = absurd (
            let same : p ≡ r = grind (arith, nat_tests, u) in
            let name : table_name x ≡ table_name c = one_name schema.tables (table_name x) (table_name c) p (to ∙ ap (λ (n : ℕ). Some n) (sym same)) at in
            let w : bytes_eq (table_name x) (table_name c) ≡ true = (bytes_eq-Decides (table_name x) (table_name c)).1 name in
            let v : true ≡ false = sym w ∙ y in cc
            )

changes_apart : (schema : Schema) (T : Tables) (changes : List Change) (x : Change) → list_any (same_key x) changes ≡ false
    → holds_key schema (all_changed schema T changes) x ≡ holds_key schema T x
changes_apart schema T [] x none = refl
changes_apart schema T (c ∷ changes) x none = go (same_key x c) refl none (changes_apart schema (changed schema T c) changes x)
  where
    go : (b : Bool) → same_key x c ≡ b → (b || list_any (same_key x) changes) ≡ false
        → (list_any (same_key x) changes ≡ false → holds_key schema (all_changed schema (changed schema T c) changes) x ≡ holds_key schema (changed schema T c) x)
        → holds_key schema (all_changed schema (changed schema T c) changes) x ≡ holds_key schema T x
    go true is y more = absurd cc
    go false is y more = more y ∙ changed_apart schema T c x is

applied_apart : (schema : Schema) (T : Tables) (changes : List Change) (x : Change) → list_any (same_key x) changes ≡ false
    → holds_key schema (applied schema T changes) x ≡ holds_key schema T x
applied_apart schema T changes x none = go (is_none (check schema T changes))
  where
    go : (b : Bool) → holds_key schema (if b then all_changed schema T changes else T) x ≡ holds_key schema T x
    go true = changes_apart schema T changes x none
    go false = refl

-- entries whose transactions do not write the key of a change leave what the tables have of it
key_stays : (schema : Schema) (T : Tables) (es : List Entry) (x : Change) → list_any (writes_key x) (pairs_in es) ≡ false
    → holds_key schema (rows_from schema T es) x ≡ holds_key schema T x
key_stays schema T [] x none = refl
key_stays schema T (e ∷ es) x none = go (λ S n. key_stays schema S es x n) e.payload refl
  where
    go : ((S : Tables) → list_any (writes_key x) (pairs_in es) ≡ false → holds_key schema (rows_from schema S es) x ≡ holds_key schema S x) → (p : Payload)
        → e.payload ≡ p
        → holds_key schema (rows_from schema (after_payload schema T e.payload) es) x ≡ holds_key schema T x
    go more payload.NoOp is = rw is (more T (let u = rw is at none in u))
    go more payload.Rotate is = rw is (more T (let u = rw is at none in u))
    go more (payload.Txn t) is =
        let u : (list_any (same_key x) t.changes || list_any (writes_key x) (pairs_in es)) ≡ false = (let v = rw is at none in v) in
        rw is (one (list_any (same_key x) t.changes) refl u)
      where
        one : (b : Bool) → list_any (same_key x) t.changes ≡ b → (b || list_any (writes_key x) (pairs_in es)) ≡ false
            → holds_key schema (rows_from schema (applied schema T t.changes) es) x ≡ holds_key schema T x
        one true y z = absurd cc
        one false y z = more (applied schema T t.changes) z ∙ applied_apart schema T t.changes x y

pub keys_stay : (schema : Schema) (T : Tables) (es : List Entry) (changes : List Change) → list_any (is_held (pairs_in es)) changes ≡ false
    → AllAlike schema (rows_from schema T es) T changes
keys_stay schema T es [] none = tt
keys_stay schema T es (x ∷ changes) none = go (is_held (pairs_in es) x) refl none (keys_stay schema T es changes)
  where
    go : (b : Bool) → is_held (pairs_in es) x ≡ b → (b || list_any (is_held (pairs_in es)) changes) ≡ false
        → (list_any (is_held (pairs_in es)) changes ≡ false → AllAlike schema (rows_from schema T es) T changes)
        → AllAlike schema (rows_from schema T es) T (x ∷ changes)
    go true y z more = absurd cc
    go false y z more = (key_stays schema T es x y, more z)
