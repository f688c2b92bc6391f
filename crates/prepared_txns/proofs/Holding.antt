-- What the map answers after a call of it: the lookups of the map of tables and of a table's map of keys, put together.
use Rattle.std.proofs.Common.{◌≡◌, ℕ, ◌+◌, ◌<◌, suc, zero, length, Bool, true, false, cond, List, [], ◌∷◌, Option, Some, None, take, get_or, refl, sym, ◌∙◌, ap, subst, if◌then◌else◌, ◌&&◌, ◌||◌}
use Rattle.std.specs.Prelude.{bytes_eq}
use Rattle.std.specs.BTreeMap.{is_at, WritesThrough}
use Rattle.std.specs.Cmp.Lexicographic.{slice_cmp}
use Rattle.std.specs.List.{list_any}
use Rattle.std.specs.Map.{lookup}
use Rattle.std.specs.Option.{IsSome}
use Rattle.std.specs.Prelude.{Result, Ok, Err, OnErr}
use Rattle.std.specs.Ordering.{nat_cmp}
use Rattle.std.proofs.lemmas.List.Folds.{list_any_more}
use Rattle.ring_types.specs.Rows.{table_name, change_key, same_value}
use Rattle.ring_types.specs.declared.entries.Opid.{Opid}
use Rattle.ring_types.specs.declared.values.Change.{Change}
use Rattle.ring_types.specs.declared.values.Value.{Value}
use Rattle.ring_model.specs.Actions.{same_key}
use Rattle.prepared_txns.specs.Holders.{Keys, Holders, held_in, held_by, IsPutAt, IsPut, ArePut, SameHolders, SameOthers}
use Rattle.prepared_txns.proofs.Ties.{value_cmp, text_found, text_updated, texts_same, value_found}

-- ---- a look-up
pub table_at : (holders : Holders) (c : Change) (name : List ℕ) (o : Option Keys) → name ≡ table_name c
    → lookup (is_at (slice_cmp nat_cmp name)) holders.entries ≡ o → lookup (bytes_eq (table_name c)) holders.entries ≡ o
table_at holders c name o named at = ap (λ (t : List ℕ). lookup (bytes_eq t) holders.entries) (sym named) ∙ (sym (text_found name holders.entries) ∙ at)

pub holder_found : (holders : Holders) (c : Change) (name : List ℕ) (key : Value) (keys : Keys) (o : Option Opid) → name ≡ table_name c → key ≡ change_key c
    → lookup (is_at (slice_cmp nat_cmp name)) holders.entries ≡ Some keys → o ≡ lookup (is_at (value_cmp key)) keys.entries → o ≡ held_by holders c
holder_found holders c name key keys o named keyed at found =
    found
    ∙ (value_found key keys.entries
    ∙ (ap (λ (k : Value). lookup (same_value k) keys.entries) keyed ∙ ap (held_in (change_key c)) (sym (table_at holders c name (Some keys) named at))))

pub holder_missing : (holders : Holders) (c : Change) (name : List ℕ) → name ≡ table_name c → lookup (is_at (slice_cmp nat_cmp name)) holders.entries ≡ None
    → None ≡ held_by holders c
holder_missing holders c name named at = ap (held_in (change_key c)) (sym (table_at holders c name None named at))

-- ---- one key
-- the map of a table is another one, and the other tables keep theirs
abbrev IsTablePut : List ℕ → Keys → Holders → Holders → Type 0
IsTablePut name keys old new = (t : List ℕ) → lookup (bytes_eq t) new.entries ≡ cond (bytes_eq t name) (Some keys) (lookup (bytes_eq t) old.entries)

table_put : (c : Change) (o : Option Opid) (old new : Holders) (was : Option Keys) (keys : Keys) → IsTablePut (table_name c) keys old new
    → lookup (bytes_eq (table_name c)) old.entries ≡ was
    → ((k : Value) → lookup (same_value k) keys.entries ≡ (if same_value k (change_key c) then o else held_in k was)) → IsPut c o old new
table_put c o old new was keys outer at inner d = go (bytes_eq (table_name d) (table_name c)) refl
  where
    go : (b : Bool) → bytes_eq (table_name d) (table_name c) ≡ b → held_by new d ≡ (if b && same_value (change_key d) (change_key c) then o else held_by old d)
    go true is =
        let found : lookup (bytes_eq (table_name d)) new.entries ≡ Some keys = outer (table_name d)
        ∙ ap (λ (b : Bool). cond b (Some keys) (lookup (bytes_eq (table_name d)) old.entries)) is in
        let before : lookup (bytes_eq (table_name d)) old.entries ≡ was =
        ap (λ (t : List ℕ). lookup (bytes_eq t) old.entries) (texts_same (table_name d) (table_name c) is) ∙ at in
        ap (held_in (change_key d)) found ∙ (inner (change_key d)
        ∙ ap (λ (x : Option Keys). if same_value (change_key d) (change_key c) then o else held_in (change_key d) x) (sym before))
    go false is = ap (held_in (change_key d)) (outer (table_name d) ∙ ap (λ (b : Bool). cond b (Some keys) (lookup (bytes_eq (table_name d)) old.entries)) is)

-- a table that was not there
pub put_new : (c : Change) (o : Option Opid) (old new : Holders) (empty keys : Keys) (key : Value) (name : List ℕ)
    → lookup (bytes_eq (table_name c)) old.entries ≡ None → empty.entries ≡ []
    → key ≡ change_key c → name ≡ table_name c → IsPutAt key o empty keys
    → ((q : List ℕ) → lookup (is_at (slice_cmp nat_cmp q)) new.entries
    ≡ cond (is_at (slice_cmp nat_cmp name) q) (Some keys) (lookup (is_at (slice_cmp nat_cmp q)) old.entries)) → IsPut c o old new
put_new c o old new empty keys key name at none keyed named put updates =
    table_put c o old new None keys (subst (λ (t : List ℕ). IsTablePut t keys old new) named (text_updated old.entries new.entries name (Some keys) updates)) at
    (λ k. put k ∙ (ap (λ (v : Value). if same_value k v then o else lookup (same_value k) empty.entries) keyed
    ∙ ap (λ (es : List (Value × Opid)). if same_value k (change_key c) then o else lookup (same_value k) es) none))

-- a table that was there, of which the map was written through
written : (old new : Holders) (was keys : Keys) (name : List ℕ) → lookup (is_at (slice_cmp nat_cmp name)) old.entries ≡ Some was
    → WritesThrough (slice_cmp nat_cmp) (slice_cmp nat_cmp name) old keys new → IsTablePut name keys old new
written old new was keys name at writes = text_updated old.entries new.entries name (Some keys) (writes.3 (subst IsSome (sym at) refl)).0

pub put_there : (c : Change) (o : Option Opid) (old new : Holders) (was keys : Keys) (key : Value) (name : List ℕ)
    → lookup (is_at (slice_cmp nat_cmp name)) old.entries ≡ Some was
    → key ≡ change_key c → name ≡ table_name c → IsPutAt key o was keys → WritesThrough (slice_cmp nat_cmp) (slice_cmp nat_cmp name) old keys new
    → IsPut c o old new
put_there c o old new was keys key name at keyed named put writes =
    table_put c o old new (Some was) keys (subst (λ (t : List ℕ). IsTablePut t keys old new) named (written old new was keys name at writes))
    (table_at old c name (Some was) named at)
    (λ k. put k ∙ ap (λ (v : Value). if same_value k v then o else lookup (same_value k) was.entries) keyed)

pub same_there : (old new : Holders) (was keys : Keys) (name : List ℕ) → lookup (is_at (slice_cmp nat_cmp name)) old.entries ≡ Some was
    → keys.entries ≡ was.entries
    → WritesThrough (slice_cmp nat_cmp) (slice_cmp nat_cmp name) old keys new → SameHolders old new
same_there old new was keys name at same writes d = go (bytes_eq (table_name d) name) refl
  where
    outer : lookup (bytes_eq (table_name d)) new.entries ≡ cond (bytes_eq (table_name d) name) (Some keys) (lookup (bytes_eq (table_name d)) old.entries)
    outer = written old new was keys name at writes (table_name d)

    go : (b : Bool) → bytes_eq (table_name d) name ≡ b → held_by new d ≡ held_by old d
    go true is =
        let found : lookup (bytes_eq (table_name d)) new.entries ≡ Some keys = outer
        ∙ ap (λ (b : Bool). cond b (Some keys) (lookup (bytes_eq (table_name d)) old.entries)) is in
        let before = table_at old d name (Some was) (sym (texts_same (table_name d) name is)) at in
        ap (held_in (change_key d)) found ∙ (ap (lookup (same_value (change_key d))) same ∙ ap (held_in (change_key d)) (sym before))
    go false is = ap (held_in (change_key d)) (outer ∙ ap (λ (b : Bool). cond b (Some keys) (lookup (bytes_eq (table_name d)) old.entries)) is)

-- a key of a table that is not there has no holder
abbrev none_held : Option Opid
none_held = None

pub missing_put : (c : Change) (old new : Holders) (name : List ℕ) → name ≡ table_name c → lookup (is_at (slice_cmp nat_cmp name)) old.entries ≡ None
    → new ≡ old → IsPut c None old new
missing_put c old new name named at same d = ap (λ (h : Holders). held_by h d) same ∙ go (bytes_eq (table_name d) (table_name c)) refl
  where
    both : (b : Bool) → none_held ≡ cond b none_held none_held
    both true = refl
    both false = refl

    go : (b : Bool) → bytes_eq (table_name d) (table_name c) ≡ b
        → held_by old d ≡ (if b && same_value (change_key d) (change_key c) then None else held_by old d)
    go true is =
        let none : held_by old d ≡ None = sym (holder_missing old d name (named ∙ sym (texts_same (table_name d) (table_name c) is)) at) in
        none ∙ (both (same_value (change_key d) (change_key c)) ∙ ap (λ (x : Option Opid). cond (same_value (change_key d) (change_key c)) None x) (sym none))
    go false is = refl

-- ---- the keys of several changes
either : (a b : Bool) (o was : Option Opid) → cond b o (cond a o was) ≡ cond (a || b) o was
either true true o was = refl
either true false o was = refl
either false true o was = refl
either false false o was = refl

pub put_more : (changes : List Change) (i : ℕ) (c : Change) (o : Option Opid) (old now new : Holders) → i < length changes → c ≡ get_or changes i c
    → ArePut (take i changes) o old now → IsPut c o now new → ArePut (take (i + 1) changes) o old new
put_more changes i c o old now new inside is before one d =
    one d
    ∙ (ap (λ (x : Option Opid). cond (same_key d c) o x) (before d)
    ∙ (either (list_any (same_key d) (take i changes)) (same_key d c) o (held_by old d)
    ∙ ap (λ (b : Bool). cond b o (held_by old d)) (ap (λ (x : Change). list_any (same_key d) (take i changes) || same_key d x) is
    ∙ sym (list_any_more (same_key d) changes i c inside))))

none_of_first : (test : Change → Bool) (i : ℕ) (changes : List Change) → list_any test changes ≡ false → list_any test (take i changes) ≡ false
none_of_first test zero changes none = refl
none_of_first test (suc i) [] none = refl
none_of_first test (suc i) (c ∷ changes) none = go (test c) none (none_of_first test i changes)
  where
    go : (b : Bool) → (b || list_any test changes) ≡ false → (list_any test changes ≡ false → list_any test (take i changes) ≡ false)
        → (b || list_any test (take i changes)) ≡ false
    go true n more = n
    go false n more = more n

pub same_others : (changes : List Change) (i : ℕ) (o : Option Opid) (old now new : Holders) → ArePut (take i changes) o old now → SameHolders now new
    → SameOthers changes old new
same_others changes i o old now new before same d none =
    same d ∙ (before d ∙ ap (λ (b : Bool). cond b o (held_by old d)) (none_of_first (same_key d) i changes none))

-- what holds anyway holds on an error
pub on_any_err : {A E P : Type 0} (result : Result A E) → P → OnErr result P
on_any_err (Ok a) p = tt
on_any_err (Err e) p = p
