-- A table is found at its place by its name, since a built ring's schema names each table once.
use Rattle.std.proofs.Common.{◌≡◌, ℕ, zero, suc, ◌≤◌, length, Bool, true, false, ◌&&◌, ◌||◌, not, List, [], ◌∷◌, drop, map, bytes_eq, position, Option, Some, None, option_map, refl, sym, ap, ◌∙◌, arith}
use Rattle.std.specs.Prelude.{nat_le}
use Rattle.std.specs.List.{list_any}
use Rattle.std.proofs.lemmas.Bool.Decides.{nat_tests}
use Rattle.std.proofs.lemmas.Slice.Eq.{bytes_eq-Decides}
use Rattle.ring_types.specs.declared.limits.TheConstants.{MOST_TABLES}
use Rattle.ring_types.specs.declared.schemas.Schema.{Schema}
use Rattle.ring_types.specs.declared.schemas.Table.{Table}
use Rattle.ring_types.specs.Names.{has_text_twice}
use Rattle.ring_types.specs.Rings.{is_schema, schema_fits, bad_schema, bad_table}

parts : (a b c d : Bool) → (a && b && not (c || d)) ≡ true → c ≡ false
parts true true false d is = refl
parts true true true d is = absurd cc
parts true false c d is = absurd cc
parts false b c d is = absurd cc

pub names_once : (s : Schema) → is_schema s ≡ true → has_text_twice (map (λ (t : Table). t.name) s.tables) ≡ false
names_once s is = parts (schema_fits s) (nat_le (length s.tables) MOST_TABLES) (has_text_twice (map (λ (t : Table). t.name) s.tables)) (list_any bad_table s.tables) is

few : (a b c : Bool) → (a && b && c) ≡ true → b ≡ true
few true true c is = refl
few true false c is = absurd cc
few false b c is = absurd cc

-- and it has few tables
pub tables_few : (s : Schema) → is_schema s ≡ true → length s.tables ≤ MOST_TABLES
tables_few s is = let b : nat_le (length s.tables) MOST_TABLES ≡ true = few (schema_fits s) (nat_le (length s.tables) MOST_TABLES) (not (bad_schema s)) is in grind (arith, nat_tests)

none_of_two : (a b : Bool) → (a || b) ≡ false → (a ≡ false) × (b ≡ false)
none_of_two true b f = absurd (let z : true ≡ false = f in cc)
none_of_two false b f = (refl, f)

-- none of some tables has the name, so the one at a place has not
other_name : (name : List ℕ) (ts : List Table) (place : ℕ) (t : Table) (more : List Table) → list_any (λ y. bytes_eq y name) (map (λ (u : Table). u.name) ts) ≡ false
    → drop place ts ≡ t ∷ more → bytes_eq t.name name ≡ false
other_name name [] zero t more none at = absurd cc
other_name name [] (suc place) t more none at = absurd cc
other_name name (u ∷ ts) zero t more none at = let e : u ≡ t = cc in rw (← e) (none_of_two _ _ none).0
other_name name (u ∷ ts) (suc place) t more none at = other_name name ts place t more (none_of_two _ _ none).1 at

turned : (a b : List ℕ) (r : Bool) → bytes_eq b a ≡ r → bytes_eq a b ≡ false → bytes_eq b a ≡ false
turned a b false is not_same = is
turned a b true is not_same = absurd (let t = (bytes_eq-Decides a b).1 (sym ((bytes_eq-Decides b a).0 is)) in cc)

first_place : (p : Table → Bool) (u : Table) (ts : List Table) → p u ≡ true → position p (u ∷ ts) ≡ Some 0
first_place p u ts is = grind (arith, nat_tests)

later_place : (p : Table → Bool) (u : Table) (ts : List Table) → p u ≡ false → position p (u ∷ ts) ≡ option_map suc (position p ts)
later_place p u ts is = grind (arith, nat_tests)

pub named_at : (ts : List Table) (place : ℕ) (t : Table) (more : List Table) → has_text_twice (map (λ (u : Table). u.name) ts) ≡ false → drop place ts ≡ t ∷ more
    → position (λ (u : Table). bytes_eq u.name t.name) ts ≡ Some place
named_at [] zero t more once at = absurd cc
named_at [] (suc place) t more once at = absurd cc
named_at (u ∷ ts) zero t more once at =
    let e : u ≡ t = cc in
    first_place (λ (w : Table). bytes_eq w.name t.name) u ts ((bytes_eq-Decides u.name t.name).1 (ap (λ (w : Table). w.name) e))
named_at (u ∷ ts) (suc place) t more once at =
    let both = none_of_two _ _ once in
    let apart = turned t.name u.name (bytes_eq u.name t.name) refl (other_name u.name ts place t more both.0 at) in
    later_place (λ (w : Table). bytes_eq w.name t.name) u ts apart ∙ ap (option_map suc) (named_at ts place t more both.1 at)
