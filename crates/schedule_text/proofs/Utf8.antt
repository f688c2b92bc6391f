-- The test for UTF-8 against the fact, and names, which are ASCII.
use Rattle.std.proofs.Common.{◌≡◌, ℕ, zero, suc, ◌<◌, Bool, true, false, ◌&&◌, List, [], ◌∷◌, get_or, refl, arith}
use Rattle.std.specs.List.{list_all}
use Rattle.std.specs.Str.{is_utf8, IsUtf8}
use Rattle.std.proofs.lemmas.Bool.Decides.{nat_tests}
use Rattle.std.proofs.lemmas.Str.{IsUtf8-from_is_utf8, is_utf8-from_IsUtf8, IsUtf8-from_ascii}
use Rattle.ring_types.specs.Names.{is_name_byte, is_name}

not_true : (b : Bool) → (b ≡ true → ⊥) → b ≡ false
not_true true h = absurd (h refl)
not_true false h = refl

pub not_utf8 : (bs : List ℕ) → (IsUtf8 bs → ⊥) → is_utf8 bs ≡ false
not_utf8 bs h = not_true (is_utf8 bs) (λ e. h (IsUtf8-from_is_utf8 bs e))

both : (a b : Bool) → (a && b) ≡ true → (a ≡ true) × (b ≡ true)
both true true e = (refl, refl)
both true false e = absurd cc
both false b e = absurd cc

name_byte : (b : ℕ) → is_name_byte b ≡ true → b < 128
name_byte b e = grind (arith, nat_tests)

names_ascii : (bs : List ℕ) → list_all is_name_byte bs ≡ true → (i : ℕ) → get_or bs i 0 < 128
names_ascii [] e i = omega arith
names_ascii (b ∷ bs) e zero = name_byte b (both (is_name_byte b) (list_all is_name_byte bs) e).0
names_ascii (b ∷ bs) e (suc i) = names_ascii bs (both (is_name_byte b) (list_all is_name_byte bs) e).1 i

-- a name is UTF-8
pub name_utf8 : (text : List ℕ) → is_name text ≡ true → is_utf8 text ≡ true
name_utf8 text e =
    let all : list_all is_name_byte text ≡ true = grind (arith, nat_tests) in
    is_utf8-from_IsUtf8 text (IsUtf8-from_ascii text (names_ascii text all))
