-- What may stand as a name, and when a list names something twice.
use Rattle.std.specs.Prelude.{ℕ, ◌==◌, Bool, false, ◌&&◌, ◌||◌, List, [], ◌∷◌, length, nat_le, bytes_eq}
use Rattle.std.specs.List.{list_any, list_all}
use Rattle.ring_types.specs.declared.limits.TheConstants.{ADDRESS_BYTES, NAME_BYTES}

-- an ASCII letter, a digit or an underscore
abbrev pub is_name_byte : ℕ → Bool
is_name_byte b = (nat_le 97 b && nat_le b 122) || (nat_le 65 b && nat_le b 90) || (nat_le 48 b && nat_le b 57) || (b == 95)

-- ASCII letters, digits and underscores: at least one, and no more than a name may have
abbrev pub is_name : List ℕ → Bool
is_name text = nat_le 1 (length text) && nat_le (length text) NAME_BYTES && list_all is_name_byte text

-- at least one byte, and no more than an address may have
abbrev pub is_address : List ℕ → Bool
is_address text = nat_le 1 (length text) && nat_le (length text) ADDRESS_BYTES

-- some number comes twice
abbrev pub has_twice : List ℕ → Bool
has_twice [] = false
has_twice (x ∷ xs) = list_any (λ y. y == x) xs || has_twice xs

-- some text comes twice
abbrev pub has_text_twice : List (List ℕ) → Bool
has_text_twice [] = false
has_text_twice (x ∷ xs) = list_any (λ y. bytes_eq y x) xs || has_text_twice xs
