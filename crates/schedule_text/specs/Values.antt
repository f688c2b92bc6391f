-- Values of a row: null, an integer, or a text in quotes.
use Rattle.std.specs.Prelude.{◌≡◌, ℕ, ◌+◌, ◌-◌, ◌*◌, ◌==◌, Bool, ◌&&◌, ◌||◌, List, [], ◌∷◌, length, nat_lt, nat_le, bytes_eq, codes, if◌then◌else◌, Option, Some, None, Result, Ok, Err}
use Rattle.std.specs.Borrow.{Bor}
use Rattle.std.specs.Option.{option_map}
use Rattle.std.specs.Str.{is_utf8}
use Rattle.ring_types.specs.declared.values.Value.{Value}
use Rattle.ring_types.specs.declared.values.Value.TheVariants as value
use Rattle.schedule_text.specs.declared.faults.LineError.{LineError}
use Rattle.schedule_text.specs.Cutting.{Word}
use Rattle.schedule_text.specs.Numbers.{is_digit, integer_of}
use Rattle.schedule_text.specs.Reading.{◌>>=◌, provided, Fails}

-- a byte that a text writes as `\x` and two digits: below U+0020, U+007F, the quote and the backslash
abbrev pub is_escaped : ℕ → Bool
is_escaped b = nat_lt b 32 || b == 127 || b == 39 || b == 92

-- a lower-case hexadecimal digit
abbrev pub hex_of : ℕ → Option ℕ
hex_of b = if is_digit b then Some (b - 48) else (if nat_le 97 b && nat_le b 102 then Some (b - 87) else None)

-- the byte that `x` and two digits behind a backslash stand for; it must be one that is escaped
unfoldable pub escape_of : ℕ → ℕ → ℕ → Option ℕ
escape_of x high low = do
  begun ← provided (x == 120)
  h ← hex_of high
  l ← hex_of low
  needed ← provided (is_escaped (h * 16 + l))
  Some (h * 16 + l)

-- b, and then what is read of the rest
abbrev pub onto : Option ℕ → Option (List ℕ) → Option (List ℕ)
onto None more = None
onto (Some b) None = None
onto (Some b) (Some bs) = Some (b ∷ bs)

-- a byte that stands for itself and then `more`, what is read of the rest; or the closing quote, behind which nothing stands
abbrev pub plain : ℕ → List ℕ → Option (List ℕ) → Option (List ℕ)
plain b rest more =
    if b == 39 then (if length rest == 0 then Some [] else None)
    else (if is_escaped b then None else onto (Some b) more)

-- the bytes of a text, read behind its opening quote
abbrev pub bytes_of : List ℕ → Option (List ℕ)
bytes_of [] = None
bytes_of (b ∷ x ∷ high ∷ low ∷ rest) =
    if b == 92 then onto (escape_of x high low) (bytes_of rest)
    else plain b (x ∷ high ∷ low ∷ rest) (bytes_of (x ∷ high ∷ low ∷ rest))
bytes_of (b ∷ rest) = plain b rest (bytes_of rest)

-- what was read from the front of a text: nothing where it ends there, or a byte and what stands behind it
abbrev pub Begins : Result (Option (ℕ × Bor (List ℕ))) LineError → List ℕ → Type 0
Begins (Ok None) bytes = bytes_of bytes ≡ Some []
Begins (Ok (Some x)) bytes = bytes_of bytes ≡ onto (Some x.0) (bytes_of x.1.now)
Begins (Err e) bytes = Fails e (bytes_of bytes)

-- a text is UTF-8, as its line is
abbrev pub utf8_of : List ℕ → Option (List ℕ)
utf8_of bytes = if is_utf8 bytes then Some bytes else None

unfoldable pub text_of : List ℕ → Option (List ℕ)
text_of quoted = bytes_of quoted >>= utf8_of

unfoldable pub value_of : Word → Option Value
value_of [] = None
value_of (b ∷ bs) =
    if b == 39 then option_map value.Text (text_of bs)
    else (if bytes_eq (b ∷ bs) (codes "null") then Some value.Null
    else option_map value.Int (integer_of (b ∷ bs)))
