-- Decimal numbers without leading zeros.
use Rattle.std.specs.Prelude.{ℕ, ◌+◌, ◌-◌, ◌*◌, ◌^◌, ◌==◌, Bool, false, not, ◌&&◌, ◌||◌, [], ◌∷◌, length, nat_lt, nat_le, if◌then◌else◌, Option, Some, None, ℤ, pos, neg_ℤ}
use Rattle.std.specs.List.{list_all}
use Rattle.schedule_text.specs.Cutting.{Word}
use Rattle.schedule_text.specs.Reading.{◌>>=◌, provided}

abbrev pub is_digit : ℕ → Bool
is_digit b = nat_le 48 b && nat_le b 57

-- one digit or more, of which the first is not 0 where others follow
abbrev pub is_decimal : Word → Bool
is_decimal [] = false
is_decimal (b ∷ bs) = list_all is_digit (b ∷ bs) && (not (b == 48) || length bs == 0)

-- the number whose digits are those of n and then these
abbrev pub number_after : ℕ → Word → ℕ
number_after n [] = n
number_after n (d ∷ ds) = number_after (n * 10 + (d - 48)) ds

-- a number of at most 2^64 - 1
unfoldable pub number_of : Word → Option ℕ
number_of word = if is_decimal word && nat_lt (number_after 0 word) (2 ^ 64) then Some (number_after 0 word) else None

-- the number of a node
unfoldable pub node_of : Word → Option ℕ
node_of word = do
  n ← number_of word
  within ← provided (nat_lt n (2 ^ 32))
  Some n

-- the number of a disk call, from 1
unfoldable pub call_of : Word → Option ℕ
call_of word = do
  n ← number_of word
  within ← provided (nat_lt 0 n)
  Some n

-- the digits after a minus: from 1 to 2^63
unfoldable pub negative_of : Word → Option ℤ
negative_of digits = do
  n ← number_of digits
  within ← provided (nat_lt 0 n && nat_le n (2 ^ 63))
  Some (neg_ℤ (pos n))

-- digits without a sign: to 2^63 - 1
unfoldable pub natural_of : Word → Option ℤ
natural_of digits = do
  n ← number_of digits
  within ← provided (nat_lt n (2 ^ 63))
  Some (pos n)

-- a signed number of 64 bits
unfoldable pub integer_of : Word → Option ℤ
integer_of [] = None
integer_of (b ∷ bs) = if b == 45 then negative_of bs else natural_of (b ∷ bs)
