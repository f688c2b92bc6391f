-- The texts that declare columns: `NAME int`, or `NAME text N`.
use Rattle.std.specs.Prelude.{ℕ, ◌==◌, Bool, not, ◌&&◌, List, length, slice_index, codes, bytes_eq, nat_le, if◌then◌else◌, Option, Some, None, option_map, option_and_then}
use Rattle.std.specs.List.{list_all, before_first, after_first}
use Rattle.std.specs.Str.Parse.{digits_value}
use Rattle.toml.specs.Data.{Data, as_str}
use Rattle.ring_types.specs.Names.{is_name}
use Rattle.ring_types.specs.declared.limits.TheConstants.{TEXT_COLUMN_BYTES}
use Rattle.ring_types.specs.declared.schemas.Shape.{Shape}
use Rattle.ring_types.specs.declared.schemas.Shape.TheVariants as shape
use Rattle.ring_types.specs.declared.schemas.Column.{Column}

abbrev pub is_space : ℕ → Bool
is_space byte = byte == 32

-- what stands before the first space, or all where there is none
abbrev pub word : List ℕ → List ℕ
word text = before_first is_space text

-- what stands after it, or nothing
abbrev pub after_word : List ℕ → List ℕ
after_word text = after_first is_space text

abbrev pub is_digit : ℕ → Bool
is_digit byte = nat_le 48 byte && nat_le byte 57

-- decimal digits, of which the first is not 0
abbrev pub is_numeral : List ℕ → Bool
is_numeral text = nat_le 1 (length text) && not (slice_index text 0 == 48) && list_all is_digit text

-- what may be the limit of a text column, in bytes
abbrev pub is_limit : ℕ → Bool
is_limit n = nat_le 1 n && nat_le n TEXT_COLUMN_BYTES

abbrev pub limit_of : List ℕ → Option ℕ
limit_of text = if is_numeral text && is_limit (digits_value 10 text) then Some (digits_value 10 text) else None

-- `int`, or `text N`
abbrev pub shape_of : List ℕ → Option Shape
shape_of text =
    if bytes_eq text (codes "int") then Some shape.Int
    else (if bytes_eq (word text) (codes "text") then option_map shape.Text (limit_of (after_word text))
    else None)

abbrev pub named : List ℕ → Shape → Column
named name shape = record { name = name; shape = shape }

unfoldable pub column_of : List ℕ → Option Column
column_of text = if is_name (word text) then option_map (named (word text)) (shape_of (after_word text)) else None

abbrev pub column_in : Data → Option Column
column_in value = option_and_then column_of (as_str value)
