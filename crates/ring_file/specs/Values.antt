-- What each kind of value in the document stands for, where it is in its range.
use Rattle.std.specs.Prelude.{ℕ, ℤ, pos, negsuc, ◌&&◌, Bool, true, List, [], ◌∷◌, codes, bytes_eq, nat_le, if◌then◌else◌, Option, Some, None, option_map, option_and_then, is_some}
use Rattle.std.specs.Int.{from_be_bytes, w128}
use Rattle.toml.specs.Data.{Data, Items, no_items, item, as_str, as_integer, as_array, as_table}
use Rattle.uuid.specs.Text.{parsed}
use Rattle.ring_types.specs.Names.{is_name, is_address}
use Rattle.ring_types.specs.declared.members.Kind.{Kind}
use Rattle.ring_types.specs.declared.members.Kind.TheVariants.{Full, Tailer, Learner}

-- a text that passes the test
abbrev pub text_if : (List ℕ → Bool) → List ℕ → Option (List ℕ)
text_if fits text = if fits text then Some text else None

abbrev pub name_in : Data → Option (List ℕ)
name_in value = option_and_then (text_if is_name) (as_str value)

abbrev pub address_in : Data → Option (List ℕ)
address_in value = option_and_then (text_if is_address) (as_str value)

-- an integer from `low` to `high`
abbrev pub between : ℕ → ℕ → ℤ → Option ℕ
between low high (pos n) = if nat_le low n && nat_le n high then Some n else None
between low high (negsuc n) = None

abbrev pub number_in : ℕ → ℕ → Data → Option ℕ
number_in low high value = option_and_then (between low high) (as_integer value)

abbrev pub kind_named : List ℕ → Option Kind
kind_named word =
    if bytes_eq word (codes "full") then Some Full
    else (if bytes_eq word (codes "tailer") then Some Tailer
    else (if bytes_eq word (codes "learner") then Some Learner
    else None))

abbrev pub kind_in : Data → Option Kind
kind_in value = option_and_then kind_named (as_str value)

-- a uuid, as the number that its bytes write with the big end first
abbrev pub uuid_of : List ℕ → Option ℕ
uuid_of text = option_map (from_be_bytes w128) (parsed text)

abbrev pub server_in : Data → Option ℕ
server_in value = option_and_then uuid_of (as_str value)

-- what the items stand for, where each is in its range
abbrev pub each : {A : Type 0} → (Data → Option A) → Items → Option (List A)
each reads no_items = Some []
each reads (item value rest) = option_and_then (λ x. option_map (λ xs. x ∷ xs) (each reads rest)) (reads value)

abbrev pub array_in : {A : Type 0} → (Data → Option A) → Data → Option (List A)
array_in reads value = option_and_then (each reads) (as_array value)

-- each item is a table
abbrev pub are_tables : Items → Bool
are_tables no_items = true
are_tables (item value rest) = is_some (as_table value) && are_tables rest

abbrev pub if_tables : Items → Option Items
if_tables items = if are_tables items then Some items else None

-- an array of tables; an array that holds anything else is none
abbrev pub tables_in : Data → Option Items
tables_in value = option_and_then if_tables (as_array value)
