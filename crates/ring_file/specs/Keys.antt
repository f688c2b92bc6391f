-- Which keys each table of the document has, which it must have, and which fault of its keys is named.
use Rattle.std.specs.Prelude.{◌≡◌, ◌⊎◌, ℕ, Bool, true, false, List, [], ◌∷◌, ◌++◌, codes, bytes_eq, if◌then◌else◌, IsSome, Option, Some, None, Result, Ok, Err, ⊤}
use Rattle.std.specs.List.{list_any}
use Rattle.std.specs.Cmp.Lexicographic.{slice_cmp}
use Rattle.std.specs.Ordering.{is_lt, nat_cmp}
use Rattle.toml.specs.Data.{Data, Members, no_members, member, get_member, members_are_sorted}
use Rattle.ring_file.specs.Faults.{◌>>=◌, place}
use Rattle.ring_file.specs.declared.faults.RingError.{RingError}
use Rattle.ring_file.specs.declared.faults.RingError.TheVariants as fault
use Rattle.ring_file.specs.declared.faults.Within.{Within}
use Rattle.ring_file.specs.declared.faults.Within.TheVariants as within

-- the keys that a table must have, in their order
abbrev pub needed_keys : Within → List (List ℕ)
needed_keys within.Top = codes "version" ∷ codes "home" ∷ codes "database" ∷ codes "regions" ∷ codes "node" ∷ []
needed_keys (within.Node number) = codes "id" ∷ codes "region" ∷ codes "kind" ∷ codes "uuid" ∷ []
needed_keys (within.Client number) = codes "id" ∷ codes "address" ∷ []
needed_keys (within.Table number) = codes "name" ∷ codes "columns" ∷ []

-- the keys that it may have beside them
abbrev pub further_keys : Within → List (List ℕ)
further_keys within.Top = codes "client" ∷ codes "table" ∷ []
further_keys (within.Node number) = codes "address" ∷ []
further_keys (within.Client number) = []
further_keys (within.Table number) = []

abbrev pub is_key : Within → List ℕ → Bool
is_key table key = list_any (bytes_eq key) (needed_keys table ++ further_keys table)

-- the first key of the table that none of its kind has
abbrev pub first_unknown : Within → Members → Option (List ℕ)
first_unknown table no_members = None
first_unknown table (member key value rest) = if is_key table key then first_unknown table rest else Some key

-- the key stands in the table, and no table of its kind has it
abbrev pub IsUnknown : Within → Members → List ℕ → Type 0
IsUnknown table ms key = IsSome (get_member key ms) × (is_key table key ≡ false)

-- the unknown key that is named is the least by its bytes, where the keys ascend (those of a `BTreeMap` do)
abbrev pub LeastIsNamed : Type 0
LeastIsNamed = (table : Within) (ms : Members) (key other : List ℕ) → members_are_sorted ms ≡ true → first_unknown table ms ≡ Some key → IsUnknown table ms other
    → (key ≡ other) ⊎ (is_lt (slice_cmp nat_cmp key other) ≡ true)

-- no key of the table is unknown
abbrev pub known_but : Within → Option (List ℕ) → Result ⊤ RingError
known_but table None = Ok tt
known_but table (Some key) = Err (fault.Unknown (place table key))

abbrev pub all_known : Within → Members → Result ⊤ RingError
all_known table ms = known_but table (first_unknown table ms)

-- the key is there
abbrev pub is_there : Within → List ℕ → Option Data → Result ⊤ RingError
is_there table key None = Err (fault.Missing (place table key))
is_there table key (Some value) = Ok tt

abbrev pub needs : Within → List ℕ → Members → Result ⊤ RingError
needs table key ms = is_there table key (get_member key ms)

-- all these keys are there
abbrev pub needs_all : Within → List (List ℕ) → Members → Result ⊤ RingError
needs_all table [] ms = Ok tt
needs_all table (key ∷ keys) ms = needs table key ms >>= (λ _. needs_all table keys ms)

-- no key is unknown, and then each that is needed is there
unfoldable pub keys_fit : Within → Members → Result ⊤ RingError
keys_fit table ms = all_known table ms >>= (λ _. needs_all table (needed_keys table) ms)
