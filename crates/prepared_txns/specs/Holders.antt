-- The map from table and key to the opid of the holder, and when it stands for a list of pairs. Only private contracts cite this.
use Rattle.std.specs.Prelude.{◌≡◌, ℕ, suc, true, false, List, [], ◌∷◌, map, filter, bytes_eq, if◌then◌else◌, option_to_list, Option, Some, None}
use Rattle.std.specs.List.{list_any}
use Rattle.std.specs.Option.{option_map_or}
use Rattle.std.specs.BTreeMap.{BTreeMap}
use Rattle.std.specs.Map.{lookup}
use Rattle.ring_types.specs.declared.entries.Conflict.{Conflict}
use Rattle.ring_types.specs.declared.entries.Opid.{Opid}
use Rattle.ring_types.specs.declared.entries.Pair.{Pair}
use Rattle.ring_types.specs.declared.values.Change.{Change}
use Rattle.ring_types.specs.declared.values.Value.{Value}
use Rattle.ring_types.specs.Rows.{table_name, change_key, same_value}
use Rattle.ring_model.specs.Actions.{same_key, writes_key}

-- the holders of one table's keys
abbrev pub Keys : Type 0
Keys = BTreeMap Value Opid

-- the holders by table and key
abbrev pub Holders : Type 0
Holders = BTreeMap (List ℕ) Keys

abbrev pub held_in : Value → Option Keys → Option Opid
held_in key keys = option_map_or (λ (k : Keys). lookup (same_value key) k.entries) keys None

-- the holder of the key that a change names
abbrev pub held_by : Holders → Change → Option Opid
held_by holders c = held_in (change_key c) (lookup (bytes_eq (table_name c)) holders.entries)

-- the first change whose key is held; changes are counted from this number on
abbrev pub first_conflict : ℕ → Holders → List Change → Option Conflict
first_conflict n holders [] = None
first_conflict n holders (c ∷ changes) =
    elim (held_by holders c) [ Some o ↦ Some (record { change = n; holder = o }) | None ↦ first_conflict (suc n) holders changes ]

-- ---- one key gets or loses its holder, and the others keep theirs
abbrev pub IsPutAt : Value → Option Opid → Keys → Keys → Type 0
IsPutAt key holder old new = (k : Value) → lookup (same_value k) new.entries ≡ (if same_value k key then holder else lookup (same_value k) old.entries)

abbrev pub IsPut : Change → Option Opid → Holders → Holders → Type 0
IsPut c holder old new = (d : Change) → held_by new d ≡ (if same_key d c then holder else held_by old d)

-- the keys of all these changes
abbrev pub ArePut : List Change → Option Opid → Holders → Holders → Type 0
ArePut changes holder old new = (d : Change) → held_by new d ≡ (if list_any (same_key d) changes then holder else held_by old d)

abbrev pub SameHolders : Holders → Holders → Type 0
SameHolders old new = (d : Change) → held_by new d ≡ held_by old d

-- keys that none of these changes names keep their holders
abbrev pub SameOthers : List Change → Holders → Holders → Type 0
SameOthers changes old new = (d : Change) → list_any (same_key d) changes ≡ false → held_by new d ≡ held_by old d

-- nobody holds a key of these changes
abbrev pub AreFree : List Change → Holders → Type 0
AreFree changes holders = (d : Change) → list_any (same_key d) changes ≡ true → held_by holders d ≡ None

-- ---- the map stands for the pairs
-- of each key, the pairs that write it are none, where the map has no holder, or one, and that is the holder: so no two pairs write one key
abbrev pub AreHeld : List Pair → Holders → Type 0
AreHeld pairs holders = (c : Change) → map (λ (p : Pair). p.opid) (filter (writes_key c) pairs) ≡ option_to_list (held_by holders c)
