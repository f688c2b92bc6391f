-- Which change decides the row of a key: the last that names the table and the key.
use Rattle.std.specs.Prelude.{ℕ, Bool, ◌&&◌, List, [], Option, None, Some, bytes_eq, find, reverse, if◌then◌else◌}
use Rattle.std.specs.List.{flat_map}
use Rattle.std.specs.Option.{option_map_or}
use Rattle.ring_types.specs.declared.entries.Entry.{Entry}
use Rattle.ring_types.specs.declared.entries.Payload.{Payload}
use Rattle.ring_types.specs.declared.entries.Payload.TheVariants as payload
use Rattle.ring_types.specs.declared.values.Change.{Change}
use Rattle.ring_types.specs.declared.values.Change.TheVariants.{Insert, Update, Delete}
use Rattle.ring_types.specs.declared.values.RowRefusal.{RowRefusal}
use Rattle.ring_types.specs.declared.values.RowRefusal.TheVariants.{KeyExists, NoKey}
use Rattle.ring_types.specs.declared.values.Value.{Value}
use Rattle.ring_types.specs.Rows.{change_key, same_value, table_name}

-- the change is of this key in the table of this name
abbrev pub names : List ℕ → Value → Change → Bool
names table key c = bytes_eq (table_name c) table && same_value (change_key c) key

-- the last of the changes that names this table and key
abbrev pub last_change : List ℕ → Value → List Change → Option Change
last_change table key changes = find (names table key) (reverse changes)

-- the row that a change leaves at its key
abbrev pub row_left : Change → Option (List Value)
row_left (Insert table row) = Some row
row_left (Update table row) = Some row
row_left (Delete table key) = None

-- the row at a key after changes of which this is the last that names it, where `before` stood there before them all
abbrev pub row_after : Option Change → Option (List Value) → Option (List Value)
row_after last before = option_map_or row_left last before

abbrev pub changes_in : Payload → List Change
changes_in payload.NoOp = []
changes_in payload.Rotate = []
changes_in (payload.Txn t) = t.changes

-- the changes of all transactions of a log, in order
abbrev pub changes_of : List Entry → List Change
changes_of log = flat_map (λ (e : Entry). changes_in e.payload) log

-- (for private contracts alone) why the key of a change is refused, where its table has a row of that key or not
abbrev pub refused_key : Bool → Change → Option RowRefusal
refused_key there (Insert table row) = if there then Some KeyExists else None
refused_key there (Update table row) = if there then None else Some NoKey
refused_key there (Delete table key) = if there then None else Some NoKey
