-- The size in bytes of an entry's group in the binary log (the MySQL manual's events, in this project's profile).
use Rattle.std.specs.Prelude.{ℕ, ◌+◌, ◌-◌, ◌*◌, ◌/◌, ◌^◌, List, [], ◌∷◌, length, sum_by, nat_lt, nat_le, min, if◌then◌else◌}
use Rattle.std.specs.Option.{option_map_or}
use Rattle.ring_types.specs.Rows.{table_of, table_name}
use Rattle.ring_types.specs.declared.limits.TheConstants.{GROUP_BYTES}
use Rattle.ring_types.specs.declared.values.Value.{Value}
use Rattle.ring_types.specs.declared.values.Value.TheVariants as value
use Rattle.ring_types.specs.declared.values.Change.{Change}
use Rattle.ring_types.specs.declared.values.Change.TheVariants.{Insert, Update, Delete}
use Rattle.ring_types.specs.declared.entries.Payload.{Payload}
use Rattle.ring_types.specs.declared.entries.Payload.TheVariants as payload
use Rattle.ring_types.specs.declared.schemas.Shape.{Shape}
use Rattle.ring_types.specs.declared.schemas.Shape.TheVariants as shape
use Rattle.ring_types.specs.declared.schemas.Column.{Column}
use Rattle.ring_types.specs.declared.schemas.Table.{Table}
use Rattle.ring_types.specs.declared.schemas.Schema.{Schema}

-- header and checksum of any event
abbrev pub around_event : ℕ
around_event = 23

-- a packed integer in its shortest form
abbrev pub packed_size : ℕ → ℕ
packed_size n = if nat_le n 250 then 1 else (if nat_lt n (2 ^ 16) then 3 else (if nat_lt n (2 ^ 24) then 4 else 9))

-- so many bits, in whole bytes
abbrev pub bitmap_size : ℕ → ℕ
bitmap_size bits = (bits + 7) / 8

-- the metadata of a column: a text has its limit
abbrev pub metadata_size : Shape → ℕ
metadata_size shape.Int = 0
metadata_size (shape.Text limit) = 2

abbrev pub all_metadata : Table → ℕ
all_metadata t = sum_by (λ (c : Column). metadata_size c.shape) t.columns

-- the event that describes the table before its rows
abbrev pub table_map_size : Schema → Table → ℕ
table_map_size schema t =
    around_event + 8 + (2 + length schema.database) + (2 + length t.name)
    + packed_size (length t.columns) + length t.columns
    + packed_size (all_metadata t) + all_metadata t + bitmap_size (length t.columns)

-- a text is led by its length, in one byte where the limit is below 256
abbrev pub value_size : Shape → Value → ℕ
value_size s value.Null = 0
value_size s (value.Int n) = 8
value_size shape.Int (value.Text t) = 0
value_size (shape.Text limit) (value.Text t) = (if nat_lt limit 256 then 1 else 2) + length t

abbrev pub values_size : List Column → List Value → ℕ
values_size [] row = 0
values_size (c ∷ columns) [] = 0
values_size (c ∷ columns) (v ∷ row) = value_size c.shape v + values_size columns row

-- a row image: one bit per column that is present, then the values that are not Null
abbrev pub image_size : List Column → List Value → ℕ
image_size columns row = bitmap_size (length row) + values_size columns row

-- the rows event without its bitmaps of present columns and its images
abbrev pub rows_head : Table → ℕ
rows_head t = around_event + 10 + packed_size (length t.columns)

-- an insert has all columns; an update has its key before and all columns after; a delete has its key
abbrev pub rows_event_size : Table → Change → ℕ
rows_event_size t (Insert name row) = rows_head t + bitmap_size (length t.columns) + image_size t.columns row
rows_event_size t (Update name []) = 0
rows_event_size t (Update name (key ∷ row)) = rows_head t + 2 * bitmap_size (length t.columns) + image_size t.columns (key ∷ []) + image_size t.columns (key ∷ row)
rows_event_size t (Delete name key) = rows_head t + bitmap_size (length t.columns) + image_size t.columns (key ∷ [])

abbrev pub change_size : Schema → Change → ℕ
change_size schema c = option_map_or (λ (t : Table). table_map_size schema t + rows_event_size t c) (table_of schema (table_name c)) 0

abbrev pub changes_size : Schema → List Change → ℕ
changes_size schema changes = sum_by (change_size schema) changes

-- the bytes of a payload's group
abbrev pub group_bytes : Schema → Payload → ℕ
group_bytes schema payload.NoOp = 42
group_bytes schema payload.Rotate = 86
group_bytes schema (payload.Txn t) = 180 + changes_size schema t.changes

-- the size that is told: 2^64 - 1 where the bytes are that many or more
abbrev pub group_size : Schema → Payload → ℕ
group_size schema p = min (group_bytes schema p) (2 ^ 64 - 1)

-- no group of a log may have more
abbrev pub group_limit : ℕ
group_limit = GROUP_BYTES
