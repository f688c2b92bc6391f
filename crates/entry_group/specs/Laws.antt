-- What holds of every group, and of the files of every log: what was written is read, whatever stands behind it, so no group begins another; two logs with equal files are equal; and each has the size that is told of it.
use Rattle.std.specs.Prelude.{◌≡◌, ℕ, ◌^◌, ◌<◌, true, List, [], ◌∷◌, ◌++◌, length, map, Ok}
use Rattle.event_frame.specs.Laws.{IsBytes}
use Rattle.event_txn.specs.Laws.{IsTxn}
use Rattle.ring_types.specs.Rings.{is_schema}
use Rattle.ring_types.specs.Sizes.{group_bytes}
use Rattle.ring_types.specs.declared.entries.Entry.{Entry}
use Rattle.ring_types.specs.declared.entries.Payload.{Payload}
use Rattle.ring_types.specs.declared.entries.Payload.TheVariants as payload
use Rattle.ring_types.specs.declared.entries.Place.{Place}
use Rattle.ring_types.specs.declared.schemas.Schema.{Schema}
use Rattle.entry_group.specs.declared.groups.EntryRead.{EntryRead}
use Rattle.entry_group.specs.Groups.{can_stand, entry_at, group, kind_of}
use Rattle.entry_group.specs.Files.{file_sizes, files, first_place, place_behind}

abbrev pub FitsPayload : Schema → Payload → Type 0
FitsPayload schema payload.NoOp = Unit {0}
FitsPayload schema payload.Rotate = Unit {0}
FitsPayload schema (payload.Txn t) = IsTxn schema t

-- an entry may stand at a place: there is room for its kind, its transaction is one of the schema's, and each number fits its field
pub record StandsAt (schema : Schema) (p : Place) (e : Entry) : Type 0 where
  pub room : can_stand schema p (kind_of e.payload) ≡ true
  pub term_fits : e.opid.term < 2 ^ 64
  pub position_fits : e.opid.position < 2 ^ 64
  pub region_fits : e.region < 2 ^ 16
  pub payload : FitsPayload schema e.payload

-- ---- groups

abbrev pub GroupIsRead : Type 0
GroupIsRead =
    (schema : Schema) (e : Entry) (p : Place) (rest : List ℕ) → StandsAt schema p e
    → entry_at schema (group schema e p ++ rest) p ≡ Ok (record { entry = e; size = length (group schema e p) })

-- the bytes begin with the group of the entry that was read
pub record IsGroupAtFront (schema : Schema) (bytes : List ℕ) (p : Place) (read : EntryRead) : Type 0 where
  pub rest : List ℕ
  pub parts : bytes ≡ group schema read.entry p ++ rest
  pub size : read.size ≡ length (group schema read.entry p)
  pub entry : StandsAt schema p read.entry

abbrev pub ReadGroupWasWritten : Type 0
ReadGroupWasWritten =
    (schema : Schema) (bytes : List ℕ) (p : Place) (read : EntryRead) → is_schema schema ≡ true → IsBytes bytes → entry_at schema bytes p ≡ Ok read
    → IsGroupAtFront schema bytes p read

abbrev pub NoGroupBeginsAnother : Type 0
NoGroupBeginsAnother =
    (schema : Schema) (a b : Entry) (p : Place) (x y : List ℕ) → StandsAt schema p a → StandsAt schema p b
    → group schema a p ++ x ≡ group schema b p ++ y → (a ≡ b) × (x ≡ y)

abbrev pub GroupHasItsSize : Type 0
GroupHasItsSize = (schema : Schema) (e : Entry) (p : Place) → StandsAt schema p e → length (group schema e p) ≡ group_bytes schema e.payload

-- ---- files

-- each of these entries, behind those before them, may stand where it comes to stand
abbrev pub AllStand : Schema → Place → List Entry → List Entry → Type 0
AllStand schema p before [] = Unit {0}
AllStand schema p before (e ∷ log) = StandsAt schema p e × AllStand schema (place_behind schema before e p) (before ++ e ∷ []) log

abbrev pub OneLogHasThem : Type 0
OneLogHasThem =
    (schema : Schema) (a b : List Entry) → AllStand schema first_place [] a → AllStand schema first_place [] b → files schema a ≡ files schema b → a ≡ b

abbrev pub FilesHaveTheirSizes : Type 0
FilesHaveTheirSizes = (schema : Schema) (log : List Entry) → AllStand schema first_place [] log → map length (files schema log) ≡ file_sizes schema log
