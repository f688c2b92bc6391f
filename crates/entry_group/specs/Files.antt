-- The files of a log: each begins with a head, has groups in order, and ends with the group of a Rotate; the last one goes on. All their bytes are a function of the entries.
use Rattle.std.specs.Prelude.{ℕ, ◌+◌, ◌-◌, ◌^◌, List, [], ◌∷◌, ◌++◌, length, min, nat_le, if◌then◌else◌}
use Rattle.event_control.specs.ControlEvents.{head}
use Rattle.event_frame.specs.declared.frames.TheConstants.{MOST_BODY_BYTES}
use Rattle.gtid_set.specs.Bytes.{set_bytes}
use Rattle.ring_types.specs.Gtids.{gtids}
use Rattle.ring_types.specs.Sizes.{group_bytes}
use Rattle.ring_types.specs.declared.entries.Entry.{Entry}
use Rattle.ring_types.specs.declared.entries.Payload.{Payload}
use Rattle.ring_types.specs.declared.entries.Payload.TheVariants as payload
use Rattle.ring_types.specs.declared.entries.Place.{Place}
use Rattle.ring_types.specs.declared.gtid_sets.ServerSet.{ServerSet}
use Rattle.ring_types.specs.declared.schemas.Schema.{Schema}
use Rattle.entry_group.specs.Groups.{group, further}

-- ---- heads

-- the bytes of a set in a head; those of the empty set where they are too many for one event
abbrev pub set_in_head : List ServerSet → List ℕ
set_in_head set = if nat_le (length (set_bytes set)) MOST_BODY_BYTES then set_bytes set else set_bytes []

-- the head of a file, where these entries stand in the files before
abbrev pub head_after : List Entry → List ℕ
head_after before = head (set_in_head (gtids before))

-- ---- places

-- where the first entry of a log begins
abbrev pub first_place : Place
first_place = record { file = 1; at = length (head_after []); sequence = 1 }

-- where the entry behind this one begins: behind its group, or behind the head of the next file
abbrev pub place_behind : Schema → List Entry → Entry → Place → Place
place_behind schema before e p = elim e.payload [
  | payload.NoOp ↦ further (length (group schema e p)) p
  | payload.Rotate ↦ record { file = p.file + 1; at = length (head_after before); sequence = 1 }
  | payload.Txn t ↦ record (further (length (group schema e p)) p) { sequence = p.sequence + 1 }
]

-- ---- files

-- a text before what is in the first file
abbrev pub onto : List ℕ → List (List ℕ) → List (List ℕ)
onto text [] = text ∷ []
onto text (f ∷ files) = (text ++ f) ∷ files

-- a group stands before what follows; that of a Rotate alone ends its file, and the next one's head stands before what follows
abbrev pub placed : Payload → List ℕ → List Entry → List (List ℕ) → List (List ℕ)
placed payload.NoOp text before rest = onto text rest
placed payload.Rotate text before rest = text ∷ onto (head_after before) rest
placed (payload.Txn t) text before rest = onto text rest

-- what entries make of the files from this place on, behind these: the rest of the current file, and the files after it
abbrev pub files_from : Schema → Place → List Entry → List Entry → List (List ℕ)
files_from schema p before [] = [] ∷ []
files_from schema p before (e ∷ log) =
    placed e.payload (group schema e p) before (files_from schema (place_behind schema before e p) (before ++ e ∷ []) log)

-- the files of a log, the first one first
unfoldable pub files : Schema → List Entry → List (List ℕ)
files schema log = onto (head_after []) (files_from schema first_place [] log)

-- ---- their sizes, without their bytes

abbrev pub head_size : List Entry → ℕ
head_size before = 149 + length (set_in_head (gtids before))

-- the current file ends behind a Rotate, and the next one begins with its head
abbrev pub sized : Payload → ℕ → ℕ → (ℕ → List ℕ) → List ℕ
sized payload.NoOp size next rest = rest size
sized payload.Rotate size next rest = size ∷ rest next
sized (payload.Txn t) size next rest = rest size

-- the size of the current file, which has so many bytes before these entries, and of the files after it
abbrev pub sizes_from : Schema → ℕ → List Entry → List Entry → List ℕ
sizes_from schema size before [] = size ∷ []
sizes_from schema size before (e ∷ log) =
    sized e.payload (size + group_bytes schema e.payload) (head_size before) (λ n. sizes_from schema n (before ++ e ∷ []) log)

unfoldable pub file_sizes : Schema → List Entry → List ℕ
file_sizes schema log = sizes_from schema (head_size []) [] log

-- a size as it is told: 2^64 - 1 where the bytes are that many or more
abbrev pub told_size : ℕ → ℕ
told_size size = min size (2 ^ 64 - 1)
