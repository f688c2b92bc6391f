-- What holds of the events that stand around transactions: what was written is read, whatever stands behind it, and
-- what is read was written so. So none of them begins another of its type.
use Rattle.std.specs.Prelude.{◌≡◌, ℕ, ◌+◌, ◌^◌, ◌<◌, ◌≤◌, List, ◌++◌, length, take, drop, Ok}
use Rattle.event_frame.specs.Laws.{IsBytes}
use Rattle.ring_types.specs.declared.entries.Opid.{Opid}
use Rattle.ring_types.specs.declared.limits.TheConstants.{LAST_FILE}
use Rattle.event_control.specs.declared.heads.Head.{Head}
use Rattle.event_control.specs.declared.rotations.Rotation.{Rotation}
use Rattle.event_control.specs.declared.opid_events.OpidEvent.{OpidEvent}
use Rattle.event_control.specs.ControlEvents.{head, head_at, rotate_event, rotation_at, opid_event, opid_event_at}

-- ---- the head of a file

abbrev pub HeadIsRead : Type 0
HeadIsRead =
    (previous rest : List ℕ) → length previous + 23 < 2 ^ 32
    → head_at (head previous ++ rest) ≡ Ok (record { previous_at = 145; previous_len = length previous; size = length previous + 149 })

abbrev pub ReadHeadWasWritten : Type 0
ReadHeadWasWritten =
    (bytes : List ℕ) (h : Head) → IsBytes bytes → head_at bytes ≡ Ok h
    → bytes ≡ head (take h.previous_len (drop h.previous_at bytes)) ++ drop h.size bytes

-- ---- ROTATE

abbrev pub RotationIsRead : Type 0
RotationIsRead =
    (next_file at : ℕ) (rest : List ℕ) → next_file ≤ LAST_FILE
    → rotation_at (rotate_event next_file at ++ rest) at ≡ Ok (record { next_file = next_file; size = 44 })

abbrev pub ReadRotationWasWritten : Type 0
ReadRotationWasWritten =
    (bytes : List ℕ) (at : ℕ) (r : Rotation) → IsBytes bytes → rotation_at bytes at ≡ Ok r
    → (r.next_file ≤ LAST_FILE) × (bytes ≡ rotate_event r.next_file at ++ drop r.size bytes)

-- ---- the opid event

-- the kind is one of the three, and each number fits its field
pub record FitOpidEvent (kind : ℕ) (opid : Opid) (region : ℕ) : Type 0 where
  pub least : 1 ≤ kind
  pub most : kind ≤ 3
  pub term_fits : opid.term < 2 ^ 64
  pub position_fits : opid.position < 2 ^ 64
  pub region_fits : region < 2 ^ 16

abbrev pub OpidIsRead : Type 0
OpidIsRead =
    (kind : ℕ) (opid : Opid) (region at : ℕ) (rest : List ℕ) → FitOpidEvent kind opid region
    → opid_event_at (opid_event kind opid region at ++ rest) at ≡ Ok (record { kind = kind; opid = opid; region = region; size = 42 })

abbrev pub ReadOpidWasWritten : Type 0
ReadOpidWasWritten =
    (bytes : List ℕ) (at : ℕ) (e : OpidEvent) → IsBytes bytes → opid_event_at bytes at ≡ Ok e
    → FitOpidEvent e.kind e.opid e.region × (bytes ≡ opid_event e.kind e.opid e.region at ++ drop e.size bytes)
