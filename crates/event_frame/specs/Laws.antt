-- What holds of every event: what was written is read, whatever stands behind it, and what is read was written so.
use Rattle.std.specs.Prelude.{◌≡◌, ℕ, ◌+◌, ◌^◌, ◌<◌, ◌≤◌, List, ◌++◌, length, take, drop, slice_index, Ok}
use Rattle.event_frame.specs.Events.{event, event_at}
use Rattle.event_frame.specs.declared.frames.Event.{Event}

-- each number is a byte
abbrev pub IsBytes : List ℕ → Type 0
IsBytes bytes = (i : ℕ) → slice_index bytes i < 256

abbrev pub WrittenIsRead : Type 0
WrittenIsRead =
    (kind flags at : ℕ) (body rest : List ℕ) → flags < 2 ^ 16 → length body + 23 < 2 ^ 32
    → event_at (event kind flags body at ++ rest) at ≡ Ok (record { kind = kind; flags = flags; body_at = 19; body_len = length body; size = length body + 23 })

-- the bytes begin with the event of this kind, these flags and this body
pub record IsAtFront (bytes : List ℕ) (at : ℕ) (e : Event) : Type 0 where
  pub parts : bytes ≡ event e.kind e.flags (take e.body_len (drop e.body_at bytes)) at ++ drop e.size bytes
  pub body_at : e.body_at ≡ 19
  pub body_size : length (take e.body_len (drop e.body_at bytes)) ≡ e.body_len
  pub size : e.size ≡ e.body_len + 23
  pub whole : e.size ≤ length bytes

abbrev pub ReadIsAtFront : Type 0
ReadIsAtFront = (bytes : List ℕ) (at : ℕ) (e : Event) → IsBytes bytes → event_at bytes at ≡ Ok e → IsAtFront bytes at e
