-- An event of the binary log (the MySQL manual, version 4): a header of 19 bytes, a body, a checksum of 4 bytes.
--   timestamp 4 · type 1 · server id 4 · size of the whole event 4 · offset behind it 4 · flags 2 · body · CRC-32 of all before it 4
use Rattle.std.specs.Prelude.{ℕ, ◌+◌, ◌-◌, ◌%◌, ◌^◌, ◌==◌, ◌||◌, not, List, [], ◌∷◌, ◌++◌, length, take, nat_lt, slice_index, if◌then◌else◌, Result, Ok, Err}
use Rattle.std.specs.Int.{w16, w32, to_le_bytes, from_le_bytes}
use Rattle.event_frame.specs.Checksums.{crc32}
use Rattle.event_frame.specs.declared.frames.Event.{Event}
use Rattle.event_frame.specs.declared.frames.FrameError.{FrameError}
use Rattle.event_frame.specs.declared.frames.FrameError.TheVariants.{Short, BadSize, BadHeader, BadPos, BadSum}

abbrev pub size_of : List ℕ → ℕ
size_of body = length body + 23

unfoldable pub header : ℕ → ℕ → ℕ → ℕ → List ℕ
header kind flags size behind =
    to_le_bytes w32 0 ++ (kind ∷ []) ++ to_le_bytes w32 1 ++ to_le_bytes w32 size ++ to_le_bytes w32 behind ++ to_le_bytes w16 flags

-- the header of an event at this offset, whose body has so many bytes
abbrev pub header_at : ℕ → ℕ → ℕ → ℕ → List ℕ
header_at kind flags body_size at = header kind flags (body_size + 23) ((at + (body_size + 23)) % 2 ^ 32)

-- all but the checksum
abbrev pub unsummed : ℕ → ℕ → List ℕ → ℕ → List ℕ
unsummed kind flags body at = header_at kind flags (length body) at ++ body

unfoldable pub event : ℕ → ℕ → List ℕ → ℕ → List ℕ
event kind flags body at = unsummed kind flags body at ++ to_le_bytes w32 (crc32 (unsummed kind flags body at))

-- four bytes of a list as a number
abbrev pub word_in : List ℕ → ℕ → ℕ
word_in bytes k = from_le_bytes w32 (slice_index bytes k ∷ slice_index bytes (k + 1) ∷ slice_index bytes (k + 2) ∷ slice_index bytes (k + 3) ∷ [])

-- the event at the front of the bytes, or the first refusal that holds
unfoldable pub event_at : List ℕ → ℕ → Result Event FrameError
event_at bytes at =
    if nat_lt (length bytes) 19 || nat_lt (length bytes) (word_in bytes 9) then Err Short
    else if nat_lt (word_in bytes 9) 23 then Err BadSize
    else if not (word_in bytes 0 == 0) || not (word_in bytes 5 == 1) then Err BadHeader
    else if not (word_in bytes 13 == (at + word_in bytes 9) % 2 ^ 32) then Err BadPos
    else if not (word_in bytes (word_in bytes 9 - 4) == crc32 (take (word_in bytes 9 - 4) bytes)) then Err BadSum
    else Ok (record {
      kind = slice_index bytes 4;
      flags = from_le_bytes w16 (slice_index bytes 17 ∷ slice_index bytes 18 ∷ []);
      body_at = 19;
      body_len = word_in bytes 9 - 23;
      size = word_in bytes 9;
    })
