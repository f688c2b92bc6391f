-- An event's offset counts only by its low 32 bits, since the position in its header has no more.
use Rattle.std.proofs.Common.{◌≡◌, ℕ, ◌+◌, ◌%◌, ◌^◌, List, length, refl, arith}
use Rattle.event_frame.specs.Events.{event, event_at, word_in}

same_position : (at low size : ℕ) → at % 2 ^ 32 ≡ low % 2 ^ 32 → (at + size) % 2 ^ 32 ≡ (low + size) % 2 ^ 32
same_position at low size h = omega (arith, h)

pub event_wraps : (kind flags at low : ℕ) (body : List ℕ) → at % 2 ^ 32 ≡ low % 2 ^ 32 → event kind flags body at ≡ event kind flags body low
unfolding event
event_wraps kind flags at low body h = rw (same_position at low (length body + 23) h) refl

pub event_at_wraps : (bytes : List ℕ) (at low : ℕ) → at % 2 ^ 32 ≡ low % 2 ^ 32 → event_at bytes at ≡ event_at bytes low
unfolding event_at
event_at_wraps bytes at low h = rw (same_position at low (word_in bytes 9) h) refl
