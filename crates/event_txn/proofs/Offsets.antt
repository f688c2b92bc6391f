-- An event's offset is seen through its low 32 bits alone, so it may be counted in 64.
use Rattle.std.proofs.Common.{◌≡◌, ℕ, ◌+◌, ◌%◌, ◌^◌, List, refl, arith}
use Rattle.event_frame.specs.Events.{event_at, word_in}

pub wrapped : (bytes : List ℕ) (n : ℕ) → event_at bytes (n % 2 ^ 64) ≡ event_at bytes n
unfolding event_at
wrapped bytes n = let e : (n % 2 ^ 64 + word_in bytes 9) % 2 ^ 32 ≡ (n + word_in bytes 9) % 2 ^ 32 = omega arith in rw e refl
