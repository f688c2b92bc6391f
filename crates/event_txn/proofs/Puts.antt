-- A header, a body and the checksum, put one behind the other, are the event.
use Rattle.std.proofs.Common.{◌≡◌, ℕ, List, ◌++◌, length, drop, refl, ap, ◌∙◌, append_assoc}
use Rattle.std.specs.Int.{w32, to_le_bytes}
use Rattle.event_frame.specs.Checksums.{crc32}
use Rattle.event_frame.specs.Events.{event, header_at}
use Rattle.event_frame.proofs.Appended.{event_is_put}

pub event_put : (kind at : ℕ) (body old headed mid new : List ℕ) (begin size : ℕ) → begin ≡ length old → size ≡ length body
    → headed ≡ old ++ header_at kind 0 size at → mid ≡ headed ++ body → new ≡ mid ++ to_le_bytes w32 (crc32 (drop begin mid)) → new ≡ old ++ event kind 0 body at
event_put kind at body old headed mid new begin size b s h m n =
    event_is_put kind 0 at body old headed mid new begin b (h ∙ ap (λ (k : ℕ). old ++ header_at kind 0 k at) s) m n

-- six texts put one behind the other
pub six_put : (old a b c d e f p q r s t new : List ℕ) → p ≡ old ++ a → q ≡ p ++ b → r ≡ q ++ c → s ≡ r ++ d → t ≡ s ++ e → new ≡ t ++ f → new ≡ old ++ (a ++ b ++ c ++ d ++ e ++ f)
six_put old a b c d e f p q r s t new hp hq hr hs ht hn = rw (hn, ht, hs, hr, hq, hp) (simp append_assoc refl)
