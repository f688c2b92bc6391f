-- A text that is refused is none that parses.
use Rattle.std.proofs.Common.{◌≡◌, List, ℕ, Option, Some, None, Result, Err, IsOk, ◌↔◌, option_map, refl}
use Rattle.std.proofs.lemmas.Bool.{false≢true}
use Rattle.std.specs.Int.{from_be_bytes, w128}
use Rattle.ring_file.proofs.values.uuid_of.Goals as goal

nothing : {E : Type 0} (p : Option (List ℕ)) (r : Result (List ℕ) E) (e : E) → (IsOk r ↔ ((u : List ℕ) × (p ≡ Some u))) → r ≡ Err e → None ≡ option_map (from_be_bytes w128) p
nothing None r e h failed = refl
nothing (Some bytes) r e h failed = absurd (false≢true (rw failed at (h.1 (bytes, refl))))

pub returns-in-Err : goal.returns-in-Err
returns-in-Err c = nothing _ c.parse_str.result _ c.parse_str.ensures.ok c.in-Err.is
