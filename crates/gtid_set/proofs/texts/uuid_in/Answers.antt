-- a piece that is refused is none that parses
use Rattle.std.proofs.Common.{◌≡◌, List, ℕ, Option, Some, None, Result, Err, IsOk, ◌↔◌, option_map, refl}
use Rattle.std.specs.Option.{unwrap_or}
use Rattle.std.proofs.lemmas.Bool.{false≢true}
use Rattle.std.specs.Int.{from_be_bytes, w128}
use Rattle.gtid_set.specs.Pieces.{uuid_in}
use Rattle.gtid_set.proofs.texts.uuid_in.Goals as goal

nothing : {E : Type 0} (p : Option (List ℕ)) (r : Result (List ℕ) E) (e : E) → (IsOk r ↔ ((u : List ℕ) × (p ≡ Some u))) → r ≡ Err e → 0 ≡ unwrap_or (option_map (from_be_bytes w128) p) 0
nothing None r e h failed = refl
nothing (Some bytes) r e h failed = absurd (false≢true (rw failed at (h.1 (bytes, refl))))

pub returns-in-Err : goal.returns-in-Err
unfolding uuid_in
returns-in-Err c = nothing _ c.try_parse_ascii.result _ c.try_parse_ascii.ensures.ok c.in-Err.is
