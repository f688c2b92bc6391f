-- Lists of bytes under writes.
use Rattle.std.proofs.Common.{rules, ◌≡◌, ℕ, ◌+◌, List, ◌++◌, length, take, drop, arith}
use Rattle.std.proofs.lemmas.List.{same_lists, places}
use Rattle.edge_traits.specs.FileStates.{written}
use Rattle.disk_memory.specs.Records.{filled}

pub overwritten : (old : List ℕ) (at : ℕ) (bytes : List ℕ) → take at (filled old (at + length bytes)) ++ bytes ++ drop (at + length bytes)
    (filled old (at + length bytes)) ≡ written at bytes old
overwritten old at bytes = same_lists _ _ (search (rules, places)) (λ k d h. grind (arith, places))
