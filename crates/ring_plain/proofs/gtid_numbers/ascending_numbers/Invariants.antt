-- what was read so far, ascending, and none of it above the greatest
use Rattle.std.proofs.Common.{◌≡◌, ℕ, true, take, nat_le}
use Rattle.std.specs.List.{list_all}
use Rattle.ring_types.specs.Gtids as spec
use Rattle.ring_plain.proofs.gtid_numbers.ascending_numbers.Given as goal

abbrev pub invariant-loop-number : goal.invariant-loop-number
invariant-loop-number l = (l.so_far ≡ spec.ascending (take l.number-index l.numbers)) × (list_all (λ (x : ℕ). nat_le x l.greatest) l.so_far ≡ true)
