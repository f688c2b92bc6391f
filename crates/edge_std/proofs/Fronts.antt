use Rattle.std.proofs.Common.{◌≡◌, ℕ, ◌<◌, ◌≤◌, List, length, take, arith}
use Rattle.std.proofs.lemmas.List.{length-take, take_all}

-- a front that is shorter than was asked for is the whole
pub short_front : (xs : List ℕ) (most : ℕ) → length (take most xs) < most → take most xs ≡ xs
short_front xs most short = let long = length-take most xs in take_all most xs (omega arith)

-- the whole is as long as any front
pub long_front : (xs : List ℕ) (most : ℕ) → length (take most xs) ≤ length xs
long_front xs most = let long = length-take most xs in omega arith
