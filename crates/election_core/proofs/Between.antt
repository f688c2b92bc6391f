-- a vote that is not above the low term, or of the high one, does not stand between the two
use Rattle.std.proofs.Common.{◌≡◌, ℕ, ◌&&◌, Bool, true, false, max, nat_lt, if◌then◌else◌, List, [], ◌∷◌, ◌++◌, refl, ap, arith}
use Rattle.std.proofs.lemmas.Bool.Decides.{nat_tests}
use Rattle.ring_types.specs.declared.entries.Vote.{Vote}
use Rattle.ring_model.specs.Actions.{votes_above}
use Rattle.ring_model.specs.Needs.{votes_between}

-- votes up to a floor are dropped, or the low term is at least the floor
pub between_above : (low high floor : ℕ) (votes : List Vote) → votes_between (max low floor) high votes ≡ votes_between low high (votes_above floor votes)
between_above low high floor [] = refl
between_above low high floor (v ∷ votes) = go (nat_lt floor v.term) refl (nat_lt low v.term) refl (nat_lt (max low floor) v.term) refl (between_above low high floor votes)
  where
    go : (a : Bool) → nat_lt floor v.term ≡ a → (b : Bool) → nat_lt low v.term ≡ b → (m : Bool) → nat_lt (max low floor) v.term ≡ m
        → votes_between (max low floor) high votes ≡ votes_between low high (votes_above floor votes)
        → (if m && nat_lt v.term high then v ∷ votes_between (max low floor) high votes else votes_between (max low floor) high votes)
        ≡ votes_between low high (if a then v ∷ votes_above floor votes else votes_above floor votes)
    go true x true y true z rest = rw y (ap (λ (vs : List Vote). if nat_lt v.term high then v ∷ vs else vs) rest)
    go true x true y false z rest = absurd (grind (arith, nat_tests))
    go true x false y true z rest = absurd (grind (arith, nat_tests))
    go true x false y false z rest = rw y rest
    go false x b y true z rest = absurd (grind (arith, nat_tests))
    go false x b y false z rest = rest

neither : (b : Bool) → (b && false) ≡ false
neither true = refl
neither false = refl

-- one more vote of the high term
pub between_vote : (low high : ℕ) (votes : List Vote) (v : Vote) → v.term ≡ high → votes_between low high (votes ++ v ∷ []) ≡ votes_between low high votes
between_vote low high [] v at =
    let no : nat_lt v.term high ≡ false = grind (arith, nat_tests) in
    rw (no, neither) refl
between_vote low high (w ∷ votes) v at = ap (λ (vs : List Vote). if nat_lt low w.term && nat_lt w.term high then w ∷ vs else vs) (between_vote low high votes v at)
