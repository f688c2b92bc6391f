-- No kept vote is of a term above the node's, so without a vote in the node's term all are of earlier terms.
use Rattle.std.proofs.Common.{◌≡◌, ℕ, zero, suc, ◌<◌, ◌==◌, Bool, true, false, cond, List, [], ◌∷◌, Option, Some, None, refl, arith}
use Rattle.std.specs.Prelude.{nat_le}
use Rattle.std.specs.List.{All, list_all}
use Rattle.std.proofs.lemmas.Bool.{and_parts}
use Rattle.std.proofs.lemmas.Bool.Decides.{nat_tests}
use Rattle.ring_types.specs.declared.entries.Vote.{Vote}
use Rattle.ring_model.specs.Actions.{vote_in}

other_term : (v : Vote) (votes : List Vote) (term : ℕ) → vote_in (v ∷ votes) term ≡ None
    → ((v.term == term) ≡ false) × (vote_in votes term ≡ None)
other_term v votes term none = go (v.term == term) refl none
  where
    go : (b : Bool) → (v.term == term) ≡ b → ◌≡◌ {A = Option Vote} (cond b (Some v) (vote_in votes term)) None
        → ((v.term == term) ≡ false) × (vote_in votes term ≡ None)
    go true is none = absurd cc
    go false is none = (is, none)

pub earlier : (votes : List Vote) (term : ℕ) → list_all (λ (v : Vote). nat_le v.term term) votes ≡ true → vote_in votes term ≡ None
    → All (λ (v : Vote). v.term < term) votes
earlier [] term low none k d lt = absurd (omega arith)
earlier (v ∷ votes) term low none zero d lt =
    let below = (and_parts (nat_le v.term term) (list_all (λ (v : Vote). nat_le v.term term) votes) low).0 in
    let other = (other_term v votes term none).0 in
    grind (arith, nat_tests, below, other)
earlier (v ∷ votes) term low none (suc k) d lt =
    let more = (and_parts (nat_le v.term term) (list_all (λ (v : Vote). nat_le v.term term) votes) low).1 in
    earlier votes term more (other_term v votes term none).1 k d (omega arith)
