-- A restart that was cut has done nothing or dropped the pairs that its log lacks: it is one action at most.
use Rattle.std.proofs.Common.{◌≡◌, ℕ, [], ◌∷◌, List, refl, suc, take, zero}
use Rattle.ring_types.specs.declared.entries.Opid.{Opid}
use Rattle.ring_model.specs.declared.effects.Action.TheVariants as action
use Rattle.ring_model.specs.declared.nodes.Durable.{Durable}
use Rattle.ring_model.specs.Actions.{all_done, done}
use Rattle.ring_model.specs.Nodes.{stray_opids}
use Rattle.ring_model.specs.Worlds.{restart_actions}

-- what holds before a restart and after its drop holds wherever it was cut
pub partly : (P : Durable → Type 0) (d : Durable) → P d → ((opids : List Opid) → stray_opids d ≡ opids → P (done d (action.DropPairs opids))) → (count : ℕ)
    → P (all_done d (take count (restart_actions d)))
partly P d before after count = go (stray_opids d) refl count
  where
    go : (o : List Opid) → stray_opids d ≡ o → (n : ℕ) → P (all_done d (take n (elim o [ [] ↦ [] | o ∷ opids ↦ action.DropPairs (o ∷ opids) ∷ [] ])))
    go [] is zero = before
    go [] is (suc n) = before
    go (o ∷ opids) is zero = before
    go (o ∷ opids) is (suc zero) = after (o ∷ opids) is
    go (o ∷ opids) is (suc (suc n)) = after (o ∷ opids) is
