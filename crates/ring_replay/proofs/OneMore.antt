-- A run goes on by an event that is known and goes to its end, since the world after a run is a fold over its moves.
use Rattle.std.proofs.Common.{◌≡◌, true, List, [], ◌∷◌, ◌++◌, refl, ap, subst, sym, ◌∙◌}
use Rattle.ring_types.specs.Rings.{Layout}
use Rattle.ring_model.specs.Worlds.{Whole, WorldState, first_world, world_step}
use Rattle.ring_model.specs.Runs.{IsRun, IsRunFrom, Move, is_known, whole_moves, world, world_from}
use Rattle.ring_model.specs.declared.worlds.Event.{Event}

pub moves_join : (a b : List Event) → whole_moves (a ++ b) ≡ whole_moves a ++ whole_moves b
moves_join [] b = refl
moves_join (e ∷ a) b = ap (λ (ms : List Move). record { event = e; completion = Whole } ∷ ms) (moves_join a b)

world_on : (ring : Layout) (w : WorldState) (a b : List Move) → world_from ring w (a ++ b) ≡ world_from ring (world_from ring w a) b
world_on ring w [] b = refl
world_on ring w (m ∷ a) b = world_on ring (world_step ring w m.event m.completion) a b

run_on : (ring : Layout) (w : WorldState) (a b : List Move) → IsRunFrom ring w a → IsRunFrom ring (world_from ring w a) b → IsRunFrom ring w (a ++ b)
run_on ring w [] b x y = y
run_on ring w (m ∷ a) b x y = (x.0, x.1, run_on ring (world_step ring w m.event m.completion) a b x.2 y)

pub one_more : (ring : Layout) (before : List Event) (e : Event) → IsRun ring (whole_moves before)
    → is_known ring (world ring (whole_moves before)) e.what ≡ true → IsRun ring (whole_moves (before ++ e ∷ []))
unfolding world
one_more ring before e is known =
    subst (IsRun ring) (sym (moves_join before (e ∷ []))) (run_on ring first_world (whole_moves before) (whole_moves (e ∷ [])) is (known, tt, tt))

pub world_more : (ring : Layout) (before : List Event) (e : Event)
    → world ring (whole_moves (before ++ e ∷ [])) ≡ world_step ring (world ring (whole_moves before)) e Whole
unfolding world
world_more ring before e =
    ap (world_from ring first_world) (moves_join before (e ∷ [])) ∙ world_on ring first_world (whole_moves before) (whole_moves (e ∷ []))
