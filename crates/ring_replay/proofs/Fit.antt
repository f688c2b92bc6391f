-- A held replay shows the world after a run, so what the laws of runs say of that world's nodes and messages holds of what it shows.
use Rattle.std.proofs.Common.{◌≡◌, ℕ, true, List, map, Option, None, Some, IfSome, option_map, refl, subst, sym, ap, ◌∙◌, arith}
use Rattle.std.specs.Prelude.{slice_get}
use Rattle.std.specs.List.{Contains}
use Rattle.std.proofs.lemmas.Bool.Decides.{nat_tests}
use Rattle.std.proofs.lemmas.Option.{slice_get-map}
use Rattle.ring_types.specs.declared.members.Member.{Member}
use Rattle.ring_types.specs.Rings.{Layout}
use Rattle.ring_model.specs.Runs.{is_whole_input, whole_moves, world}
use Rattle.ring_model.specs.Worlds.{WorldState, message_at, shown, shown_node}
use Rattle.ring_model.specs.declared.messages.Input.{Input}
use Rattle.ring_model.specs.declared.messages.Input.TheVariants as input
use Rattle.ring_model.specs.declared.messages.Message.{Message}
use Rattle.ring_model.specs.declared.nodes.Soft.{Soft}
use Rattle.ring_model.specs.declared.worlds.Shown.{Shown}
use Rattle.ring_model.specs.declared.worlds.World.{World}
use Rattle.ring_model.proofs.Events.{in_number}
use Rattle.ring_lawful.specs.EachStep.{IsFitNode, IsGood}
use Rattle.ring_lawful.proofs.Carry.{IsFit, always_fits}
use Rattle.node_unit.specs.Units.{IsFitShown}
use Rattle.ring_replay.specs.Fit.{IsFitWorld}
use Rattle.ring_replay.specs.Replays.{ReplayState, IsHeld}

-- what stands at a place of a list of images is an image
image_at : {X Y : Type 0} (f : X → Y) (xs : List X) (place : ℕ) (y : Y) → slice_get (map f xs) place ≡ Some y → (x : X) × (f x ≡ y)
image_at f xs place y is = go f y (slice_get xs place) (sym (slice_get-map f xs place) ∙ is)
  where
    go : {X Y : Type 0} (f : X → Y) (y : Y) (o : Option X) → option_map f o ≡ Some y → (x : X) × (f x ≡ y)
    go f y None is = absurd cc
    go f y (Some x) is = (x, cc)

-- ---- the world of a run
node_fits : (ring : Layout) (w : WorldState) (m : Member) → IsFit ring w → IsFitShown ring (shown_node w m)
node_fits ring w m x = record { part = x.nodes m.id; node = go (w.nodes m.id).soft refl }
  where
    go : (o : Option Soft) → (w.nodes m.id).soft ≡ o → IfSome o (IsFitNode ring m.id (w.nodes m.id).durable)
    go None is = tt
    go (Some s) is = x.running m.id s is

world_fits : (ring : Layout) (w : WorldState) → IsFit ring w → IsFitWorld ring (shown ring w)
unfolding shown
world_fits ring w x = record {
  nodes = λ place s at. let y = image_at (shown_node w) ring.members place s at in subst (IsFitShown ring) y.1 (node_fits ring w y.0 x);
  messages = x.messages;
}

pub held_fits : (ring : Layout) (r : ReplayState) → IsHeld ring r → IsFitWorld ring r.world
held_fits ring r held =
    let w = world ring (whole_moves held.events) in
    subst (IsFitWorld ring) (sym held.world) (world_fits ring w (always_fits ring (whole_moves held.events) held.runs))

-- ---- a world that is fit
pub fit_at : (ring : Layout) (v : World) (place : ℕ) (s : Shown) → IsFitWorld ring v → slice_get v.nodes place ≡ Some s → IsFitShown ring s
fit_at ring v place s fit at = fit.nodes place s at

-- a message of the list is a good input
pub sent_is_good : (ring : Layout) (v : World) (number : ℕ) (m : Message) → IsFitWorld ring v → message_at v.messages number ≡ Some m
    → IsGood ring (input.Deliver m)
sent_is_good ring v number m fit at = fit.messages m (in_number v.messages number m at)

-- where a cursor moves, nodes and messages stay
pub fit_moved : (ring : Layout) (v n : World) → IsFitWorld ring v → n.nodes ≡ v.nodes → n.messages ≡ v.messages → IsFitWorld ring n
fit_moved ring v n fit nodes messages = record {
  nodes = λ place s at. fit.nodes place s (ap (λ (ss : List Shown). slice_get ss place) (sym nodes) ∙ at);
  messages = λ m in_m. fit.messages m (subst (λ (ms : List Message). Contains ms m) messages in_m);
}

-- an input that is no message, and has a change if it is a write, is good
pub whole_is_good : (ring : Layout) (i : Input) → is_whole_input i ≡ true → ((m : Message) → i ≡ input.Deliver m → ⊥) → IsGood ring i
whole_is_good ring input.Elect whole other = tt
whole_is_good ring input.Beat whole other = tt
whole_is_good ring (input.Deliver m) whole other = absurd (other m refl)
whole_is_good ring (input.Write client changes) whole other = grind (arith, nat_tests, whole)
whole_is_good ring (input.Rotate client) whole other = tt
whole_is_good ring (input.Transfer client target) whole other = tt
whole_is_good ring (input.Cancel client) whole other = tt
