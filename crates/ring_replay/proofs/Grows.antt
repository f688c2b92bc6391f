-- The chosen sequence of a run only grows, so that of a held replay is kept by each event; and the turn of a node keeps it as its event does.
use Rattle.std.proofs.Common.{◌≡◌, ℕ, true, List, [], ◌∷◌, ◌++◌, length, take, refl, ap, subst, sym, ◌∙◌, arith}
use Rattle.std.proofs.lemmas.List.{take_all}
use Rattle.ring_types.specs.declared.entries.Entry.{Entry}
use Rattle.ring_types.specs.Rings.{IsRing, Layout}
use Rattle.ring_model.specs.Runs.{whole_moves, world}
use Rattle.ring_model.specs.Worlds.{WorldState, shown}
use Rattle.ring_model.specs.declared.effects.Say.{Say}
use Rattle.ring_model.specs.declared.messages.Message.{Message}
use Rattle.ring_model.specs.declared.worlds.Event.{Event}
use Rattle.ring_model.specs.declared.worlds.Shown.{Shown}
use Rattle.ring_model.specs.declared.worlds.World.{World}
use Rattle.ring_lawful.proofs.Chosen.{every_run_is_safe}
use Rattle.ring_replay.specs.Fit.{KeepsChosen}
use Rattle.ring_replay.specs.Replays.{ReplayState, IsHeld}
use Rattle.ring_replay.specs.Steps.{known_among, recorded, shown_step, shown_turned, with_node}
use Rattle.ring_replay.proofs.Held.{next_known, next_shown}
use Rattle.ring_replay.proofs.OneMore.{moves_join, one_more}

chosen_shown : (ring : Layout) (w : WorldState) → (shown ring w).chosen ≡ w.chosen
unfolding shown
chosen_shown ring w = refl

pub event_keeps : (ring : Layout) (r : ReplayState) (e : Event) → IsRing ring → IsHeld ring r → true ≡ known_among ring r.world.messages e.what
    → KeepsChosen r.world (shown_step ring r.world e.what)
event_keeps ring r e valid held known =
    let before = whole_moves held.events in
    let after = whole_moves (held.events ++ e ∷ []) in
    let runs = one_more ring held.events e held.runs (next_known ring r e held known) in
    let a = (every_run_is_safe ring after valid runs).chosen_grows.grows before (whole_moves (e ∷ [])) (moves_join held.events (e ∷ [])) in
    let old : r.world.chosen ≡ (world ring before).chosen = ap (λ (v : World). v.chosen) held.world ∙ chosen_shown ring (world ring before) in
    let new : (shown_step ring r.world e.what).chosen ≡ (world ring after).chosen =
    ap (λ (v : World). v.chosen) (next_shown ring r e held valid.numbers_once known) ∙ chosen_shown ring (world ring after) in
    let kept : take (length (world ring before).chosen) (world ring after).chosen ≡ (world ring before).chosen =
    sym a.same ∙ take_all (length (world ring before).chosen) (world ring before).chosen (omega arith) in
    subst (λ (xs : List Entry). take (length xs) (shown_step ring r.world e.what).chosen ≡ xs) (sym old)
    (subst (λ (ys : List Entry). take (length (world ring before).chosen) ys ≡ (world ring before).chosen) (sym new) kept)

-- ---- one turn
-- what a turn keeps it keeps also where its node stands already
pub keeps_in_place : (v : World) (place : ℕ) (s : Shown) (messages : List Message) (says : List Say) → KeepsChosen v (shown_turned v place s messages says)
    → KeepsChosen (with_node v place s) (recorded (with_node v place s) s messages says)
unfolding recorded with_node shown_turned
keeps_in_place v place s messages says keeps = keeps
