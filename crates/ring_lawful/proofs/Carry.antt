-- In every world of every run each node is fit and each message well formed: the laws of each step, carried along a run by one induction.
use Rattle.std.proofs.Common.{◌≡◌, ℕ, [], ◌∷◌, ◌∙◌, if◌then◌else◌, Bool, List, None, Option, Some, ap, arith, false, inl, inr, refl, subst, sym, take, true}
use Rattle.std.proofs.lemmas.Bool.{cases_eq}
use Rattle.std.proofs.lemmas.Bool.Decides.{nat_tests}
use Rattle.std.proofs.lemmas.List.Elements.{Contains-append_cases}
use Rattle.std.specs.List.{Contains}
use Rattle.ring_types.specs.Rings.{Layout, is_member}
use Rattle.ring_types.specs.Rows.{payloads_fit}
use Rattle.ring_model.specs.declared.effects.Say.{Say}
use Rattle.ring_model.specs.declared.messages.Input.{Input}
use Rattle.ring_model.specs.declared.messages.Input.TheVariants as input
use Rattle.ring_model.specs.declared.messages.Message.{Message}
use Rattle.ring_model.specs.declared.nodes.Durable.{Durable}
use Rattle.ring_model.specs.declared.nodes.Soft.{Soft}
use Rattle.ring_model.specs.declared.worlds.Line.{Line}
use Rattle.ring_model.specs.declared.worlds.Line.TheVariants as line
use Rattle.ring_model.specs.Actions.{all_done}
use Rattle.ring_model.specs.Dispatch.{step}
use Rattle.ring_model.specs.Nodes.{Node, empty_durable, fresh_soft, recover}
use Rattle.ring_model.specs.Runs.{IsRun, IsRunFrom, Move, is_known, is_whole_input, world, world_from}
use Rattle.ring_model.specs.WellFormed.{IsNearlyWellFormed}
use Rattle.ring_model.specs.Worlds.{ComeUp, Completion, Cut, GoDown, Handle, Rest, Task, Whole, WorldState, at_node, first_world, given, given_to, handled, line_step, member_turn, message_at, moved, next_given, next_to, passed, restart_actions, skipped, turn, turned, with_node, world_step}
use Rattle.ring_types.proofs.Booleans.{both_true}
use Rattle.ring_model.proofs.Lists.{none_contained}
use Rattle.ring_model.proofs.Turns.{node_here, node_other}
use Rattle.ring_lawful.specs.EachStep.{IsFitNode, IsFitPart, IsGood}
use Rattle.ring_lawful.proofs.EachStep.{every_step_is_possible, every_step_keeps_lawful}
use Rattle.ring_lawful.proofs.Recovery.{empty_sound, partly_sound, recovery_lawful}
use Rattle.ring_lawful.proofs.StepSends.{every_step_sends_well_formed}
use Rattle.ring_model.proofs.Restarts.{partly}
use Rattle.ring_model.proofs.Events.{in_number}

-- in one world: each durable part is fit, each running node too, and each message is well formed but for a proxy's sum of bytes
pub record IsFit (ring : Layout) (w : WorldState) : Type 0 where
  pub nodes : (id : ℕ) → IsFitPart ring id (w.nodes id).durable
  pub running : (id : ℕ) (s : Soft) → (w.nodes id).soft ≡ Some s → IsFitNode ring id (w.nodes id).durable s
  pub messages : (m : Message) → Contains w.messages m → IsNearlyWellFormed ring.schema m

-- ---- what a line gives
-- an input that a task gives is good
abbrev IsGoodTask : Layout → Task → Type 0
IsGoodTask ring (Handle i) = IsGood ring i
IsGoodTask ring GoDown = Unit {0}
IsGoodTask ring ComeUp = Unit {0}
IsGoodTask ring Rest = Unit {0}

-- ---- events
module _ (ring : Layout) where
  turned_fits : (w : WorldState) (id : ℕ) (n : Node) (ms : List Message) (says : List Say) (cuts : List ℕ) → IsFit ring w → IsFitPart ring id n.durable
      → ((s : Soft) → n.soft ≡ Some s → IsFitNode ring id n.durable s)
      → ((m : Message) → Contains ms m → IsNearlyWellFormed ring.schema m) → IsFit ring (turned w id n ms says cuts)
  turned_fits w id n ms says cuts x node running sent = record {
    nodes = λ j. elim (cases_eq j id) [
      | inl same ↦ subst (λ (i : ℕ). IsFitPart ring i (with_node w.nodes id n i).durable) (sym same) (subst (λ (m : Node). IsFitPart ring id m.durable) (sym (node_here w.nodes id n)) node)
      | inr other ↦ subst (λ (m : Node). IsFitPart ring j m.durable) (sym (node_other w.nodes id j n other)) (x.nodes j)
    ];
    running = λ j s up. elim (cases_eq j id) [
      | inl same ↦
          let up' : (with_node w.nodes id n id).soft ≡ Some s = subst (λ (i : ℕ). (with_node w.nodes id n i).soft ≡ Some s) same up in
          let so : n.soft ≡ Some s = sym (ap (λ (m : Node). m.soft) (node_here w.nodes id n)) ∙ up' in
          subst (λ (i : ℕ). IsFitNode ring i (with_node w.nodes id n i).durable s) (sym same)
          (subst (λ (m : Node). IsFitNode ring id m.durable s) (sym (node_here w.nodes id n)) (running s so))
      | inr other ↦
          let was : (w.nodes j).soft ≡ Some s = sym (ap (λ (m : Node). m.soft) (node_other w.nodes id j n other)) ∙ up in
          subst (λ (m : Node). IsFitNode ring j m.durable s) (sym (node_other w.nodes id j n other)) (x.running j s was)
    ];
    messages = λ m in_m. elim (Contains-append_cases w.messages ms m in_m) [ inl old ↦ x.messages m old | inr new ↦ sent m new ];
  }

  -- a node that is down after its turn
  downed_fits : (w : WorldState) (id : ℕ) (d : Durable) (cuts : List ℕ) → IsFit ring w → IsFitPart ring id d
      → IsFit ring (turned w id (record { durable = d; soft = None }) [] [] cuts)
  downed_fits w id d cuts x node =
      turned_fits w id (record { durable = d; soft = None }) [] [] cuts x node (λ o so. absurd cc) (λ m in_m. absurd (none_contained m in_m))

  same_fits : (w v : WorldState) → v.nodes ≡ w.nodes → v.messages ≡ w.messages → IsFit ring w → IsFit ring v
  same_fits w v nodes messages x = record {
    nodes = λ id. subst (λ (f : ℕ → Node). IsFitPart ring id (f id).durable) (sym nodes) (x.nodes id);
    running = subst (λ (f : ℕ → Node). (id : ℕ) (s : Soft) → (f id).soft ≡ Some s → IsFitNode ring id (f id).durable s) (sym nodes) x.running;
    messages = subst (λ (ms : List Message). (m : Message) → Contains ms m → IsNearlyWellFormed ring.schema m) (sym messages) x.messages;
  }

  handled_fits : (w : WorldState) (id : ℕ) (i : Input) (completion : Completion) (o : Option Soft) → (w.nodes id).soft ≡ o → IsGood ring i → IsFit ring w
      → IsFit ring (handled ring w id i completion (w.nodes id).durable o)
  handled_fits w id i completion None up g x = same_fits w (passed w) refl refl x
  handled_fits w id i Whole (Some s) up g x =
      let d = (w.nodes id).durable in
      let st = step ring id d s i in
      let y = every_step_keeps_lawful ring id d s i (x.running id s up) g in
      turned_fits w id (record { durable = all_done d st.plan.actions; soft = Some st.soft }) st.plan.messages st.plan.says [] x (y.0.sound, y.1)
      (λ o so. let is : st.soft ≡ o = cc in subst (λ (z : Soft). IsFitNode ring id (all_done d st.plan.actions) z) is y)
      (λ m in_m. (every_step_sends_well_formed ring id d s i (x.running id s up) g m in_m).0)
  handled_fits w id i (Cut count) (Some s) up g x =
      let d = (w.nodes id).durable in
      downed_fits w id (all_done d (take count (step ring id d s i).plan.actions)) (count ∷ []) x
      ((every_step_is_possible ring id d s i (x.running id s up) g).1 count)

  turn_fits : (w : WorldState) (id : ℕ) (task : Task) (completion : Completion) → IsGoodTask ring task → IsFit ring w
      → IsFit ring (turn ring w id task completion)
  turn_fits w id (Handle i) completion g x = handled_fits w id i completion (w.nodes id).soft refl g x
  turn_fits w id GoDown completion g x = downed_fits w id (w.nodes id).durable [] x (x.nodes id)
  turn_fits w id ComeUp Whole g x =
      let d = (w.nodes id).durable in
      let y : IsFitNode ring id (recover d) (fresh_soft d) = (recovery_lawful ring id d (x.nodes id).0, (x.nodes id).1) in
      turned_fits w id (record { durable = recover d; soft = Some (fresh_soft d) }) [] [] [] x (y.0.sound, y.1)
      (λ o so. let is : fresh_soft d ≡ o = cc in subst (λ (z : Soft). IsFitNode ring id (recover d) z) is y) (λ m in_m. absurd (none_contained m in_m))
  turn_fits w id ComeUp (Cut count) g x =
      let d = (w.nodes id).durable in
      let sound = partly_sound ring id d count (x.nodes id).0 in
      let fit = partly (λ (e : Durable). payloads_fit ring.schema e.log ≡ true) d (x.nodes id).1 (λ opids is. (x.nodes id).1) count in
      downed_fits w id (all_done d (take count (restart_actions d))) (count ∷ []) x (sound, fit)
  turn_fits w id Rest Whole g x = same_fits w (passed w) refl refl x
  turn_fits w id Rest (Cut count) g x = downed_fits w id (w.nodes id).durable (count ∷ []) x (x.nodes id)

  member_fits : (w : WorldState) (id : ℕ) (task : Task) (completion : Completion) → IsGoodTask ring task → IsFit ring w
      → IsFit ring (member_turn ring w id task completion)
  member_fits w id task completion g x = go (is_member ring id)
    where
      go : (b : Bool) → IsFit ring (if b then turn ring w id task completion else passed w)
      go true = turn_fits w id task completion g x
      go false = same_fits w (passed w) refl refl x

  given_fits : (w : WorldState) (completion : Completion) (number : ℕ) (o : Option Message) → message_at w.messages number ≡ o → IsFit ring w
      → IsFit ring (given ring w completion o)
  given_fits w completion number None is x = same_fits w (passed w) refl refl x
  given_fits w completion number (Some m) is x = member_fits w m.to (Handle (input.Deliver m)) completion (x.messages m (in_number w.messages number m is)) x

  given_to_fits : (w : WorldState) (id : ℕ) (completion : Completion) (number : ℕ) (o : Option Message) → message_at w.messages number ≡ o → IsFit ring w
      → IsFit ring (given_to ring w id completion o)
  given_to_fits w id completion number None is x = member_fits w id Rest completion tt x
  given_to_fits w id completion number (Some m) is x =
      member_fits w m.to (Handle (input.Deliver m)) completion (x.messages m (in_number w.messages number m is)) x

  moved_fits : (w : WorldState) (id number : ℕ) → IsFit ring w → IsFit ring (moved w id number)
  moved_fits w id number x = same_fits w (moved w id number) refl refl x

  next_fits : (w : WorldState) (id : ℕ) (completion : Completion) (o : Option ℕ) → IsFit ring w → IsFit ring (next_given ring w id completion o)
  next_fits w id completion None x = member_fits w id Rest completion tt x
  next_fits w id completion (Some number) x =
      given_to_fits (moved w id number) id completion number (message_at w.messages number) refl (moved_fits w id number x)

  skipped_fits : (w : WorldState) (id : ℕ) (completion : Completion) (o : Option ℕ) → IsFit ring w → IsFit ring (skipped ring w id completion o)
  skipped_fits w id completion None x = member_fits w id Rest completion tt x
  skipped_fits w id completion (Some number) x = member_fits (moved w id number) id Rest completion tt (moved_fits w id number x)

  at_fits : (w : WorldState) (id : ℕ) (i : Input) (completion : Completion) → is_whole_input i ≡ true → IsFit ring w
      → IsFit ring (at_node ring w id i completion)
  at_fits w id (input.Deliver m) completion whole x = member_fits w id Rest completion tt x
  at_fits w id input.Elect completion whole x = member_fits w id (Handle input.Elect) completion tt x
  at_fits w id input.Beat completion whole x = member_fits w id (Handle input.Beat) completion tt x
  at_fits w id (input.Write client changes) completion whole x =
      member_fits w id (Handle (input.Write client changes)) completion (grind (arith, nat_tests, whole)) x
  at_fits w id (input.Rotate client) completion whole x = member_fits w id (Handle (input.Rotate client)) completion tt x
  at_fits w id (input.Transfer client target) completion whole x = member_fits w id (Handle (input.Transfer client target)) completion tt x
  at_fits w id (input.Cancel client) completion whole x = member_fits w id (Handle (input.Cancel client)) completion tt x

  line_fits : (w : WorldState) (completion : Completion) (l : Line) → is_known ring w l ≡ true → IsFit ring w → IsFit ring (line_step ring w completion l)
  line_fits w completion (line.At node i) known x = at_fits w node i completion (both_true (is_member ring node) (is_whole_input i) known).1 x
  line_fits w completion (line.Give number) known x = given_fits w completion number (message_at w.messages number) refl x
  line_fits w completion (line.Next node) known x = next_fits w node completion (next_to w node) x
  line_fits w completion (line.Skip node) known x = skipped_fits w node completion (next_to w node) x
  line_fits w completion (line.Again node) known x = given_to_fits w node completion (w.cursors node) (message_at w.messages (w.cursors node)) refl x
  line_fits w completion (line.Crash node) known x = member_fits w node GoDown completion tt x
  line_fits w completion (line.Restart node) known x = member_fits w node ComeUp completion tt x

  pub event_fits : (w : WorldState) (m : Move) → is_known ring w m.event.what ≡ true → IsFit ring w → IsFit ring (world_step ring w m.event m.completion)
  unfolding world_step
  event_fits w m known x = line_fits w m.completion m.event.what known x

  -- ---- runs
  run_fits : (w : WorldState) (run : List Move) → IsRunFrom ring w run → IsFit ring w → IsFit ring (world_from ring w run)
  run_fits w [] is x = x
  run_fits w (m ∷ run) is x = run_fits (world_step ring w m.event m.completion) run is.2 (event_fits w m is.0 x)

  pub first_fits : IsFit ring first_world
  first_fits = record {
    nodes = λ id. (empty_sound ring id, refl);
    running = λ id s up.
        let is : fresh_soft empty_durable ≡ s = cc in
        subst (λ (o : Soft). IsFitNode ring id empty_durable o) is (recovery_lawful ring id empty_durable (empty_sound ring id), refl);
    messages = λ m in_m. absurd (none_contained m in_m);
  }

  pub always_fits : (run : List Move) → IsRun ring run → IsFit ring (world ring run)
  unfolding world
  always_fits run is = run_fits first_world run is first_fits
