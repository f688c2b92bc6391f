-- Each step of a lawful node leaves a lawful node and a sound durable part however far it went, and its actions are possible; recovery makes a lawful node of a sound durable part.
use Rattle.std.proofs.Common.{◌≡◌, ℕ, ◌+◌, ◌<◌, ◌≤◌, inl, inr, [], ◌∷◌, Bool, List, ap, arith, false, length, refl, subst, take, true}
use Rattle.std.specs.List.{Contains}
use Rattle.ring_types.specs.Rings.{Layout, runs_engine}
use Rattle.ring_model.specs.declared.effects.Action.{Action}
use Rattle.ring_model.specs.declared.effects.Step.{Step}
use Rattle.ring_model.specs.declared.messages.Input.{Input}
use Rattle.ring_model.specs.declared.nodes.Durable.{Durable}
use Rattle.ring_model.specs.declared.nodes.Peer.{Peer}
use Rattle.ring_model.specs.declared.nodes.Soft.{Soft}
use Rattle.ring_model.specs.Actions.{ArePossible, all_done}
use Rattle.ring_model.specs.Dispatch.{step}
use Rattle.ring_model.specs.Nodes.{is_leader}
use Rattle.ring_model.proofs.Lists.{cons_cases}
use Rattle.ring_lawful.specs.EachStep.{EveryStepIsPossible, EveryStepKeepsLawful, IsFitNode, IsFitPart, IsGood}
use Rattle.ring_lawful.proofs.Keeps.{KeepsCounts}
use Rattle.ring_lawful.proofs.Along.{Allowed, Along, allowed_along, along_cut, along_end}
use Rattle.ring_lawful.proofs.Chains.{Ordered, order_of, ordered_along, ordered_from}
use Rattle.ring_lawful.proofs.Engine.{Can, HasPairs}
use Rattle.ring_lawful.proofs.EngineAppend.{Fits}
use Rattle.ring_lawful.proofs.EngineDispatch.{step_both}
use Rattle.ring_lawful.proofs.EngineBoth.{Both}
use Rattle.ring_lawful.proofs.Lawful.{lawful_from}
use Rattle.ring_lawful.proofs.Leads.{SoftStep}
use Rattle.ring_lawful.proofs.LeadsRules.{step_soft}
use Rattle.ring_lawful.proofs.Parts.{counted_from, input_goes, input_keeps, order_from, payloads_from, runs_from, sized_from, soft_from}
use Rattle.ring_lawful.proofs.Possible.{Good, along_from, good, possible_all, tail_can}
use Rattle.ring_lawful.proofs.Prepared.{Engine, IsEmpty, Running, pairs_of, runs_of, tail_along}
use Rattle.ring_lawful.proofs.Sends.{Tells}
use Rattle.ring_lawful.proofs.Sized.{May, Sized, sized_one}
use Rattle.ring_lawful.proofs.SizedSteps.{Keeps}
use Rattle.ring_lawful.proofs.Sound.{sound_from}
use Rattle.ring_lawful.proofs.Steady.{Near, Steady}
use Rattle.ring_lawful.proofs.SteadyRules.{step_steady}

near_each : (len : ℕ) (peers : List Peer) → Near len peers → (p : Peer) → Contains peers p → (p.matched < p.next) × (p.next ≤ len + 1)
near_each len [] n p c = absurd (omega (arith, c.1))
near_each len (q ∷ peers) n p c =
    elim (cons_cases q peers p c) [ inl here ↦ subst (λ (w : Peer). (w.matched < w.next) × (w.next ≤ len + 1)) here n.0 | inr there ↦ near_each len peers n.1 p there ]

-- ---- one step
module _ (ring : Layout) (me : ℕ) (d : Durable) (s : Soft) (i : Input) (x : IsFitNode ring me d s) (g : IsGood ring i) where
  abbrev st : Step
  st = step ring me d s i

  abbrev actions : List Action
  actions = st.plan.actions

  ordered : Ordered d
  ordered = ordered_from d (order_from ring me d x.0.sound)

  pub sized : Sized ring d
  sized = sized_from ring me d x.0.sound x.1

  steady : Steady d st
  steady = step_steady ring me d s i ordered (counted_from ring me d s x.0) (input_goes ring i g)

  keeps : Keeps ring d st
  keeps = input_keeps ring me d s i g sized x.0.candidate_short

  along_order : Along Ordered d actions
  along_order = ordered_along d actions steady.allowed ordered

  along_size : Along (Sized ring) d actions
  along_size = allowed_along (May ring) (Sized ring) (sized_one ring) d actions keeps.allowed sized

  fits : Fits d actions st.soft.commit
  fits = record {
    placed = (order_of (all_done d actions) (along_end Ordered d actions along_order)).placed;
    inside = steady.inside;
    cuts = λ n. (along_cut Ordered d actions n along_order).applied;
  }

  both : Both ring me d s st
  both = step_both ring me d s i fits

  engine_cut : (n : ℕ) → Engine ring me (all_done d (take n actions))
  engine_cut n = record {
    engine = λ runs. along_cut HasPairs d actions n (both.engine runs (runs_from ring me d s x.0 runs)).along;
    tailer = λ runs. along_cut IsEmpty d actions n (tail_along d actions (both.tail runs) (x.0.sound.tailer runs));
  }

  engine_end : Engine ring me (all_done d actions)
  engine_end = record {
    engine = λ runs. along_end HasPairs d actions (both.engine runs (runs_from ring me d s x.0 runs)).along;
    tailer = λ runs. along_end IsEmpty d actions (tail_along d actions (both.tail runs) (x.0.sound.tailer runs));
  }

  running : Running ring me (all_done d actions) st.soft
  running runs = (both.engine runs (runs_from ring me d s x.0 runs)).after

  above : (b : Bool) → runs_engine ring me ≡ b → (all_done d actions).applied ≤ st.soft.commit
  above true runs = let z = (running runs).follows in omega (arith, z)
  above false runs = let z = (engine_end.tailer runs).0 in omega (arith, z)

  counts : KeepsCounts (all_done d actions) st.soft
  counts = record {
    commit_above = above (runs_engine ring me) refl;
    commit_inside = steady.inside;
    peers_near = λ role. near_each (length (all_done d actions).log) st.soft.peers (steady.near (ap is_leader role));
  }

  fit_part : (e : Durable) → Ordered e → Sized ring e → Engine ring me e → IsFitPart ring me e
  fit_part e o z y = (sound_from ring me e (order_of e o) z (pairs_of ring me e y), payloads_from ring e z)

  pub step_lawful : IsFitNode ring me (all_done d actions) st.soft
  step_lawful =
      let part = fit_part (all_done d actions) (along_end Ordered d actions along_order) (along_end (Sized ring) d actions along_size) engine_end in
      let soft : SoftStep ring me d st = step_soft ring me d s i (soft_from ring me d s x.0) x.0.commit_inside in
      (lawful_from ring me (all_done d actions) st.soft part.0 counts (runs_of ring me (all_done d actions) st.soft engine_end running) keeps.short soft, part.1)

  pub step_sound : (n : ℕ) → IsFitPart ring me (all_done d (take n actions))
  step_sound n =
      fit_part (all_done d (take n actions)) (along_cut Ordered d actions n along_order) (along_cut (Sized ring) d actions n along_size) (engine_cut n)

  can : (b : Bool) → runs_engine ring me ≡ b → Allowed Can d actions
  can true runs = (both.engine runs (runs_from ring me d s x.0 runs)).can
  can false runs = tail_can d actions (both.tail runs)

  pub step_possible : ArePossible ring.schema d actions
  step_possible = possible_all ring d actions
      (along_from (Good ring) d actions (λ n. good ring (all_done d (take n actions)) (order_of (all_done d (take n actions)) (along_cut Ordered d actions n along_order)) (along_cut (Sized ring) d actions n along_size)))
      keeps.allowed (can (runs_engine ring me) refl)

  pub tells : Tells ring d s
  tells = record { ordered = ordered; sized = sized; short = x.0.sound.log.short; inside = x.0.commit_inside }

  pub after_size : Sized ring (all_done d actions)
  after_size = along_end (Sized ring) d actions along_size

pub every_step_keeps_lawful : EveryStepKeepsLawful
every_step_keeps_lawful ring me d s i x g = step_lawful ring me d s i x g

pub every_step_is_possible : EveryStepIsPossible
every_step_is_possible ring me d s i x g = (step_possible ring me d s i x g, step_sound ring me d s i x g)
