-- What a step may add to a log; the engine's actions add nothing, for only an Append lengthens a log.
use Rattle.std.proofs.Common.{◌≡◌, ℕ, ◌-◌, ◌⊎◌, [], ◌∷◌, ◌++◌, if◌then◌else◌, Bool, List, None, Option, Some, false, suc, true, zero}
use Rattle.std.specs.List.{Contains}
use Rattle.ring_types.specs.declared.entries.Entry.{Entry}
use Rattle.ring_types.specs.declared.entries.Pair.{Pair}
use Rattle.ring_types.specs.declared.values.Change.{Change}
use Rattle.ring_types.specs.Rings.{Layout, runs_engine}
use Rattle.ring_types.specs.Logs.{entry_at}
use Rattle.ring_model.specs.declared.effects.Action.{Action}
use Rattle.ring_model.specs.declared.effects.Action.TheVariants as action
use Rattle.ring_model.specs.declared.effects.Say.{Say}
use Rattle.ring_model.specs.declared.effects.Step.{Step}
use Rattle.ring_model.specs.declared.messages.Body.{Body}
use Rattle.ring_model.specs.declared.messages.Body.TheVariants as body
use Rattle.ring_model.specs.declared.messages.Input.{Input}
use Rattle.ring_model.specs.declared.messages.Input.TheVariants as input
use Rattle.ring_model.specs.declared.nodes.Durable.{Durable}
use Rattle.ring_model.specs.declared.nodes.Soft.{Soft}
use Rattle.ring_model.specs.Actions.{all_done, done, is_prepared, pair_of, pairs_in}
use Rattle.ring_model.specs.Dispatch.{is_foreign}
use Rattle.ring_model.specs.Runs.{Election}
use Rattle.ring_model.specs.Steps.{advance, commit_count, engine_actions, follow_actions, prepare_entry}
use Rattle.ring_model.specs.Writes.{write_entry, write_refusal}
use Rattle.ring_model.proofs.Invariant.{History}
use Rattle.ring_lawful.proofs.Along.{Allowed, allowed_join}

-- another node led the term
abbrev pub Foreign : History → ℕ → ℕ → Type 0
Foreign h me t = (e : Election) × Contains h.elections e × (e.term ≡ t) × (e.node ≡ me → ⊥)

-- what is added comes from the leader of the term, or keeps the property
abbrev pub MayGrow : History → ℕ → (List Entry → Type 0) → Durable → Action → Type 0
MayGrow h me P d (action.Append es) = Foreign h me d.term ⊎ (P d.log → P (d.log ++ es))
MayGrow h me P d _ = Unit {0}

-- a property of logs that an entry without a transaction keeps
abbrev pub KeptByPlain : (List Entry → Type 0) → Type 0
KeptByPlain P = (l : List Entry) (e : Entry) → pairs_in (e ∷ []) ≡ [] → P l → P (l ++ e ∷ [])

-- what a step adds
abbrev pub Adds : History → ℕ → (List Entry → Type 0) → Durable → Step → Type 0
Adds h me P d st = Allowed (MayGrow h me P) d st.plan.actions

-- a write that is not refused keeps the property
abbrev pub WritesKeep : Layout → ℕ → (List Entry → Type 0) → Durable → Soft → Type 0
WritesKeep ring me P d s = (changes : List Change) → write_refusal ring me d s changes ≡ None → P d.log → P (d.log ++ write_entry ring me d changes ∷ [])

-- an Append comes from the leader of its term
abbrev pub AppendIsLed : History → ℕ → Body → Type 0
AppendIsLed h me (body.Append sent) = Foreign h me sent.term
AppendIsLed h me _ = Unit {0}

abbrev pub InputIsLed : Layout → History → ℕ → Input → Type 0
InputIsLed ring h me (input.Deliver m) = is_foreign ring me m ≡ false → AppendIsLed h me m.body
InputIsLed ring h me _ = Unit {0}

-- ---- the engine
module _ (ring : Layout) (h : History) (me : ℕ) (P : List Entry → Type 0) where
  prepare_logs : (d : Durable) (pairs : List Pair) (o : Option Entry) → Allowed (MayGrow h me P) d (prepare_entry pairs o)
  prepare_logs d pairs None = tt
  prepare_logs d pairs (Some e) = go (pair_of e) (is_prepared pairs e.opid)
    where
      go : (a : Option Pair) (c : Bool) → Allowed (MayGrow h me P) d (elim a [ None ↦ [] | Some p ↦ if c then [] else action.Prepare p ∷ [] ])
      go None c = tt
      go (Some p) true = tt
      go (Some p) false = (tt, tt)

  engine_logs : (n a : ℕ) (d : Durable) (l : List Entry) (pairs : List Pair) → Allowed (MayGrow h me P) d (engine_actions l pairs a n)
  engine_logs zero a d l pairs = tt
  engine_logs (suc n) a d l pairs =
      allowed_join (MayGrow h me P) d (prepare_entry pairs (entry_at l (suc a))) (action.Commit (suc a) ∷ engine_actions l pairs (suc a) n)
      (prepare_logs d pairs (entry_at l (suc a)))
      (tt, engine_logs n (suc a) (done (all_done d (prepare_entry pairs (entry_at l (suc a)))) (action.Commit (suc a))) l pairs)

  pub follow_logs : (d : Durable) (c : ℕ) → Allowed (MayGrow h me P) d (follow_actions ring me d c)
  follow_logs d c = go (runs_engine ring me)
    where
      go : (b : Bool) → Allowed (MayGrow h me P) d (if b then engine_actions d.log d.prepared d.applied (c - d.applied) else [])
      go true = engine_logs (c - d.applied) d.applied d d.log d.prepared
      go false = tt

  pub advance_logs : (d : Durable) (s : Soft) (first : List Action) (says : List Say) → Allowed (MayGrow h me P) d first
      → Adds h me P d (advance ring me d s first says)
  unfolding advance
  advance_logs d s first says a =
      allowed_join (MayGrow h me P) d first
      (follow_actions ring me (all_done d first) (commit_count ring me (all_done d first).term (all_done d first).log s)) a
      (follow_logs (all_done d first) (commit_count ring me (all_done d first).term (all_done d first).log s))
