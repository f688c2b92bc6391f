-- What an engine's actions and a recovery leave of the prepared pairs: those of a stretch above the applied count, and on a logtailer none.
use Rattle.std.proofs.Common.{◌≡◌, ℕ, ◌≤◌, [], ◌∷◌, ◌∙◌, Bool, List, ap, arith, false, length, not, refl, sym, true}
use Rattle.std.proofs.lemmas.Bool.Decides.{nat_tests}
use Rattle.std.specs.Prelude.{filter, map}
use Rattle.std.specs.List.{list_any}
use Rattle.ring_types.specs.declared.entries.Entry.{Entry}
use Rattle.ring_types.specs.declared.entries.Opid.{Opid}
use Rattle.ring_types.specs.declared.entries.Pair.{Pair}
use Rattle.ring_types.specs.Rings.{Layout, runs_engine}
use Rattle.ring_types.specs.Logs.{has_opid, same_opid}
use Rattle.ring_model.specs.declared.effects.Action.{Action}
use Rattle.ring_model.specs.declared.effects.Action.TheVariants as action
use Rattle.ring_model.specs.declared.nodes.Durable.{Durable}
use Rattle.ring_model.specs.declared.nodes.Soft.{Soft}
use Rattle.ring_model.specs.Actions.{done, pairs_in}
use Rattle.ring_model.specs.Nodes.{kept_pairs, recover, stray_opids}
use Rattle.ring_lawful.proofs.Keeps.{KeepsPairs, RunsEngine}
use Rattle.ring_lawful.proofs.Along.{Along}
use Rattle.ring_lawful.proofs.Engine.{Clean, HasPairs, clean_kept}
use Rattle.ring_lawful.proofs.EngineBoth.{AllTail, IsTail}
use Rattle.ring_lawful.proofs.EngineSteps.{EngineRuns}
use Rattle.ring_lawful.proofs.Pairs.{Placed, none_between}

abbrev pub IsEmpty : Durable → Type 0
IsEmpty d = (d.applied ≡ 0) × (d.prepared ≡ [])

pub record Engine (ring : Layout) (id : ℕ) (d : Durable) : Type 0 where
  pub engine : runs_engine ring id ≡ true → HasPairs d
  pub tailer : runs_engine ring id ≡ false → IsEmpty d

abbrev pub Running : Layout → ℕ → Durable → Soft → Type 0
Running ring id d s = runs_engine ring id ≡ true → EngineRuns d s

-- ---- a logtailer
tail_one : (d : Durable) (a : Action) → IsTail a → IsEmpty d → IsEmpty (done d a)
tail_one d (action.SetTerm term) t x = x
tail_one d (action.Vote vote floor) t x = x
tail_one d (action.Append entries) t x = x
tail_one d (action.Truncate position) t x = x
tail_one d (action.Prepare pair) t x = absurd t
tail_one d (action.Commit position) t x = absurd t
tail_one d (action.RollBackAfter position) t x = absurd t
tail_one d (action.DropPairs opids) t x = absurd t

pub tail_along : (d : Durable) (actions : List Action) → AllTail actions → IsEmpty d → Along IsEmpty d actions
tail_along d [] t x = x
tail_along d (a ∷ actions) t x = (x, tail_along (done d a) actions t.1 (tail_one d a t.0 x))

-- ---- recovery
pub recovered_from : (d : Durable) → Placed d.log → d.applied ≤ length d.log → HasPairs d → (k : ℕ) × Clean (recover d) k
recovered_from d placed inside x = (x.0, record { placed = placed; applied = inside; inside = x.2; prepared = x.3 })

same_is : (a b : Opid) → same_opid a b ≡ true → (log : List Entry) → has_opid log a ≡ has_opid log b
same_is a b is [] = refl
same_is a b is (e ∷ log) =
    let one : same_opid e.opid a ≡ same_opid e.opid b = grind (arith, nat_tests, is) in
    let rest = same_is a b is log in rw (one, rest) refl

pub stray_not : (log : List Entry) (o : Opid) (ps : List Pair) → has_opid log o ≡ true
    → list_any (same_opid o) (map (λ (p : Pair). p.opid) (filter (λ (p : Pair). not (has_opid log p.opid)) ps)) ≡ false
stray_not log o [] has = refl
stray_not log o (p ∷ ps) has = go (has_opid log p.opid) refl (same_opid o p.opid) refl (stray_not log o ps has)
  where
    go : (a : Bool) → has_opid log p.opid ≡ a → (b : Bool) → same_opid o p.opid ≡ b
        → list_any (same_opid o) (map (λ (p : Pair). p.opid) (filter (λ (p : Pair). not (has_opid log p.opid)) ps)) ≡ false
        → list_any (same_opid o) (map (λ (p : Pair). p.opid) (filter (λ (p : Pair). not (has_opid log p.opid)) (p ∷ ps))) ≡ false
    go true x b y rest = rw x rest
    go false x false y rest = rw (x, y) rest
    go false x true y rest = absurd (let z : true ≡ false = sym has ∙ (same_is o p.opid y log ∙ x) in cc)

filter_within : (f g : Pair → Bool) (ps : List Pair) → ((p : Pair) → f p ≡ true → g p ≡ true) → filter f (filter g ps) ≡ filter f ps
filter_within f g [] each = refl
filter_within f g (p ∷ ps) each = go (f p) refl (g p) refl (filter_within f g ps each)
  where
    go : (a : Bool) → f p ≡ a → (b : Bool) → g p ≡ b → filter f (filter g ps) ≡ filter f ps → filter f (filter g (p ∷ ps)) ≡ filter f (p ∷ ps)
    go true x true y rest = rw (y, x) (ap (λ (qs : List Pair). p ∷ qs) rest)
    go true x false y rest = absurd (let z : true ≡ false = sym (each p x) ∙ y in cc)
    go false x true y rest = rw (y, x) rest
    go false x false y rest = rw (y, x) rest

dropped_pairs : (d : Durable) (opids : List Opid) → stray_opids d ≡ opids → kept_pairs (done d (action.DropPairs opids)) ≡ kept_pairs d
dropped_pairs d opids is =
    filter_within (λ (p : Pair). has_opid d.log p.opid) (λ (p : Pair). not (list_any (same_opid p.opid) opids)) d.prepared
    (λ p has. ap (λ (os : List Opid). not (list_any (same_opid p.opid) os)) (sym is) ∙ ap not (stray_not d.log p.opid d.prepared has))

pub dropped_engine : (ring : Layout) (id : ℕ) (d : Durable) (opids : List Opid) → stray_opids d ≡ opids → Engine ring id d
    → Engine ring id (done d (action.DropPairs opids))
dropped_engine ring id d opids is x = record {
  engine = λ runs. (let z = x.engine runs in (z.0, z.1, z.2, dropped_pairs d opids is ∙ z.3));
  tailer = λ runs. (let z = x.tailer runs in (z.0, ap (filter (λ (p : Pair). not (list_any (same_opid p.opid) opids))) z.1));
}

-- ---- each node by itself
empty_has : (d : Durable) → IsEmpty d → HasPairs d
empty_has d x =
    (d.applied, omega arith, omega (arith, x.0), ap (filter (λ (p : Pair). has_opid d.log p.opid)) x.1 ∙ sym (ap pairs_in (none_between d.log d.applied d.applied (omega arith))))

pub pairs_of : (ring : Layout) (id : ℕ) (d : Durable) → Engine ring id d → KeepsPairs ring id d
pairs_of ring id d e = record { pairs_in_order = go (runs_engine ring id) refl; tailer = e.tailer }
  where
    go : (b : Bool) → runs_engine ring id ≡ b → HasPairs d
    go true is = e.engine is
    go false is = empty_has d (e.tailer is)

pub runs_of : (ring : Layout) (id : ℕ) (d : Durable) (s : Soft) → Engine ring id d → Running ring id d s → RunsEngine ring id d s
runs_of ring id d s e r = record {
  pairs_in_log = kept_in_log (runs_engine ring id) refl;
  engine_follows = λ runs. (r runs).follows;
  all_prepared = λ ready runs. ((r runs).all ready).prepared;
}
  where
    kept_in_log : (b : Bool) → runs_engine ring id ≡ b → kept_pairs d ≡ d.prepared
    kept_in_log true is = let x = r is in clean_kept d x.k x.clean
    kept_in_log false is = let z = e.tailer is in ap (filter (λ (p : Pair). has_opid d.log p.opid)) z.1 ∙ sym z.1
