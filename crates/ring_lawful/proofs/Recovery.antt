-- Recovery makes a lawful node of any sound durable part, and what a restart does comes to it.
use Rattle.std.proofs.Common.{◌≡◌, ℕ, [], ◌∷◌, ◌∙◌, Bool, List, ap, arith, false, refl, subst, sym, take, true, zero}
use Rattle.std.specs.Prelude.{filter}
use Rattle.std.specs.List.{Contains}
use Rattle.ring_types.specs.declared.entries.Opid.{Opid}
use Rattle.ring_types.specs.declared.entries.Pair.{Pair}
use Rattle.ring_types.specs.Logs.{has_opid}
use Rattle.ring_types.specs.Rings.{Layout}
use Rattle.ring_model.specs.declared.effects.Action.TheVariants as action
use Rattle.ring_model.specs.declared.nodes.Durable.{Durable}
use Rattle.ring_model.specs.declared.nodes.Role.TheVariants.{Candidate, Follower, Leader}
use Rattle.ring_model.specs.Actions.{all_done, done}
use Rattle.ring_model.specs.Nodes.{IsLawful, IsSound, fresh_soft, kept_pairs, recover, stray_opids}
use Rattle.ring_model.specs.Worlds.{restart_actions}
use Rattle.ring_lawful.specs.EachStep.{EveryRecoveryIsLawful}
use Rattle.ring_lawful.proofs.Keeps.{KeepsPairs}
use Rattle.ring_lawful.proofs.Engine.{clean_has}
use Rattle.ring_lawful.proofs.EngineSteps.{stands_down}
use Rattle.ring_lawful.proofs.Lawful.{lawful_from}
use Rattle.ring_lawful.proofs.Leads.{stands}
use Rattle.ring_lawful.proofs.Parts.{engine_from}
use Rattle.ring_lawful.proofs.Possible.{restart_possible}
use Rattle.ring_lawful.proofs.Prepared.{Engine, Running, pairs_of, dropped_engine, recovered_from, runs_of}
use Rattle.std.proofs.Common.{not}
use Rattle.std.proofs.lemmas.Bool.Decides.{nat_tests}
use Rattle.std.specs.List.{list_any}
use Rattle.ring_types.specs.Logs.{same_opid}
use Rattle.ring_model.specs.Nodes.{empty_durable}
use Rattle.ring_model.proofs.Lists.{any_true, filter_keeps, in_cons, map_keeps}
use Rattle.ring_lawful.specs.EachStep.{EveryFirstNodeIsLawful}
use Rattle.ring_lawful.proofs.Chains.{chain_places, chain_rises}
use Rattle.ring_lawful.proofs.Prepared.{stray_not}
use Rattle.ring_model.proofs.Restarts.{partly}

-- ---- recovery
-- with these prepared pairs alone made other, sound where the pairs are
repaired : (ring : Layout) (me : ℕ) (d : Durable) (ps : List Pair) → KeepsPairs ring me (record d { prepared = ps }) → IsSound ring me d
    → IsSound ring me (record d { prepared = ps })
repaired ring me d ps y x = record {
  log = x.log;
  groups_fit = x.groups_fit;
  few_votes = x.few_votes;
  votes_rise = x.votes_rise;
  votes_below = x.votes_below;
  term_fits = x.term_fits;
  log_below = x.log_below;
  applied_inside = x.applied_inside;
  pairs_in_order = y.pairs_in_order;
  tailer = y.tailer;
}

pub partly_sound : (ring : Layout) (me : ℕ) (d : Durable) (n : ℕ) → IsSound ring me d → IsSound ring me (all_done d (take n (restart_actions d)))
partly_sound ring me d n x =
    partly (IsSound ring me) d x
    (λ opids is. repaired ring me d _ (pairs_of ring me (done d (action.DropPairs opids)) (dropped_engine ring me d opids is (engine_from ring me d x))) x) n

pub recovery_lawful : (ring : Layout) (me : ℕ) (d : Durable) → IsSound ring me d → IsLawful ring me (recover d) (fresh_soft d)
recovery_lawful ring me d x =
    let c = recovered_from d x.log.placed x.applied_inside x.pairs_in_order in
    let y : Engine ring me (recover d) = record {
      engine = λ runs. clean_has (recover d) c.0 c.1;
      tailer = λ runs. (let z = x.tailer runs in (z.0, ap (filter (λ (p : Pair). has_opid d.log p.opid)) z.1));
    } in
    let r : Running ring me (recover d) (fresh_soft d) = λ runs. stands_down (recover d) (fresh_soft d) c.0 c.1 refl refl in
    lawful_from ring me (recover d) (fresh_soft d) (repaired ring me d (kept_pairs d) (pairs_of ring me (recover d) y) x)
    (record { commit_above = omega arith; commit_inside = x.applied_inside; peers_near = λ bad. absurd (let z : Follower ≡ Leader = bad in cc) })
    (runs_of ring me (recover d) (fresh_soft d) y r) (λ bad. absurd (let z : Follower ≡ Candidate = bad in cc))
    (stands ring me d.log (fresh_soft d) refl (λ v. refl) refl refl tt)

-- what the restart does comes to recovery
same_filter : (f g : Pair → Bool) (ps : List Pair) → ((p : Pair) → Contains ps p → f p ≡ g p) → filter f ps ≡ filter g ps
same_filter f g [] each = refl
same_filter f g (p ∷ ps) each = go (g p) refl (each p (zero, omega arith, refl)) (same_filter f g ps (λ q c. each q (in_cons p ps q c)))
  where
    go : (b : Bool) → g p ≡ b → f p ≡ g p → filter f ps ≡ filter g ps → filter f (p ∷ ps) ≡ filter g (p ∷ ps)
    go true is same rest = let here = same ∙ is in rw (here, is) (ap (λ (qs : List Pair). p ∷ qs) rest)
    go false is same rest = let here = same ∙ is in rw (here, is) rest

all_pass : (ps : List Pair) → filter (λ (p : Pair). true) ps ≡ ps
all_pass [] = refl
all_pass (p ∷ ps) = ap (λ (qs : List Pair). p ∷ qs) (all_pass ps)

same_self : (o : Opid) → same_opid o o ≡ true
same_self o = grind (arith, nat_tests)

stray_is : (d : Durable) (p : Pair) → Contains d.prepared p → not (list_any (same_opid p.opid) (stray_opids d)) ≡ has_opid d.log p.opid
stray_is d p c = go (has_opid d.log p.opid) refl
  where
    go : (b : Bool) → has_opid d.log p.opid ≡ b → not (list_any (same_opid p.opid) (stray_opids d)) ≡ b
    go true is = ap not (stray_not d.log p.opid d.prepared is)
    go false is =
        ap not (any_true (same_opid p.opid) (stray_opids d) p.opid (map_keeps (λ (q : Pair). q.opid) (filter (λ (q : Pair). not (has_opid d.log q.opid)) d.prepared) p
        (filter_keeps (λ (q : Pair). not (has_opid d.log q.opid)) d.prepared p c (ap not is))) (same_self p.opid))

restart_recovers : (d : Durable) → all_done d (restart_actions d) ≡ recover d
restart_recovers d = go (stray_opids d) refl
  where
    same : filter (λ (p : Pair). not (list_any (same_opid p.opid) (stray_opids d))) d.prepared ≡ kept_pairs d
    same = same_filter (λ (p : Pair). not (list_any (same_opid p.opid) (stray_opids d))) (λ (p : Pair). has_opid d.log p.opid) d.prepared (stray_is d)

    go : (o : List Opid) → stray_opids d ≡ o → all_done d (elim o [ [] ↦ [] | o ∷ opids ↦ action.DropPairs (o ∷ opids) ∷ [] ]) ≡ recover d
    go [] is =
        let z : filter (λ (p : Pair). not (list_any (same_opid p.opid) [])) d.prepared ≡ kept_pairs d =
        subst (λ (os : List Opid). filter (λ (p : Pair). not (list_any (same_opid p.opid) os)) d.prepared ≡ kept_pairs d) is same in
        ap (λ (ps : List Pair). record d { prepared = ps }) (sym (all_pass d.prepared) ∙ z)
    go (o ∷ opids) is =
        ap (λ (ps : List Pair). record d { prepared = ps })
        (subst (λ (os : List Opid). filter (λ (p : Pair). not (list_any (same_opid p.opid) os)) d.prepared ≡ kept_pairs d) is same)

pub every_recovery_is_lawful : EveryRecoveryIsLawful
every_recovery_is_lawful ring me d x = (recovery_lawful ring me d x, restart_possible ring d, λ n. partly_sound ring me d n x, restart_recovers d)

-- ---- a node that never ran
pub empty_sound : (ring : Layout) (me : ℕ) → IsSound ring me empty_durable
empty_sound ring me = record {
  log = record { placed = λ k e is. chain_places [] tt k e is; rises = λ j k le high. chain_rises [] tt j k le high; short = omega arith; few_files = omega arith };
  groups_fit = refl;
  few_votes = omega arith;
  votes_rise = λ k lt. absurd (omega (arith, lt));
  votes_below = refl;
  term_fits = omega arith;
  log_below = omega arith;
  applied_inside = omega arith;
  pairs_in_order = (0, omega arith, omega arith, refl);
  tailer = λ runs. (refl, refl);
}

pub every_first_node_is_lawful : EveryFirstNodeIsLawful
every_first_node_is_lawful ring me = ((empty_sound ring me, refl), (recovery_lawful ring me empty_durable (empty_sound ring me), refl))
