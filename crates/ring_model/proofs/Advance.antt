-- The end of a leader's step: its commit count rises only to what a quorum holds, and the engine follows it; so no such step breaks the invariant.
use Rattle.std.proofs.Common.{◌≡◌, ℕ, ◌+◌, ◌-◌, ◌<◌, ◌≤◌, ◌==◌, [], ◌∷◌, ◌++◌, ◌∙◌, if◌then◌else◌, Bool, List, None, Option, Some, ap, arith, false, inl, inr, length, refl, subst, suc, sym, true, zero}
use Rattle.std.proofs.lemmas.Bool.Decides.{nat_tests}
use Rattle.std.specs.List.{Contains}
use Rattle.std.specs.Prelude.{nat_le}
use Rattle.ring_types.specs.declared.entries.Entry.{Entry}
use Rattle.ring_types.specs.declared.entries.Grant.{Grant}
use Rattle.ring_types.specs.Rings.{Layout, region_of, runs_engine}
use Rattle.ring_types.specs.declared.entries.Pair.{Pair}
use Rattle.ring_types.specs.Logs.{entry_at, term_at}
use Rattle.ring_model.specs.declared.effects.Action.{Action}
use Rattle.ring_model.specs.declared.nodes.Durable.{Durable}
use Rattle.ring_model.specs.declared.nodes.Role.TheVariants.{Leader}
use Rattle.ring_model.specs.declared.nodes.Peer.{Peer}
use Rattle.ring_model.specs.declared.nodes.Role.{Role}
use Rattle.ring_model.specs.declared.effects.Say.{Say}
use Rattle.ring_model.specs.declared.nodes.Soft.{Soft}
use Rattle.ring_model.specs.Steps.{advance, commit_count, engine_actions, follow_actions, greatest, holders, may_commit, prepare_entry, waiting}
use Rattle.ring_model.specs.Actions.{all_done, done, is_prepared, pair_of}
use Rattle.ring_model.specs.Quorums.{commits}
use Rattle.ring_model.specs.Nodes.{is_leader}
use Rattle.ring_model.specs.declared.effects.Action.TheVariants as action
use Rattle.ring_model.proofs.Lists.{cons_cases}
use Rattle.ring_model.proofs.Invariant.{HasAcked, HasRole, History, IsHistory, IsLeader, IsNode, IsSealed, Nothing_yet, Sealed_at}
use Rattle.ring_model.proofs.Growth.{agree_less}
use Rattle.ring_model.proofs.Moves.{Applies, Engine, IsLed, MayReach, SameLog}
use Rattle.ring_model.proofs.Paths.{Ends, Goes_on, Path, elected, reach_less}
use Rattle.ring_model.proofs.HeldElections.{IsHeld, done_join, held_join, path_join, quiet_join}
use Rattle.ring_model.proofs.Winning.{leader_commits}
use Rattle.ring_model.proofs.Turns.{Holding, IsRow, Leads_now, Led_before, Sent_all}

pub seal_less : (ring : Layout) (h : History) (u c b : ℕ) (l : List Entry) → b ≤ c → IsSealed ring h u c l → IsSealed ring h u b l
seal_less ring h u c b l le (Nothing_yet z) = Nothing_yet (omega arith)
seal_less ring h u c b l le (Sealed_at s p x y m a) = Sealed_at s p x (omega arith) m (agree_less b c l (h.book s) le a)

pub seal_raise : (ring : Layout) (h : History) (t u c : ℕ) (l : List Entry) → t ≤ u → IsSealed ring h t c l → IsSealed ring h u c l
seal_raise ring h t u c l le (Nothing_yet z) = Nothing_yet z
seal_raise ring h t u c l le (Sealed_at s p x y m a) = Sealed_at s p (omega arith) y m a

-- ---- the engine follows
-- a path on which no history is made and no election held, and which leaves what safety looks at
pub record QuietPath (ring : Layout) (id : ℕ) (h : History) (d : Durable) (steps : List Action) : Type 0 where
  pub path : Path ring id h d steps h
  pub quiet : elected ring id h h d steps path ≡ []
  pub same : SameLog d (all_done d steps)

-- the engine's work leaves term, votes and log, and applies up to c
pub record Followed (d e : Durable) (c : ℕ) : Type 0 where
  pub term : e.term ≡ d.term
  pub votes : e.votes ≡ d.votes
  pub log : e.log ≡ d.log
  pub applied : e.applied ≤ c

pub record EnginePath (ring : Layout) (id : ℕ) (h : History) (d : Durable) (steps : List Action) (c : ℕ) : Type 0 where
  pub path : Path ring id h d steps h
  pub quiet : elected ring id h h d steps path ≡ []
  pub after : Followed d (all_done d steps) c

pub no_actions : (ring : Layout) (id : ℕ) (h : History) (d : Durable) → QuietPath ring id h d []
no_actions ring id h d = record { path = Ends; quiet = refl; same = record { term = refl; votes = refl; log = refl; applied = refl } }

-- one action of the engine alone
pub engine_action : (ring : Layout) (id : ℕ) (h : History) (d : Durable) (a : Action) → SameLog d (done d a) → QuietPath ring id h d (a ∷ [])
engine_action ring id h d a same = record { path = Goes_on (Engine same refl) Ends; quiet = refl; same = same }

prepare_path : (ring : Layout) (id : ℕ) (h : History) (d : Durable) (pairs : List Pair) (o : Option Entry) → QuietPath ring id h d (prepare_entry pairs o)
prepare_path ring id h d pairs None = no_actions ring id h d
prepare_path ring id h d pairs (Some e) = go (pair_of e) (is_prepared pairs e.opid)
  where
    go : (a : Option Pair) (b : Bool) → QuietPath ring id h d (elim a [ None ↦ [] | Some p ↦ if b then [] else action.Prepare p ∷ [] ])
    go None b = no_actions ring id h d
    go (Some p) true = no_actions ring id h d
    go (Some p) false = engine_action ring id h d (action.Prepare p) (record { term = refl; votes = refl; log = refl; applied = refl })

pub engine_path : (ring : Layout) (id : ℕ) (h : History) (n a : ℕ) (d : Durable) (l : List Entry) (pairs : List Pair) → d.log ≡ l → d.applied ≤ a
    → IsSealed ring h d.term (a + n) l → MayReach h id d.term (a + n)
    → EnginePath ring id h d (engine_actions l pairs a n) (a + n)
engine_path ring id h zero a d l pairs is le s may =
    record { path = Ends; quiet = refl; after = record { term = refl; votes = refl; log = refl; applied = omega arith } }
engine_path ring id h (suc n) a d l pairs is le s may =
    let p = prepare_path ring id h d pairs (entry_at l (suc a)) in
    let e : Durable = all_done d (prepare_entry pairs (entry_at l (suc a))) in
    let same = p.same in
    let sealed : IsSealed ring h e.term (suc a) e.log =
    subst (λ (t : ℕ). IsSealed ring h t (suc a) e.log) (sym same.term)
    (subst (λ (w : List Entry). IsSealed ring h d.term (suc a) w) (sym (same.log ∙ is)) (seal_less ring h d.term (a + suc n) (suc a) l (omega arith) s)) in
    let ih = engine_path ring id h n (suc a) (done e (action.Commit (suc a))) l pairs (same.log ∙ is) (omega arith)
    (subst (λ (t : ℕ). IsSealed ring h t (suc a + n) l) (sym same.term) (seal_less ring h d.term (a + suc n) (suc a + n) l (omega arith) s))
    (subst (λ (t : ℕ). MayReach h id t (suc a + n)) (sym same.term) (reach_less h id d.term (a + suc n) (suc a + n) (omega arith) may)) in
    let j = done_join d (prepare_entry pairs (entry_at l (suc a))) (action.Commit (suc a) ∷ engine_actions l pairs (suc a) n) in
    record {
      path = path_join ring id h h h d (prepare_entry pairs (entry_at l (suc a))) (action.Commit (suc a) ∷ engine_actions l pairs (suc a) n) p.path
          (Goes_on (Applies (suc a) refl sealed (subst (λ (t : ℕ). MayReach h id t (suc a)) (sym same.term) (reach_less h id d.term (a + suc n) (suc a) (omega arith) may)) refl) ih.path);
      quiet = quiet_join ring id h h h d (prepare_entry pairs (entry_at l (suc a))) (action.Commit (suc a) ∷ engine_actions l pairs (suc a) n) p.path
          (Goes_on (Applies (suc a) refl sealed (subst (λ (t : ℕ). MayReach h id t (suc a)) (sym same.term) (reach_less h id d.term (a + suc n) (suc a) (omega arith) may)) refl) ih.path) p.quiet ih.quiet;
      after = subst (λ (w : Durable). Followed d w (a + suc n)) (sym j)
          (record { term = ih.after.term ∙ same.term; votes = ih.after.votes ∙ same.votes; log = ih.after.log ∙ same.log; applied = omega (arith, ih.after.applied) });
    }

pub follow_path : (ring : Layout) (me id : ℕ) (h : History) (d : Durable) (c : ℕ) → d.applied ≤ c → IsSealed ring h d.term c d.log → MayReach h id d.term c
    → EnginePath ring id h d (follow_actions ring me d c) c
follow_path ring me id h d c le s may = go (runs_engine ring me) refl
  where
    go : (b : Bool) → runs_engine ring me ≡ b → EnginePath ring id h d (follow_actions ring me d c) c
    go true is =
        rw is (let x = engine_path ring id h (c - d.applied) d.applied d d.log d.prepared refl (omega arith) (let e : d.applied + (c - d.applied) ≡ c = omega arith in rw e s)
        (reach_less h id d.term c (d.applied + (c - d.applied)) (omega arith) may) in
        record { path = x.path; quiet = x.quiet; after = record { term = x.after.term; votes = x.after.votes; log = x.after.log; applied = omega (arith, x.after.applied) } })
    go false is = rw is (record { path = Ends; quiet = refl; after = record { term = refl; votes = refl; log = refl; applied = le } })

-- ---- the commit count
pub data IsGreatest (test : ℕ → Bool) (floor n b : ℕ) : Type 0 where
  At_floor : b ≡ floor → IsGreatest test floor n b
  At_found : floor < b → b ≤ n → test b ≡ true → IsGreatest test floor n b

greatest_more : (test : ℕ → Bool) (floor n b : ℕ) → IsGreatest test floor n b → IsGreatest test floor (suc n) b
greatest_more test floor n b (At_floor is) = At_floor is
greatest_more test floor n b (At_found x y z) = At_found x (omega arith) z

greatest_is : (test : ℕ → Bool) (floor n : ℕ) → IsGreatest test floor n (greatest test floor n)
greatest_is test floor zero = At_floor refl
greatest_is test floor (suc n) = go (nat_le (suc n) floor) refl (test (suc n)) refl (greatest_is test floor n)
  where
    go : (a : Bool) → nat_le (suc n) floor ≡ a → (b : Bool) → test (suc n) ≡ b → IsGreatest test floor n (greatest test floor n)
        → IsGreatest test floor (suc n) (greatest test floor (suc n))
    go true x b y ih = rw x (At_floor refl)
    go false x true y ih = rw (x, y) (At_found (grind (arith, nat_tests, x)) (omega arith) y)
    go false x false y ih = rw (x, y) (greatest_more test floor n (greatest test floor n) ih)

holder_is : (p : ℕ) (peers : List Peer) (v : ℕ) → Contains (holders p peers) v → (x : Peer) × Contains peers x × (x.node ≡ v) × (p ≤ x.matched)
holder_is p [] v c = absurd (omega (arith, c.1))
holder_is p (x ∷ peers) v c = go (nat_le p x.matched) refl c (holder_is p peers v)
  where
    more : ((y : Peer) × Contains peers y × (y.node ≡ v) × (p ≤ y.matched)) → (y : Peer) × Contains (x ∷ peers) y × (y.node ≡ v) × (p ≤ y.matched)
    more y = (y.0, (suc y.1.0, omega (arith, y.1.1), y.1.2), y.2, y.3)

    go : (b : Bool) → nat_le p x.matched ≡ b → Contains (holders p (x ∷ peers)) v
        → (Contains (holders p peers) v → (y : Peer) × Contains peers y × (y.node ≡ v) × (p ≤ y.matched))
        → (y : Peer) × Contains (x ∷ peers) y × (y.node ≡ v) × (p ≤ y.matched)
    go true is c ih =
        let d = rw is at c in
        elim (cons_cases x.node (holders p peers) v d) [ inl here ↦ (x, (zero, omega arith, refl), here, grind (arith, nat_tests, is)) | inr there ↦ more (ih there) ]
    go false is c ih = let d = rw is at c in more (ih d)

count_sealed : (ring : Layout) (h : History) (id : ℕ) (d : Durable) (s : Soft) → IsHistory ring h → IsNode ring h id d → IsLeader h id d s
    → IsSealed ring h d.term s.commit d.log
    → IsSealed ring h d.term (commit_count ring id d.term d.log s) d.log × (s.commit ≤ commit_count ring id d.term d.log s)
count_sealed ring h id d s k n x sealed = go (commit_count ring id d.term d.log s) (greatest_is (may_commit ring id d.term d.log s.peers) s.commit (length d.log))
  where
    pass : (p : ℕ) → may_commit ring id d.term d.log s.peers p ≡ true
        → (term_at d.log p ≡ d.term) × (commits ring (region_of ring id) (id ∷ holders p s.peers) ≡ true)
    pass p t = split (term_at d.log p == d.term) refl t
      where
        split : (b : Bool) → (term_at d.log p == d.term) ≡ b → may_commit ring id d.term d.log s.peers p ≡ true
            → (term_at d.log p ≡ d.term) × (commits ring (region_of ring id) (id ∷ holders p s.peers) ≡ true)
        split true is t = (grind (arith, nat_tests, is), let u = rw is at t in u)
        split false is t = absurd (let u = rw is at t in let z : false ≡ true = u in cc)

    go : (b : ℕ) → IsGreatest (may_commit ring id d.term d.log s.peers) s.commit (length d.log) b → IsSealed ring h d.term b d.log × (s.commit ≤ b)
    go b (At_floor is) = (subst (λ (c : ℕ). IsSealed ring h d.term c d.log) (sym is) sealed, omega arith)
    go b (At_found low high t) =
        let y = pass b t in (
          leader_commits ring h id d k n s b (id ∷ holders b s.peers) x high y.0 y.1
              (λ v in_v. elim (cons_cases id (holders b s.peers) v in_v) [ inl here ↦ inl (sym here) | inr there ↦ inr (holder_is b s.peers v there) ]),
          omega arith,
        )

pub leader_at : (h : History) (id : ℕ) (d e : Durable) (s o : Soft) → e.term ≡ d.term → length d.log ≤ length e.log → o.peers ≡ s.peers → IsLeader h id d s
    → IsLeader h id e o
leader_at h id d e s o t more p x = record {
  election = x.election;
  led = x.led;
  by = x.by;
  of_term = x.of_term ∙ sym t;
  matched = λ y in_y some. subst (λ (u : ℕ). HasAcked h y.node u y.matched) (sym t) (x.matched y (subst (λ (l : List Peer). Contains l y) p in_y) some);
  next = λ y in_y. let z = x.next y (subst (λ (l : List Peer). Contains l y) p in_y) in (z.0, omega (arith, z.1));
}

-- ---- the row of a leader, after the actions that come first
-- how the node comes to lead after these: it led before, or the path holds its election
pub data Rising (ring : Layout) (id : ℕ) (h m : History) (d : Durable) (o s : Soft) (first : List Action) (p : Path ring id h d first m) : Type 0 where
  Led_on : is_leader o.role ≡ true → elected ring id h m d first p ≡ [] → Rising ring id h m d o s first p
  Led_new : is_leader o.role ≡ false → IsHeld ring id h m d first s.grants p → Rising ring id h m d o s first p

rising_holds : (ring : Layout) (id : ℕ) (h m : History) (d : Durable) (o s t : Soft) (first more : List Action) (p : Path ring id h d first m)
    (q : Path ring id m (all_done d first) more m)
    → is_leader t.role ≡ true → t.grants ≡ s.grants → elected ring id m m (all_done d first) more q ≡ [] → Rising ring id h m d o s first p
    → Holding ring id h m d o t (first ++ more) (path_join ring id h m m d first more p q)
rising_holds ring id h m d o s t first more p q leads same quiet (Led_on led none) = Led_before led (quiet_join ring id h m m d first more p q none quiet)
rising_holds ring id h m d o s t first more p q leads same quiet (Led_new was held) =
    Leads_now was leads (subst (λ (g : List Grant). IsHeld ring id h m d (first ++ more) g (path_join ring id h m m d first more p q)) (sym same) (held_join ring id h m m d first more s.grants p q held quiet))

pub advance_row : (ring : Layout) (h m : History) (id : ℕ) (d : Durable) (o s : Soft) (first : List Action) (says : List Say) (p : Path ring id h d first m)
    → IsHistory ring m → IsNode ring m id (all_done d first)
    → s.role ≡ Leader → IsLeader m id (all_done d first) s → IsSealed ring m (all_done d first).term s.commit (all_done d first).log
    → (all_done d first).applied ≤ s.commit
    → Rising ring id h m d o s first p → IsRow ring h id d o (advance ring id d s first says)
unfolding advance
advance_row ring h m id d o s first says p k n role x sealed le rising =
    let e : Durable = all_done d first in
    let c = commit_count ring id e.term e.log s in
    let t : Soft = record s { commit = c; pending = waiting c s.pending } in
    let y = count_sealed ring m id e s k n x sealed in
    let led : IsLed m id e.term = (x.election, x.led, x.by, x.of_term) in
    let f = follow_path ring id id m e c (omega (arith, y.1)) y.0 (inr led) in
    let j = done_join d first (follow_actions ring id e c) in
    record {
      acted = m;
      path = path_join ring id h m m d first (follow_actions ring id e c) p f.path;
      sent = m;
      sends = Sent_all;
      role = subst (λ (w : Durable). HasRole m id w t s.role) (sym j)
          (subst (λ (r : Role). HasRole m id (all_done e (follow_actions ring id e c)) t r) (sym role)
          (leader_at m id e (all_done e (follow_actions ring id e c)) s t f.after.term (omega (arith, ap length f.after.log)) refl x));
      sealed = subst (λ (w : Durable). IsSealed ring m w.term c w.log) (sym j)
          (subst (λ (u : ℕ). IsSealed ring m u c (all_done e (follow_actions ring id e c)).log) (sym f.after.term) (subst (λ (l : List Entry). IsSealed ring m e.term c l) (sym f.after.log) y.0));
      applied = subst (λ (w : Durable). w.applied ≤ c) (sym j) f.after.applied;
      reaches = inr (subst (λ (w : Durable). IsLed m id w.term) (sym j) (subst (λ (u : ℕ). IsLed m id u) (sym f.after.term) led));
      holding = rising_holds ring id h m d o s t first (follow_actions ring id e c) p f.path (ap is_leader role) refl f.quiet rising;
    }
