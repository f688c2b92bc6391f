-- What a running node keeps in its soft part: only a leader has peers, waiting writes and a transfer, and these fit its log.
use Rattle.std.proofs.Common.{◌≡◌, ℕ, ◌+◌, ◌<◌, ◌≤◌, ◌==◌, ◌⊎◌, [], ◌∷◌, ◌++◌, ◌∙◌, if◌then◌else◌, Bool, List, ap, arith, false, inl, inr, length, map, not, refl, subst, suc, sym, true, zero}
use Rattle.std.proofs.lemmas.Bool.Decides.{nat_tests}
use Rattle.std.specs.Prelude.{filter, nat_le, nat_lt}
use Rattle.std.specs.List.{Contains, list_all}
use Rattle.std.specs.List.Sorted.{IsStrictlyIncreasing}
use Rattle.ring_types.specs.declared.entries.Entry.{Entry}
use Rattle.ring_types.specs.declared.entries.Grant.{Grant}
use Rattle.ring_types.specs.declared.entries.Payload.TheVariants as payload
use Rattle.ring_types.specs.declared.members.Member.{Member}
use Rattle.ring_types.specs.Rings.{Layout, votes}
use Rattle.ring_model.specs.declared.effects.Action.{Action}
use Rattle.ring_model.specs.declared.effects.Action.TheVariants as action
use Rattle.ring_model.specs.declared.effects.Say.{Say}
use Rattle.ring_model.specs.declared.effects.Step.{Step}
use Rattle.ring_model.specs.declared.messages.Message.{Message}
use Rattle.ring_model.specs.declared.nodes.Durable.{Durable}
use Rattle.ring_model.specs.declared.nodes.Peer.{Peer}
use Rattle.ring_model.specs.declared.nodes.Pending.{Pending}
use Rattle.ring_model.specs.declared.nodes.Role.TheVariants.{Candidate, Follower}
use Rattle.ring_model.specs.declared.nodes.Soft.{Soft}
use Rattle.ring_model.specs.declared.nodes.Transfer.TheVariants as transfer
use Rattle.ring_model.specs.Actions.{all_done}
use Rattle.ring_model.specs.Nodes.{IsPendingIn, MockFits, TransferFits, is_leader, others}
use Rattle.ring_model.specs.Replication.{heard_among, heard_from, quieter}
use Rattle.ring_model.specs.Elections.{first_peers, has_won, lead, lead_or_ask, leading}
use Rattle.ring_model.specs.Steps.{advance, commit_count, demoted, follow_actions, is_settled, may_commit, own_entry, smaller_of, stepped, waiting}
use Rattle.ring_model.proofs.OwnEntry.{length_push}
use Rattle.ring_types.proofs.Booleans.{both_true}
use Rattle.ring_model.proofs.Lists.{filter_of, filter_true, none_contained}
use Rattle.ring_model.proofs.HeldElections.{done_join}
use Rattle.ring_lawful.proofs.EngineAppend.{follow_log}
use Rattle.ring_lawful.proofs.EngineSteps.{greatest_bounds}
use Rattle.ring_lawful.proofs.Sized.{all_filter, all_join}

-- each waiting write stands below all later ones
abbrev pub Rises : List Pending → Type 0
Rises [] = Unit {0}
Rises (p ∷ pending) = (list_all (λ (q : Pending). nat_lt p.opid.position q.opid.position) pending ≡ true) × Rises pending

-- of a leader
pub record LeaderFits (ring : Layout) (me : ℕ) (log : List Entry) (s : Soft) : Type 0 where
  pub votes : votes ring me ≡ true
  pub others : map (λ (p : Peer). p.node) s.peers ≡ others ring me
  pub silent : list_all (λ (p : Peer). nat_le p.silent 3) s.peers ≡ true
  pub low : 1 ≤ s.ready_at
  pub inside : s.ready_at ≤ length log
  pub ends : (nat_le s.ready_at s.commit ≡ true) ⊎ (s.ready_at ≡ length log)
  pub waits : (p : Pending) → Contains s.pending p → IsPendingIn log s.commit p

pub record SoftFits (ring : Layout) (me : ℕ) (log : List Entry) (s : Soft) : Type 0 where
  pub learner : votes ring me ≡ false → s.role ≡ Follower
  pub alone : is_leader s.role ≡ false → (s.pending ≡ []) × (s.transfer ≡ transfer.Off)
  pub leads : is_leader s.role ≡ true → LeaderFits ring me log s
  pub rises : Rises s.pending
  pub transfer : TransferFits ring me s.transfer
  pub mock : MockFits ring me s.mock

abbrev pub SoftStep : Layout → ℕ → Durable → Step → Type 0
SoftStep ring me d st = SoftFits ring me (all_done d st.plan.actions).log st.soft

-- ---- a node that does not lead
pub stands : (ring : Layout) (me : ℕ) (log : List Entry) (s : Soft) → is_leader s.role ≡ false → (votes ring me ≡ false → s.role ≡ Follower) → s.pending ≡ []
    → s.transfer ≡ transfer.Off → MockFits ring me s.mock → SoftFits ring me log s
stands ring me log s led learner none off m = record {
  learner = learner;
  alone = λ is. (none, off);
  leads = λ is. absurd (let z : true ≡ false = sym is ∙ led in cc);
  rises = subst Rises (sym none) tt;
  transfer = subst (TransferFits ring me) (sym off) tt;
  mock = m;
}

pub demoted_fits : (ring : Layout) (me : ℕ) (log : List Entry) (s : Soft) → SoftFits ring me log (demoted s)
demoted_fits ring me log s = stands ring me log (demoted s) refl (λ is. refl) refl refl tt

-- ---- pending writes
rises_filter : (q : Pending → Bool) (ps : List Pending) → Rises ps → Rises (filter q ps)
rises_filter q [] r = tt
rises_filter q (p ∷ ps) r = go (q p) refl (rises_filter q ps r.1) (all_filter (λ (x : Pending). nat_lt p.opid.position x.opid.position) q ps r.0)
  where
    go : (b : Bool) → q p ≡ b → Rises (filter q ps) → list_all (λ (x : Pending). nat_lt p.opid.position x.opid.position) (filter q ps) ≡ true
        → Rises (filter q (p ∷ ps))
    go true is rest above = rw is (above, rest)
    go false is rest above = rw is rest

pub rises_push : (ps : List Pending) (p : Pending) → Rises ps → ((x : Pending) → Contains ps x → x.opid.position < p.opid.position) → Rises (ps ++ p ∷ [])
rises_push [] p r low = (refl, tt)
rises_push (x ∷ ps) p r low =
    let lt = low x (zero, omega arith, refl) in
    let here : nat_lt x.opid.position p.opid.position ≡ true = grind (arith, nat_tests, lt) in
    (all_join (λ (y : Pending). nat_lt x.opid.position y.opid.position) ps (p ∷ []) r.0 (rw here refl), rises_push ps p r.1 (λ y c. low y (suc c.0, omega (arith, c.1), c.2)))

pub increasing : (ps : List Pending) → Rises ps → IsStrictlyIncreasing (map (λ (p : Pending). p.opid.position) ps)
increasing [] r k lt = absurd (omega arith)
increasing (v ∷ []) r k lt = absurd (omega arith)
increasing (v ∷ w ∷ ps) r zero lt =
    let z = both_true (nat_lt v.opid.position w.opid.position) (list_all (λ (q : Pending). nat_lt v.opid.position q.opid.position) ps) r.0 in
    grind (arith, nat_tests, z.0)
increasing (v ∷ w ∷ ps) r (suc k) lt = let z : suc k + 1 ≡ suc (k + 1) = omega arith in let y = increasing (w ∷ ps) r.1 k (omega (arith, lt)) in rw z y

unsettled : (c position : ℕ) → not (nat_le position c) ≡ true → c < position
unsettled c position is = grind (arith, nat_tests, is)

-- ---- a leader's step
advance_fits : (ring : Layout) (me : ℕ) (log : List Entry) (s : Soft) (c : ℕ) → SoftFits ring me log s → s.commit ≤ c
    → SoftFits ring me log (record s { commit = c; pending = waiting c s.pending })
advance_fits ring me log s c x low = record {
  learner = x.learner;
  alone = λ is. (let a = x.alone is in (ap (waiting c) a.0, a.1));
  leads = λ is. (let l = x.leads is in record {
    votes = l.votes;
    others = l.others;
    silent = l.silent;
    low = l.low;
    inside = l.inside;
    ends = elim l.ends [ inl before ↦ inl (grind (arith, nat_tests, before, low)) | inr end ↦ inr end ];
    waits = λ p in_p.
        let old = l.waits p (filter_of (λ (q : Pending). not (is_settled c q)) s.pending p in_p) in
        (unsettled c p.opid.position (filter_true (λ (q : Pending). not (is_settled c q)) s.pending p in_p), old.1);
  });
  rises = rises_filter (λ (q : Pending). not (is_settled c q)) s.pending x.rises;
  transfer = x.transfer;
  mock = x.mock;
}

pub advance_soft : (ring : Layout) (me : ℕ) (d : Durable) (s : Soft) (first : List Action) (says : List Say) → SoftFits ring me (all_done d first).log s
    → s.commit ≤ length (all_done d first).log → SoftStep ring me d (advance ring me d s first says)
unfolding advance
advance_soft ring me d s first says x inside =
    let e : Durable = all_done d first in
    let c = commit_count ring me e.term e.log s in
    let b = greatest_bounds (may_commit ring me e.term e.log s.peers) s.commit (length e.log) (length e.log) inside (omega arith) in
    let l : (all_done d (first ++ follow_actions ring me e c)).log ≡ e.log =
    ap (λ (w : Durable). w.log) (done_join d first (follow_actions ring me e c)) ∙ follow_log ring me e c in
    subst (λ (w : List Entry). SoftFits ring me w (record s { commit = c; pending = waiting c s.pending })) (sym l) (advance_fits ring me e.log s c x b.0)

-- ---- peers
first_are_others : (me next : ℕ) (members : List Member)
    → map (λ (p : Peer). p.node) (first_peers me next members) ≡ map (λ (m : Member). m.id) (filter (λ (m : Member). not (m.id == me)) members)
first_are_others me next [] = refl
first_are_others me next (m ∷ members) = go (m.id == me) refl (first_are_others me next members)
  where
    go : (b : Bool) → (m.id == me) ≡ b
        → map (λ (p : Peer). p.node) (first_peers me next members) ≡ map (λ (m : Member). m.id) (filter (λ (m : Member). not (m.id == me)) members)
        → map (λ (p : Peer). p.node) (first_peers me next (m ∷ members)) ≡ map (λ (m : Member). m.id) (filter (λ (m : Member). not (m.id == me)) (m ∷ members))
    go true is rest = rw is rest
    go false is rest = rw is (ap (λ (ids : List ℕ). m.id ∷ ids) rest)

first_silent : (me next : ℕ) (members : List Member) → list_all (λ (p : Peer). nat_le p.silent 3) (first_peers me next members) ≡ true
first_silent me next [] = refl
first_silent me next (m ∷ members) = go (m.id == me) refl (first_silent me next members)
  where
    go : (b : Bool) → (m.id == me) ≡ b → list_all (λ (p : Peer). nat_le p.silent 3) (first_peers me next members) ≡ true
        → list_all (λ (p : Peer). nat_le p.silent 3) (first_peers me next (m ∷ members)) ≡ true
    go true is rest = rw is rest
    go false is rest = rw is rest

heard_same : (p : Peer) (ok : Bool) (position : ℕ) → ((heard_from p ok position).node ≡ p.node) × ((heard_from p ok position).silent ≡ 0)
heard_same p true position = (refl, refl)
heard_same p false position = (refl, refl)

pub heard_nodes : (peers : List Peer) (from : ℕ) (ok : Bool) (position : ℕ)
    → map (λ (p : Peer). p.node) (heard_among peers from ok position) ≡ map (λ (p : Peer). p.node) peers
heard_nodes [] from ok position = refl
heard_nodes (p ∷ peers) from ok position = go (p.node == from) refl (heard_nodes peers from ok position)
  where
    go : (b : Bool) → (p.node == from) ≡ b → map (λ (p : Peer). p.node) (heard_among peers from ok position) ≡ map (λ (p : Peer). p.node) peers
        → map (λ (p : Peer). p.node) (heard_among (p ∷ peers) from ok position) ≡ map (λ (p : Peer). p.node) (p ∷ peers)
    go true is rest =
        rw is (ap (λ (n : ℕ). n ∷ map (λ (p : Peer). p.node) (heard_among peers from ok position)) (heard_same p ok position).0 ∙ ap (λ (ns : List ℕ). p.node ∷ ns) rest)
    go false is rest = rw is (ap (λ (ns : List ℕ). p.node ∷ ns) rest)

pub heard_silent : (peers : List Peer) (from : ℕ) (ok : Bool) (position : ℕ) → list_all (λ (p : Peer). nat_le p.silent 3) peers ≡ true
    → list_all (λ (p : Peer). nat_le p.silent 3) (heard_among peers from ok position) ≡ true
heard_silent [] from ok position t = refl
heard_silent (p ∷ peers) from ok position t =
    let z = both_true (nat_le p.silent 3) (list_all (λ (p : Peer). nat_le p.silent 3) peers) t in
    go (p.node == from) refl z.0 (heard_silent peers from ok position z.1)
  where
    go : (b : Bool) → (p.node == from) ≡ b → nat_le p.silent 3 ≡ true
        → list_all (λ (p : Peer). nat_le p.silent 3) (heard_among peers from ok position) ≡ true
        → list_all (λ (p : Peer). nat_le p.silent 3) (heard_among (p ∷ peers) from ok position) ≡ true
    go true is here rest =
        let y = (heard_same p ok position).1 in let w : nat_le (heard_from p ok position).silent 3 ≡ true = ap (λ (n : ℕ). nat_le n 3) y in rw (is, w) rest
    go false is here rest = rw (is, here) rest

quieter_low : (n : ℕ) → nat_le (smaller_of (suc n) 3) 3 ≡ true
quieter_low n = go (nat_le (suc n) 3) refl
  where
    go : (b : Bool) → nat_le (suc n) 3 ≡ b → nat_le (smaller_of (suc n) 3) 3 ≡ true
    go true is = rw is is
    go false is = rw is refl

pub quieter_nodes : (peers : List Peer) → map (λ (p : Peer). p.node) (map quieter peers) ≡ map (λ (p : Peer). p.node) peers
quieter_nodes [] = refl
quieter_nodes (p ∷ peers) = ap (λ (ns : List ℕ). p.node ∷ ns) (quieter_nodes peers)

pub quieter_silent : (peers : List Peer) → list_all (λ (p : Peer). nat_le p.silent 3) (map quieter peers) ≡ true
quieter_silent [] = refl
quieter_silent (p ∷ peers) = let y = quieter_low p.silent in rw y (quieter_silent peers)

-- ---- winning
pub ask_soft : (ring : Layout) (me : ℕ) (d : Durable) (s : Soft) (first : List Action) (says : List Say) (grants : List Grant) (asks : List Message)
    → votes ring me ≡ true → s.pending ≡ [] → s.transfer ≡ transfer.Off → MockFits ring me s.mock
    → s.commit ≤ length (all_done d first).log → SoftStep ring me d (lead_or_ask ring me d s first says grants asks)
unfolding lead_or_ask
ask_soft ring me d s first says grants asks may none off m inside = go (has_won ring me (all_done d first) grants)
  where
    go : (b : Bool) → SoftStep ring me d (if b then lead ring me d s first says grants else stepped first asks says (record s { role = Candidate; grants = grants }))
    go true =
        let e : Durable = all_done d first in
        let x : Entry = own_entry ring me (all_done d first) payload.NoOp in
        let l : (all_done d (first ++ (action.Append (x ∷ []) ∷ []))).log ≡ e.log ++ x ∷ [] =
        ap (λ (w : Durable). w.log) (done_join d first (action.Append (x ∷ []) ∷ [])) in
        let n : length (all_done d (first ++ (action.Append (x ∷ []) ∷ []))).log ≡ suc (length e.log) = ap length l ∙ length_push e.log x in
        advance_soft ring me d (leading ring me (suc (length (all_done d first).log)) s grants)
        (first ++ (action.Append (own_entry ring me (all_done d first) payload.NoOp ∷ []) ∷ [])) says
        (record {
          learner = λ bad. absurd (let z : true ≡ false = sym may ∙ bad in cc);
          alone = λ bad. absurd cc;
          leads = λ is. record {
            votes = may;
            others = first_are_others me (suc (length (all_done d first).log)) ring.members;
            silent = first_silent me (suc (length (all_done d first).log)) ring.members;
            low = omega arith;
            inside = omega (arith, n);
            ends = inr (sym n);
            waits = λ p in_p. absurd (none_contained p (subst (λ (ps : List Pending). Contains ps p) none in_p));
          };
          rises = subst Rises (sym none) tt;
          transfer = subst (TransferFits ring me) (sym off) tt;
          mock = m;
        }) (omega (arith, inside, n))
    go false =
        stands ring me (all_done d first).log (record s { role = Candidate; grants = grants }) refl
        (λ bad. absurd (let z : true ≡ false = sym may ∙ bad in cc)) none off m
