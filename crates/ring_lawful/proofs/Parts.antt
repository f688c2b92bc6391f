-- A lawful node, part by part, as the rules of the step take it; and what a good input gives them.
use Rattle.std.proofs.Common.{◌≡◌, ℕ, ◌+◌, ◌<◌, ◌≤◌, ◌==◌, ◌&&◌, ◌⊎◌, [], ◌∷◌, ◌∙◌, if◌then◌else◌, Bool, List, ap, arith, false, inl, inr, length, map, refl, subst, suc, sym, true, zero}
use Rattle.std.proofs.lemmas.Bool.Decides.{nat_tests}
use Rattle.std.specs.Prelude.{nat_le, nat_lt, slice_index}
use Rattle.std.specs.List.{All, Contains, list_all}
use Rattle.std.specs.List.Sorted.{IsStrictlyIncreasing}
use Rattle.ring_types.specs.declared.limits.TheConstants.{TERM_END}
use Rattle.ring_types.specs.declared.entries.Entry.{Entry}
use Rattle.ring_types.specs.declared.entries.Opid.{Opid}
use Rattle.ring_types.specs.declared.entries.Vote.{Vote}
use Rattle.ring_types.specs.declared.schemas.Schema.{Schema}
use Rattle.ring_types.specs.Rings.{Layout, runs_engine, votes}
use Rattle.ring_types.specs.Rows.{payload_fits, payloads_fit}
use Rattle.ring_types.specs.Sizes.{group_bytes, group_limit}
use Rattle.ring_model.specs.declared.messages.Body.{Body}
use Rattle.ring_model.specs.declared.messages.Body.TheVariants as body
use Rattle.ring_model.specs.declared.messages.Input.{Input}
use Rattle.ring_model.specs.declared.messages.Input.TheVariants as input
use Rattle.ring_model.specs.declared.nodes.Durable.{Durable}
use Rattle.ring_model.specs.declared.nodes.Peer.{Peer}
use Rattle.ring_model.specs.declared.nodes.Pending.{Pending}
use Rattle.ring_model.specs.declared.nodes.Role.{Role}
use Rattle.ring_model.specs.declared.nodes.Role.TheVariants.{Candidate, Follower, Leader}
use Rattle.ring_model.specs.declared.nodes.Soft.{Soft}
use Rattle.ring_model.specs.Actions.{entries_between, pairs_in}
use Rattle.ring_model.specs.Dispatch.{body_step, is_foreign, step}
use Rattle.ring_model.specs.Nodes.{ArePairsAbove, IsLawful, IsPendingIn, IsSound, PeerFits, is_leader, is_ready, kept_pairs}
use Rattle.ring_model.specs.Replication.{opids_of}
use Rattle.ring_model.specs.Steps.{idle}
use Rattle.ring_model.specs.WellFormed.{BodyIsNear, opid_fits, opids_follow}
use Rattle.ring_types.proofs.Booleans.{both_true}
use Rattle.ring_lawful.specs.EachStep.{IsGood}
use Rattle.ring_lawful.proofs.Keeps.{KeepsOrder}
use Rattle.ring_lawful.proofs.Chains.{Chain, ordered_from}
use Rattle.ring_lawful.proofs.Engine.{Clean}
use Rattle.ring_lawful.proofs.EngineSteps.{EngineRuns}
use Rattle.ring_lawful.proofs.Leads.{Rises, SoftFits}
use Rattle.ring_lawful.proofs.Prepared.{Engine}
use Rattle.ring_lawful.proofs.Sized.{BodyFits, Rising, Sized, all_weaker, entry_fits, fit_parts, rotates_is}
use Rattle.ring_lawful.proofs.SizedSteps.{IsShort, Keeps, idle_keeps}
use Rattle.ring_lawful.proofs.SizedElections.{elect_keeps}
use Rattle.ring_lawful.proofs.SizedOwn.{rotate_keeps, write_keeps}
use Rattle.ring_lawful.proofs.SizedAppends.{beat_keeps}
use Rattle.ring_lawful.proofs.Sound.{body_keeps, cancel_keeps, transfer_keeps}
use Rattle.ring_lawful.proofs.Steady.{Counted, Near}
use Rattle.ring_lawful.proofs.SteadyRules.{Goes, GoesIn}

-- ---- lists
all_get : {X : Type 0} (P : X → Type 0) (xs : List X) (x : X) → All P xs → Contains xs x → P x
all_get P xs x all (k, lt, is) = subst P is (all k x lt)

-- ---- the durable part
pub order_from : (ring : Layout) (me : ℕ) (d : Durable) → IsSound ring me d → KeepsOrder d
order_from ring me d x = record { placed = x.log.placed; rises = x.log.rises; log_below = x.log_below; applied_inside = x.applied_inside }

rising : (vs : List Vote) → IsStrictlyIncreasing (map (λ (v : Vote). v.term) vs) → Rising vs
rising [] h = tt
rising (v ∷ []) h = (refl, tt)
rising (v ∷ w ∷ vs) h =
    let rest = rising (w ∷ vs)
    (λ k within. let e : suc k + 1 ≡ suc (k + 1) = omega arith in
    subst (λ (n : ℕ). slice_index (w.term ∷ map (λ (v : Vote). v.term) vs) k < slice_index (v.term ∷ w.term ∷ map (λ (v : Vote). v.term) vs) n) e
    (h (suc k) (omega (arith, within)))) in
    let lt : v.term < w.term = h 0 (omega arith) in
    let here : nat_lt v.term w.term ≡ true = grind (arith, nat_tests, lt) in
    (rw here (all_weaker (λ (u : Vote). nat_lt w.term u.term) (λ (u : Vote). nat_lt v.term u.term) vs (λ u is. grind (arith, nat_tests, is, lt)) rest.0), rest)

rises_from : (ps : List Pending) → IsStrictlyIncreasing (map (λ (p : Pending). p.opid.position) ps) → Rises ps
rises_from [] h = tt
rises_from (v ∷ []) h = (refl, tt)
rises_from (v ∷ w ∷ ps) h =
    let rest = rises_from (w ∷ ps)
    (λ k within. let e : suc k + 1 ≡ suc (k + 1) = omega arith in
    subst (λ (n : ℕ). slice_index (w.opid.position ∷ map (λ (p : Pending). p.opid.position) ps) k < slice_index (v.opid.position ∷ w.opid.position ∷ map (λ (p : Pending). p.opid.position) ps) n) e (h (suc k) (omega (arith, within)))) in
    let lt : v.opid.position < w.opid.position = h 0 (omega arith) in
    let here : nat_lt v.opid.position w.opid.position ≡ true = grind (arith, nat_tests, lt) in
    (rw here (all_weaker (λ (u : Pending). nat_lt w.opid.position u.opid.position) (λ (u : Pending). nat_lt v.opid.position u.opid.position) ps (λ u is. grind (arith, nat_tests, is, lt)) rest.0), rest)

entries_fit : (ring : Layout) (t p : ℕ) (xs : List Entry) → Chain t p xs → p + length xs < TERM_END
    → list_all (λ (e : Entry). nat_le (group_bytes ring.schema e.payload) group_limit) xs ≡ true → payloads_fit ring.schema xs ≡ true
    → list_all (entry_fits ring) xs ≡ true
entries_fit ring t p [] c short groups fit = refl
entries_fit ring t p (x ∷ xs) c short groups fit =
    let g = both_true (nat_le (group_bytes ring.schema x.payload) group_limit) (list_all (λ (e : Entry). nat_le (group_bytes ring.schema e.payload) group_limit) xs) groups in
    let f = both_true (payload_fits ring.schema x.payload) (payloads_fit ring.schema xs) fit in
    let at = c.0 in
    let a = g.0 in
    let b : nat_lt x.opid.position TERM_END ≡ true = grind (arith, nat_tests, at, short) in
    let e = f.0 in
    rw (a, b, e) (entries_fit ring x.opid.term (suc p) xs c.2 (omega (arith, short)) g.1 f.1)

pub sized_from : (ring : Layout) (me : ℕ) (d : Durable) → IsSound ring me d → payloads_fit ring.schema d.log ≡ true → Sized ring d
sized_from ring me d x fit = record {
  term = x.term_fits;
  entries = (let s = x.log.short in entries_fit ring 0 0 d.log (ordered_from d (order_from ring me d x)).chain (omega (arith, s)) x.groups_fit fit);
  files = (let f = x.log.few_files in let q = rotates_is d.log in omega (arith, f, q));
  few = x.few_votes;
  rise = rising d.votes x.votes_rise;
  below = x.votes_below;
}

pub engine_from : (ring : Layout) (me : ℕ) (d : Durable) → IsSound ring me d → Engine ring me d
engine_from ring me d x = record { engine = λ runs. x.pairs_in_order; tailer = x.tailer }

pub payloads_from : (ring : Layout) (d : Durable) → Sized ring d → payloads_fit ring.schema d.log ≡ true
payloads_from ring d x = all_weaker (entry_fits ring) (λ (e : Entry). payload_fits ring.schema e.payload) d.log
    (λ e is. (fit_parts ring e is).2) x.entries

-- ---- the running node
near_from : (len : ℕ) (peers : List Peer) → All (PeerFits len) peers → Near len peers
near_from len [] all = tt
near_from len (p ∷ peers) all = (let a = all zero p (omega arith) in (a.0, a.1), near_from len peers (λ k d lt. all (suc k) d (omega (arith, lt))))

silent_from : (len : ℕ) (peers : List Peer) → All (PeerFits len) peers → list_all (λ (p : Peer). nat_le p.silent 3) peers ≡ true
silent_from len [] all = refl
silent_from len (p ∷ peers) all =
    let a = (all zero p (omega arith)).2 in
    let here : nat_le p.silent 3 ≡ true = grind (arith, nat_tests, a) in
    rw here (silent_from len peers (λ k d lt. all (suc k) d (omega (arith, lt))))

leads_is : (s : Soft) → is_leader s.role ≡ true → s.role ≡ Leader
leads_is s is = go s.role refl
  where
    go : (r : Role) → s.role ≡ r → s.role ≡ Leader
    go Leader x = x
    go Follower x = absurd (let z : false ≡ true = sym (ap is_leader x) ∙ is in cc)
    go Candidate x = absurd (let z : false ≡ true = sym (ap is_leader x) ∙ is in cc)

ready_cases : (s : Soft) (n : ℕ) → is_leader s.role ≡ true → (is_ready s ≡ false → s.ready_at ≡ n) → (nat_le s.ready_at s.commit ≡ true) ⊎ (s.ready_at ≡ n)
ready_cases s n led ends = go (nat_le s.ready_at s.commit) refl
  where
    go : (b : Bool) → nat_le s.ready_at s.commit ≡ b → (nat_le s.ready_at s.commit ≡ true) ⊎ (s.ready_at ≡ n)
    go true is = inl is
    go false is = inr (ends (rw (led, is) refl))

pub counted_from : (ring : Layout) (me : ℕ) (d : Durable) (s : Soft) → IsLawful ring me d s → Counted d s
counted_from ring me d s x =
    record { above = x.commit_above; inside = x.commit_inside; near = λ is. near_from (length d.log) s.peers (x.peers_fit (leads_is s is)) }

pub soft_from : (ring : Layout) (me : ℕ) (d : Durable) (s : Soft) → IsLawful ring me d s → SoftFits ring me d.log s
soft_from ring me d s x = record {
  learner = x.learner_follows;
  alone = x.leads_alone;
  leads = λ is. (let role = leads_is s is in let r = x.ready_inside role in record {
    votes = voter (votes ring me) refl role;
    others = x.peers_are_others role;
    silent = silent_from (length d.log) s.peers (x.peers_fit role);
    low = r.0;
    inside = r.1;
    ends = ready_cases s (length d.log) is (x.unready_ends role);
    waits = λ p in_p. all_get (IsPendingIn d.log s.commit) s.pending p (x.pending_in_log role) in_p;
  });
  rises = rises_from s.pending x.pending_rises;
  transfer = x.transfer_fits;
  mock = x.mock_fits;
}
  where
    voter : (b : Bool) → votes ring me ≡ b → s.role ≡ Leader → votes ring me ≡ true
    voter true is role = is
    voter false is role = absurd (let z : Leader ≡ Follower = sym role ∙ x.learner_follows is in cc)

clean_from : (ring : Layout) (me : ℕ) (d : Durable) (s : Soft) → IsLawful ring me d s → (k : ℕ) → k ≤ length d.log
    → d.prepared ≡ pairs_in (entries_between d.log d.applied k) → Clean d k
clean_from ring me d s x k inside is = record { placed = x.sound.log.placed; applied = x.sound.applied_inside; inside = inside; prepared = is }

pub runs_from : (ring : Layout) (me : ℕ) (d : Durable) (s : Soft) → IsLawful ring me d s → runs_engine ring me ≡ true → EngineRuns d s
runs_from ring me d s x runs =
    let p : ArePairsAbove d.log d.applied (kept_pairs d) = x.sound.pairs_in_order in
    record {
      k = p.0;
      clean = clean_from ring me d s x p.0 p.2 (sym x.pairs_in_log ∙ p.3);
      follows = x.engine_follows runs;
      ends = λ led. ready_cases s (length d.log) led (x.unready_ends (leads_is s led));
      all = λ ready. clean_from ring me d s x (length d.log) (omega arith) (x.all_prepared ready runs);
    }

-- ---- the input
pub chain_from : (term : ℕ) (before : Opid) (es : List Entry) → opids_follow term before (opids_of es) ≡ true
    → Chain before.term before.position es × (list_all (λ (e : Entry). nat_le e.opid.term term) es ≡ true)
chain_from term before [] is = (tt, refl)
chain_from term before (e ∷ es) is =
    let a = both_true (e.opid.position == suc before.position && nat_le before.term e.opid.term && nat_le e.opid.term term) (opids_follow term e.opid (opids_of es)) is in
    let b = both_true (e.opid.position == suc before.position && nat_le before.term e.opid.term) (nat_le e.opid.term term) a.0 in
    let c = both_true (e.opid.position == suc before.position) (nat_le before.term e.opid.term) b.0 in
    let rest = chain_from term e.opid es a.1 in
    let at : e.opid.position ≡ suc before.position = (let y = c.0 in grind (arith, nat_tests, y)) in
    let low : before.term ≤ e.opid.term = (let y = c.1 in grind (arith, nat_tests, y)) in
    let here = b.1 in
    ((at, low, subst (λ (n : ℕ). Chain e.opid.term n es) at rest.0), rw here rest.1)

sent_fit : (ring : Layout) (es : List Entry) → list_all (λ (e : Entry). nat_le (group_bytes ring.schema e.payload) group_limit) es ≡ true
    → list_all opid_fits (opids_of es) ≡ true → payloads_fit ring.schema es ≡ true → list_all (entry_fits ring) es ≡ true
sent_fit ring [] groups opids fit = refl
sent_fit ring (x ∷ xs) groups opids fit =
    let g = both_true (nat_le (group_bytes ring.schema x.payload) group_limit) (list_all (λ (e : Entry). nat_le (group_bytes ring.schema e.payload) group_limit) xs) groups in
    let o = both_true (opid_fits x.opid) (list_all opid_fits (opids_of xs)) opids in
    let f = both_true (payload_fits ring.schema x.payload) (payloads_fit ring.schema xs) fit in
    let a = g.0 in
    let b = (both_true (nat_lt x.opid.term TERM_END) (nat_lt x.opid.position TERM_END) o.0).1 in
    let e = f.0 in
    rw (a, b, e) (sent_fit ring xs g.1 o.1 f.1)

body_fits : (ring : Layout) (b : Body) → BodyIsNear ring.schema b → BodyFits ring b
body_fits ring (body.RequestVote asked) x = x.0
body_fits ring (body.VoteReply reply) x = x.term
body_fits ring (body.Append sent) x = (x.term, sent_fit ring sent.entries x.groups x.opids x.payloads)
body_fits ring (body.AppendReply answer) x = x.0
body_fits ring (body.ProxyAppend sent) x = x.term
body_fits ring (body.MockStart sent) x = tt
body_fits ring (body.MockRequest sent) x = tt
body_fits ring (body.MockReply sent) x = tt
body_fits ring (body.MockResult sent) x = tt
body_fits ring (body.TimeoutNow term) x = tt
body_fits ring (body.ClientWrite changes) x = let a = x.0 in grind (arith, nat_tests, a)
body_fits ring body.ClientRotate x = tt
body_fits ring (body.ClientTransfer target) x = tt
body_fits ring body.ClientCancel x = tt
body_fits ring (body.ClientReply what) x = tt

body_goes : (schema : Schema) (b : Body) → BodyIsNear schema b → Goes b
body_goes schema (body.RequestVote asked) x = tt
body_goes schema (body.VoteReply reply) x = tt
body_goes schema (body.Append sent) x = chain_from sent.term sent.prev sent.entries x.follow
body_goes schema (body.AppendReply answer) x = tt
body_goes schema (body.ProxyAppend sent) x = tt
body_goes schema (body.MockStart sent) x = tt
body_goes schema (body.MockRequest sent) x = tt
body_goes schema (body.MockReply sent) x = tt
body_goes schema (body.MockResult sent) x = tt
body_goes schema (body.TimeoutNow term) x = tt
body_goes schema (body.ClientWrite changes) x = tt
body_goes schema body.ClientRotate x = tt
body_goes schema (body.ClientTransfer target) x = tt
body_goes schema body.ClientCancel x = tt
body_goes schema (body.ClientReply what) x = tt

pub input_goes : (ring : Layout) (i : Input) → IsGood ring i → GoesIn i
input_goes ring input.Elect g = tt
input_goes ring input.Beat g = tt
input_goes ring (input.Deliver m) g = body_goes ring.schema m.body g
input_goes ring (input.Write client changes) g = tt
input_goes ring (input.Rotate client) g = tt
input_goes ring (input.Transfer client target) g = tt
input_goes ring (input.Cancel client) g = tt

pub input_keeps : (ring : Layout) (me : ℕ) (d : Durable) (s : Soft) (i : Input) → IsGood ring i → Sized ring d → IsShort d s → Keeps ring d (step ring me d s i)
input_keeps ring me d s input.Elect g x short = elect_keeps ring me d s x short
input_keeps ring me d s input.Beat g x short = beat_keeps ring me d s x short
input_keeps ring me d s (input.Deliver m) g x short = go (is_foreign ring me m)
  where
    go : (b : Bool) → Keeps ring d (if b then idle s else body_step ring me d s m.from m.body)
    go true = idle_keeps ring d s short
    go false = body_keeps ring me m.from d s m.body x short (body_fits ring m.body g)
input_keeps ring me d s (input.Write client changes) g x short = write_keeps ring me client changes d s (grind (arith, nat_tests, g)) x short
input_keeps ring me d s (input.Rotate client) g x short = rotate_keeps ring me client d s x short
input_keeps ring me d s (input.Transfer client target) g x short = transfer_keeps ring me client target d s short
input_keeps ring me d s (input.Cancel client) g x short = cancel_keeps ring client d s short
