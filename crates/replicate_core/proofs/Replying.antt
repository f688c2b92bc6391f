-- The rule of a reply by its cases; no sum stops short on a lawful node, whose members' numbers are below its length.
use Rattle.std.proofs.Common.{◌≡◌, ℕ, suc, ◌+◌, ◌-◌, ◌^◌, ◌<◌, ◌==◌, ◌&&◌, Bool, true, false, nat_lt, nat_le, min, if◌then◌else◌, List, [], ◌∷◌, length, Option, Some, None, refl, sym, ap, ap₂, ◌∙◌, arith}
use Rattle.std.specs.Prelude.{IfSome}
use Rattle.std.specs.List.{All}
use Rattle.ring_types.specs.declared.limits.TheConstants.{TERM_END}
use Rattle.ring_types.specs.declared.entries.Entry.{Entry}
use Rattle.ring_types.specs.declared.entries.Pair.{Pair}
use Rattle.ring_types.specs.Rings.{Layout}
use Rattle.ring_model.specs.Nodes.{PeerFits, is_leader}
use Rattle.ring_model.specs.Replication as spec
use Rattle.ring_model.specs.Steps.{advance, demoted, greater_of, idle, smaller_of, stepped, unknowns}
use Rattle.ring_model.specs.declared.nodes.Durable.{Durable}
use Rattle.ring_model.specs.declared.nodes.Peer.{Peer}
use Rattle.ring_model.specs.declared.nodes.Pending.{Pending}
use Rattle.ring_model.specs.declared.nodes.Role.{Role}
use Rattle.ring_model.specs.declared.nodes.Role.TheVariants.{Follower, Candidate, Leader}
use Rattle.ring_model.specs.declared.nodes.Soft.{Soft}
use Rattle.ring_model.specs.declared.effects.Action.TheVariants as action
use Rattle.ring_model.specs.declared.effects.Plan.{Plan}
use Rattle.ring_model.specs.declared.effects.Step.{Step}
use Rattle.ring_model.specs.declared.messages.AppendReply.{AppendReply}
use Rattle.commit_pipeline.specs.declared.advances.Advanced.{Advanced}
use Rattle.commit_pipeline.specs.declared.heres.Here.{Here}
use Rattle.commit_pipeline.specs.declared.heres.Leader.{Leader as Led}
use Rattle.commit_pipeline.specs.Advances.{advanced, pairs_left, part_after}
use Rattle.commit_pipeline.specs.Heres.{IsNode, durable_of}
use Rattle.commit_pipeline.proofs.Leading.{LeadsHere, all_left, by_parts}
use Rattle.replicate_core.specs.Replies as own

-- ---- what a leader knows: no sum stops short on a lawful node
rest-fit : (P : Peer → Type 0) (p : Peer) (peers : List Peer) → All P (p ∷ peers) → All P peers
rest-fit P p peers h = λ k d inside. h (suc k) d (omega arith)

heard-from : (n : ℕ) (p : Peer) (ok : Bool) (position : ℕ) → n < TERM_END → PeerFits n p → own.heard_from p ok position ≡ spec.heard_from p ok position
heard-from n p true position short fit =
    let at : position + 1 ≡ suc position = omega arith in
    ap (λ (k : ℕ). record p { silent = 0; matched = greater_of p.matched position; next = greater_of p.next k }) at
heard-from n p false position short fit =
    let at : position + 1 ≡ suc position = omega arith in
    let low = fit.0 in
    let high = fit.1 in
    let up : min (p.matched + 1) (2 ^ 64 - 1) ≡ suc p.matched = omega arith in
    ap₂ (λ (a k : ℕ). record p { silent = 0; next = greater_of a (smaller_of p.next k) }) up at

heard-same : (n : ℕ) (peers : List Peer) (from : ℕ) (ok : Bool) (position : ℕ) → n < TERM_END → All (PeerFits n) peers
    → own.heard_among peers from ok position ≡ spec.heard_among peers from ok position
heard-same n [] from ok position short fit = refl
heard-same n (p ∷ peers) from ok position short fit =
    go (p.node == from) (heard-from n p ok position short (fit 0 p (omega arith)))
    (heard-same n peers from ok position short (rest-fit (PeerFits n) p peers fit))
  where
    go : (b : Bool) → own.heard_from p ok position ≡ spec.heard_from p ok position
        → own.heard_among peers from ok position ≡ spec.heard_among peers from ok position
        → (if b then own.heard_from p ok position else p) ∷ own.heard_among peers from ok position
        ≡ (if b then spec.heard_from p ok position ∷ spec.heard_among peers from ok position else p ∷ spec.heard_among peers from ok position)
    go true one more = ap₂ (λ (x : Peer) (xs : List Peer). x ∷ xs) one more
    go false one more = ap (λ (xs : List Peer). p ∷ xs) more

leads : (r : Role) → is_leader r ≡ true → r ≡ Leader
leads Follower h = absurd cc
leads Candidate h = absurd cc
leads Leader h = refl

first_true : (a b : Bool) → (a && b) ≡ true → a ≡ true
first_true true b h = refl
first_true false b h = absurd (let z : false ≡ true = h in cc)

-- ---- by cases
abbrev by_case : Layout → ℕ → Durable → Soft → ℕ → AppendReply → Bool → Bool → Step
by_case ring me d s from reply true b = stepped (action.SetTerm reply.term ∷ []) [] (unknowns s) (demoted s)
by_case ring me d s from reply false true = spec.leader_hears ring me d s from reply
by_case ring me d s from reply false false = idle s

by_tests : (ring : Layout) (me : ℕ) (d : Durable) (s : Soft) (from : ℕ) (reply : AppendReply) (a b : Bool) → nat_lt d.term reply.term ≡ a
    → spec.counts d s reply ≡ b → spec.on_ack ring me d s from reply ≡ by_case ring me d s from reply a b
unfolding spec.on_ack
by_tests ring me d s from reply true b h k = simp h
by_tests ring me d s from reply false true h k = simp (h, k)
by_tests ring me d s from reply false false h k = simp (h, k)

pub adopts : {V : Type 0} (told : Option (List Entry)) (here : Here V) (s new : Soft) (from : ℕ) (reply : AppendReply) (plan : Plan)
    → nat_lt here.term reply.term ≡ true
    → plan ≡ record { actions = action.SetTerm reply.term ∷ []; messages = []; says = unknowns s } → new ≡ demoted s
    → IfSome told (λ log. spec.on_ack here.ring.now here.me (durable_of here log) s from reply ≡ record { plan = plan; soft = new })
adopts None here s new from reply plan h is down = tt
adopts (Some log) here s new from reply plan h is down =
    let d : Durable = durable_of here log in
    by_tests here.ring.now here.me d s from reply true (spec.counts d s reply) h refl
    ∙ ap₂ (λ (p : Plan) (x : Soft). record { plan = p; soft = x }) (sym is) (sym down)

pub ignores : {V : Type 0} (told : Option (List Entry)) (here : Here V) (s : Soft) (from end : ℕ) (reply : AppendReply) (hit : Bool) (plan : Plan)
    → nat_lt here.term reply.term ≡ false
    → IfSome told (λ log. length log ≡ end) → hit ≡ own.counts here.term end s reply → hit ≡ false
    → plan ≡ record { actions = []; messages = []; says = [] }
    → IfSome told (λ log. spec.on_ack here.ring.now here.me (durable_of here log) s from reply ≡ record { plan = plan; soft = s })
ignores None here s from end reply hit plan h whole j k is = tt
ignores (Some log) here s from end reply hit plan h whole j k is =
    let d : Durable = durable_of here log in
    let k2 : spec.counts d s reply ≡ false = ap (λ (n : ℕ). own.counts here.term n s reply) whole ∙ (sym j ∙ k) in
    by_tests here.ring.now here.me d s from reply false false h k2 ∙ ap (λ (p : Plan). record { plan = p; soft = s }) (sym is)

abbrev pub hearing : Soft → List Peer → Advanced → Step
hearing s peers it = record { plan = it.plan; soft = record s { peers = peers; commit = it.commit; pending = it.pending } }

heard : (ring : Layout) (me : ℕ) (d : Durable) (s : Soft) (peers : List Peer)
    → advance ring me d (record s { peers = peers }) [] []
    ≡ hearing s peers (advanced ring me (part_after d.term d.log d.applied d.prepared) s.commit peers s.pending (record { actions = []; messages = []; says = [] }))
unfolding advance
heard ring me d s peers = refl

pub hears : {V : Type 0} (told : Option (List Entry)) (here : Here V) (s new : Soft) (from end : ℕ) (reply : AppendReply) (leader : Led)
    (known peers slice : List Peer) (empty : Plan) (hit : Bool) (it : Advanced) (plan : Plan) → nat_lt here.term reply.term ≡ false
    → IfSome told (IsNode here s) → IfSome told (λ log. length log ≡ end) → end < TERM_END → hit ≡ own.counts here.term end s reply → hit ≡ true
    → known ≡ s.peers → peers ≡ own.heard_among known from reply.ok reply.position → slice ≡ peers → LeadsHere here s leader
    → empty ≡ record { actions = []; messages = []; says = [] }
    → IfSome told (λ log. it ≡ advanced leader.engine.ring.now leader.engine.me
    (part_after leader.term log leader.engine.applied (pairs_left leader.engine)) leader.commit slice leader.pending.now empty)
    → plan ≡ it.plan → new ≡ record s { peers = peers; commit = it.commit; pending = it.pending }
    → IfSome told (λ log. spec.on_ack here.ring.now here.me (durable_of here log) s from reply ≡ record { plan = plan; soft = new })
hears None here s new from end reply leader known peers slice empty hit it plan h node whole short l k a b e lead j made given settled = tt
hears (Some log) here s new from end reply leader known peers slice empty hit it plan h node whole short l k a b e lead j made given settled =
    let ring = here.ring.now in
    let me = here.me in
    let d : Durable = durable_of here log in
    let k2 : spec.counts d s reply ≡ true = ap (λ (n : ℕ). own.counts here.term n s reply) whole ∙ (sym l ∙ k) in
    let role : s.role ≡ Leader =
    leads s.role (first_true (is_leader s.role) (reply.term == d.term) (first_true (is_leader s.role && reply.term == d.term)
    (nat_le reply.position (length d.log)) k2)) in
    let size : length log < TERM_END = omega arith in
    let same = heard-same (length log) s.peers from reply.ok reply.position size (node.lawful.peers_fit role) in
    let peers_are : peers ≡ spec.heard_among s.peers from reply.ok reply.position = b
    ∙ (ap (λ (xs : List Peer). own.heard_among xs from reply.ok reply.position) a ∙ same) in
    let F : Layout → ℕ → ℕ → ℕ → List Pair → ℕ → List Peer → List Pending → Advanced =
    λ r m n at ps c xs ws. advanced r m (part_after n log at ps) c peers ws (record { actions = []; messages = []; says = [] }) in
    let now : it ≡ F ring me here.term here.applied here.prepared.now s.commit s.peers s.pending =
    made ∙ (ap₂ (λ (xs : List Peer) (p : Plan). advanced leader.engine.ring.now leader.engine.me
    (part_after leader.term log leader.engine.applied (pairs_left leader.engine)) leader.commit xs leader.pending.now p) e j
    ∙ by_parts F here s leader (pairs_left leader.engine) lead (all_left here s leader lead)) in
    by_tests ring me d s from reply false true h k2
    ∙ (ap (λ (xs : List Peer). advance ring me d (record s { peers = xs }) [] []) (sym peers_are)
    ∙ (heard ring me d s peers ∙ (ap (hearing s peers) (sym now)
    ∙ ap₂ (λ (p : Plan) (x : Soft). record { plan = p; soft = x }) (sym given) (sym settled))))

pub short_end : (end n : ℕ) → end ≡ n → n < TERM_END → end < TERM_END
short_end end n at short = omega arith
