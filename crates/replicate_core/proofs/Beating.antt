-- A beat by its cases: a message rests on the leader's term, log, commit count and members alone.
use Rattle.std.proofs.Common.{◌≡◌, ℕ, ◌-◌, drop, Bool, true, false, if◌then◌else◌, List, [], map, Option, Some, None, sym, ap, ap₂, ◌∙◌}
use Rattle.std.specs.Prelude.{IfSome}
use Rattle.ring_types.specs.declared.entries.Entry.{Entry}
use Rattle.ring_types.specs.declared.entries.Opid.{Opid}
use Rattle.ring_types.specs.declared.schemas.Schema.{Schema}
use Rattle.ring_types.specs.Logs.{term_at}
use Rattle.ring_types.specs.Rings.{Layout}
use Rattle.ring_model.specs.declared.effects.Plan.{Plan}
use Rattle.ring_model.specs.declared.effects.Step.{Step}
use Rattle.ring_model.specs.declared.messages.Message.{Message}
use Rattle.ring_model.specs.declared.nodes.Durable.{Durable}
use Rattle.ring_model.specs.declared.nodes.Peer.{Peer}
use Rattle.ring_model.specs.declared.nodes.Soft.{Soft}
use Rattle.ring_model.specs.Nodes.{is_leader}
use Rattle.ring_model.specs.Replication.{batch_of, beat, beat_to, is_proxied, proxy_id, quieter, send_direct, send_proxied}
use Rattle.ring_model.specs.Steps.{idle, stepped}
use Rattle.commit_pipeline.specs.Heres.{durable_of}
use Rattle.commit_pipeline.specs.declared.heres.Here.{Here}
use Rattle.replicate_core.specs.Beats.{knows_of, sends_of}

-- ---- one message
abbrev sent_by : Layout → ℕ → ℕ → ℕ → List Peer → ℕ → Opid → List Entry → Message
sent_by ring me term commit peers to prev entries =
    if is_proxied ring me peers to then send_proxied me (proxy_id ring to) (sends_of term []) (knows_of commit peers) to prev entries
    else send_direct me (sends_of term []) (knows_of commit peers) to prev entries

pub sends : (told : Option (List Entry)) (ring : Layout) (me term commit : ℕ) (peers : List Peer) (p : Peer) (before : ℕ) (schema : Schema)
    (entries : List Entry) (sent : Message)
    → IfSome told (λ log. before ≡ term_at log (p.next - 1)) → schema ≡ ring.schema → IfSome told (λ log. entries ≡ batch_of schema (drop (p.next - 1) log))
    → sent ≡ sent_by ring me term commit peers p.node (record { term = before; position = p.next - 1 }) entries
    → IfSome told (λ log. sent ≡ beat_to ring me (sends_of term log) (knows_of commit peers) p)
sends None ring me term commit peers p before schema entries sent b s e is = tt
sends (Some log) ring me term commit peers p before schema entries sent b s e is =
    let F : ℕ → List Entry → Message = λ n es. sent_by ring me term commit peers p.node (record { term = n; position = p.next - 1 }) es in
    is ∙ ap₂ F b (e ∙ ap (λ (x : Schema). batch_of x (drop (p.next - 1) log)) s)

-- ---- the rule
by_role : (ring : Layout) (me : ℕ) (d : Durable) (s : Soft) (b : Bool) → is_leader s.role ≡ b
    → beat ring me d s ≡ (if b then stepped [] (map (beat_to ring me d s) s.peers) [] (record s { peers = map quieter s.peers }) else idle s)
unfolding beat
by_role ring me d s b h =
    ap (λ (x : Bool). if x then stepped [] (map (beat_to ring me d s) s.peers) [] (record s { peers = map quieter s.peers }) else idle s) h

pub rests : {V : Type 0} (told : Option (List Entry)) (here : Here V) (s : Soft) (leads : Bool) (plan : Plan) → leads ≡ is_leader s.role → leads ≡ false
    → plan ≡ record { actions = []; messages = []; says = [] }
    → IfSome told (λ log. beat here.ring.now here.me (durable_of here log) s ≡ record { plan = plan; soft = s })
rests None here s leads plan r h is = tt
rests (Some log) here s leads plan r h is =
    by_role here.ring.now here.me (durable_of here log) s false (sym r ∙ h) ∙ ap (λ (p : Plan). record { plan = p; soft = s }) (sym is)

pub beats : {V : Type 0} (told : Option (List Entry)) (here : Here V) (s : Soft) (known peers : List Peer) (messages : List Message) (plan : Plan)
    (leads : Bool) → leads ≡ is_leader s.role → leads ≡ true → known ≡ s.peers → peers ≡ map quieter s.peers
    → plan ≡ record { actions = []; messages = messages; says = [] }
    → IfSome told (λ log. messages ≡ map (beat_to here.ring.now here.me (sends_of here.term log) (knows_of s.commit known)) known)
    → IfSome told (λ log. beat here.ring.now here.me (durable_of here log) s ≡ record { plan = plan; soft = record s { peers = peers } })
beats None here s known peers messages plan leads r h k q is sent = tt
beats (Some log) here s known peers messages plan leads r h k q is sent =
    let d : Durable = durable_of here log in
    let all : messages ≡ map (beat_to here.ring.now here.me d s) s.peers = sent
    ∙ ap (λ (ps : List Peer). map (beat_to here.ring.now here.me (sends_of here.term log) (knows_of s.commit ps)) ps) k in
    let F : List Message → List Peer → Step = λ ms ps. stepped [] ms [] (record s { peers = ps }) in
    by_role here.ring.now here.me d s true (sym r ∙ h) ∙ (ap₂ F (sym all) (sym q)
    ∙ ap (λ (p : Plan). record { plan = p; soft = record s { peers = peers } }) (sym is))
