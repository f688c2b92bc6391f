-- a rotate by the parts that the core is handed
use Rattle.std.proofs.Common.{◌≡◌, ℕ, suc, ◌+◌, ◌-◌, ◌<◌, ◌≤◌, Bool, true, false, not, nat_le, List, [], ◌∷◌, ◌++◌, length, Option, Some, None, Result, Ok, Err, if◌then◌else◌, refl, sym, ap, ap₂, ◌∙◌, arith}
use Rattle.std.specs.Prelude.{IfSome, IfOk}
use Rattle.std.proofs.lemmas.Bool.Decides.{nat_tests}
use Rattle.ring_types.specs.declared.limits.TheConstants.{LAST_FILE}
use Rattle.ring_types.specs.declared.entries.Entry.{Entry}
use Rattle.ring_types.specs.declared.entries.Pair.{Pair}
use Rattle.ring_types.specs.declared.entries.Opid.{Opid}
use Rattle.ring_types.specs.declared.entries.Payload.TheVariants as payload
use Rattle.ring_types.specs.Gtids.{next_number}
use Rattle.ring_types.specs.Logs.{rotates}
use Rattle.ring_types.specs.Rings.{Layout, region_of, server_of}
use Rattle.gtid_set.specs.Next.{next_in}
use Rattle.ring_model.specs.Nodes.{is_leader, is_ready}
use Rattle.ring_model.specs.Steps.{advance, own_entry}
use Rattle.ring_model.specs.Replication.{file_limit}
use Rattle.ring_model.specs.Writes.{is_handing, refused, rotate, rotate_refusal, rotate_step}
use Rattle.ring_model.specs.declared.nodes.Durable.{Durable}
use Rattle.ring_model.specs.declared.nodes.Peer.{Peer}
use Rattle.ring_model.specs.declared.nodes.Pending.{Pending}
use Rattle.ring_model.specs.declared.nodes.Soft.{Soft}
use Rattle.ring_model.specs.declared.effects.Action.TheVariants as action
use Rattle.ring_model.specs.declared.effects.Cause.{Cause}
use Rattle.ring_model.specs.declared.effects.Cause.TheVariants as cause
use Rattle.ring_model.specs.declared.effects.Plan.{Plan}
use Rattle.ring_model.specs.declared.effects.What.TheVariants as what
use Rattle.ring_model.specs.declared.faults.CoreFault.{CoreFault}
use Rattle.commit_pipeline.specs.declared.advances.Advanced.{Advanced}
use Rattle.commit_pipeline.specs.declared.heres.Here.{Here}
use Rattle.commit_pipeline.specs.declared.heres.Leader.{Leader}
use Rattle.commit_pipeline.specs.Advances.{advanced, part_after}
use Rattle.commit_pipeline.specs.Heres.{IsNode, durable_of}
use Rattle.commit_pipeline.specs.Refusals.{rotate_cause, is_full}
use Rattle.commit_pipeline.specs.Written.{refused_plan, rotate_by}
use Rattle.commit_pipeline.proofs.Leading.{LeadsHere, by_parts}
use Rattle.commit_pipeline.proofs.Writing.{step_of, next_is, settles}

rotate_cause_same : (ring : Layout) (me : ℕ) (d : Durable) (s : Soft) → rotate_cause s (next_number (server_of ring me) d.log) (length d.log) (suc (rotates d.log)) ≡ rotate_refusal ring me d s
unfolding rotate_refusal
rotate_cause_same ring me d s = refl

rotate_cause_is : {V : Type 0} (here : Here V) (soft : Soft) (log : List Entry) (next : Option ℕ) (end : ℕ) → IsNode here soft log → length log ≡ end → next ≡ next_in (server_of here.ring.now here.me) here.gtids.now
    → rotate_cause soft next end here.file ≡ rotate_refusal here.ring.now here.me (durable_of here log) soft
rotate_cause_is here soft log next end node whole from =
    ap (λ (x : Option ℕ). rotate_cause soft x end here.file) (next_is here.ring.now here.me log here.gtids.now next node.gtids_are from)
    ∙ (ap₂ (λ (n f : ℕ). rotate_cause soft (next_number (server_of here.ring.now here.me) log) n f) (sym whole) node.file_is ∙ rotate_cause_same here.ring.now here.me (durable_of here log) soft)

abbrev rotated_entry : Layout → ℕ → Opid → Entry
rotated_entry ring me o = record { opid = o; region = region_of ring me; payload = payload.Rotate }

abbrev rotated_at : Layout → ℕ → Durable → Soft → ℕ → Opid → Advanced
rotated_at ring me d s client o =
    advanced ring me (part_after d.term (d.log ++ rotated_entry ring me o ∷ []) d.applied d.prepared) s.commit s.peers s.pending
    (record { actions = action.Append (rotated_entry ring me o ∷ []) ∷ []; messages = []; says = record { client = client; what = what.Rotated o } ∷ [] })

rotated : (ring : Layout) (me : ℕ) (d : Durable) (s : Soft) (client : ℕ) (o : Opid) → rotate_step ring me d s client (rotated_entry ring me o) ≡ step_of s (rotated_at ring me d s client o)
unfolding advance
rotated ring me d s client o = refl

by_cause : (ring : Layout) (me : ℕ) (d : Durable) (s : Soft) (client : ℕ) (o : Option Cause) → rotate_refusal ring me d s ≡ o
    → rotate ring me d s client ≡ (elim o [ Some c ↦ refused s client c | None ↦ rotate_step ring me d s client (own_entry ring me d payload.Rotate) ])
unfolding rotate
by_cause ring me d s client o is = ap (λ (x : Option Cause). elim x [ Some c ↦ refused s client c | None ↦ rotate_step ring me d s client (own_entry ring me d payload.Rotate) ]) is

pub refuses : {V : Type 0} (told : Option (List Entry)) (here : Here V) (soft : Soft) (client end : ℕ) (next : Option ℕ) (c : Cause) (refusal : Option Cause) (result : Result Plan CoreFault)
    → IfSome told (IsNode here soft) → IfSome told (λ log. length log ≡ end) → next ≡ next_in (server_of here.ring.now here.me) here.gtids.now
    → refusal ≡ rotate_cause soft next end here.file → refusal ≡ Some c → IfOk result (λ it. it ≡ refused_plan client c)
    → IfSome told (λ log. IfOk result (λ it. rotate here.ring.now here.me (durable_of here log) soft client ≡ record { plan = it; soft = soft }))
refuses None here soft client end next c refusal result node whole from is some made = tt
refuses (Some log) here soft client end next c refusal (Err e) node whole from is some made = tt
refuses (Some log) here soft client end next c refusal (Ok plan) node whole from is some made =
    let h : rotate_refusal here.ring.now here.me (durable_of here log) soft ≡ Some c = sym (rotate_cause_is here soft log next end node whole from) ∙ (sym is ∙ some) in
    by_cause here.ring.now here.me (durable_of here log) soft client (Some c) h ∙ ap (λ (p : Plan). record { plan = p; soft = soft }) (sym made)

pub rotates_on : {V : Type 0} (told : Option (List Entry)) (here : Here V) (soft new : Soft) (client end : ℕ) (next : Option ℕ) (refusal : Option Cause) (leader : Leader) (it : Advanced) (plan : Plan)
    → IfSome told (IsNode here soft) → IfSome told (λ log. length log ≡ end) → next ≡ next_in (server_of here.ring.now here.me) here.gtids.now
    → refusal ≡ rotate_cause soft next end here.file → refusal ≡ None → LeadsHere here soft leader
    → IfSome told (λ log. it ≡ rotate_by leader.engine.ring.now leader.engine.me leader.term log leader.engine.applied leader.engine.pairs.now leader.commit leader.peers.now leader.pending.now client end)
    → plan ≡ it.plan → new ≡ record soft { commit = it.commit; pending = it.pending }
    → IfSome told (λ log. rotate here.ring.now here.me (durable_of here log) soft client ≡ record { plan = plan; soft = new })
rotates_on None here soft new client end next refusal leader it plan node whole from is none leads made given settled = tt
rotates_on (Some log) here soft new client end next refusal leader it plan node whole from is none leads made given settled =
    let ring = here.ring.now in
    let me = here.me in
    let d : Durable = durable_of here log in
    let h : rotate_refusal ring me d soft ≡ None = sym (rotate_cause_is here soft log next end node whole from) ∙ (sym is ∙ none) in
    let at : suc (length log) ≡ end + 1 = omega arith in
    let R : Layout → ℕ → ℕ → ℕ → List Pair → ℕ → List Peer → List Pending → Advanced = λ r m n a ps c xs ws. rotate_by r m n log a ps c xs ws client end in
    let made2 : it ≡ R ring me here.term here.applied here.prepared.now soft.commit soft.peers soft.pending = made ∙ by_parts R here soft leader leader.engine.pairs.now leads leads.pairs_are in
    by_cause ring me d soft client None h
    ∙ (rotated ring me d soft client (record { term = here.term; position = suc (length log) })
    ∙ (ap (λ (p : ℕ). step_of soft (rotated_at ring me d soft client (record { term = here.term; position = p }))) at
    ∙ (ap (step_of soft) (sym made2) ∙ settles soft new it plan given settled)))

-- ---- one more file
pub has_room : {V : Type 0} (told : Option (List Entry)) (here : Here V) (soft : Soft) (end : ℕ) (next : Option ℕ) (refusal : Option Cause)
    → IfSome told (IsNode here soft) → refusal ≡ rotate_cause soft next end here.file → refusal ≡ None → IfSome told (λ log. rotates log + 1 ≤ LAST_FILE - 1)
has_room None here soft end next refusal node is none = tt
has_room (Some log) here soft end next refusal node is none = go (is_leader soft.role) (is_ready soft) (is_handing soft.transfer) (is_full next end) (nat_le file_limit here.file) refl (sym none ∙ is)
  where
    go : (a b c e f : Bool) → nat_le file_limit here.file ≡ f
        → ◌≡◌ {A = Option Cause} None (if not a then Some cause.NotLeader else (if not b then Some cause.NotReady else (if c then Some cause.Transferring else (if e then Some cause.Exhausted else (if f then Some cause.LastFile else None)))))
        → rotates log + 1 ≤ LAST_FILE - 1
    go false b c e f h is = absurd cc
    go true false c e f h is = absurd cc
    go true true true e f h is = absurd cc
    go true true false true f h is = absurd cc
    go true true false false true h is = absurd cc
    go true true false false false h is =
        let at = node.file_is in
        let low : here.file < 999999 = grind (arith, nat_tests) in
        omega arith
