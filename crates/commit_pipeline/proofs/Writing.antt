-- a write by the parts that the core is handed
use Rattle.std.proofs.Common.{◌≡◌, ℕ, zero, suc, ◌+◌, ◌-◌, ◌^◌, ◌<◌, ◌≤◌, ◌&&◌, ◌||◌, Bool, true, false, not, min, nat_lt, nat_le, List, [], ◌∷◌, ◌++◌, length, take, Option, Some, None, Result, Ok, Err, if◌then◌else◌, refl, sym, ap, ap₂, ◌∙◌, subst, arith}
use Rattle.std.specs.Prelude.{IfSome, IfOk, is_none, unwrap_or}
use Rattle.std.specs.List.{list_all}
use Rattle.std.proofs.lemmas.Bool.Decides.{nat_tests}
use Rattle.ring_types.specs.declared.limits.TheConstants.{TERM_END}
use Rattle.ring_types.specs.declared.entries.Entry.{Entry}
use Rattle.ring_types.specs.declared.entries.Pair.{Pair}
use Rattle.ring_types.specs.declared.entries.Opid.{Opid}
use Rattle.ring_types.specs.declared.entries.Payload.{Payload}
use Rattle.ring_types.specs.declared.entries.Payload.TheVariants as payload
use Rattle.ring_types.specs.declared.schemas.Schema.{Schema}
use Rattle.ring_types.specs.declared.values.Change.{Change}
use Rattle.ring_types.specs.declared.values.Txn.{Txn}
use Rattle.ring_types.specs.declared.values.RowRefusal.{RowRefusal}
use Rattle.ring_types.specs.declared.gtid_sets.ServerSet.{ServerSet}
use Rattle.ring_types.specs.Gtids.{gtids, next_number}
use Rattle.ring_types.specs.Rings.{Layout, region_of, runs_engine, server_of}
use Rattle.ring_types.specs.Rows.{change_fits, check, is_number, payload_fits, rows}
use Rattle.ring_types.specs.Sizes.{group_bytes, group_size, group_limit}
use Rattle.ring_types.specs.Logs.{entry_at}
use Rattle.gtid_set.specs.Next.{next_in, greatest_in}
use Rattle.gtid_set.proofs.Greatest.{next_is_next}
use Rattle.row_engine.specs.Filled.{Filled}
use Rattle.ring_lawful.proofs.Payloads.{checked_fit, number_fits}
use Rattle.ring_model.specs.Actions.{is_prepared, pair_of}
use Rattle.ring_model.specs.Nodes.{is_leader, is_ready}
use Rattle.ring_model.specs.Steps.{stepped, advance, prepare_entry, engine_actions, follow_actions, committeds, waiting}
use Rattle.ring_model.specs.Writes.{is_handing, lock_of, length_limit, refused, write, write_refusal, write_txn, write_entry, write_entry_step}
use Rattle.ring_model.specs.declared.nodes.Durable.{Durable}
use Rattle.ring_model.specs.declared.nodes.Soft.{Soft}
use Rattle.ring_model.specs.declared.effects.Action.{Action}
use Rattle.ring_model.specs.declared.effects.Action.TheVariants as action
use Rattle.ring_model.specs.declared.effects.Cause.{Cause}
use Rattle.ring_model.specs.declared.effects.Cause.TheVariants as cause
use Rattle.ring_model.specs.declared.effects.Plan.{Plan}
use Rattle.ring_model.specs.declared.effects.Step.{Step}
use Rattle.commit_pipeline.specs.declared.advances.Advanced.{Advanced}
use Rattle.commit_pipeline.specs.Advances.{advanced, part_after, named_pair}
use Rattle.commit_pipeline.specs.Heres.{IsNode, durable_of}
use Rattle.commit_pipeline.specs.declared.heres.Here.{Here}
use Rattle.commit_pipeline.specs.declared.heres.Leader.{Leader}
use Rattle.commit_pipeline.specs.declared.writes.ClientWrite.{ClientWrite}
use Rattle.commit_pipeline.specs.Counts.{count_of}
use Rattle.edge_traits.specs.Views.{Sight}
use Rattle.std.specs.Option.{option_copied}
use Rattle.ring_model.specs.declared.nodes.Peer.{Peer}
use Rattle.ring_model.specs.declared.nodes.Pending.{Pending}
use Rattle.ring_model.specs.declared.faults.CoreFault.{CoreFault}
use Rattle.commit_pipeline.specs.Refusals.{write_cause, table_cause, change_cause, lock_cause, size_cause, is_full, txn_of}
use Rattle.commit_pipeline.specs.Written.{client_write, refused_plan, write_by}
use Rattle.commit_pipeline.proofs.Leading.{LeadsHere, by_parts}
use Rattle.commit_pipeline.proofs.Preparing.{added_prepared}

-- ---- the refusal is that of the definition
abbrev filled : Layout → Durable → Filled
filled ring d = record { schema = ring.schema; rows = rows ring.schema (take d.applied d.log) }

by_engine : (ring : Layout) (me : ℕ) (d : Durable) (s : Soft) (changes : List Change)
    → write_cause s (if runs_engine ring me then Some (filled ring d) else None) ring.schema (next_number (server_of ring me) d.log) (length d.log) (payload.Txn (write_txn ring me d changes)) d.prepared changes ≡ write_refusal ring me d s changes
unfolding write_refusal
by_engine ring me d s changes = go (runs_engine ring me) refl
  where
    go : (a : Bool) → runs_engine ring me ≡ a
        → write_cause s (if runs_engine ring me then Some (filled ring d) else None) ring.schema (next_number (server_of ring me) d.log) (length d.log) (payload.Txn (write_txn ring me d changes)) d.prepared changes ≡ write_refusal ring me d s changes
    go true h = rw h refl
    go false h = rw h refl

pub write_cause_is : (ring : Layout) (me : ℕ) (d : Durable) (s : Soft) (tables : Option Filled) (next : Option ℕ) (n : ℕ) (changes : List Change)
    → tables ≡ (if runs_engine ring me then Some (filled ring d) else None) → next ≡ next_number (server_of ring me) d.log → length d.log ≡ n
    → write_cause s tables ring.schema next n (payload.Txn (txn_of (server_of ring me) next changes)) d.prepared changes ≡ write_refusal ring me d s changes
write_cause_is ring me d s tables next n changes t e l =
    ap (λ (x : Option Filled). write_cause s x ring.schema next n (payload.Txn (txn_of (server_of ring me) next changes)) d.prepared changes) t
    ∙ (ap (λ (x : Option ℕ). write_cause s (if runs_engine ring me then Some (filled ring d) else None) ring.schema x n (payload.Txn (txn_of (server_of ring me) x changes)) d.prepared changes) e
    ∙ (ap (λ (x : ℕ). write_cause s (if runs_engine ring me then Some (filled ring d) else None) ring.schema (next_number (server_of ring me) d.log) x (payload.Txn (write_txn ring me d changes)) d.prepared changes) (sym l)
    ∙ by_engine ring me d s changes))

-- ---- what is not refused may be added
pub record MayAdd (schema : Schema) (n : ℕ) (p : Payload) : Type 0 where
  pub fits : payload_fits schema p ≡ true
  pub small : group_bytes schema p ≤ group_limit
  pub short : n + 1 < TERM_END

record IsSized (schema : Schema) (next : Option ℕ) (n : ℕ) (p : Payload) : Type 0 where
  small : group_bytes schema p ≤ group_limit
  short : n + 1 < TERM_END
  has_next : is_none next ≡ false

small_is : (n : ℕ) → nat_lt group_limit (min n (2 ^ 64 - 1)) ≡ false → n ≤ group_limit
small_is n is = grind (arith, nat_tests, is)

short_is : (n : ℕ) → nat_le (TERM_END - 1) n ≡ false → n + 1 < TERM_END
short_is n is = grind (arith, nat_tests, is)

second_false : (a b : Bool) → (a || b) ≡ false → b ≡ false
second_false false b is = is
second_false true b is = absurd (let z : true ≡ false = is in cc)

first_false : (a b : Bool) → (a || b) ≡ false → a ≡ false
first_false false b is = refl
first_false true b is = absurd (let z : true ≡ false = is in cc)

sized : (schema : Schema) (next : Option ℕ) (n : ℕ) (p : Payload) → size_cause schema next n p ≡ None → IsSized schema next n p
sized schema next n p is = go (nat_lt group_limit (group_size schema p)) refl (is_full next n) refl is
  where
    go : (a : Bool) → nat_lt group_limit (group_size schema p) ≡ a → (b : Bool) → is_full next n ≡ b
        → ◌≡◌ {A = Option Cause} (if a then Some (cause.TooLarge (group_size schema p)) else (if b then Some cause.Exhausted else None)) None → IsSized schema next n p
    go true x b y is = absurd cc
    go false x true y is = absurd cc
    go false x false y is = record { small = small_is (group_bytes schema p) x; short = short_is n (second_false (is_none next) (nat_le length_limit n) y); has_next = first_false (is_none next) (nat_le length_limit n) y }

unlocked : (schema : Schema) (next : Option ℕ) (n : ℕ) (p : Payload) (pairs : List Pair) (changes : List Change) → lock_cause schema next n p pairs changes ≡ None → IsSized schema next n p
unlocked schema next n p pairs changes is = go (lock_of pairs changes) is
  where
    go : (o : Option Cause) → ◌≡◌ {A = Option Cause} (elim o [ Some c ↦ Some c | None ↦ size_cause schema next n p ]) None → IsSized schema next n p
    go (Some c) is = absurd cc
    go None is = sized schema next n p is

taken : (t : Filled) (schema : Schema) (next : Option ℕ) (n : ℕ) (p : Payload) (pairs : List Pair) (changes : List Change) → change_cause t schema next n p pairs changes ≡ None
    → (check t.schema t.rows changes ≡ None) × IsSized schema next n p
taken t schema next n p pairs changes is = go (check t.schema t.rows changes) refl is
  where
    go : (o : Option RowRefusal) → check t.schema t.rows changes ≡ o → ◌≡◌ {A = Option Cause} (elim o [ Some r ↦ Some (cause.Invalid r) | None ↦ lock_cause schema next n p pairs changes ]) None
        → (check t.schema t.rows changes ≡ None) × IsSized schema next n p
    go (Some r) x is = absurd cc
    go None x is = (x, unlocked schema next n p pairs changes is)

all_three : (a b c : Bool) → a ≡ true → b ≡ true → c ≡ true → ((a && b) && c) ≡ true
all_three a b c x y z = rw (x, y, z) refl

pub allowed : (s : Soft) (tables : Option Filled) (schema : Schema) (next : Option ℕ) (set : List ServerSet) (server n : ℕ) (pairs : List Pair) (changes : List Change)
    → IfSome tables (λ (t : Filled). t.schema ≡ schema) → 0 < length changes → next ≡ next_in server set
    → None ≡ write_cause s tables schema next n (payload.Txn (txn_of server next changes)) pairs changes → MayAdd schema n (payload.Txn (txn_of server next changes))
allowed s tables schema next set server n pairs changes same some from is = go (is_leader s.role) (is_ready s) tables same is
  where
    p : Payload
    p = payload.Txn (txn_of server next changes)

    handed : (e : Bool) (t : Filled) → t.schema ≡ schema → ◌≡◌ {A = Option Cause} None (if e then Some cause.Transferring else change_cause t schema next n p pairs changes) → MayAdd schema n p
    handed true t same is = absurd cc
    handed false t same is =
        let (checked, fine) = taken t schema next n p pairs changes (sym is) in
        let each : list_all (change_fits schema) changes ≡ true = subst (λ (x : Schema). list_all (change_fits x) changes ≡ true) same (checked_fit t.schema t.rows changes checked) in
        let one : nat_le 1 (length changes) ≡ true = grind (arith, nat_tests) in
        let number : is_number (unwrap_or next 0) ≡ true =
        subst (λ (x : Option ℕ). is_number (unwrap_or x 0) ≡ true) (sym from) (number_fits (greatest_in server 0 set) (subst (λ (x : Option ℕ). is_none x ≡ false) from fine.has_next)) in
        record { fits = all_three (nat_le 1 (length changes)) (list_all (change_fits schema) changes) (is_number (unwrap_or next 0)) one each number; small = fine.small; short = fine.short }

    go : (a b : Bool) (tables : Option Filled) → IfSome tables (λ (t : Filled). t.schema ≡ schema)
        → ◌≡◌ {A = Option Cause} None (if not a then Some cause.NotLeader else (if not b then Some cause.NotReady else table_cause s tables schema next n p pairs changes))
        → MayAdd schema n p
    go false b tables same is = absurd cc
    go true false tables same is = absurd cc
    go true true None same is = absurd cc
    go true true (Some t) same is = handed (is_handing s.transfer) t same is

-- ---- the pair that the plan prepares stands for its opid alone
prepare-same : (xs ys : List Pair) (o : Option Entry) → ((q : Opid) → is_prepared xs q ≡ is_prepared ys q) → prepare_entry xs o ≡ prepare_entry ys o
prepare-same xs ys None same = refl
prepare-same xs ys (Some e) same = ap (λ (b : Bool). elim (pair_of e) [ None ↦ [] | Some p ↦ if b then [] else action.Prepare p ∷ [] ]) (same e.opid)

engine-same : (log : List Entry) (xs ys : List Pair) (applied n : ℕ) → ((q : Opid) → is_prepared xs q ≡ is_prepared ys q) → engine_actions log xs applied n ≡ engine_actions log ys applied n
engine-same log xs ys applied zero same = refl
engine-same log xs ys applied (suc n) same =
    ap₂ (λ (a b : List Action). a ++ (action.Commit (suc applied) ∷ b)) (prepare-same xs ys (entry_at log (suc applied)) same) (engine-same log xs ys (suc applied) n same)

named-same : (pairs : List Pair) (p : Pair) (q : Opid) → is_prepared (pairs ++ named_pair p.opid ∷ []) q ≡ is_prepared (pairs ++ p ∷ []) q
named-same pairs p q = added_prepared pairs (named_pair p.opid) q ∙ sym (added_prepared pairs p q)

pub follow-named : (ring : Layout) (me term : ℕ) (log : List Entry) (applied : ℕ) (pairs : List Pair) (p : Pair) (d : Durable) (commit : ℕ) → d.log ≡ log → d.applied ≡ applied → d.prepared ≡ pairs ++ p ∷ []
    → follow_actions ring me (part_after term log applied (pairs ++ named_pair p.opid ∷ [])) commit ≡ follow_actions ring me d commit
follow-named ring me term log applied pairs p d commit a b e = rw (a, b, e) (go (runs_engine ring me))
  where
    go : (r : Bool) → (if r then engine_actions log (pairs ++ named_pair p.opid ∷ []) applied (commit - applied) else []) ≡ (if r then engine_actions log (pairs ++ p ∷ []) applied (commit - applied) else [])
    go true = engine-same log (pairs ++ named_pair p.opid ∷ []) (pairs ++ p ∷ []) applied (commit - applied) (named-same pairs p)
    go false = refl

-- ---- the step
abbrev pub step_of : Soft → Advanced → Step
step_of s it = record { plan = it.plan; soft = record s { commit = it.commit; pending = it.pending } }

-- a soft part and a plan to which what advanced was given
pub settles : (soft new : Soft) (it : Advanced) (plan : Plan) → plan ≡ it.plan → new ≡ record soft { commit = it.commit; pending = it.pending } → step_of soft it ≡ record { plan = plan; soft = new }
settles soft new it plan given settled = ap₂ (λ (p : Plan) (s : Soft). record { plan = p; soft = s }) (sym given) (sym settled)

abbrev entry_of : Layout → ℕ → Opid → Txn → Entry
entry_of ring me o t = record { opid = o; region = region_of ring me; payload = payload.Txn t }

abbrev stepped_at : Layout → ℕ → Durable → Soft → ℕ → Txn → Opid → Step
stepped_at ring me d s client t o = write_entry_step ring me d s client t (entry_of ring me o t)

abbrev advanced_at : Layout → ℕ → Durable → Soft → ℕ → Txn → Opid → Advanced
advanced_at ring me d s client t o =
    advanced ring me (part_after d.term (d.log ++ entry_of ring me o t ∷ []) d.applied (d.prepared ++ named_pair o ∷ [])) s.commit s.peers
    (s.pending ++ record { client = client; gtid = t.gtid; opid = o } ∷ [])
    (record { actions = (action.Prepare (record { opid = o; txn = t }) ∷ []) ++ action.Append (entry_of ring me o t ∷ []) ∷ []; messages = []; says = [] })

written : (ring : Layout) (me : ℕ) (d : Durable) (s : Soft) (client : ℕ) (t : Txn) (o : Opid) → stepped_at ring me d s client t o ≡ step_of s (advanced_at ring me d s client t o)
unfolding advance
written ring me d s client t o =
    let log = d.log ++ entry_of ring me o t ∷ [] in
    let pending : List Pending = s.pending ++ record { client = client; gtid = t.gtid; opid = o } ∷ [] in
    let acts : List Action = action.Prepare (record { opid = o; txn = t }) ∷ action.Append (entry_of ring me o t ∷ []) ∷ [] in
    let c = count_of ring me d.term log s.commit s.peers in
    let after : Durable = record d { log = log; prepared = d.prepared ++ record { opid = o; txn = t } ∷ [] } in
    ap (λ (f : List Action). stepped (acts ++ f) [] ([] ++ committeds d.term c pending) (record s { commit = c; pending = waiting c pending }))
    (sym (follow-named ring me d.term log d.applied d.prepared (record { opid = o; txn = t }) after c refl refl refl))

pub next_is : (ring : Layout) (me : ℕ) (log : List Entry) (set : List ServerSet) (next : Option ℕ) → set ≡ gtids log → next ≡ next_in (server_of ring me) set → next ≡ next_number (server_of ring me) log
next_is ring me log set next is from = from ∙ (ap (next_in (server_of ring me)) is ∙ next_is_next (server_of ring me) log)

abbrev pub asked_of : {V : Type 0} → Here V → Soft → Option ℕ → ℕ → List Change → Option Cause
asked_of here soft next end changes =
    write_cause soft (option_copied here.tables) here.ring.now.schema next end (payload.Txn (txn_of (server_of here.ring.now here.me) next changes)) here.prepared.now changes

pub asked : {V : Type 0} (here : Here V) (soft : Soft) (schema : Schema) (next : Option ℕ) (end server client : ℕ) (w : ClientWrite) (changes : List Change) (refusal : Option Cause)
    → refusal ≡ write_cause soft (option_copied here.tables) schema next end w.payload here.prepared.now changes → schema ≡ here.ring.now.schema → w ≡ client_write server next client changes → server ≡ server_of here.ring.now here.me
    → refusal ≡ asked_of here soft next end changes
asked here soft schema next end server client w changes refusal is a b e =
    is ∙ ap₂ (λ (x : Schema) (p : Payload). write_cause soft (option_copied here.tables) x next end p here.prepared.now changes) a
    (ap (λ (x : ClientWrite). x.payload) b ∙ ap (λ (n : ℕ). payload.Txn (txn_of n next changes)) e)

refusal_is : {V : Type 0} (here : Here V) (soft : Soft) (log : List Entry) (next : Option ℕ) (end : ℕ) (changes : List Change) → IsNode here soft log → length log ≡ end → next ≡ next_in (server_of here.ring.now here.me) here.gtids.now
    → asked_of here soft next end changes ≡ write_refusal here.ring.now here.me (durable_of here log) soft changes
refusal_is here soft log next end changes node whole from =
    write_cause_is here.ring.now here.me (durable_of here log) soft (option_copied here.tables) next end changes node.tables_are (next_is here.ring.now here.me log here.gtids.now next node.gtids_are from) whole

refused_by : (ring : Layout) (me : ℕ) (d : Durable) (s : Soft) (client : ℕ) (changes : List Change) (c : Cause) → write_refusal ring me d s changes ≡ Some c → write ring me d s client changes ≡ refused s client c
unfolding write
refused_by ring me d s client changes c is = ap (λ (o : Option Cause). elim o [ Some c ↦ refused s client c | None ↦ write_entry_step ring me d s client (write_txn ring me d changes) (write_entry ring me d changes) ]) is

taken_by : (ring : Layout) (me : ℕ) (d : Durable) (s : Soft) (client : ℕ) (changes : List Change) → write_refusal ring me d s changes ≡ None
    → write ring me d s client changes ≡ write_entry_step ring me d s client (write_txn ring me d changes) (write_entry ring me d changes)
unfolding write
taken_by ring me d s client changes is = ap (λ (o : Option Cause). elim o [ Some c ↦ refused s client c | None ↦ write_entry_step ring me d s client (write_txn ring me d changes) (write_entry ring me d changes) ]) is

pub refuses : {V : Type 0} (told : Option (List Entry)) (here : Here V) (soft : Soft) (client : ℕ) (changes : List Change) (end : ℕ) (next : Option ℕ) (c : Cause) (refusal : Option Cause) (result : Result Plan CoreFault)
    → IfSome told (IsNode here soft) → IfSome told (λ log. length log ≡ end) → next ≡ next_in (server_of here.ring.now here.me) here.gtids.now
    → refusal ≡ asked_of here soft next end changes → refusal ≡ Some c → IfOk result (λ it. it ≡ refused_plan client c)
    → IfSome told (λ log. IfOk result (λ it. write here.ring.now here.me (durable_of here log) soft client changes ≡ record { plan = it; soft = soft }))
refuses None here soft client changes end next c refusal result node whole from is some made = tt
refuses (Some log) here soft client changes end next c refusal (Err e) node whole from is some made = tt
refuses (Some log) here soft client changes end next c refusal (Ok plan) node whole from is some made =
    let h : write_refusal here.ring.now here.me (durable_of here log) soft changes ≡ Some c = sym (refusal_is here soft log next end changes node whole from) ∙ (sym is ∙ some) in
    refused_by here.ring.now here.me (durable_of here log) soft client changes c h ∙ ap (λ (p : Plan). record { plan = p; soft = soft }) (sym made)

pub writes : {V : Type 0} (told : Option (List Entry)) (here : Here V) (soft new : Soft) (client : ℕ) (changes : List Change) (end : ℕ) (next : Option ℕ) (refusal : Option Cause) (leader : Leader) (server : ℕ) (w : ClientWrite) (it : Advanced) (plan : Plan)
    → IfSome told (IsNode here soft) → IfSome told (λ log. length log ≡ end) → next ≡ next_in (server_of here.ring.now here.me) here.gtids.now
    → refusal ≡ asked_of here soft next end changes → refusal ≡ None → w ≡ client_write server next client changes → server ≡ server_of here.ring.now here.me → LeadsHere here soft leader
    → IfSome told (λ log. it ≡ write_by leader.engine.ring.now leader.engine.me leader.term log leader.engine.applied leader.engine.pairs.now leader.commit leader.peers.now leader.pending.now w.client w.txn end)
    → plan ≡ it.plan → new ≡ record soft { commit = it.commit; pending = it.pending }
    → IfSome told (λ log. write here.ring.now here.me (durable_of here log) soft client changes ≡ record { plan = plan; soft = new })
writes None here soft new client changes end next refusal leader server w it plan node whole from is none t e leads made given settled = tt
writes (Some log) here soft new client changes end next refusal leader server w it plan node whole from is none t e leads made given settled =
    let ring = here.ring.now in
    let me = here.me in
    let d : Durable = durable_of here log in
    let h : write_refusal ring me d soft changes ≡ None = sym (refusal_is here soft log next end changes node whole from) ∙ (sym is ∙ none) in
    let number = next_is ring me log here.gtids.now next node.gtids_are from in
    let client_is : w.client ≡ client = ap (λ (x : ClientWrite). x.client) t in
    let txn_is : w.txn ≡ write_txn ring me d changes = ap (λ (x : ClientWrite). x.txn) t ∙ ap₂ (λ (n : ℕ) (o : Option ℕ). txn_of n o changes) e number in
    let t2 = write_txn ring me d changes in
    let at : suc (length log) ≡ end + 1 = omega arith in
    let W : ℕ → Txn → Layout → ℕ → ℕ → ℕ → List Pair → ℕ → List Peer → List Pending → Advanced = λ k x r m n a ps c xs ws. write_by r m n log a ps c xs ws k x end in
    let made2 : it ≡ W client t2 ring me here.term here.applied here.prepared.now soft.commit soft.peers soft.pending =
    made ∙ (ap₂ (λ (k : ℕ) (x : Txn). W k x leader.engine.ring.now leader.engine.me leader.term leader.engine.applied leader.engine.pairs.now leader.commit leader.peers.now leader.pending.now) client_is txn_is
    ∙ by_parts (W client t2) here soft leader leader.engine.pairs.now leads leads.pairs_are) in
    taken_by ring me d soft client changes h
    ∙ (written ring me d soft client t2 (record { term = here.term; position = suc (length log) })
    ∙ (ap (λ (p : ℕ). step_of soft (advanced_at ring me d soft client t2 (record { term = here.term; position = p }))) at
    ∙ (ap (step_of soft) (sym made2) ∙ settles soft new it plan given settled)))

-- ---- what the call that adds the entry asks
pub fits_view : (a b : Sight) (schema : Schema) (server client end : ℕ) (next : Option ℕ) (S : ℕ) (w : ClientWrite) (changes : List Change) → b ≡ a → a.schema ≡ schema → w ≡ client_write server next client changes → server ≡ S
    → MayAdd schema end (payload.Txn (txn_of S next changes)) → payload_fits b.schema (payload.Txn w.txn) ≡ true
fits_view a b schema server client end next S w changes same is t e may =
    ap₂ (λ (x : Schema) (y : Txn). payload_fits x (payload.Txn y)) (ap (λ (s : Sight). s.schema) same ∙ is) (ap (λ (x : ClientWrite). x.txn) t ∙ ap (λ (n : ℕ). txn_of n next changes) e) ∙ may.fits
