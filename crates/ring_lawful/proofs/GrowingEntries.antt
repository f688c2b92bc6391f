-- A leader adds an entry of its own, without a transaction or a write's, and a member adds what the leader of the term sends.
use Rattle.std.proofs.Common.{◌≡◌, ℕ, ◌-◌, ◌==◌, ◌&&◌, [], ◌∷◌, ◌++◌, if◌then◌else◌, Bool, List, None, Option, Some, arith, false, inl, inr, length, refl, subst, true}
use Rattle.std.proofs.lemmas.Bool.Decides.{nat_tests}
use Rattle.std.specs.Prelude.{nat_lt}
use Rattle.ring_types.specs.declared.entries.Entry.{Entry}
use Rattle.ring_types.specs.declared.entries.Payload.TheVariants as payload
use Rattle.ring_types.specs.declared.values.Change.{Change}
use Rattle.ring_types.specs.declared.values.Txn.{Txn}
use Rattle.ring_types.specs.Rings.{Layout, runs_engine}
use Rattle.ring_types.specs.Logs.{term_at}
use Rattle.ring_model.specs.declared.effects.Action.{Action}
use Rattle.ring_model.specs.declared.effects.Action.TheVariants as action
use Rattle.ring_model.specs.declared.effects.Cause.{Cause}
use Rattle.ring_model.specs.declared.effects.Say.{Say}
use Rattle.ring_model.specs.declared.effects.Tear.{Tear}
use Rattle.ring_model.specs.declared.effects.What.TheVariants as what
use Rattle.ring_model.specs.declared.messages.Append.{Append}
use Rattle.ring_model.specs.declared.messages.AppendReply.{AppendReply}
use Rattle.ring_model.specs.declared.nodes.Durable.{Durable}
use Rattle.ring_model.specs.declared.nodes.Role.{Role}
use Rattle.ring_model.specs.declared.nodes.Role.TheVariants.{Candidate, Follower, Leader}
use Rattle.ring_model.specs.declared.nodes.Soft.{Soft}
use Rattle.ring_model.specs.Actions.{all_done}
use Rattle.ring_model.specs.Replication.{accept, counts, follow_append, heard_among, kept_position, leader_hears, leads_it, match_append, on_ack, on_append, outgrows, reply, take_in, tear_in, unmatched}
use Rattle.ring_model.specs.Steps.{demoted, idle, own_entry, stepped, unknowns}
use Rattle.ring_model.specs.Transfers.{after_ok, on_answer, with_more}
use Rattle.ring_model.specs.Writes.{awaits, refused, rotate, rotate_refusal, rotate_step, write, write_entry, write_entry_step, write_refusal, write_txn}
use Rattle.ring_model.proofs.Invariant.{History}
use Rattle.ring_lawful.proofs.Along.{Allowed, allowed_join}
use Rattle.ring_lawful.proofs.Growing.{Adds, Foreign, KeptByPlain, MayGrow, WritesKeep, advance_logs, follow_logs}

module _ (ring : Layout) (h : History) (me : ℕ) (P : List Entry → Type 0) where
  -- ---- a leader's answers and its own entries
  ack_logs : (from : ℕ) (answer : AppendReply) (d : Durable) (s : Soft) → Adds h me P d (on_ack ring me d s from answer)
  unfolding on_ack
  ack_logs from answer d s = go (nat_lt d.term answer.term) (counts d s answer)
    where
      go : (a b : Bool) → Adds h me P d (if a then stepped (action.SetTerm answer.term ∷ []) [] (unknowns s) (demoted s) else (if b then leader_hears ring me d s from answer else idle s))
      go true b = (tt, tt)
      go false true = advance_logs ring h me P d (record s { peers = heard_among s.peers from answer.ok answer.position }) [] [] tt
      go false false = tt

  pub answered_logs : (from : ℕ) (answer : AppendReply) (d : Durable) (s : Soft) → Adds h me P d (on_answer ring me d s from answer)
  unfolding on_answer
  answered_logs from answer d s = go (counts d s answer && answer.ok)
    where
      go : (a : Bool) → Adds h me P d (if a then with_more (on_ack ring me d s from answer) (after_ok me d (on_ack ring me d s from answer).soft.peers from s.transfer) else on_ack ring me d s from answer)
      go true = ack_logs from answer d s
      go false = ack_logs from answer d s

  pub write_logs : (client : ℕ) (changes : List Change) (d : Durable) (s : Soft) → WritesKeep ring me P d s → Adds h me P d (write ring me d s client changes)
  unfolding write
  write_logs client changes d s keeps = go (write_refusal ring me d s changes) refl
    where
      go : (c : Option Cause) → write_refusal ring me d s changes ≡ c
          → Adds h me P d (elim c [ Some c ↦ refused s client c | None ↦ write_entry_step ring me d s client (write_txn ring me d changes) (write_entry ring me d changes) ])
      go (Some c) is = tt
      go None is =
          let x : Entry = write_entry ring me d changes in
          let t : Txn = write_txn ring me d changes in
          advance_logs ring h me P d (awaits s client x t.gtid) (action.Prepare (record { opid = x.opid; txn = t }) ∷ action.Append (x ∷ []) ∷ []) []
          (tt, (inr (keeps changes is), tt))

  pub rotate_logs : KeptByPlain P → (client : ℕ) (d : Durable) (s : Soft) → Adds h me P d (rotate ring me d s client)
  unfolding rotate
  rotate_logs plain client d s = go (rotate_refusal ring me d s)
    where
      go : (c : Option Cause) → Adds h me P d (elim c [ Some c ↦ refused s client c | None ↦ rotate_step ring me d s client (own_entry ring me d payload.Rotate) ])
      go (Some c) = tt
      go None =
          let x : Entry = own_entry ring me d payload.Rotate in
          advance_logs ring h me P d s (action.Append (x ∷ []) ∷ []) (record { client = client; what = what.Rotated x.opid } ∷ [])
          (inr (plain d.log x refl), tt)

  -- ---- what a member does with an Append
  taken_logs : (kept : ℕ) (d e : Durable) (rest : List Entry) → Foreign h me e.term → Allowed (MayGrow h me P) e (take_in ring me d kept rest)
  taken_logs kept d e [] f = tt
  taken_logs kept d e (x ∷ rest) f = go (nat_lt kept (length d.log)) (runs_engine ring me)
    where
      go : (b c : Bool) → Allowed (MayGrow h me P) e (if b then action.Truncate kept ∷ ((if c then action.RollBackAfter kept ∷ [] else []) ++ (action.Append (x ∷ rest) ∷ [])) else action.Append (x ∷ rest) ∷ [])
      go true true = (tt, (tt, (inl f, tt)))
      go true false = (tt, (inl f, tt))
      go false c = (inl f, tt)

  match_logs : (d : Durable) (s : Soft) (first : List Action) (says : List Say) (sent : Append) → Allowed (MayGrow h me P) d first
      → Foreign h me (all_done d first).term → Adds h me P d (match_append ring me d s first says sent)
  match_logs d s first says sent a f = go (nat_lt (length d.log) sent.prev.position) (term_at d.log sent.prev.position == sent.prev.term)
    where
      takes : Adds h me P d (accept ring me d s first says sent)
      takes =
          let rest = unmatched d.log sent.prev.position sent.entries in
          let kept = kept_position sent.prev sent.entries rest in
          let e : Durable = all_done d first in
          let acts : List Action = take_in ring me d kept rest in
          allowed_join (MayGrow h me P) d first _ a
          (allowed_join (MayGrow h me P) e acts _ (taken_logs kept d e rest f) (follow_logs ring h me P (all_done e acts) _))

      go : (b c : Bool) → Adds h me P d (if b then stepped first (reply me sent.leader sent.term false (length d.log) ∷ []) says s
          else (if c then accept ring me d s first says sent else stepped first (reply me sent.leader sent.term false (sent.prev.position - 1) ∷ []) says s))
      go true c = a
      go false true = takes
      go false false = a

  follow_append_logs : (d : Durable) (s : Soft) (sent : Append) → nat_lt sent.term d.term ≡ false → Foreign h me sent.term
      → Adds h me P d (follow_append ring me d s sent)
  follow_append_logs d s sent low f = go (nat_lt d.term sent.term) refl s.role
    where
      go : (b : Bool) → nat_lt d.term sent.term ≡ b → (o : Role)
          → Adds h me P d (if b then match_append ring me d (demoted s) (action.SetTerm sent.term ∷ []) (unknowns s) sent
          else elim o [ Follower ↦ match_append ring me d s [] [] sent | Candidate ↦ match_append ring me d (demoted s) [] (unknowns s) sent | Leader ↦ idle s ])
      go true y o = match_logs d (demoted s) (action.SetTerm sent.term ∷ []) (unknowns s) sent (tt, tt) f
      go false y Follower = match_logs d s [] [] sent tt (subst (Foreign h me) (let z : sent.term ≡ d.term = grind (arith, nat_tests, low, y) in z) f)
      go false y Candidate =
          match_logs d (demoted s) [] (unknowns s) sent tt (subst (Foreign h me) (let z : sent.term ≡ d.term = grind (arith, nat_tests, low, y) in z) f)
      go false y Leader = tt

  pub append_logs : (sent : Append) (d : Durable) (s : Soft) → Foreign h me sent.term → Adds h me P d (on_append ring me d s sent)
  unfolding on_append
  append_logs sent d s f = go (outgrows d sent) (nat_lt sent.term d.term) refl (leads_it d s sent) (tear_in d s sent)
    where
      go : (a : Bool) (b : Bool) → nat_lt sent.term d.term ≡ b → (c : Bool) (t : Option Tear)
          → Adds h me P d (if a then idle s else (if b then stepped [] (reply me sent.leader d.term false 0 ∷ []) [] s else (if c then idle s else elim t [ Some t ↦ idle s | None ↦ follow_append ring me d s sent ])))
      go true b y c t = tt
      go false true y c t = tt
      go false false y true t = tt
      go false false y false (Some t) = tt
      go false false y false None = follow_append_logs d s sent y f
