-- Each rule keeps what a running node keeps in its soft part; a member that takes an Append follows, so its log does not count.
use Rattle.std.proofs.Common.{◌≡◌, ℕ, ◌-◌, ◌≤◌, ◌==◌, [], ◌∷◌, if◌then◌else◌, Bool, List, None, Option, Some, ap, false, length, not, refl, true}
use Rattle.std.specs.Prelude.{nat_lt}
use Rattle.ring_types.specs.Rings.{Layout}
use Rattle.ring_types.specs.Logs.{term_at}
use Rattle.ring_model.specs.declared.effects.Action.{Action}
use Rattle.ring_model.specs.declared.effects.Action.TheVariants as action
use Rattle.ring_model.specs.declared.effects.Say.{Say}
use Rattle.ring_model.specs.declared.effects.Tear.{Tear}
use Rattle.ring_model.specs.declared.messages.Append.{Append}
use Rattle.ring_model.specs.declared.messages.Body.{Body}
use Rattle.ring_model.specs.declared.messages.Body.TheVariants as body
use Rattle.ring_model.specs.declared.messages.Input.{Input}
use Rattle.ring_model.specs.declared.messages.Input.TheVariants as input
use Rattle.ring_model.specs.declared.nodes.Durable.{Durable}
use Rattle.ring_model.specs.declared.nodes.Role.{Role}
use Rattle.ring_model.specs.declared.nodes.Role.TheVariants.{Candidate, Follower, Leader}
use Rattle.ring_model.specs.declared.nodes.Soft.{Soft}
use Rattle.ring_model.specs.declared.nodes.Transfer.TheVariants as transfer
use Rattle.ring_model.specs.Actions.{all_done}
use Rattle.ring_model.specs.Dispatch.{body_step, is_foreign, is_foreign_body, is_other, step}
use Rattle.ring_model.specs.Nodes.{MockFits, is_leader}
use Rattle.ring_model.specs.Replication.{accept, follow_append, leads_it, match_append, on_append, outgrows, reply, tear_in}
use Rattle.ring_model.specs.Steps.{demoted, idle, stepped, unknowns}
use Rattle.ring_lawful.proofs.Leads.{SoftFits, SoftStep, stands}
use Rattle.ring_lawful.proofs.LeadsElections.{elect_soft, reply_soft, request_soft}
use Rattle.ring_lawful.proofs.LeadsOwn.{answered_soft, beat_soft, rotate_soft, write_soft}
use Rattle.ring_lawful.proofs.LeadsHandingOver.{asked_soft, cancel_soft, mock_reply_soft, mock_result_soft, relay_soft, start_soft, timeout_soft, transfer_soft}

-- ---- what a member does with an Append: it follows, so its log does not count
match_soft : (ring : Layout) (me : ℕ) (d : Durable) (s : Soft) (first : List Action) (says : List Say) (sent : Append) → s.role ≡ Follower → s.pending ≡ []
    → s.transfer ≡ transfer.Off → MockFits ring me s.mock → SoftStep ring me d (match_append ring me d s first says sent)
match_soft ring me d s first says sent role none off m = go (nat_lt (length d.log) sent.prev.position) (term_at d.log sent.prev.position == sent.prev.term)
  where
    go : (b c : Bool) → SoftStep ring me d (if b then stepped first (reply me sent.leader sent.term false (length d.log) ∷ []) says s
        else (if c then accept ring me d s first says sent else stepped first (reply me sent.leader sent.term false (sent.prev.position - 1) ∷ []) says s))
    go true c = stands ring me (all_done d first).log s (ap is_leader role) (λ v. role) none off m
    go false true = stands ring me _ _ (ap is_leader role) (λ v. role) none off m
    go false false = stands ring me (all_done d first).log s (ap is_leader role) (λ v. role) none off m

follow_soft : (ring : Layout) (me : ℕ) (d : Durable) (s : Soft) (sent : Append) → SoftFits ring me d.log s → SoftStep ring me d (follow_append ring me d s sent)
follow_soft ring me d s sent x = go (nat_lt d.term sent.term) s.role refl
  where
    go : (b : Bool) (o : Role) → s.role ≡ o
        → SoftStep ring me d (if b then match_append ring me d (demoted s) (action.SetTerm sent.term ∷ []) (unknowns s) sent
        else elim o [ Follower ↦ match_append ring me d s [] [] sent | Candidate ↦ match_append ring me d (demoted s) [] (unknowns s) sent | Leader ↦ idle s ])
    go true o z = match_soft ring me d (demoted s) (action.SetTerm sent.term ∷ []) (unknowns s) sent refl refl refl tt
    go false Follower z = let a = x.alone (ap is_leader z) in match_soft ring me d s [] [] sent z a.0 a.1 x.mock
    go false Candidate z = match_soft ring me d (demoted s) [] (unknowns s) sent refl refl refl tt
    go false Leader z = x

append_soft : (ring : Layout) (me : ℕ) (sent : Append) (d : Durable) (s : Soft) → SoftFits ring me d.log s → SoftStep ring me d (on_append ring me d s sent)
unfolding on_append
append_soft ring me sent d s x = go (outgrows d sent) (nat_lt sent.term d.term) (leads_it d s sent) (tear_in d s sent)
  where
    go : (a b c : Bool) (t : Option Tear)
        → SoftStep ring me d (if a then idle s else (if b then stepped [] (reply me sent.leader d.term false 0 ∷ []) [] s else (if c then idle s else elim t [ Some t ↦ idle s | None ↦ follow_append ring me d s sent ])))
    go true b c t = x
    go false true c t = x
    go false false true t = x
    go false false false (Some t) = x
    go false false false None = follow_soft ring me d s sent x

-- ---- any input
body_soft : (ring : Layout) (me from : ℕ) (d : Durable) (s : Soft) (b : Body) → SoftFits ring me d.log s → s.commit ≤ length d.log
    → is_foreign_body ring me from b ≡ false → SoftStep ring me d (body_step ring me d s from b)
body_soft ring me from d s (body.RequestVote asked) x inside own = request_soft ring me from asked d s x
body_soft ring me from d s (body.VoteReply reply) x inside own = reply_soft ring me from reply d s x inside
body_soft ring me from d s (body.Append sent) x inside own = append_soft ring me sent d s x
body_soft ring me from d s (body.AppendReply answer) x inside own = answered_soft ring me from answer d s x inside
body_soft ring me from d s (body.ProxyAppend sent) x inside own = relay_soft ring me from sent d s x
body_soft ring me from d s (body.MockStart sent) x inside own = start_soft ring me from sent d s x (flip (is_other ring me from) own)
  where
    flip : (b : Bool) → not b ≡ false → b ≡ true
    flip true is = refl
    flip false is = absurd (let z : true ≡ false = is in cc)
body_soft ring me from d s (body.MockRequest sent) x inside own = asked_soft ring me from sent d s x
body_soft ring me from d s (body.MockReply sent) x inside own = mock_reply_soft ring me from sent d s x
body_soft ring me from d s (body.MockResult sent) x inside own = mock_result_soft ring me sent d s x
body_soft ring me from d s (body.TimeoutNow term) x inside own = timeout_soft ring me d s term x inside
body_soft ring me from d s (body.ClientWrite changes) x inside own = write_soft ring me from changes d s x inside
body_soft ring me from d s body.ClientRotate x inside own = rotate_soft ring me from d s x inside
body_soft ring me from d s (body.ClientTransfer target) x inside own = transfer_soft ring me from target d s x
body_soft ring me from d s body.ClientCancel x inside own = cancel_soft ring me from d s x
body_soft ring me from d s (body.ClientReply what) x inside own = x

pub step_soft : (ring : Layout) (me : ℕ) (d : Durable) (s : Soft) (i : Input) → SoftFits ring me d.log s → s.commit ≤ length d.log
    → SoftStep ring me d (step ring me d s i)
step_soft ring me d s input.Elect x inside = elect_soft ring me d s x inside
step_soft ring me d s input.Beat x inside = beat_soft ring me d s x
step_soft ring me d s (input.Deliver m) x inside = go (is_foreign ring me m) refl
  where
    go : (b : Bool) → is_foreign ring me m ≡ b → SoftStep ring me d (if b then idle s else body_step ring me d s m.from m.body)
    go true is = x
    go false is = body_soft ring me m.from d s m.body x inside is
step_soft ring me d s (input.Write client changes) x inside = write_soft ring me client changes d s x inside
step_soft ring me d s (input.Rotate client) x inside = rotate_soft ring me client d s x inside
step_soft ring me d s (input.Transfer client target) x inside = transfer_soft ring me client target d s x
step_soft ring me d s (input.Cancel client) x inside = cancel_soft ring me client d s x
