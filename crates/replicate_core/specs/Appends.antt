-- What the Append rule of a node whose log is a view answers, and the parts that its private functions compute.
use Rattle.std.specs.Prelude.{◌≡◌, ℕ, ◌+◌, ◌-◌, ◌==◌, nat_lt, if◌then◌else◌, Bool, true, false, ◌||◌, List, [], ◌∷◌, ◌++◌, length, Option, Some, None, Result, Ok, Err}
use Rattle.ring_types.specs.declared.entries.Entry.{Entry}
use Rattle.ring_types.specs.declared.entries.Pair.{Pair}
use Rattle.ring_types.specs.Rings.{Layout}
use Rattle.ring_types.specs.Logs.{term_at}
use Rattle.edge_traits.specs.Counts.{Rose}
use Rattle.ring_model.specs.declared.effects.Action.{Action}
use Rattle.ring_model.specs.declared.effects.Action.TheVariants as action
use Rattle.ring_model.specs.declared.effects.Plan.{Plan}
use Rattle.ring_model.specs.declared.effects.Say.{Say}
use Rattle.ring_model.specs.declared.effects.Tear.{Tear}
use Rattle.ring_model.specs.declared.faults.CoreFault.{CoreFault}
use Rattle.ring_model.specs.declared.faults.CoreFault.TheVariants as fault
use Rattle.ring_model.specs.declared.messages.Append.{Append}
use Rattle.ring_model.specs.declared.messages.Message.{Message}
use Rattle.ring_model.specs.declared.nodes.Durable.{Durable}
use Rattle.ring_model.specs.declared.nodes.Role.{Role}
use Rattle.ring_model.specs.declared.nodes.Role.TheVariants.{Follower, Candidate, Leader}
use Rattle.ring_model.specs.declared.nodes.Soft.{Soft}
use Rattle.ring_model.specs.Actions.{all_done}
use Rattle.ring_model.specs.Steps.{demoted, unknowns, follow_actions, greater_of, smaller_of}
use Rattle.ring_model.specs.Replication.{append_tear, on_append, reply, unmatched, take_in, kept_position, roll_back}
use Rattle.commit_pipeline.specs.declared.steps.Begun.{Begun}
use Rattle.commit_pipeline.specs.Advances.{kept_pairs, part_after}
use Rattle.commit_pipeline.specs.Planned.{after}
use Rattle.replicate_core.specs.declared.accepts.Receiver.{Receiver}
use Rattle.replicate_core.specs.declared.appends.Matched.{Matched}

-- the plan and the soft part are those of the rule where nothing is torn; else the fault names the tear
abbrev pub AppendAnswers : Layout → ℕ → Durable → Soft → Append → Soft → Result Plan CoreFault → Type 0
AppendAnswers ring me d s sent new (Ok plan) = (append_tear d s sent ≡ None) × (on_append ring me d s sent ≡ record { plan = plan; soft = new })
AppendAnswers ring me d s sent new (Err (fault.Torn position kept_term sent_term)) =
    append_tear d s sent ≡ Some (record { position = position; kept_term = kept_term; sent_term = sent_term })
AppendAnswers ring me d s sent new (Err _) = Unit {0}

-- a fault of the disk comes only where the count of faults rose
abbrev pub AppendFails : {T : Type 0} → ℕ → ℕ → Result T CoreFault → Type 0
AppendFails before now (Err fault.Disk) = Rose before now
AppendFails before now _ = Unit {0}

-- ---- private: the rule past its first four cases, from the log and the counts alone
abbrev pub torn_at : Tear → CoreFault
torn_at t = fault.Torn t.position t.kept_term t.sent_term

abbrev pub part_of : List Entry → ℕ → List Pair → Durable
part_of log applied pairs = part_after 0 log applied pairs

abbrev pub last_matched : Append → ℕ
last_matched sent = sent.prev.position + length sent.entries

abbrev pub new_commit : ℕ → Append → ℕ
new_commit commit sent = greater_of commit (smaller_of sent.commit (last_matched sent))

abbrev pub taken_of : Layout → ℕ → List Entry → Append → List Action
taken_of ring me log sent =
    take_in ring me (part_of log 0 []) (kept_position sent.prev sent.entries (unmatched log sent.prev.position sent.entries))
    (unmatched log sent.prev.position sent.entries)

abbrev pub accepted_actions : Layout → ℕ → List Entry → ℕ → List Pair → ℕ → Append → List Action
accepted_actions ring me log applied pairs commit sent =
    taken_of ring me log sent ++ follow_actions ring me (all_done (part_of log applied pairs) (taken_of ring me log sent)) (new_commit commit sent)

abbrev pub reply_plan : List Action → Message → List Say → Plan
reply_plan actions answer says = record { actions = actions; messages = answer ∷ []; says = says }

abbrev pub plan_of : Layout → ℕ → List Entry → ℕ → List Pair → ℕ → List Action → List Say → Append → Plan
plan_of ring me log applied pairs commit first says sent =
    if nat_lt (length log) sent.prev.position then reply_plan first (reply me sent.leader sent.term false (length log)) says
    else (if term_at log sent.prev.position == sent.prev.term
    then reply_plan (first ++ accepted_actions ring me log applied pairs commit sent) (reply me sent.leader sent.term true (last_matched sent)) says
    else reply_plan first (reply me sent.leader sent.term false (sent.prev.position - 1)) says)

abbrev pub commit_of : List Entry → ℕ → Append → ℕ
commit_of log commit sent =
    if nat_lt (length log) sent.prev.position then commit
    else (if term_at log sent.prev.position == sent.prev.term then new_commit commit sent else commit)

abbrev pub is_candidate : Role → Bool
is_candidate Follower = false
is_candidate Candidate = true
is_candidate Leader = false

abbrev pub steps_down : ℕ → Soft → Append → Bool
steps_down term s sent = nat_lt term sent.term || is_candidate s.role

abbrev pub first_of : ℕ → Append → List Action
first_of term sent = if nat_lt term sent.term then action.SetTerm sent.term ∷ [] else []

abbrev pub says_of : ℕ → Soft → Append → List Say
says_of term s sent = if steps_down term s sent then unknowns s else []

abbrev pub soft_of : ℕ → Soft → Append → Soft
soft_of term s sent = if steps_down term s sent then demoted s else s

-- entries not kept are added to a log of this length, after a cut where something else stands there
abbrev pub taken_at : Layout → ℕ → ℕ → ℕ → List Entry → List Action
taken_at ring me end kept rest =
    if nat_lt kept end then action.Truncate kept ∷ (roll_back ring me kept ++ (action.Append rest ∷ [])) else action.Append rest ∷ []

-- pairs above a cut are rolled back
abbrev pub cut_at : ℕ → ℕ → Option ℕ
cut_at end kept = if nat_lt kept end then Some kept else None

-- ---- the same of a receiver
abbrev pub followed : Receiver → List Entry → Option ℕ → ℕ → List Action
followed r log upto commit = follow_actions r.ring.now r.me (part_of log r.applied (kept_pairs upto r.pairs.now)) commit

abbrev pub added_by : Receiver → List Entry → ℕ → List Entry → ℕ → List Action → List Action
added_by r log kept added commit first =
    (first ++ taken_at r.ring.now r.me r.end kept added) ++ followed r (after kept added log) (cut_at r.end kept) commit

abbrev pub accepted_by : Receiver → List Entry → Append → List Action
accepted_by r log sent = accepted_actions r.ring.now r.me log r.applied r.pairs.now r.commit sent

abbrev pub matched_by : Receiver → List Entry → Begun → Append → Matched
matched_by r log first sent = record {
  plan = plan_of r.ring.now r.me log r.applied r.pairs.now r.commit first.actions first.says sent;
  commit = commit_of log r.commit sent;
}
