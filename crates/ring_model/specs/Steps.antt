-- What several rules of the step share: doing nothing, stepping down, answering, and a leader's commit count with the engine that follows it (Raft).
use Rattle.std.specs.Prelude.{◌≡◌, ℕ, zero, suc, ◌+◌, ◌-◌, ◌==◌, nat_lt, nat_le, if◌then◌else◌, Bool, true, false, not, ◌&&◌, ◌||◌, List, [], ◌∷◌, ◌++◌, length, map, filter, Option, Some, None}
use Rattle.std.specs.Option.{option_map_or}
use Rattle.ring_types.specs.declared.entries.Opid.{Opid}
use Rattle.ring_types.specs.declared.entries.Entry.{Entry}
use Rattle.ring_types.specs.declared.entries.Pair.{Pair}
use Rattle.ring_types.specs.declared.entries.Payload.{Payload}
use Rattle.ring_types.specs.declared.entries.Payload.TheVariants as payload
use Rattle.ring_types.specs.Rings.{Layout, region_of, runs_engine}
use Rattle.ring_types.specs.Logs.{entry_at, term_at, last}
use Rattle.ring_model.specs.Quorums.{commits}
use Rattle.ring_model.specs.Actions.{all_done, is_prepared, pair_of}
use Rattle.ring_model.specs.Nodes.{is_leader}
use Rattle.ring_model.specs.declared.nodes.Durable.{Durable}
use Rattle.ring_model.specs.declared.nodes.Soft.{Soft}
use Rattle.ring_model.specs.declared.nodes.Role.TheVariants.{Follower, Candidate, Leader}
use Rattle.ring_model.specs.declared.nodes.Peer.{Peer}
use Rattle.ring_model.specs.declared.nodes.Pending.{Pending}
use Rattle.ring_model.specs.declared.nodes.Transfer.TheVariants as transfer
use Rattle.ring_model.specs.declared.nodes.Mock.TheVariants as mock
use Rattle.ring_model.specs.declared.effects.Action.{Action}
use Rattle.ring_model.specs.declared.effects.Action.TheVariants as action
use Rattle.ring_model.specs.declared.effects.Plan.{Plan}
use Rattle.ring_model.specs.declared.effects.Step.{Step}
use Rattle.ring_model.specs.declared.effects.Say.{Say}
use Rattle.ring_model.specs.declared.effects.What.{What}
use Rattle.ring_model.specs.declared.effects.What.TheVariants as what
use Rattle.ring_model.specs.declared.messages.Message.{Message}
use Rattle.ring_model.specs.declared.messages.Body.{Body}

-- these actions, messages and sayings, and this soft part
abbrev pub stepped : List Action → List Message → List Say → Soft → Step
stepped actions messages says s = record { plan = record { actions = actions; messages = messages; says = says }; soft = s }

-- nothing happens
abbrev pub idle : Soft → Step
idle s = stepped [] [] [] s

-- one message from me
abbrev pub message : ℕ → ℕ → Body → Message
message me to body = record { from = me; to = to; body = body }

abbrev pub greater_of : ℕ → ℕ → ℕ
greater_of a b = if nat_le a b then b else a

abbrev pub smaller_of : ℕ → ℕ → ℕ
smaller_of a b = if nat_le a b then a else b

-- ---- stepping down: the role becomes follower, and what belongs to a leadership, a candidacy or a mock election is emptied
abbrev pub demoted : Soft → Soft
demoted s = record s { role = Follower; grants = []; pending = []; transfer = transfer.Off; mock = mock.Off }

abbrev pub unknown : Pending → Say
unknown p = record { client = p.client; what = what.Unknown p.gtid p.opid }

-- each pending write is said `unknown`, in order
abbrev pub unknowns : Soft → List Say
unknowns s = map unknown s.pending

-- ---- the commit count of a leader
-- the greatest position above the floor and up to n that passes, else the floor
abbrev pub greatest : (ℕ → Bool) → ℕ → ℕ → ℕ
greatest test floor zero = floor
greatest test floor (suc n) = if nat_le (suc n) floor then floor else (if test (suc n) then suc n else greatest test floor n)

-- the members that have matched a position
abbrev pub holders : ℕ → List Peer → List ℕ
holders position [] = []
holders position (p ∷ peers) = if nat_le position p.matched then p.node ∷ holders position peers else holders position peers

-- an entry of the leader's own term that a commit quorum of its region has, the leader itself included
abbrev pub may_commit : Layout → ℕ → ℕ → List Entry → List Peer → ℕ → Bool
may_commit ring me term log peers position = if term_at log position == term then commits ring (region_of ring me) (me ∷ holders position peers) else false

-- the commit count of a leader of this term and log
abbrev pub commit_count : Layout → ℕ → ℕ → List Entry → Soft → ℕ
commit_count ring me term log s = greatest (may_commit ring me term log s.peers) s.commit (length log)

-- ---- the engine follows the commit count
-- a transaction is prepared where it is not yet
abbrev pub prepare_entry : List Pair → Option Entry → List Action
prepare_entry pairs None = []
prepare_entry pairs (Some e) = elim (pair_of e) [ None ↦ [] | Some p ↦ if is_prepared pairs e.opid then [] else action.Prepare p ∷ [] ]

-- from the applied count on, for so many positions
abbrev pub engine_actions : List Entry → List Pair → ℕ → ℕ → List Action
engine_actions log pairs applied zero = []
engine_actions log pairs applied (suc n) = prepare_entry pairs (entry_at log (suc applied)) ++ (action.Commit (suc applied) ∷ engine_actions log pairs (suc applied) n)

-- up to a commit count, on a node with an engine
abbrev pub follow_actions : Layout → ℕ → Durable → ℕ → List Action
follow_actions ring me d commit = if runs_engine ring me then engine_actions d.log d.prepared d.applied (commit - d.applied) else []

-- ---- advance
abbrev pub is_settled : ℕ → Pending → Bool
is_settled commit p = nat_le p.opid.position commit

abbrev pub committed : ℕ → Pending → Say
committed term p = record { client = p.client; what = what.Committed p.gtid p.opid term }

-- each client whose write the commit count has reached is told so, the earliest write first
abbrev pub committeds : ℕ → ℕ → List Pending → List Say
committeds term commit pending = map (committed term) (filter (is_settled commit) pending)

abbrev pub waiting : ℕ → List Pending → List Pending
waiting commit pending = filter (λ (p : Pending). not (is_settled commit p)) pending

-- the end of a leader's step, after the actions and the sayings that come first
abbrev pub advance_to : Layout → ℕ → Durable → Soft → List Action → List Say → ℕ → Step
advance_to ring me after s first says commit =
    stepped (first ++ follow_actions ring me after commit) [] (says ++ committeds after.term commit s.pending)
    (record s { commit = commit; pending = waiting commit s.pending })

unfoldable pub advance : Layout → ℕ → Durable → Soft → List Action → List Say → Step
advance ring me d s first says =
    advance_to ring me (all_done d first) s first says (commit_count ring me (all_done d first).term (all_done d first).log s)

-- an entry of this leader, after its log
abbrev pub own_entry : Layout → ℕ → Durable → Payload → Entry
own_entry ring me d p = record { opid = record { term = d.term; position = suc (length d.log) }; region = region_of ring me; payload = p }
