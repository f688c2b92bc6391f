-- What an election comes to, from the parts that a rule is handed: the candidate leads and adds its NoOp, or goes on asking.
use Rattle.std.specs.Prelude.{◌≡◌, ℕ, suc, ◌+◌, ◌-◌, ◌<◌, ◌≤◌, ◌==◌, ◌&&◌, nat_lt, if◌then◌else◌, Bool, true, false, not, List, [], ◌∷◌, ◌++◌, length, Option, Some, None, IfSome}
use Rattle.ring_types.specs.declared.limits.TheConstants.{TERM_END}
use Rattle.ring_types.specs.declared.entries.Entry.{Entry}
use Rattle.ring_types.specs.declared.entries.Grant.{Grant}
use Rattle.ring_types.specs.declared.entries.Opid.{Opid}
use Rattle.ring_types.specs.declared.entries.Payload.TheVariants as payload
use Rattle.ring_types.specs.declared.entries.Vote.{Vote}
use Rattle.ring_types.specs.Rings.{Layout, region_of, votes}
use Rattle.edge_traits.specs.Views.{Sight}
use Rattle.ring_model.specs.Actions.{votes_above}
use Rattle.ring_model.specs.Elections.{first_peers, has_granted, has_won, new_vote, requests}
use Rattle.ring_model.specs.Needs.{votes_between}
use Rattle.ring_model.specs.Nodes.{is_leader}
use Rattle.ring_model.specs.Steps.{unknowns}
use Rattle.ring_model.specs.declared.nodes.Durable.{Durable}
use Rattle.ring_model.specs.declared.nodes.Peer.{Peer}
use Rattle.ring_model.specs.declared.nodes.Pending.{Pending}
use Rattle.ring_model.specs.declared.nodes.Role.{Role}
use Rattle.ring_model.specs.declared.nodes.Role.TheVariants as role
use Rattle.ring_model.specs.declared.nodes.Soft.{Soft}
use Rattle.ring_model.specs.declared.effects.Action.TheVariants as action
use Rattle.ring_model.specs.declared.messages.VoteReply.{VoteReply}
use Rattle.commit_pipeline.specs.declared.advances.Advanced.{Advanced}
use Rattle.commit_pipeline.specs.Advances.{advanced, part_after}
use Rattle.commit_pipeline.specs.Heres.{IsLedLog}
use Rattle.election_core.specs.declared.leading.Bid.{Bid}
use Rattle.election_core.specs.declared.leading.Candidate.{Candidate}
use Rattle.election_core.specs.declared.leading.Election.{Election}
use Rattle.election_core.specs.declared.leading.Leadership.{Leadership}

-- ---- leading
abbrev pub noop_at : Layout → ℕ → ℕ → ℕ → Entry
noop_at ring me term position = record { opid = record { term = term; position = position }; region = region_of ring me; payload = payload.NoOp }

abbrev pub led_by : ℕ → List Peer → List Grant → Advanced → Election
led_by noop peers grants a = record { plan = a.plan; grants = grants; won = Some (record { noop = noop; peers = peers; commit = a.commit; pending = a.pending }) }

-- the NoOp at this position, after a log and the actions that come first
abbrev pub leads_at : Layout → ℕ → Durable → ℕ → List Pending → Bid → ℕ → Election
leads_at ring me after commit pending bid noop =
    led_by noop (first_peers me noop ring.members) bid.grants
    (advanced ring me (part_after after.term (after.log ++ noop_at ring me after.term noop ∷ []) after.applied after.prepared) commit (first_peers me noop ring.members) pending
    (record { actions = bid.begun.actions ++ action.Append (noop_at ring me after.term noop ∷ []) ∷ []; messages = []; says = bid.begun.says }))

-- ---- an election
abbrev pub asks_on : Bid → Election
asks_on bid = record { plan = record { actions = bid.begun.actions; messages = bid.asks; says = bid.begun.says }; grants = bid.grants; won = None }

-- of a candidate whose durable part is this one after the actions that come first
abbrev pub election : Layout → ℕ → Durable → ℕ → List Pending → Bid → Election
election ring me after commit pending bid =
    if has_won ring me after bid.grants then leads_at ring me after commit pending bid (suc (length after.log)) else asks_on bid

-- what of the durable part a candidate and its log say
abbrev pub part_of : Candidate → List Entry → Durable
part_of c log = part_after c.term log c.applied c.pairs.now

-- the soft part once the election has come to this
abbrev pub in_role : Soft → Option Leadership → Soft
in_role s None = record s { role = role.Candidate }
in_role s (Some l) = record s { role = role.Leader; ready_at = l.noop; peers = l.peers; commit = l.commit; pending = l.pending }

abbrev pub settled : Soft → Election → Soft
settled s e = in_role (record s { grants = e.grants }) e.won

-- what a candidate needs of its view: room for one entry more, and a log that it may lead
pub record MayLead {V : Type 0} (stands : V → Type 0) (sees : V → Sight) (view : V) (c : Candidate) : Type 0 where
  pub still : stands view
  pub home : (sees view).home ≡ c.ring.now.home
  pub short : (sees view).length + 1 < TERM_END
  pub applied_below : c.applied ≤ c.commit
  pub commit_inside : c.commit ≤ (sees view).length
  pub whole : IfSome (sees view).log (λ log. length log ≡ (sees view).length)
  pub led : IfSome (sees view).log (IsLedLog c.term)

-- ---- standing
-- by the length of the log and whether one more vote has room
abbrev pub may_elect : Layout → ℕ → ℕ → ℕ → Soft → Bool → Bool
may_elect ring me term end s room = votes ring me && not (is_leader s.role) && nat_lt term (TERM_END - 1) && nat_lt end (TERM_END - 1) && room

-- what the node comes with in its new term
abbrev pub first_bid : Layout → ℕ → ℕ → Opid → ℕ → List Vote → Soft → Bid
first_bid ring me term base floor kept s = record {
  grants = record { voter = me; votes = votes_between base.term term (votes_above floor kept) } ∷ [];
  begun = record { actions = action.SetTerm term ∷ action.Vote (new_vote ring term me) floor ∷ []; says = unknowns s };
  asks = requests me term base ring.members;
}

-- ---- a reply
-- only a candidate hears it
abbrev pub is_deaf : Role → Bool
is_deaf role.Follower = true
is_deaf role.Candidate = false
is_deaf role.Leader = true

-- a grant of the present term that is not counted yet
abbrev pub counts : ℕ → List Grant → ℕ → VoteReply → Bool
counts term grants from reply = reply.granted && reply.term == term && not (has_granted grants from)

-- what a candidate comes with once the reply is counted
abbrev pub next_bid : List Grant → ℕ → VoteReply → Bid
next_bid grants from reply = record { grants = grants ++ record { voter = from; votes = reply.votes } ∷ []; begun = record { actions = []; says = [] }; asks = [] }
