-- What an advance adds to a plan and changes in the soft part.
use Rattle.std.specs.Prelude.{◌≡◌, ℕ, Bool, false, List, [], ◌∷◌, ◌++◌, Option, Some, None, filter, nat_le}
use Rattle.ring_types.specs.declared.entries.Opid.{Opid}
use Rattle.ring_types.specs.declared.entries.Entry.{Entry}
use Rattle.ring_types.specs.declared.entries.Pair.{Pair}
use Rattle.ring_types.specs.Logs.{same_opid}
use Rattle.ring_types.specs.Rings.{Layout}
use Rattle.ring_model.specs.Steps.{stepped, advance_to, commit_count, committeds, waiting, follow_actions}
use Rattle.ring_model.specs.declared.nodes.Durable.{Durable}
use Rattle.ring_model.specs.declared.nodes.Peer.{Peer}
use Rattle.ring_model.specs.declared.nodes.Pending.{Pending}
use Rattle.ring_model.specs.declared.nodes.Soft.{Soft}
use Rattle.ring_model.specs.declared.effects.Plan.{Plan}
use Rattle.commit_pipeline.specs.declared.advances.Advanced.{Advanced}
use Rattle.commit_pipeline.specs.declared.heres.Engine.{Engine}
use Rattle.commit_pipeline.specs.declared.heres.Leader.{Leader}
use Rattle.commit_pipeline.specs.Counts.{count_of}

-- on a leader whose durable part is this one after the plan's actions
pub record Advances (ring : Layout) (me : ℕ) (after : Durable) (soft new_soft : Soft) (plan new_plan : Plan) : Type 0 where
  pub step : stepped new_plan.actions [] new_plan.says new_soft ≡ advance_to ring me after soft plan.actions plan.says (commit_count ring me after.term after.log soft)
  pub messages : new_plan.messages ≡ plan.messages

-- the pairs that are left once those of positions above this one were rolled back, if any were
abbrev pub kept_pairs : Option ℕ → List Pair → List Pair
kept_pairs None pairs = pairs
kept_pairs (Some position) pairs = filter (λ (p : Pair). nat_le p.opid.position position) pairs

-- a pair that stands for the one of this opid, where nothing is asked of its transaction
abbrev pub named_pair : Opid → Pair
named_pair o = record { opid = o; txn = record { gtid = record { server = 0; number = 0 }; changes = [] } }

-- the pairs, and after them the one that the plan itself prepares, if it does
abbrev pub with_made : Option Opid → List Pair → List Pair
with_made None pairs = pairs
with_made (Some o) pairs = pairs ++ named_pair o ∷ []

abbrev pub pairs_after : Option ℕ → Option Opid → List Pair → List Pair
pairs_after upto made pairs = with_made made (kept_pairs upto pairs)

abbrev pub is_made : Option Opid → Opid → Bool
is_made None o = false
is_made (Some m) o = same_opid m o

-- what an advance needs of the durable part after the plan's actions
abbrev pub part_after : ℕ → List Entry → ℕ → List Pair → Durable
part_after term log applied pairs = record { term = term; votes = []; log = log; applied = applied; prepared = pairs }

-- the plan, the commit count and the pending writes once the commit count is this one
abbrev pub advanced_to : Layout → ℕ → Durable → List Pending → Plan → ℕ → Advanced
advanced_to ring me after pending plan commit = record {
  plan = record { actions = plan.actions ++ follow_actions ring me after commit; messages = plan.messages; says = plan.says ++ committeds after.term commit pending };
  commit = commit;
  pending = waiting commit pending;
}

abbrev pub advanced : Layout → ℕ → Durable → ℕ → List Peer → List Pending → Plan → Advanced
advanced ring me after commit peers pending plan = advanced_to ring me after pending plan (count_of ring me after.term after.log commit peers)

-- ---- of an engine and a leader as they are handed in
abbrev pub pairs_left : Engine → List Pair
pairs_left e = pairs_after e.upto e.made e.pairs.now

abbrev pub advanced_by : Leader → List Entry → Plan → Advanced
advanced_by l log plan =
    advanced l.engine.ring.now l.engine.me (part_after l.term log l.engine.applied (pairs_left l.engine)) l.commit l.peers.now l.pending.now plan
