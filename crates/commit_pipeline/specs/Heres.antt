-- The node that a core's Here and the soft part stand for.
use Rattle.std.specs.Prelude.{◌≡◌, ℕ, suc, ◌-◌, ◌<◌, ◌≤◌, true, if◌then◌else◌, List, length, take, Some, None, IfSome}
use Rattle.std.specs.Option.{option_copied}
use Rattle.ring_types.specs.declared.limits.TheConstants.{TERM_END}
use Rattle.ring_types.specs.declared.entries.Entry.{Entry}
use Rattle.ring_types.specs.declared.entries.Pair.{Pair}
use Rattle.ring_types.specs.Logs.{IsLog, last, rotates}
use Rattle.ring_types.specs.Rows.{payloads_fit, rows}
use Rattle.ring_types.specs.Gtids.{gtids}
use Rattle.ring_types.specs.Rings.{Layout, runs_engine}
use Rattle.edge_traits.specs.Views.{Sight}
use Rattle.row_engine.specs.Filled.{Filled}
use Rattle.std.specs.List.{All}
use Rattle.ring_model.specs.Nodes.{IsLawful, PeerFits}
use Rattle.ring_model.specs.declared.nodes.Role.TheVariants as role
use Rattle.ring_model.specs.declared.nodes.Durable.{Durable}
use Rattle.ring_model.specs.declared.nodes.Soft.{Soft}
use Rattle.commit_pipeline.specs.declared.heres.Here.{Here}
use Rattle.commit_pipeline.specs.declared.heres.Leader.{Leader}

-- the durable part, once the log is told
abbrev pub durable_of : {V : Type 0} → Here V → List Entry → Durable
durable_of here log = record { term = here.term; votes = here.history.now; log = log; applied = here.applied; prepared = here.prepared.now }

-- what the stores keep beside, and the lawful node
pub record IsNode {V : Type 0} (here : Here V) (soft : Soft) (log : List Entry) : Type 0 where
  pub lawful : IsLawful here.ring.now here.me (durable_of here log) soft
  pub payloads : payloads_fit here.ring.now.schema log ≡ true
  pub gtids_are : here.gtids.now ≡ gtids log
  pub tables_are : option_copied here.tables ≡ (if runs_engine here.ring.now here.me then Some (record { schema = here.ring.now.schema; rows = rows here.ring.now.schema (take here.applied log) }) else None)
  pub file_is : here.file ≡ suc (rotates log)

-- told or not, the counts lie within the log, and there is room after a candidate's
pub record StandsForNode {V : Type 0} (stands : V → Type 0) (sees : V → Sight) (here : Here V) (soft : Soft) : Type 0 where
  pub view : stands here.view.now
  pub home : (sees here.view.now).home ≡ here.ring.now.home
  pub schema : (sees here.view.now).schema ≡ here.ring.now.schema
  pub short : (sees here.view.now).length < TERM_END
  pub term_fits : here.term < TERM_END
  pub applied_below : here.applied ≤ soft.commit
  pub commit_inside : soft.commit ≤ (sees here.view.now).length
  pub peers_fit : soft.role ≡ role.Leader → All (PeerFits (sees here.view.now).length) soft.peers
  pub candidate_short : soft.role ≡ role.Candidate → (sees here.view.now).length < TERM_END - 1
  pub tables_fit : IfSome (option_copied here.tables) (λ (t : Filled). t.schema ≡ here.ring.now.schema)
  pub whole : IfSome (sees here.view.now).log (λ log. length log ≡ (sees here.view.now).length)
  pub told : IfSome (sees here.view.now).log (IsNode here soft)

-- a leader with these parts and what its soft part has, where a plan rolls no pair back and prepares none
pub record IsLeaderOf (leader : Leader) (ring : Layout) (me term applied : ℕ) (pairs : List Pair) (soft : Soft) : Type 0 where
  pub ring_is : leader.engine.ring.now ≡ ring
  pub me_is : leader.engine.me ≡ me
  pub term_is : leader.term ≡ term
  pub applied_is : leader.engine.applied ≡ applied
  pub pairs_are : leader.engine.pairs.now ≡ pairs
  pub no_upto : leader.engine.upto ≡ None
  pub none_made : leader.engine.made ≡ None
  pub commit_is : leader.commit ≡ soft.commit
  pub peers_are : leader.peers.now ≡ soft.peers
  pub pending_are : leader.pending.now ≡ soft.pending

-- for an advance: the log after the plan's actions is one of a leader of this term
pub record IsLedLog (term : ℕ) (log : List Entry) : Type 0 where
  pub is_log : IsLog log
  pub log_below : (last log).term ≤ term

pub record MayAdvance {V : Type 0} (stands : V → Type 0) (sees : V → Sight) (view : V) (term applied commit : ℕ) : Type 0 where
  pub still : stands view
  pub short : (sees view).length < TERM_END
  pub applied_below : applied ≤ commit
  pub commit_inside : commit ≤ (sees view).length
  pub whole : IfSome (sees view).log (λ log. length log ≡ (sees view).length)
  pub told : IfSome (sees view).log (IsLedLog term)
