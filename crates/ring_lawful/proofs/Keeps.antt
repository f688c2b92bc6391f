-- A node's facts part by part, as the rules keep them: the order of its log and counts, its prepared pairs, its engine.
use Rattle.std.specs.Prelude.{◌≡◌, ℕ, ◌≤◌, ◌<◌, ◌+◌, true, false, [], length, Some}
use Rattle.std.specs.List.{Contains}
use Rattle.ring_types.specs.declared.entries.Entry.{Entry}
use Rattle.ring_types.specs.Logs.{entry_at, last, term_at}
use Rattle.ring_types.specs.Rings.{Layout, runs_engine}
use Rattle.ring_model.specs.declared.nodes.Durable.{Durable}
use Rattle.ring_model.specs.declared.nodes.Peer.{Peer}
use Rattle.ring_model.specs.declared.nodes.Role.TheVariants.{Leader}
use Rattle.ring_model.specs.declared.nodes.Soft.{Soft}
use Rattle.ring_model.specs.Actions.{entries_between, pairs_in}
use Rattle.ring_model.specs.Nodes.{ArePairsAbove, is_ready, kept_pairs}

-- the log's entries stand in their places, terms do not fall and are at most the node's, and what is applied is in the log
pub record KeepsOrder (d : Durable) : Type 0 where
  pub placed : (k : ℕ) (e : Entry) → entry_at d.log k ≡ Some e → e.opid.position ≡ k
  pub rises : (j k : ℕ) → j ≤ k → k ≤ length d.log → term_at d.log j ≤ term_at d.log k
  pub log_below : (last d.log).term ≤ d.term
  pub applied_inside : d.applied ≤ length d.log

-- the commit count of a running node is between what it applied and the length of its log; a leader sends a member what follows the matched entries, from its log or its end
pub record KeepsCounts (d : Durable) (s : Soft) : Type 0 where
  pub commit_above : d.applied ≤ s.commit
  pub commit_inside : s.commit ≤ length d.log
  pub peers_near : s.role ≡ Leader → (p : Peer) → Contains s.peers p → (p.matched < p.next) × (p.next ≤ length d.log + 1)

-- of the prepared pairs, those whose entry is in the log are those of a stretch above the applied count; a logtailer has none and has applied nothing
pub record KeepsPairs (ring : Layout) (me : ℕ) (d : Durable) : Type 0 where
  pub pairs_in_order : ArePairsAbove d.log d.applied (kept_pairs d)
  pub tailer : runs_engine ring me ≡ false → (d.applied ≡ 0) × (d.prepared ≡ [])

-- while a node runs every prepared pair's entry is in the log, the engine has applied what is committed, and a ready leader has every transaction above it prepared
pub record RunsEngine (ring : Layout) (me : ℕ) (d : Durable) (s : Soft) : Type 0 where
  pub pairs_in_log : kept_pairs d ≡ d.prepared
  pub engine_follows : runs_engine ring me ≡ true → s.commit ≡ d.applied
  pub all_prepared : is_ready s ≡ true → runs_engine ring me ≡ true → d.prepared ≡ pairs_in (entries_between d.log d.applied (length d.log))
