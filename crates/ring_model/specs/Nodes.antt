-- A node: when its durable part is sound, when a running node is lawful, and what recovery makes of it (Raft; FlexiRaft's voting history; MyRaft's logtailers).
use Rattle.std.specs.Prelude.{◌≡◌, ℕ, zero, suc, ◌+◌, ◌-◌, ◌^◌, ◌<◌, ◌≤◌, ◌==◌, Bool, true, false, not, ◌&&◌, List, [], ◌∷◌, ◌++◌, length, map, filter, nat_le, Option, Some, None}
use Rattle.std.specs.List.{list_any, list_all, Contains, All}
use Rattle.std.specs.List.Sorted.{IsStrictlyIncreasing}
use Rattle.ring_types.specs.declared.limits.TheConstants.{SILENT_BEATS, TERM_END}
use Rattle.ring_types.specs.declared.members.Member.{Member}
use Rattle.ring_types.specs.declared.entries.Opid.{Opid}
use Rattle.ring_types.specs.declared.entries.Vote.{Vote}
use Rattle.ring_types.specs.declared.entries.Entry.{Entry}
use Rattle.ring_types.specs.declared.entries.Pair.{Pair}
use Rattle.ring_types.specs.declared.schemas.Schema.{Schema}
use Rattle.ring_types.specs.Rings.{Layout, votes, runs_engine, is_member}
use Rattle.ring_types.specs.Logs.{IsLog, entry_at, last, has_opid, same_opid}
use Rattle.ring_types.specs.Gtids.{gtid_of}
use Rattle.ring_types.specs.Sizes.{group_bytes, group_limit}
use Rattle.ring_model.specs.Actions.{vote_limit, pairs_in, entries_between, is_prepared}
use Rattle.ring_model.specs.declared.nodes.Durable.{Durable}
use Rattle.ring_model.specs.declared.nodes.Soft.{Soft}
use Rattle.ring_model.specs.declared.nodes.Role.{Role}
use Rattle.ring_model.specs.declared.nodes.Role.TheVariants.{Follower, Candidate, Leader}
use Rattle.ring_model.specs.declared.nodes.Peer.{Peer}
use Rattle.ring_model.specs.declared.nodes.Pending.{Pending}
use Rattle.ring_model.specs.declared.nodes.Transfer.{Transfer}
use Rattle.ring_model.specs.declared.nodes.Transfer.TheVariants as transfer
use Rattle.ring_model.specs.declared.nodes.Mock.{Mock}
use Rattle.ring_model.specs.declared.nodes.Mock.TheVariants as mock

-- a node: its durable part and, while it runs, its soft part
pub record Node : Type 0 where
  pub durable : Durable
  pub soft : Option Soft

abbrev pub is_leader : Role → Bool
is_leader Follower = false
is_leader Candidate = false
is_leader Leader = true

abbrev pub is_follower : Role → Bool
is_follower Follower = true
is_follower Candidate = false
is_follower Leader = false

-- a leader is ready once its commit count reached its NoOp
abbrev pub is_ready : Soft → Bool
is_ready s = is_leader s.role && nat_le s.ready_at s.commit

-- ---- sound
-- the prepared pairs whose entry is in the log
abbrev pub kept_pairs : Durable → List Pair
kept_pairs d = filter (λ (p : Pair). has_opid d.log p.opid) d.prepared

-- these pairs are exactly those of the transactions above a and up to some k, in order
abbrev pub ArePairsAbove : List Entry → ℕ → List Pair → Type 0
ArePairsAbove log a pairs = (k : ℕ) × (a ≤ k) × (k ≤ length log) × (pairs ≡ pairs_in (entries_between log a k))

pub record IsSound (ring : Layout) (me : ℕ) (d : Durable) : Type 0 where
  pub log : IsLog d.log
  pub groups_fit : list_all (λ (e : Entry). nat_le (group_bytes ring.schema e.payload) group_limit) d.log ≡ true
  pub few_votes : length d.votes ≤ vote_limit
  pub votes_rise : IsStrictlyIncreasing (map (λ (v : Vote). v.term) d.votes)
  pub votes_below : list_all (λ (v : Vote). nat_le v.term d.term) d.votes ≡ true
  pub term_fits : d.term < TERM_END
  pub log_below : (last d.log).term ≤ d.term
  pub applied_inside : d.applied ≤ length d.log
  pub pairs_in_order : ArePairsAbove d.log d.applied (kept_pairs d)
  pub tailer : runs_engine ring me ≡ false → (d.applied ≡ 0) × (d.prepared ≡ [])

-- ---- lawful
abbrev pub others : Layout → ℕ → List ℕ
others ring me = map (λ (m : Member). m.id) (filter (λ (m : Member). not (m.id == me)) ring.members)

abbrev pub PeerFits : ℕ → Peer → Type 0
PeerFits len p = (p.matched < p.next) × (p.next ≤ len + 1) × (p.silent ≤ SILENT_BEATS)

abbrev pub IsPendingIn : List Entry → ℕ → Pending → Type 0
IsPendingIn log commit p = (commit < p.opid.position) × ((e : Entry) × (entry_at log p.opid.position ≡ Some e) × (e.opid ≡ p.opid) × (gtid_of e ≡ Some p.gtid))

abbrev pub TransferFits : Layout → ℕ → Transfer → Type 0
TransferFits ring me transfer.Off = Unit {0}
TransferFits ring me (transfer.Mock target round client) = ((target == me) ≡ false) × (votes ring target ≡ true)
TransferFits ring me (transfer.Handing target client) = ((target == me) ≡ false) × (votes ring target ≡ true)

abbrev pub MockFits : Layout → ℕ → Mock → Type 0
MockFits ring me mock.Off = Unit {0}
MockFits ring me (mock.On leader round last passed failed) = ((leader == me) ≡ false) × (is_member ring leader ≡ true)

pub record IsLawful (ring : Layout) (me : ℕ) (d : Durable) (s : Soft) : Type 0 where
  pub sound : IsSound ring me d
  pub pairs_in_log : kept_pairs d ≡ d.prepared
  pub commit_above : d.applied ≤ s.commit
  pub commit_inside : s.commit ≤ length d.log
  pub engine_follows : runs_engine ring me ≡ true → s.commit ≡ d.applied
  pub learner_follows : votes ring me ≡ false → s.role ≡ Follower
  pub candidate_short : s.role ≡ Candidate → length d.log < TERM_END - 1
  pub leads_alone : is_leader s.role ≡ false → (s.pending ≡ []) × (s.transfer ≡ transfer.Off)
  pub peers_are_others : s.role ≡ Leader → map (λ (p : Peer). p.node) s.peers ≡ others ring me
  pub peers_fit : s.role ≡ Leader → All (PeerFits (length d.log)) s.peers
  pub ready_inside : s.role ≡ Leader → (1 ≤ s.ready_at) × (s.ready_at ≤ length d.log)
  pub unready_ends : s.role ≡ Leader → is_ready s ≡ false → s.ready_at ≡ length d.log
  pub all_prepared : is_ready s ≡ true → runs_engine ring me ≡ true → d.prepared ≡ pairs_in (entries_between d.log d.applied (length d.log))
  pub pending_in_log : s.role ≡ Leader → All (IsPendingIn d.log s.commit) s.pending
  pub pending_rises : IsStrictlyIncreasing (map (λ (p : Pending). p.opid.position) s.pending)
  pub transfer_fits : TransferFits ring me s.transfer
  pub mock_fits : MockFits ring me s.mock

-- ---- recovery: pairs whose entry is not in the log are dropped, and the node follows
abbrev pub recover : Durable → Durable
recover d = record d { prepared = kept_pairs d }

abbrev pub stray_opids : Durable → List Opid
stray_opids d = map (λ (p : Pair). p.opid) (filter (λ (p : Pair). not (has_opid d.log p.opid)) d.prepared)

abbrev pub fresh_soft : Durable → Soft
fresh_soft d = record { role = Follower; commit = d.applied; ready_at = 0; rounds = 0; grants = []; peers = []; pending = []; transfer = transfer.Off; mock = mock.Off }

abbrev pub empty_durable : Durable
empty_durable = record { term = 0; votes = []; log = []; applied = 0; prepared = [] }
