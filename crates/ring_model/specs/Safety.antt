-- What it is for a run to be safe: seven facts of its worlds, and what committed entries are to later leaders.
use Rattle.std.specs.Prelude.{◌≡◌, ℕ, zero, suc, ◌+◌, ◌<◌, ◌≤◌, Bool, true, false, List, [], ◌∷◌, ◌++◌, length, take, Option, Some, None, slice_get}
use Rattle.std.specs.List.{Contains}
use Rattle.ring_types.specs.declared.entries.Entry.{Entry}
use Rattle.ring_types.specs.declared.entries.Opid.{Opid}
use Rattle.ring_types.specs.declared.values.Gtid.{Gtid}
use Rattle.ring_types.specs.Rings.{IsRing, Layout, region_of, runs_engine}
use Rattle.ring_types.specs.Logs.{entry_at, term_at, region_at, last}
use Rattle.ring_types.specs.Rows.{is_valid, rows}
use Rattle.ring_types.specs.Gtids.{gtid_of}
use Rattle.ring_model.specs.Quorums.{is_listed, covers}
use Rattle.ring_model.specs.Needs.{need, voters_in}
use Rattle.ring_model.specs.Nodes.{Node, ArePairsAbove, is_leader}
use Rattle.ring_model.specs.Worlds.{WorldState, Task}
use Rattle.ring_model.specs.Runs.{Move, Election, world, elections, event_tear, acting, IsRun, IsTold}
use Rattle.ring_model.specs.declared.nodes.Durable.{Durable}
use Rattle.ring_model.specs.declared.nodes.Soft.{Soft}

-- both lists have at least p entries, and the same first p
pub record Agree (p : ℕ) (a b : List Entry) : Type 0 where
  pub left : p ≤ length a
  pub right : p ≤ length b
  pub same : take p a ≡ take p b

-- the node runs with this soft part
abbrev pub Runs : WorldState → ℕ → Soft → Type 0
Runs w id s = (w.nodes id).soft ≡ Some s

-- the node runs and leads
abbrev pub Leads : WorldState → ℕ → Soft → Type 0
Leads w id s = Runs w id s × (is_leader s.role ≡ true)

-- what a node applied, and what a running node committed, is a beginning of the chosen sequence
pub record AppliedPrefix (w : WorldState) : Type 0 where
  pub applied : (id : ℕ) → Agree (w.nodes id).durable.applied (w.nodes id).durable.log w.chosen
  pub committed : (id : ℕ) (s : Soft) → Runs w id s → Agree s.commit (w.nodes id).durable.log w.chosen

-- an entry that a client was told stands in the chosen sequence at its position, and in the log of each leader of that term or a later one
abbrev pub ToldStands : WorldState → Type 0
ToldStands w = (gtid : Gtid) (opid : Opid) (term : ℕ) → IsTold w gtid opid term
    → (e : Entry) × (entry_at w.chosen opid.position ≡ Some e) × (e.opid ≡ opid) × (gtid_of e ≡ Some gtid)
    × ((id : ℕ) (s : Soft) → Leads w id s → term ≤ (w.nodes id).durable.term → entry_at (w.nodes id).durable.log opid.position ≡ Some e)

-- no term is led twice, and each running leader was elected in its term
pub record OneLeaderATerm (w : WorldState) (held : List Election) : Type 0 where
  pub once : (j k : ℕ) (e f : Election) → slice_get held j ≡ Some e → slice_get held k ≡ Some f → e.term ≡ f.term → j ≡ k
  pub elected : (id : ℕ) (s : Soft) → Leads w id s → (e : Election) × Contains held e × (e.node ≡ id) × (e.term ≡ (w.nodes id).durable.term)

-- on each running node with an engine the prepared pairs are those of the transactions above its applied count up to some position, in order; a logtailer, running or down, has none and has applied nothing
pub record PreparedAgrees (ring : Layout) (w : WorldState) : Type 0 where
  pub engine : (id : ℕ) (s : Soft) → Runs w id s → runs_engine ring id ≡ true → ArePairsAbove (w.nodes id).durable.log (w.nodes id).durable.applied (w.nodes id).durable.prepared
  pub tailer : (id : ℕ) → runs_engine ring id ≡ false → ((w.nodes id).durable.prepared ≡ []) × ((w.nodes id).durable.applied ≡ 0)

-- each transaction of the chosen sequence is accepted by the rows of those before it, and no GTID comes twice
pub record ChosenIsValid (ring : Layout) (w : WorldState) : Type 0 where
  pub accepted : is_valid ring.schema w.chosen ≡ true
  pub gtids_once : (j k : ℕ) (d e : Entry) (g : Gtid) → entry_at w.chosen j ≡ Some d → entry_at w.chosen k ≡ Some e → gtid_of d ≡ Some g → gtid_of e ≡ Some g → j ≡ k

-- two logs that have an entry of one opid are equal up to it
abbrev pub LogsMatch : WorldState → Type 0
LogsMatch w = (i j position : ℕ) → 0 < position → position ≤ length (w.nodes i).durable.log → position ≤ length (w.nodes j).durable.log
    → term_at (w.nodes i).durable.log position ≡ term_at (w.nodes j).durable.log position
    → Agree position (w.nodes i).durable.log (w.nodes j).durable.log

-- the chosen sequence of a shorter run is a beginning of that of a longer one
abbrev pub ChosenOnlyGrows : Layout → List Move → Type 0
ChosenOnlyGrows ring run = (before after : List Move) → run ≡ before ++ after → Agree (length (world ring before).chosen) (world ring before).chosen (world ring run).chosen

-- no event is torn
abbrev pub NeverTorn : Layout → List Move → Type 0
NeverTorn ring run = (before after : List Move) (m : Move) → run ≡ before ++ m ∷ after → event_tear ring (world ring before) m.event ≡ None

-- where an event changed the chosen sequence, the acting node was elected in its term
abbrev pub ChosenByLeader : Layout → List Move → Type 0
ChosenByLeader ring run = (before : List Move) (m : Move) → run ≡ before ++ m ∷ [] → length (world ring before).chosen < length (world ring run).chosen
    → (id : ℕ) (task : Task) → acting (world ring before) m.event.what ≡ Some (id, task)
    → (e : Election) × Contains (elections ring run) e × (e.node ≡ id) × (e.term ≡ ((world ring run).nodes id).durable.term)

pub record ChosenGrows (ring : Layout) (run : List Move) : Type 0 where
  pub grows : ChosenOnlyGrows ring run
  pub by_leader : ChosenByLeader ring run
  pub never_torn : NeverTorn ring run

-- what a running node committed stands in the log of each leader of the same or a later term, at once and after any further events
abbrev pub LeadersHave : Layout → List Move → Type 0
LeadersHave ring run = (before after : List Move) (i j : ℕ) (s o : Soft) → run ≡ before ++ after
    → Runs (world ring before) i s → Leads (world ring run) j o
    → ((world ring before).nodes i).durable.term ≤ ((world ring run).nodes j).durable.term
    → Agree s.commit ((world ring before).nodes i).durable.log ((world ring run).nodes j).durable.log

-- a run is safe: the seven facts, and what committed entries are to later leaders
pub record Safe (ring : Layout) (run : List Move) : Type 0 where
  pub applied_prefix : AppliedPrefix (world ring run)
  pub told_stands : ToldStands (world ring run)
  pub one_leader_a_term : OneLeaderATerm (world ring run) (elections ring run)
  pub prepared_agrees : PreparedAgrees ring (world ring run)
  pub chosen_is_valid : ChosenIsValid ring (world ring run)
  pub logs_match : LogsMatch (world ring run)
  pub chosen_grows : ChosenGrows ring run
  pub leaders_have : LeadersHave ring run

-- ---- over time
-- for every ring and every run of it
abbrev pub EveryRunIsSafe : Type 0
EveryRunIsSafe = (ring : Layout) (run : List Move) → IsRing ring → IsRun ring run → Safe ring run

-- on each node, running or down, the rows that its engine has applied are those of the first so many entries of the chosen sequence, none of which was refused
pub record AppliesChosen (ring : Layout) (w : WorldState) : Type 0 where
  pub rows_are : (id : ℕ) → rows ring.schema (take (w.nodes id).durable.applied (w.nodes id).durable.log) ≡ rows ring.schema (take (w.nodes id).durable.applied w.chosen)
  pub accepted : (id : ℕ) → is_valid ring.schema (take (w.nodes id).durable.applied w.chosen) ≡ true

abbrev pub EveryRunAppliesChosen : Type 0
EveryRunAppliesChosen = (ring : Layout) (run : List Move) → IsRing ring → IsRun ring run → AppliesChosen ring (world ring run)

-- ---- the cover of earlier leaders
-- the term of the last entry before an election
abbrev pub base_term : Election → ℕ
base_term e = (last e.base).term

abbrev pub needed_by : Layout → Election → List ℕ
needed_by ring e = need ring (base_term e) (region_at ring.home e.base (length e.base)) (region_of ring e.node) e.term e.grants

-- for each led term from the base term of an election up to and without its term: the region of its leader is needed in that election, and covered by its grants
abbrev pub CoversLeaders : Layout → List Move → Type 0
CoversLeaders ring run = (e f : Election) → Contains (elections ring run) e → Contains (elections ring run) f → base_term f ≤ e.term → e.term < f.term
    → (is_listed (needed_by ring f) (region_of ring e.node) ≡ true) × (covers ring (region_of ring e.node) (voters_in f.grants) ≡ true)

abbrev pub EveryRunCoversLeaders : Type 0
EveryRunCoversLeaders = (ring : Layout) (run : List Move) → IsRing ring → IsRun ring run → CoversLeaders ring run
