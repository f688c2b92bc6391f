-- What a store keeps beside its log, and what its private functions make of that. Only private contracts and the store's invariant cite this.
use Rattle.std.specs.Prelude.{◌≡◌, ℕ, suc, ◌≤◌, ◌==◌, not, List, [], ◌∷◌, ◌++◌, map, filter, take, if◌then◌else◌, Option, Some, None, IfSome}
use Rattle.ring_types.specs.declared.entries.Entry.{Entry}
use Rattle.ring_types.specs.declared.entries.Opid.{Opid}
use Rattle.ring_types.specs.declared.entries.Pair.{Pair}
use Rattle.ring_types.specs.declared.gtid_sets.ServerSet.{ServerSet}
use Rattle.ring_types.specs.declared.limits.TheConstants.{LAST_GTID}
use Rattle.ring_types.specs.declared.values.Change.{Change}
use Rattle.ring_types.specs.declared.values.Gtid.{Gtid}
use Rattle.ring_types.specs.Gtids as sets
use Rattle.ring_types.specs.Logs.{has_opid, rotates}
use Rattle.ring_types.specs.Rows as tables
use Rattle.ring_model.specs.Actions.{done}
use Rattle.ring_model.specs.declared.effects.Action.{Action}
use Rattle.gtid_set.specs.Laws.{AreInRange}
use Rattle.row_engine.specs.Filled.{Filled}
use Rattle.node_store.specs.Stores.{StoreState}

-- ---- the GTID set
-- the set is that of the log, of which each GTID is in range
pub record IsSetOf (log : List Entry) (set : List ServerSet) : Type 0 where
  pub in_range : AreInRange (sets.gtids_in log)
  pub same : set ≡ sets.gtids log

-- what was the set of any log is that of the log with these entries behind it
abbrev pub Lengthens : List Entry → List ServerSet → List ServerSet → Type 0
Lengthens entries old new = (log : List Entry) → IsSetOf log old → IsSetOf (log ++ entries) new

-- the entry's number, if it has one, is one that a transaction may have
abbrev pub IsNumbered : Entry → Type 0
IsNumbered e = IfSome (sets.gtid_of e) (λ (g : Gtid). (1 ≤ g.number) × (g.number ≤ LAST_GTID))

-- ---- the engine
-- the front pair, if it has the position, and the pairs without it
abbrev pub front_at : ℕ → List Pair → Option Pair
front_at position [] = None
front_at position (p ∷ pairs) = if p.opid.position == position then Some p else None

abbrev pub rest_at : ℕ → List Pair → List Pair
rest_at position [] = []
rest_at position (p ∷ pairs) = if p.opid.position == position then pairs else p ∷ pairs

-- tables with a transaction applied
abbrev pub applied_to : List Change → Filled → Filled
applied_to changes t = record { schema = t.schema; rows = tables.applied t.schema t.rows changes }

-- tables with the transaction of a pair applied, if there is one
abbrev pub committed_to : Option Pair → Filled → Filled
committed_to None t = t
committed_to (Some p) t = applied_to p.txn.changes t

-- the opids of the pairs whose entry is not in the log
abbrev pub strays_in : List Entry → List Pair → List Opid
strays_in log pairs = map (λ (p : Pair). p.opid) (filter (λ (p : Pair). not (has_opid log p.opid)) pairs)

-- ---- the store
-- what a store keeps beside its log is what the log says
pub record IsKept (log : List Entry) (set : List ServerSet) (file applied : ℕ) (held : Option Filled) : Type 0 where
  pub set_is : IsSetOf log set
  pub file_is : file ≡ suc (rotates log)
  pub rows_are : IfSome held (λ (t : Filled). t.rows ≡ tables.rows t.schema (take applied log))

-- an action makes of the durable part what it makes, and leaves the schema
abbrev pub acted : StoreState → Action → StoreState
acted s a = record { durable = done s.durable a; engine = s.engine }
