-- What an action makes of an engine that keeps its prepared transactions, its rows and how many entries it has applied, but not the log (XA prepare, commit and rollback of the MySQL manual).
use Rattle.std.specs.Prelude.{ℕ, ◌==◌, not, List, [], ◌∷◌, ◌++◌, take, filter, if◌then◌else◌, nat_le}
use Rattle.std.specs.List.{list_any}
use Rattle.ring_types.specs.declared.entries.Pair.{Pair}
use Rattle.ring_types.specs.declared.schemas.Schema.{Schema}
use Rattle.ring_types.specs.Logs.{same_opid}
use Rattle.ring_types.specs.Rows as tables
use Rattle.ring_model.specs.declared.nodes.Durable.{Durable}
use Rattle.ring_model.specs.declared.effects.Action.{Action}
use Rattle.ring_model.specs.declared.effects.Action.TheVariants as action

-- how many entries of the log are applied, the prepared pairs in order, and the tables
pub record EngineState : Type 0 where
  pub applied : ℕ
  pub prepared : List Pair
  pub rows : tables.Tables

-- the entry at the position is applied: it is the transaction of the front pair if that has its position, and no transaction else
abbrev pub committed : Schema → EngineState → ℕ → List Pair → EngineState
committed schema e position [] = record e { applied = position }
committed schema e position (p ∷ pairs) =
    if p.opid.position == position then record { applied = position; prepared = pairs; rows = tables.applied schema e.rows p.txn.changes }
    else record e { applied = position }

-- of the other actions an engine sees nothing
abbrev pub engine_done : Schema → EngineState → Action → EngineState
engine_done schema e (action.Prepare pair) = record e { prepared = e.prepared ++ pair ∷ [] }
engine_done schema e (action.Commit position) = committed schema e position e.prepared
engine_done schema e (action.RollBackAfter position) = record e { prepared = filter (λ (p : Pair). nat_le p.opid.position position) e.prepared }
engine_done schema e (action.DropPairs opids) = record e { prepared = filter (λ (p : Pair). not (list_any (same_opid p.opid) opids)) e.prepared }
engine_done schema e _ = e

-- the engine of a durable part: its rows are those of the applied entries of the log
abbrev pub engine_of : Schema → Durable → EngineState
engine_of schema d = record { applied = d.applied; prepared = d.prepared; rows = tables.rows schema (take d.applied d.log) }
