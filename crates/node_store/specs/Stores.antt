-- What contracts see of a node's store: the durable part, and the schema of the tables where the node has an engine.
use Rattle.std.specs.Prelude.{ℕ, Option, Some, None, option_map, take, if◌then◌else◌}
use Rattle.ring_types.specs.declared.schemas.Schema.{Schema}
use Rattle.ring_types.specs.Rings.{Layout, runs_engine}
use Rattle.ring_types.specs.Rows.{rows}
use Rattle.ring_model.specs.declared.nodes.Durable.{Durable}
use Rattle.row_engine.specs.Filled.{Filled}

pub record StoreState : Type 0 where
  pub durable : Durable
  pub engine : Option Schema

-- a member with an engine has tables of the ring's schema
abbrev pub engine_for : Layout → ℕ → Option Schema
engine_for ring me = if runs_engine ring me then Some ring.schema else None

-- the tables, as the applied entries of the log make them of empty ones
abbrev pub tables_of : StoreState → Option Filled
tables_of s = option_map (λ (schema : Schema). record { schema = schema; rows = rows schema (take s.durable.applied s.durable.log) }) s.engine
