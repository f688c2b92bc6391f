-- The front pair is the transaction of the log's next entry, if that is one: so to apply the pair gives the rows of one entry more.
use Rattle.std.proofs.Common.{◌≡◌, ℕ, ◌+◌, ◌≤◌, ◌==◌, Bool, true, false, List, [], ◌∷◌, length, take, Option, Some, None, refl, sym, ap, ◌∙◌}
use Rattle.std.specs.Prelude.{option_map, IfSome}
use Rattle.ring_types.specs.declared.entries.Pair.{Pair}
use Rattle.ring_types.specs.declared.schemas.Schema.{Schema}
use Rattle.ring_types.specs.Logs.{IsLog, entry_at}
use Rattle.ring_types.specs.Rows as tables
use Rattle.ring_model.specs.Actions.{MayCommitEntry, done}
use Rattle.ring_model.specs.declared.nodes.Durable.{Durable}
use Rattle.ring_model.specs.declared.effects.Action.TheVariants as action
use Rattle.prepared_txns.specs.Engines.{EngineState, committed, engine_of}
use Rattle.prepared_txns.proofs.Following.{engine_follows}
use Rattle.row_engine.specs.Filled.{Filled}
use Rattle.node_store.specs.Kept.{committed_to, front_at, rest_at}

same_schema : (o : Option Pair) (t : Filled) → t.schema ≡ (committed_to o t).schema
same_schema None t = refl
same_schema (Some p) t = refl

abbrev engine : ℕ → List Pair → tables.Tables → EngineState
engine a p t = record { applied = a; prepared = p; rows = t }

abbrev rows_with : Schema → Option Pair → tables.Tables → tables.Tables
rows_with schema o t = (committed_to o (record { schema = schema; rows = t })).rows

committed_by : (schema : Schema) (a position : ℕ) (t : tables.Tables) (pairs : List Pair)
    → committed schema (engine a pairs t) position pairs ≡ engine position (rest_at position pairs) (rows_with schema (front_at position pairs) t)
committed_by schema a position t [] = refl
committed_by schema a position t (p ∷ pairs) = go (p.opid.position == position) refl
  where
    go : (b : Bool) → (p.opid.position == position) ≡ b
        → committed schema (engine a (p ∷ pairs) t) position (p ∷ pairs)
        ≡ engine position (rest_at position (p ∷ pairs)) (rows_with schema (front_at position (p ∷ pairs)) t)
    go true is = rw is refl
    go false is = rw is refl

module _ (d : Durable) (position : ℕ) (log : IsLog d.log) (inside : d.applied ≤ length d.log) (next : position ≡ d.applied + 1)
    (within : position ≤ length d.log) (may : MayCommitEntry d.prepared position (entry_at d.log position)) where
  committed_engine : (schema : Schema)
      → engine position (rest_at position d.prepared) (rows_with schema (front_at position d.prepared) (tables.rows schema (take d.applied d.log)))
      ≡ engine_of schema (done d (action.Commit position))
  committed_engine schema =
      sym (committed_by schema d.applied position (tables.rows schema (take d.applied d.log)) d.prepared)
      ∙ engine_follows schema d (action.Commit position) log inside (next, within, may)

  pub commit_rows : (held : Option Filled) → IfSome held (λ (t : Filled). t.rows ≡ tables.rows t.schema (take d.applied d.log))
      → IfSome (option_map (committed_to (front_at position d.prepared)) held) (λ (t : Filled). t.rows ≡ tables.rows t.schema (take position d.log))
  commit_rows None kept = tt
  commit_rows (Some t) kept =
      let front = front_at position d.prepared in
      let rows : (committed_to front t).rows ≡ tables.rows t.schema (take position d.log) =
      ap (rows_with t.schema front) kept ∙ ap (λ (e : EngineState). e.rows) (committed_engine t.schema) in
      rows ∙ ap (λ (s : Schema). tables.rows s (take position d.log)) (same_schema front t)
