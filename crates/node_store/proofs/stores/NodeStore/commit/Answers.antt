use Rattle.std.proofs.Common.{◌≡◌, ◌+◌, ◌≤◌, length, subst, sym, take, Option}
use Rattle.std.specs.Prelude.{IfSome}
use Rattle.ring_types.specs.Logs.{IsLog, entry_at}
use Rattle.ring_types.specs.Rows as tables
use Rattle.ring_model.specs.Actions.{MayCommitEntry}
use Rattle.ring_model.specs.declared.nodes.Durable.{Durable}
use Rattle.row_engine.specs.Filled.{Filled}
use Rattle.node_store.specs.Stores.{StoreState}
use Rattle.node_store.proofs.Commits.{commit_rows}
use Rattle.node_store.proofs.stores.NodeStore.commit.Goals as goal

pub invariant_of-self-2 : goal.invariant_of-self-2
invariant_of-self-2 c =
    let here = c.self.inside in
    let was = sym c.self.view_is in
    let position = c.args.position in
    let d : Durable = record { term = here.term; votes = here.history; log = here.log; applied = here.applied; prepared = here.prepared } in
    let rows = commit_rows d position
    (subst (λ (s : StoreState). IsLog s.durable.log) was c.requires.log)
    (subst (λ (s : StoreState). s.durable.applied ≤ length s.durable.log) was c.requires.applied)
    (subst (λ (s : StoreState). position ≡ s.durable.applied + 1) was c.requires.next)
    (subst (λ (s : StoreState). position ≤ length s.durable.log) was c.requires.within)
    (subst (λ (s : StoreState). MayCommitEntry s.durable.prepared position (entry_at s.durable.log position)) was c.requires.front)
    here.tables c.self.invariant.rows_are in
    let AreRows : Option Filled → Type 0 = λ held. IfSome held (λ (t : Filled). t.rows ≡ tables.rows t.schema (take position here.log)) in
    record {
      set_is = c.self.invariant.set_is;
      file_is = c.self.invariant.file_is;
      rows_are = subst AreRows (sym c.in_ok-commit_at.ensures.ok) rows;
    }
