use Rattle.std.proofs.Common.{List, subst}
use Rattle.std.specs.Prelude.{OnOk}
use Rattle.edge_traits.specs.Works.{Switches}
use Rattle.engine_redo.specs.Groups.{engine_files}
use Rattle.engine_redo.specs.Mounted.{HasAdded, schema_of, state_of}
use Rattle.engine_redo.specs.Stands.{EngineStands}
use Rattle.prepared_txns.specs.Engines.{engine_done}
use Rattle.ring_model.specs.declared.effects.Action.TheVariants as action
use Rattle.ring_types.specs.declared.entries.Opid.{Opid}
use Rattle.engine_redo.proofs.engines.Engine.drop_pairs.Goals as goal

pub returns-clause-crash : goal.returns-clause-crash
returns-clause-crash g c told =
    let schema = schema_of c.args.self.now in
    let e = state_of c.args.self.now in
    subst (λ (opids : List Opid). Switches engine_files g.D.Disk.files g.D.Disk.moment g.D.Disk.left_since c.args.disk.now c.act.new.disk (EngineStands schema e)
    (EngineStands schema (engine_done schema e (action.DropPairs opids))))
    c.in_ok-opids.ensures (c.act.ensures.crash told)

pub returns-clause-item : goal.returns-clause-item
returns-clause-item g c told =
    subst (λ (opids : List Opid). OnOk c.act.result (HasAdded c.args.self.now c.act.new.self (action.DropPairs opids) (g.D.Disk.files c.args.disk.now) (g.D.Disk.files c.act.new.disk)))
    c.in_ok-opids.ensures (c.act.ensures.item told)
