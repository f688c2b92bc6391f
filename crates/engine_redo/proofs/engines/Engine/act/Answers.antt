use Rattle.std.proofs.Common.{ℕ, ◌+◌, List, inl, ap, subst, sym, ◌∙◌}
use Rattle.edge_traits.specs.Works.{HoldsOn, IsTelling, telling}
use Rattle.edge_traits.proofs.Working.{disk_tells, works_weaker}
use Rattle.engine_redo.specs.Groups.{engine_files}
use Rattle.engine_redo.specs.Items.{IsItem}
use Rattle.engine_redo.specs.Mounted.{schema_of, state_of}
use Rattle.engine_redo.specs.Stands.{EngineStands}
use Rattle.engine_redo.proofs.Acting.{control_still, item_added, mounted_holds, mounted_then, put_held, switch_held, switched_engine}
use Rattle.prepared_txns.specs.Engines.{EngineState, engine_done}
use Rattle.ring_types.specs.declared.schemas.Schema.{Schema}
use Rattle.engine_redo.proofs.engines.Engine.act.Goals as goal

pub returns-in_err-put-clause-crash : goal.returns-in_err-put-clause-crash
returns-in_err-put-clause-crash g c told =
    works_weaker engine_files _ _ _ _ (λ x stands. inl stands)
    (put_held g.D.Disk.files g.D.Disk.moment g.D.Disk.left_since c.args.self.now c.requires.engine c.redo.new.self.point c.in-Some.point c.redo.ensures.point c.in-Some.ensures.number
    c.args.disk.now c.put.new.disk (c.requires.mounted told) c.as_slice.result.now (c.put.ensures.crash told))

pub switch-requires : goal.switch-requires
switch-requires g c told =
    let told_first = sym c.put.ensures.tells ∙ told in
    control_still c.args.self.now c.redo.new.self.control _ c.requires.engine (c.requires.mounted told_first) c.redo.ensures.control (c.put.ensures.crash told_first)

pub returns-in_err-switch-clause-crash : goal.returns-in_err-switch-clause-crash
returns-in_err-switch-clause-crash g c told =
    let item : IsItem (schema_of c.args.self.now) c.as_slice.result.now c.args.action =
    subst (λ (b : List ℕ). IsItem (schema_of c.args.self.now) b c.args.action) (sym c.as_slice.ensures.value)
    (subst (λ (s : Schema). IsItem s c.in_ok-item.item.items c.args.action) c.schema.ensures c.in_ok-item.ensures) in
    let end = c.in-Some.ensures.end ∙ ap (λ (n : ℕ). c.redo.new.self.point.end + n) (c.len.ensures ∙ sym c.as_slice.ensures.len) in
    switch_held g.D.Disk.files g.D.Disk.moment g.D.Disk.left_since c.args.self.now c.requires.engine c.redo.new.self.point c.in-Some.point c.redo.ensures.point c.in-Some.ensures.number
    c.args.disk.now c.put.new.disk (c.requires.mounted told) c.as_slice.result.now
    c.args.action item c.requires.may end (c.in_ok-put.ensures.here told) c.switch.new.disk c.redo.new.self.control c.redo.ensures.control c.in-Some.ensures.fits
    (c.put.ensures.crash told) (c.switch.ensures.crash (c.put.ensures.tells ∙ told))

pub returns-clause-engine : goal.returns-clause-engine
returns-clause-engine g c =
    switched_engine c.args.self.now c.switch.new.self c.in-Some.point c.requires.engine c.in_ok-switch.ensures.point c.in-Some.ensures.fits
    (c.in_ok-switch.ensures.schema ∙ c.redo.ensures.schema) c.in_ok-switch.ensures.bytes (c.in_ok-switch.ensures.file ∙ ap (λ b. b.file) c.redo.ensures.control)

pub returns-clause-mounted : goal.returns-clause-mounted
returns-clause-mounted g c told =
    let item : IsItem (schema_of c.args.self.now) c.as_slice.result.now c.args.action =
    subst (λ (b : List ℕ). IsItem (schema_of c.args.self.now) b c.args.action) (sym c.as_slice.ensures.value)
    (subst (λ (s : Schema). IsItem s c.in_ok-item.item.items c.args.action) c.schema.ensures c.in_ok-item.ensures) in
    let end = c.in-Some.ensures.end ∙ ap (λ (n : ℕ). c.redo.new.self.point.end + n) (c.len.ensures ∙ sym c.as_slice.ensures.len) in
    let told_too = c.put.ensures.tells ∙ told in
    mounted_then g.D.Disk.files g.D.Disk.moment g.D.Disk.left_since c.args.self.now c.requires.engine c.redo.new.self.point c.in-Some.point c.redo.ensures.point c.in-Some.ensures.number
    c.args.disk.now c.put.new.disk (c.requires.mounted told) c.as_slice.result.now
    c.args.action item c.requires.may end (c.in_ok-put.ensures.here told) c.switch.new.disk c.switch.new.self c.redo.new.self.control.file
    (ap (λ b. b.file) c.redo.ensures.control ∙ c.requires.engine.control) c.in_ok-switch.ensures.file c.in_ok-switch.ensures.point (c.in_ok-switch.ensures.schema ∙ c.redo.ensures.schema)
    (c.in_ok-switch.ensures.state ∙ c.in_ok-redo.ensures.done) (c.switch.ensures.crash told_too) (c.in_ok-switch.ensures.stands told_too)

pub returns-clause-item : goal.returns-clause-item
returns-clause-item g c told =
    let item : IsItem (schema_of c.args.self.now) c.as_slice.result.now c.args.action =
    subst (λ (b : List ℕ). IsItem (schema_of c.args.self.now) b c.args.action) (sym c.as_slice.ensures.value)
    (subst (λ (s : Schema). IsItem s c.in_ok-item.item.items c.args.action) c.schema.ensures c.in_ok-item.ensures) in
    let end = c.in-Some.ensures.end ∙ ap (λ (n : ℕ). c.redo.new.self.point.end + n) (c.len.ensures ∙ sym c.as_slice.ensures.len) in
    let told_too = c.put.ensures.tells ∙ told in
    item_added g.D.Disk.files g.D.Disk.moment g.D.Disk.left_since c.args.self.now c.requires.engine c.redo.new.self.point c.in-Some.point c.redo.ensures.point c.in-Some.ensures.number
    c.args.disk.now c.put.new.disk (c.requires.mounted told) c.as_slice.result.now
    c.args.action item c.requires.may end (c.in_ok-put.ensures.here told) c.switch.new.disk c.switch.new.self c.redo.new.self.control.file
    (ap (λ b. b.file) c.redo.ensures.control ∙ c.requires.engine.control) c.in_ok-switch.ensures.point (c.put.ensures.crash told) (c.switch.ensures.crash told_too)

pub returns-clause-holds : goal.returns-clause-holds
returns-clause-holds g c told =
    let tells : IsTelling (telling g.D.Disk.files g.D.Disk.moment g.D.Disk.left_since c.switch.new.disk) =
    disk_tells g.met.D.Disk.reads_left g.met.D.Disk.counts_now g.met.D.Disk.only_now (c.switch.ensures.tells ∙ (c.put.ensures.tells ∙ told)) in
    subst (λ (s : Schema). HoldsOn engine_files g.D.Disk.files g.D.Disk.moment g.D.Disk.left_since c.switch.new.disk (EngineStands s (engine_done (schema_of c.args.self.now) (state_of c.args.self.now) c.args.action))) (c.in_ok-switch.ensures.schema ∙ c.redo.ensures.schema)
    (subst (λ (e : EngineState). HoldsOn engine_files g.D.Disk.files g.D.Disk.moment g.D.Disk.left_since c.switch.new.disk (EngineStands (schema_of c.switch.new.self) e))
    (c.in_ok-switch.ensures.state ∙ c.in_ok-redo.ensures.done)
    (mounted_holds c.switch.new.self _ (returns-clause-engine g c) (returns-clause-mounted g c told) tells))

pub returns-clause-crash : goal.returns-clause-crash
returns-clause-crash g c told =
    let item : IsItem (schema_of c.args.self.now) c.as_slice.result.now c.args.action =
    subst (λ (b : List ℕ). IsItem (schema_of c.args.self.now) b c.args.action) (sym c.as_slice.ensures.value)
    (subst (λ (s : Schema). IsItem s c.in_ok-item.item.items c.args.action) c.schema.ensures c.in_ok-item.ensures) in
    let end = c.in-Some.ensures.end ∙ ap (λ (n : ℕ). c.redo.new.self.point.end + n) (c.len.ensures ∙ sym c.as_slice.ensures.len) in
    switch_held g.D.Disk.files g.D.Disk.moment g.D.Disk.left_since c.args.self.now c.requires.engine c.redo.new.self.point c.in-Some.point c.redo.ensures.point c.in-Some.ensures.number
    c.args.disk.now c.put.new.disk (c.requires.mounted told) c.as_slice.result.now
    c.args.action item c.requires.may end (c.in_ok-put.ensures.here told) c.switch.new.disk c.redo.new.self.control c.redo.ensures.control c.in-Some.ensures.fits
    (c.put.ensures.crash told) (c.switch.ensures.crash (c.put.ensures.tells ∙ told))
