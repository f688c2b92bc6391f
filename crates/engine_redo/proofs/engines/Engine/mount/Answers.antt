use Rattle.std.proofs.Common.{rules, ◌∙◌}
use Rattle.edge_traits.proofs.Working.{disk_tells}
use Rattle.engine_redo.proofs.Acting.{answer_holds, engine_holds}
use Rattle.engine_redo.proofs.Keeping.{keeps_then}
use Rattle.engine_redo.proofs.engines.Engine.mount.Goals as goal

pub returns-in_ok-empty-in-None-clause-engine : goal.returns-in_ok-empty-in-None-clause-engine
returns-in_ok-empty-in-None-clause-engine g c = search rules

pub returns-in_ok-empty-in-None-clause-mounted : goal.returns-in_ok-empty-in-None-clause-mounted
returns-in_ok-empty-in-None-clause-mounted g c told = search (rules, told)

pub returns-in_ok-empty-in-None-clause-holds : goal.returns-in_ok-empty-in-None-clause-holds
returns-in_ok-empty-in-None-clause-holds g c told =
    engine_holds g.D.Disk.files g.D.Disk.moment g.D.Disk.left_since c.mount_control.new.disk
    (disk_tells g.met.D.Disk.reads_left g.met.D.Disk.counts_now g.met.D.Disk.only_now (c.mount_control.ensures.tells ∙ told)) c.args.schema.now c.in_ok-empty-in-None.field-0
    c.in_ok-empty-in-None.ensures.schema (returns-in_ok-empty-in-None-clause-engine g c) (returns-in_ok-empty-in-None-clause-mounted g c told)

pub returns-in-Some-clause-holds : goal.returns-in-Some-clause-holds
returns-in-Some-clause-holds g c told =
    let told_mid = c.mount_control.ensures.tells ∙ told in
    answer_holds g.D.Disk.files g.D.Disk.moment g.D.Disk.left_since c.mount_redo.new.disk
    (disk_tells g.met.D.Disk.reads_left g.met.D.Disk.counts_now g.met.D.Disk.only_now (c.mount_redo.ensures.tells ∙ told_mid)) c.args.schema.now c.mount_redo.result
    c.mount_redo.ensures.schema c.mount_redo.ensures.engine (c.mount_redo.ensures.mounted told_mid)

pub returns-in-Some-clause-crash : goal.returns-in-Some-clause-crash
returns-in-Some-clause-crash g c told =
    let told_mid = c.mount_control.ensures.tells ∙ told in
    keeps_then g.D.Disk.files g.D.Disk.moment g.D.Disk.left_since (disk_tells g.met.D.Disk.reads_left g.met.D.Disk.counts_now g.met.D.Disk.only_now told)
    (disk_tells g.met.D.Disk.reads_left g.met.D.Disk.counts_now g.met.D.Disk.only_now told_mid) (c.in_ok-control.ensures.keeps told) (c.mount_redo.ensures.keeps told_mid)
