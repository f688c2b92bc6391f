use Rattle.std.proofs.Common.{Ok, Option, subst, ◌∙◌}
use Rattle.edge_traits.specs.Works.{telling}
use Rattle.edge_traits.proofs.Working.{disk_tells}
use Rattle.binlog_store.specs.Damages.{FilesFault, LogFault}
use Rattle.binlog_store.specs.Mounting.{PointTold, seen_of}
use Rattle.binlog_store.specs.declared.points.LogPoint.{LogPoint}
use Rattle.binlog_store.proofs.HandedOn.{damaged_more, ok_map}
use Rattle.binlog_store.proofs.Keeping.{keeps_then}
use Rattle.binlog_store.proofs.WholeMounts.{bytes_elsewhere, bytes_then, fault_files, files_fault, no_fault, ok_holds, ok_stands, still_seen}
use Rattle.binlog_store.proofs.stores.BinlogStore.mount.Goals as goal

pub returns-in_err-control-clause-crash : goal.returns-in_err-control-clause-crash
returns-in_err-control-clause-crash g c told = c.mount_control.ensures.keeps told

pub returns-in_err-told_point-clause-crash : goal.returns-in_err-told_point-clause-crash
returns-in_err-told_point-clause-crash g c told = c.mount_control.ensures.keeps told

pub returns-in-None-clause-holds : goal.returns-in-None-clause-holds
returns-in-None-clause-holds g c told =
    ok_holds c.args.schema.now c.mount_empty.result (telling g.D.Disk.files g.D.Disk.moment g.D.Disk.left_since c.mount_empty.new.disk)
    (ok_map c.mount_empty.result c.mount_empty.ensures.store (λ it store. store c.args.schema.now))
    (ok_map c.mount_empty.result (c.mount_empty.ensures.mounted (c.mount_control.ensures.tells ∙ told)) (λ it mounted. mounted c.args.schema.now))
    (disk_tells g.met.D.Disk.reads_left g.met.D.Disk.counts_now g.met.D.Disk.only_now (c.mount_empty.ensures.tells ∙ (c.mount_control.ensures.tells ∙ told)))

pub returns-in-None-clause-crash : goal.returns-in-None-clause-crash
returns-in-None-clause-crash g c told =
    let told_mid = c.mount_control.ensures.tells ∙ told in
    keeps_then g.D.Disk.files g.D.Disk.moment g.D.Disk.left_since
    (disk_tells g.met.D.Disk.reads_left g.met.D.Disk.counts_now g.met.D.Disk.only_now told) (disk_tells g.met.D.Disk.reads_left g.met.D.Disk.counts_now g.met.D.Disk.only_now told_mid)
    (c.mount_control.ensures.keeps told) (c.mount_empty.ensures.keeps told_mid)

pub returns-in-Some-clause-log : goal.returns-in-Some-clause-log
returns-in-Some-clause-log g c told =
    let old = g.D.Disk.files c.args.disk.now in
    ok_stands c.args.schema.now c.mount_log.result c.in_ok-control.control (seen_of old) (c.in_ok-control.ensures.holds told) c.mount_log.ensures.store c.mount_log.ensures.control
    (c.mount_log.ensures.all (c.mount_control.ensures.tells ∙ told) (seen_of old) (still_seen old (g.D.Disk.files c.mount_control.new.disk) (c.mount_control.ensures.elsewhere told)))

pub returns-in-Some-clause-holds : goal.returns-in-Some-clause-holds
returns-in-Some-clause-holds g c told =
    ok_holds c.args.schema.now c.mount_log.result (telling g.D.Disk.files g.D.Disk.moment g.D.Disk.left_since c.mount_log.new.disk) c.mount_log.ensures.store
    (c.mount_log.ensures.mounted (c.mount_control.ensures.tells ∙ told))
    (disk_tells g.met.D.Disk.reads_left g.met.D.Disk.counts_now g.met.D.Disk.only_now (c.mount_log.ensures.tells ∙ (c.mount_control.ensures.tells ∙ told)))

pub returns-in-Some-clause-crash : goal.returns-in-Some-clause-crash
returns-in-Some-clause-crash g c told =
    let told_mid = c.mount_control.ensures.tells ∙ told in
    keeps_then g.D.Disk.files g.D.Disk.moment g.D.Disk.left_since
    (disk_tells g.met.D.Disk.reads_left g.met.D.Disk.counts_now g.met.D.Disk.only_now told) (disk_tells g.met.D.Disk.reads_left g.met.D.Disk.counts_now g.met.D.Disk.only_now told_mid)
    (c.mount_control.ensures.keeps told) (c.mount_log.ensures.keeps told_mid)

pub returns-in-Some-clause-damaged : goal.returns-in-Some-clause-damaged
returns-in-Some-clause-damaged g c told =
    let old = g.D.Disk.files c.args.disk.now in
    let seen = still_seen old (g.D.Disk.files c.mount_control.new.disk) (c.mount_control.ensures.elsewhere told) in
    damaged_more c.mount_log.result (FilesFault c.args.schema.now c.in-Some.point (seen_of old)) (LogFault c.args.schema.now (seen_of old))
    (files_fault c.args.schema.now (seen_of old) c.in_ok-control.control.bytes c.in-Some.point (c.in_ok-control.ensures.holds told)
    (subst (λ (o : Option LogPoint). PointTold c.in_ok-control.control.bytes (Ok o)) c.in-Some.is c.in_ok-told_point.ensures))
    (c.mount_log.ensures.damaged (c.mount_control.ensures.tells ∙ told) (seen_of old) seen)

pub returns-in_err-control-clause-kept : goal.returns-in_err-control-clause-kept
returns-in_err-control-clause-kept g c told = λ f at fault.
    bytes_elsewhere (g.D.Disk.files c.args.disk.now) (g.D.Disk.files c.mount_control.new.disk) (c.mount_control.ensures.elsewhere told)

pub returns-in_err-told_point-clause-kept : goal.returns-in_err-told_point-clause-kept
returns-in_err-told_point-clause-kept g c told = λ f at fault.
    bytes_elsewhere (g.D.Disk.files c.args.disk.now) (g.D.Disk.files c.mount_control.new.disk) (c.mount_control.ensures.elsewhere told)

pub returns-in-None-clause-kept : goal.returns-in-None-clause-kept
returns-in-None-clause-kept g c told = λ f at fault.
    absurd (no_fault c.args.schema.now (seen_of (g.D.Disk.files c.args.disk.now)) c.in_ok-control.control.bytes (c.in_ok-control.ensures.holds told)
    (subst (λ (o : Option LogPoint). PointTold c.in_ok-control.control.bytes (Ok o)) c.in-None.is c.in_ok-told_point.ensures) f at fault)

pub returns-in-Some-clause-kept : goal.returns-in-Some-clause-kept
returns-in-Some-clause-kept g c told = λ f at fault.
    let old = g.D.Disk.files c.args.disk.now in
    let mid = g.D.Disk.files c.mount_control.new.disk in
    let new = g.D.Disk.files c.mount_log.new.disk in
    bytes_then old mid new (bytes_elsewhere old mid (c.mount_control.ensures.elsewhere told))
    (c.mount_log.ensures.same (c.mount_control.ensures.tells ∙ told) (seen_of old) (still_seen old mid (c.mount_control.ensures.elsewhere told)) f at
    (fault_files c.args.schema.now (seen_of old) c.in_ok-control.control.bytes c.in-Some.point (c.in_ok-control.ensures.holds told)
    (subst (λ (o : Option LogPoint). PointTold c.in_ok-control.control.bytes (Ok o)) c.in-Some.is c.in_ok-told_point.ensures) f at fault))
