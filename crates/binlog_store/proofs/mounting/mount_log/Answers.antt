use Rattle.std.proofs.Common.{refl, sym, subst, ◌∙◌, arith}
use Rattle.edge_traits.specs.Works.{telling}
use Rattle.edge_traits.specs.declared.disks.FileId.TheVariants as id
use Rattle.edge_traits.proofs.Working.{disk_tells}
use Rattle.control_block.specs.Blocks.{Stands}
use Rattle.binlog_store.specs.Damages.{FilesFault}
use Rattle.binlog_store.proofs.Counts.{count_files}
use Rattle.binlog_store.proofs.LogEnds.{file_there}
use Rattle.binlog_store.proofs.Phases.{below}
use Rattle.binlog_store.specs.declared.held.HeldLog.{HeldLog}
use Rattle.binlog_store.proofs.HandedOn.{handed_on}
use Rattle.binlog_store.proofs.Keeping.{keeps_then}
use Rattle.binlog_store.proofs.LogMounts.{all_read, all_whole, cut_held, cut_keeps, end_firm, said_named, there}
use Rattle.binlog_store.proofs.mounting.mount_log.Goals as goal

pub returns-in_err-held-clause-damaged : goal.returns-in_err-held-clause-damaged
returns-in_err-held-clause-damaged g c told = λ x seen.
    handed_on HeldLog c.from_residual.result _ (FilesFault c.args.schema.now c.args.point x) c.from_residual.ensures.1 (c.in_err-held.ensures.damaged told x seen)

pub cut_behind-requires-clause-firm : goal.cut_behind-requires-clause-firm
cut_behind-requires-clause-firm g c told_mid =
    let told = sym c.read_log.ensures.tells ∙ told_mid in
    end_firm c.args.schema.now c.args.point c.in_ok-held.held (g.D.Disk.files c.read_log.new.disk)
    (there c.args.schema.now c.args.point c.in_ok-held.held (g.D.Disk.files c.args.disk.now) (g.D.Disk.files c.read_log.new.disk) c.in_ok-held.ensures.held c.in_ok-held.ensures.ends (c.in_ok-held.ensures.read told)
    (c.read_log.ensures.same told) (c.in_ok-held.ensures.all told))

pub returns-in_err-cut_behind-clause-keeps : goal.returns-in_err-cut_behind-clause-keeps
returns-in_err-cut_behind-clause-keeps g c told =
    let told_mid = c.read_log.ensures.tells ∙ told in
    let x = there c.args.schema.now c.args.point c.in_ok-held.held (g.D.Disk.files c.args.disk.now) (g.D.Disk.files c.read_log.new.disk) c.in_ok-held.ensures.held c.in_ok-held.ensures.ends (c.in_ok-held.ensures.read told)
    (c.read_log.ensures.same told) (c.in_ok-held.ensures.all told) in
    let mid = g.D.Disk.files c.read_log.new.disk in
    let stands : Stands c.args.control (mid id.LogCtl) = subst (Stands c.args.control) (sym (c.read_log.ensures.control told)) (c.requires.stands told) in
    keeps_then g.D.Disk.files g.D.Disk.moment g.D.Disk.left_since
    (disk_tells g.met.D.Disk.reads_left g.met.D.Disk.counts_now g.met.D.Disk.only_now told) (disk_tells g.met.D.Disk.reads_left g.met.D.Disk.counts_now g.met.D.Disk.only_now told_mid)
    (c.read_log.ensures.keeps told)
    (cut_keeps c.args.point c.args.control c.requires.named (telling g.D.Disk.files g.D.Disk.moment g.D.Disk.left_since c.read_log.new.disk)
    (telling g.D.Disk.files g.D.Disk.moment g.D.Disk.left_since c.cut_behind.new.disk) stands x.synced
    (disk_tells g.met.D.Disk.reads_left g.met.D.Disk.counts_now g.met.D.Disk.only_now told_mid) (c.cut_behind.ensures.crash told_mid))

pub returns-clause-store : goal.returns-clause-store
returns-clause-store g c = record {
  held = c.in_ok-held.ensures.held;
  said = said_named c.args.schema.now c.in_ok-held.held c.args.point c.args.control.bytes c.in_ok-held.ensures.held c.in_ok-held.ensures.written c.in_ok-held.ensures.ends c.requires.named;
  control = c.requires.file;
}

pub returns-clause-all : goal.returns-clause-all
returns-clause-all g c told = λ x seen.
    all_read c.args.schema.now c.args.point c.in_ok-held.held x c.in_ok-held.ensures.held c.in_ok-held.ensures.ends (c.in_ok-held.ensures.all told x seen)

pub returns-clause-mounted : goal.returns-clause-mounted
returns-clause-mounted g c told =
    let told_mid = c.read_log.ensures.tells ∙ told in
    let x = there c.args.schema.now c.args.point c.in_ok-held.held (g.D.Disk.files c.args.disk.now) (g.D.Disk.files c.read_log.new.disk) c.in_ok-held.ensures.held c.in_ok-held.ensures.ends (c.in_ok-held.ensures.read told)
    (c.read_log.ensures.same told) (c.in_ok-held.ensures.all told) in
    record {
      control = subst (Stands c.args.control) (sym ((c.cut_behind.ensures.crash told_mid).others id.LogCtl refl ∙ c.read_log.ensures.control told)) (c.requires.stands told);
      files = cut_held c.args.schema.now c.args.point c.in_ok-held.held (g.D.Disk.files c.read_log.new.disk) x (g.D.Disk.files c.cut_behind.new.disk)
          (λ m less. (c.cut_behind.ensures.crash told_mid).others (id.Binlog m) (below c.args.point.file m less)) (c.in_ok-cut_behind.ensures.here told_mid);
    }

pub returns-clause-above : goal.returns-clause-above
returns-clause-above g c told = λ n less le.
    c.in_ok-cut_behind.ensures.above (c.read_log.ensures.tells ∙ told) n
    (omega (arith, less, count_files c.args.schema.now c.in_ok-held.held.entries, file_there c.args.schema.now c.in_ok-held.held.entries c.in_ok-held.held.end c.in_ok-held.ensures.held, c.in_ok-held.ensures.ends.number))
    (omega (arith, le))

pub returns-clause-keeps : goal.returns-clause-keeps
returns-clause-keeps g c told =
    let told_mid = c.read_log.ensures.tells ∙ told in
    let x = there c.args.schema.now c.args.point c.in_ok-held.held (g.D.Disk.files c.args.disk.now) (g.D.Disk.files c.read_log.new.disk) c.in_ok-held.ensures.held c.in_ok-held.ensures.ends (c.in_ok-held.ensures.read told)
    (c.read_log.ensures.same told) (c.in_ok-held.ensures.all told) in
    let mid = g.D.Disk.files c.read_log.new.disk in
    let stands : Stands c.args.control (mid id.LogCtl) = subst (Stands c.args.control) (sym (c.read_log.ensures.control told)) (c.requires.stands told) in
    keeps_then g.D.Disk.files g.D.Disk.moment g.D.Disk.left_since
    (disk_tells g.met.D.Disk.reads_left g.met.D.Disk.counts_now g.met.D.Disk.only_now told) (disk_tells g.met.D.Disk.reads_left g.met.D.Disk.counts_now g.met.D.Disk.only_now told_mid)
    (c.read_log.ensures.keeps told)
    (cut_keeps c.args.point c.args.control c.requires.named (telling g.D.Disk.files g.D.Disk.moment g.D.Disk.left_since c.read_log.new.disk)
    (telling g.D.Disk.files g.D.Disk.moment g.D.Disk.left_since c.cut_behind.new.disk) stands x.synced
    (disk_tells g.met.D.Disk.reads_left g.met.D.Disk.counts_now g.met.D.Disk.only_now told_mid) (c.cut_behind.ensures.crash told_mid))

pub returns-in_err-held-clause-same : goal.returns-in_err-held-clause-same
returns-in_err-held-clause-same g c told = λ x seen f at fault. c.read_log.ensures.same told

pub returns-in_err-cut_behind-clause-same : goal.returns-in_err-cut_behind-clause-same
returns-in_err-cut_behind-clause-same g c told = λ x seen f at fault.
    absurd (all_whole c.args.schema.now c.args.point c.in_ok-held.held x c.args.control.bytes c.in_ok-held.ensures.held c.in_ok-held.ensures.written c.in_ok-held.ensures.ends c.requires.named
    (c.in_ok-held.ensures.all told x seen) f at fault)

pub returns-clause-same : goal.returns-clause-same
returns-clause-same g c told = λ x seen f at fault.
    absurd (all_whole c.args.schema.now c.args.point c.in_ok-held.held x c.args.control.bytes c.in_ok-held.ensures.held c.in_ok-held.ensures.written c.in_ok-held.ensures.ends c.requires.named
    (c.in_ok-held.ensures.all told x seen) f at fault)
