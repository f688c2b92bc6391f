use Rattle.std.proofs.Common.{◌≡◌, ◌+◌, max, List, [], Some, ◌++◌, length, inl, ap, append-nil, subst, sym, ◌∙◌, rules, arith}
use Rattle.ring_types.specs.declared.entries.Entry.{Entry}
use Rattle.ring_types.specs.Logs.{rotates}
use Rattle.edge_traits.specs.Works.{HoldsOn, IsTelling, telling}
use Rattle.edge_traits.specs.declared.disks.FileId.TheVariants as id
use Rattle.edge_traits.proofs.Working.{disk_tells, works_weaker}
use Rattle.binlog_store.specs.Added.{added}
use Rattle.binlog_store.specs.Files.{EndsAt}
use Rattle.binlog_store.specs.Groups.{log_files}
use Rattle.binlog_store.specs.Mounted.{IsSaid, log_of}
use Rattle.binlog_store.specs.Points.{point_bytes}
use Rattle.binlog_store.specs.Stands.{IsWritten, LogStands}
use Rattle.binlog_store.specs.declared.held.HeldLog.{HeldLog}
use Rattle.binlog_store.specs.declared.points.LogPoint.{LogPoint}
use Rattle.binlog_store.proofs.Appending.{added_there, append_works, control_still, ends, few_added, held_written, highest_point, highest_still, last_added, mounted_holds, said_point, switched_mounted, switched_store, works_there, write_works}
use Rattle.binlog_store.proofs.stores.BinlogStore.append.Goals as goal

pub write_added-requires-clause-few : goal.write_added-requires-clause-few
write_added-requires-clause-few g c =
    let few = few_added c.args.schema.now c.args.self.now c.args.entries c.requires.store c.requires.log in
    let many : c.as_slice.result.now ≡ added c.args.schema.now (log_of c.args.self.now) c.args.entries = c.as_slice.ensures ∙ c.in_ok-added.ensures.gives in
    omega (arith, few, ap length many, ap (λ (p : LogPoint). p.file) c.point-end.ensures.is)

pub write_added-requires-clause-ends : goal.write_added-requires-clause-ends
write_added-requires-clause-ends g c told =
    subst (λ (p : LogPoint). EndsAt p.end (g.D.Disk.files c.args.disk.now (id.Binlog p.file))) (sym c.point-end.ensures.is)
    (ends c.args.schema.now c.args.self.now c.requires.store (g.D.Disk.files c.args.disk.now) (c.requires.mounted told))

pub returns-then-is_empty-clause-holds : goal.returns-then-is_empty-clause-holds
returns-then-is_empty-clause-holds g c told =
    let none : c.args.entries ≡ [] = search (rules, c.is_empty.ensures, c.if-is_empty.true) in
    let tells : IsTelling (telling g.D.Disk.files g.D.Disk.moment g.D.Disk.left_since c.args.disk.now) = disk_tells g.met.D.Disk.reads_left g.met.D.Disk.counts_now g.met.D.Disk.only_now told in
    subst (λ (l : List Entry). HoldsOn log_files g.D.Disk.files g.D.Disk.moment g.D.Disk.left_since c.args.disk.now (LogStands c.args.schema.now l))
    (sym (ap (λ (z : List Entry). log_of c.args.self.now ++ z) none ∙ append-nil (log_of c.args.self.now)))
    (mounted_holds c.args.schema.now c.args.self.now _ c.requires.store (c.requires.mounted told) tells)

pub returns-in_err-write_added-clause-crash : goal.returns-in_err-write_added-clause-crash
returns-in_err-write_added-clause-crash g c told =
    let works = works_there c.args.self.now.held c.args.self.now.highest c.point-end.result c.point-end.ensures.is (c.write_added.ensures.crash told) in
    works_weaker log_files _ _ _ _ (λ x stands. inl stands) (write_works c.args.schema.now c.args.self.now c.requires.store (c.requires.mounted told) works)

pub switch-requires : goal.switch-requires
switch-requires g c told =
    let told_first = sym c.write_added.ensures.tells ∙ told in
    let works = works_there c.args.self.now.held c.args.self.now.highest c.point-end.result c.point-end.ensures.is (c.write_added.ensures.crash told_first) in
    control_still c.args.schema.now c.args.self.now c.requires.store (c.requires.mounted told_first) works

pub returns-in_err-switch-clause-crash : goal.returns-in_err-switch-clause-crash
returns-in_err-switch-clause-crash g c told =
    let works = works_there c.args.self.now.held c.args.self.now.highest c.point-end.result c.point-end.ensures.is (c.write_added.ensures.crash told) in
    let settled = added_there c.args.self.now.held c.args.self.now.highest c.point-end.result (g.D.Disk.files c.args.disk.now) (g.D.Disk.files c.write_added.new.disk) c.as_slice.result.now
    (added c.args.schema.now (log_of c.args.self.now) c.args.entries) c.point-end.ensures.is
    (c.as_slice.ensures ∙ c.in_ok-added.ensures.gives) (c.in_ok-write_added.ensures.here told) in
    let written = subst (IsWritten c.args.schema.now) (sym c.in_ok-added.ensures.entries) c.requires.log in
    let said = said_point c.args.schema.now c.extend.new.self c.args.self.now.highest c.point-point.result c.in_ok-added.ensures.held written c.requires.store.said.fits.highest
    c.point-point.ensures.is c.point-point.ensures.end c.point-point.ensures.count in
    append_works c.args.schema.now c.args.self.now c.requires.store c.args.entries c.point-point.result.highest (point_bytes c.point-point.result) (c.requires.mounted told) works settled
    (subst (λ (l : List Entry). IsSaid c.args.schema.now l c.point-point.result.highest (Some (point_bytes c.point-point.result))) c.in_ok-added.ensures.entries said)
    (c.switch.ensures.crash (c.write_added.ensures.tells ∙ told))

pub returns-clause-crash : goal.returns-clause-crash
returns-clause-crash g c told =
    let works = works_there c.args.self.now.held c.args.self.now.highest c.point-end.result c.point-end.ensures.is (c.write_added.ensures.crash told) in
    let settled = added_there c.args.self.now.held c.args.self.now.highest c.point-end.result (g.D.Disk.files c.args.disk.now) (g.D.Disk.files c.write_added.new.disk) c.as_slice.result.now
    (added c.args.schema.now (log_of c.args.self.now) c.args.entries) c.point-end.ensures.is
    (c.as_slice.ensures ∙ c.in_ok-added.ensures.gives) (c.in_ok-write_added.ensures.here told) in
    let written = subst (IsWritten c.args.schema.now) (sym c.in_ok-added.ensures.entries) c.requires.log in
    let said = said_point c.args.schema.now c.extend.new.self c.args.self.now.highest c.point-point.result c.in_ok-added.ensures.held written c.requires.store.said.fits.highest
    c.point-point.ensures.is c.point-point.ensures.end c.point-point.ensures.count in
    append_works c.args.schema.now c.args.self.now c.requires.store c.args.entries c.point-point.result.highest (point_bytes c.point-point.result) (c.requires.mounted told) works settled
    (subst (λ (l : List Entry). IsSaid c.args.schema.now l c.point-point.result.highest (Some (point_bytes c.point-point.result))) c.in_ok-added.ensures.entries said)
    (c.switch.ensures.crash (c.write_added.ensures.tells ∙ told))

pub returns-clause-store : goal.returns-clause-store
returns-clause-store g c =
    let written = subst (IsWritten c.args.schema.now) (sym c.in_ok-added.ensures.entries) c.requires.log in
    let said = said_point c.args.schema.now c.extend.new.self c.args.self.now.highest c.point-point.result c.in_ok-added.ensures.held written c.requires.store.said.fits.highest
    c.point-point.ensures.is c.point-point.ensures.end c.point-point.ensures.count in
    switched_store c.args.schema.now c.switch.new.self c.extend.new.self c.point-point.result c.in_ok-added.ensures.held said c.in_ok-switch.ensures.held c.in_ok-switch.ensures.highest
    c.in_ok-switch.ensures.bytes (c.in_ok-switch.ensures.file ∙ c.requires.store.control)

pub returns-clause-mounted : goal.returns-clause-mounted
returns-clause-mounted g c told =
    let works = works_there c.args.self.now.held c.args.self.now.highest c.point-end.result c.point-end.ensures.is (c.write_added.ensures.crash told) in
    let settled = added_there c.args.self.now.held c.args.self.now.highest c.point-end.result (g.D.Disk.files c.args.disk.now) (g.D.Disk.files c.write_added.new.disk) c.as_slice.result.now
    (added c.args.schema.now (log_of c.args.self.now) c.args.entries) c.point-end.ensures.is
    (c.as_slice.ensures ∙ c.in_ok-added.ensures.gives) (c.in_ok-write_added.ensures.here told) in
    let told_too = c.write_added.ensures.tells ∙ told in
    switched_mounted c.args.schema.now c.switch.new.self (log_of c.args.self.now ++ c.args.entries) c.requires.store.control c.in_ok-switch.ensures.file
    (ap (λ (h : HeldLog). h.entries) c.in_ok-switch.ensures.held ∙ c.in_ok-added.ensures.entries)
    (held_written c.args.schema.now c.args.self.now c.requires.store c.args.entries (c.requires.mounted told) works settled) (c.switch.ensures.crash told_too) (c.in_ok-switch.ensures.stands told_too)

pub returns-clause-holds : goal.returns-clause-holds
returns-clause-holds g c told =
    let tells : IsTelling (telling g.D.Disk.files g.D.Disk.moment g.D.Disk.left_since c.switch.new.disk) =
    disk_tells g.met.D.Disk.reads_left g.met.D.Disk.counts_now g.met.D.Disk.only_now (c.switch.ensures.tells ∙ (c.write_added.ensures.tells ∙ told)) in
    let same : log_of c.switch.new.self ≡ log_of c.args.self.now ++ c.args.entries = ap (λ (h : HeldLog). h.entries) c.in_ok-switch.ensures.held ∙ c.in_ok-added.ensures.entries in
    subst (λ (l : List Entry). HoldsOn log_files g.D.Disk.files g.D.Disk.moment g.D.Disk.left_since c.switch.new.disk (LogStands c.args.schema.now l)) same
    (mounted_holds c.args.schema.now c.switch.new.self _ (returns-clause-store g c) (returns-clause-mounted g c told) tells)

pub returns-then-is_empty-clause-highest : goal.returns-then-is_empty-clause-highest
returns-then-is_empty-clause-highest g c = highest_still c.args.schema.now c.args.self.now c.requires.store

pub returns-clause-highest : goal.returns-clause-highest
returns-clause-highest g c =
    c.in_ok-switch.ensures.highest
    ∙ (highest_point c.args.schema.now c.extend.new.self c.args.self.now.highest c.point-point.result c.in_ok-added.ensures.held c.point-point.ensures.is
    ∙ ap (λ (h : HeldLog). max c.args.self.now.highest (rotates h.entries + 1)) (sym c.in_ok-switch.ensures.held))

pub returns-clause-above : goal.returns-clause-above
returns-clause-above g c told = λ n less.
    let many : c.as_slice.result.now ≡ added c.args.schema.now (log_of c.args.self.now) c.args.entries = c.as_slice.ensures ∙ c.in_ok-added.ensures.gives in
    let same : log_of c.switch.new.self ≡ log_of c.args.self.now ++ c.args.entries = ap (λ (h : HeldLog). h.entries) c.in_ok-switch.ensures.held ∙ c.in_ok-added.ensures.entries in
    let last = last_added c.args.schema.now c.args.self.now c.args.entries c.requires.store in
    let control = c.requires.store.control in
    (c.switch.ensures.crash (c.write_added.ensures.tells ∙ told)).elsewhere (id.Binlog n) (λ is. let z : id.Binlog n ≡ id.LogCtl = is ∙ control in cc)
    ∙ c.in_ok-write_added.ensures.above told n
    (omega (arith, last, ap length many, ap (λ (p : LogPoint). p.file) c.point-end.ensures.is, ap (λ (l : List Entry). rotates l) same, less))
