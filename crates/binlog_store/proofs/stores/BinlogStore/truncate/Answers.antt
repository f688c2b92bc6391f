use Rattle.std.proofs.Common.{max, ◌+◌, arith, ◌≡◌, List, take, ap, subst, sym, ◌∙◌}
use Rattle.ring_types.specs.declared.entries.Entry.{Entry}
use Rattle.ring_types.specs.Logs.{rotates}
use Rattle.edge_traits.specs.Works.{HoldsOn, IsTelling, Switches, telling}
use Rattle.edge_traits.proofs.Working.{disk_tells}
use Rattle.binlog_store.specs.Groups.{log_files}
use Rattle.binlog_store.specs.Mounted.{log_of}
use Rattle.binlog_store.specs.Points.{point_bytes}
use Rattle.binlog_store.specs.Stands.{IsWritten, LogStands}
use Rattle.binlog_store.specs.declared.held.HeldLog.{HeldLog}
use Rattle.binlog_store.proofs.Appending.{file_point, highest_point, mounted_holds, said_point, switched_store}
use Rattle.binlog_store.proofs.Cutting.{held_firm, shortened_there, switch_works, top_file, truncate_mounted, truncate_works, works_cut}
use Rattle.binlog_store.proofs.Prefixes.{written_first}
use Rattle.binlog_store.proofs.stores.BinlogStore.truncate.Goals as goal

pub returns-in_err-switch-clause-crash : goal.returns-in_err-switch-clause-crash
returns-in_err-switch-clause-crash g c told =
    let written = subst (IsWritten c.args.schema.now) (sym c.in_ok-cut.ensures.entries) (written_first c.args.schema.now c.args.position (log_of c.args.self.now) c.requires.store.said.written) in
    let said = said_point c.args.schema.now c.cut.new.self c.args.self.now.highest c.point-point.result c.in_ok-cut.ensures.held written c.requires.store.said.fits.highest
    c.point-point.ensures.is c.point-point.ensures.end c.point-point.ensures.count in
    subst (λ (l : List Entry). Switches log_files g.D.Disk.files g.D.Disk.moment g.D.Disk.left_since c.args.disk.now c.switch.new.disk (LogStands c.args.schema.now (log_of c.args.self.now)) (LogStands c.args.schema.now l))
    c.in_ok-cut.ensures.entries
    (switch_works c.args.schema.now c.args.self.now c.requires.store c.args.position c.cut.new.self c.in_ok-cut.ensures.held c.in_ok-cut.ensures.entries c.point-point.result.highest
    (point_bytes c.point-point.result) (c.requires.mounted told) said (c.switch.ensures.crash told))

pub cut_behind-requires-clause-last : goal.cut_behind-requires-clause-last
cut_behind-requires-clause-last g c =
    let written = subst (IsWritten c.args.schema.now) (sym c.in_ok-cut.ensures.entries) (written_first c.args.schema.now c.args.position (log_of c.args.self.now) c.requires.store.said.written) in
    top_file c.args.schema.now c.cut.new.self c.args.self.now.highest c.point-point.result c.in_ok-cut.ensures.held written c.requires.store.said.fits.highest c.point-point.ensures.is

pub cut_behind-requires-clause-firm : goal.cut_behind-requires-clause-firm
cut_behind-requires-clause-firm g c told =
    let told_first = sym c.switch.ensures.tells ∙ told in
    held_firm c.args.schema.now c.args.self.now c.requires.store c.args.position c.cut.new.self c.in_ok-cut.ensures.held c.in_ok-cut.ensures.entries c.args.self.now.highest c.point-point.result
    c.point-point.ensures.is (c.requires.mounted told_first) (c.switch.ensures.crash told_first)

pub returns-in_err-cut_behind-clause-crash : goal.returns-in_err-cut_behind-clause-crash
returns-in_err-cut_behind-clause-crash g c told =
    let told_too = c.switch.ensures.tells ∙ told in
    let written = subst (IsWritten c.args.schema.now) (sym c.in_ok-cut.ensures.entries) (written_first c.args.schema.now c.args.position (log_of c.args.self.now) c.requires.store.said.written) in
    let said = said_point c.args.schema.now c.cut.new.self c.args.self.now.highest c.point-point.result c.in_ok-cut.ensures.held written c.requires.store.said.fits.highest
    c.point-point.ensures.is c.point-point.ensures.end c.point-point.ensures.count in
    let store = switched_store c.args.schema.now c.switch.new.self c.cut.new.self c.point-point.result c.in_ok-cut.ensures.held said c.in_ok-switch.ensures.held c.in_ok-switch.ensures.highest
    c.in_ok-switch.ensures.bytes (c.in_ok-switch.ensures.file ∙ c.requires.store.control) in
    subst (λ (l : List Entry). Switches log_files g.D.Disk.files g.D.Disk.moment g.D.Disk.left_since c.args.disk.now c.cut_behind.new.disk (LogStands c.args.schema.now (log_of c.args.self.now)) (LogStands c.args.schema.now l))
    c.in_ok-cut.ensures.entries
    (truncate_works c.args.schema.now c.args.self.now c.requires.store c.args.position c.cut.new.self c.in_ok-cut.ensures.held c.in_ok-cut.ensures.entries c.switch.new.self
    (point_bytes c.point-point.result) (c.requires.mounted told) c.in_ok-switch.ensures.held store c.in_ok-switch.ensures.bytes (c.switch.ensures.crash told)
    (c.in_ok-switch.ensures.stands told) (works_cut c.cut.new.self c.args.self.now.highest c.point-point.result c.point-point.ensures.is (c.cut_behind.ensures.crash told_too)))

pub returns-clause-store : goal.returns-clause-store
returns-clause-store g c =
    let written = subst (IsWritten c.args.schema.now) (sym c.in_ok-cut.ensures.entries) (written_first c.args.schema.now c.args.position (log_of c.args.self.now) c.requires.store.said.written) in
    let said = said_point c.args.schema.now c.cut.new.self c.args.self.now.highest c.point-point.result c.in_ok-cut.ensures.held written c.requires.store.said.fits.highest
    c.point-point.ensures.is c.point-point.ensures.end c.point-point.ensures.count in
    switched_store c.args.schema.now c.switch.new.self c.cut.new.self c.point-point.result c.in_ok-cut.ensures.held said c.in_ok-switch.ensures.held c.in_ok-switch.ensures.highest
    c.in_ok-switch.ensures.bytes (c.in_ok-switch.ensures.file ∙ c.requires.store.control)

pub returns-clause-mounted : goal.returns-clause-mounted
returns-clause-mounted g c told =
    let told_too = c.switch.ensures.tells ∙ told in
    truncate_mounted c.args.schema.now c.args.self.now c.requires.store c.args.position c.cut.new.self c.in_ok-cut.ensures.held c.in_ok-cut.ensures.entries c.switch.new.self
    (c.requires.mounted told) c.in_ok-switch.ensures.held (returns-clause-store g c) (c.switch.ensures.crash told) (c.in_ok-switch.ensures.stands told)
    (works_cut c.cut.new.self c.args.self.now.highest c.point-point.result c.point-point.ensures.is (c.cut_behind.ensures.crash told_too))
    (shortened_there c.cut.new.self c.args.self.now.highest c.point-point.result (g.D.Disk.files c.switch.new.disk) (g.D.Disk.files c.cut_behind.new.disk) c.point-point.ensures.is (c.in_ok-cut_behind.ensures.here told_too))

pub returns-clause-holds : goal.returns-clause-holds
returns-clause-holds g c told =
    let tells : IsTelling (telling g.D.Disk.files g.D.Disk.moment g.D.Disk.left_since c.cut_behind.new.disk) =
    disk_tells g.met.D.Disk.reads_left g.met.D.Disk.counts_now g.met.D.Disk.only_now (c.cut_behind.ensures.tells ∙ (c.switch.ensures.tells ∙ told)) in
    let same : log_of c.switch.new.self ≡ take c.args.position (log_of c.args.self.now) = ap (λ (h : HeldLog). h.entries) c.in_ok-switch.ensures.held ∙ c.in_ok-cut.ensures.entries in
    subst (λ (l : List Entry). HoldsOn log_files g.D.Disk.files g.D.Disk.moment g.D.Disk.left_since c.cut_behind.new.disk (LogStands c.args.schema.now l)) same
    (mounted_holds c.args.schema.now c.switch.new.self _ (returns-clause-store g c) (returns-clause-mounted g c told) tells)

pub returns-clause-crash : goal.returns-clause-crash
returns-clause-crash g c told =
    let told_too = c.switch.ensures.tells ∙ told in
    subst (λ (l : List Entry). Switches log_files g.D.Disk.files g.D.Disk.moment g.D.Disk.left_since c.args.disk.now c.cut_behind.new.disk (LogStands c.args.schema.now (log_of c.args.self.now)) (LogStands c.args.schema.now l))
    c.in_ok-cut.ensures.entries
    (truncate_works c.args.schema.now c.args.self.now c.requires.store c.args.position c.cut.new.self c.in_ok-cut.ensures.held c.in_ok-cut.ensures.entries c.switch.new.self
    (point_bytes c.point-point.result) (c.requires.mounted told) c.in_ok-switch.ensures.held (returns-clause-store g c) c.in_ok-switch.ensures.bytes (c.switch.ensures.crash told)
    (c.in_ok-switch.ensures.stands told) (works_cut c.cut.new.self c.args.self.now.highest c.point-point.result c.point-point.ensures.is (c.cut_behind.ensures.crash told_too)))

pub returns-clause-highest : goal.returns-clause-highest
returns-clause-highest g c =
    c.in_ok-switch.ensures.highest
    ∙ (highest_point c.args.schema.now c.cut.new.self c.args.self.now.highest c.point-point.result c.in_ok-cut.ensures.held c.point-point.ensures.is
    ∙ ap (λ (h : HeldLog). max c.args.self.now.highest (rotates h.entries + 1)) (sym c.in_ok-switch.ensures.held))

pub returns-clause-above : goal.returns-clause-above
returns-clause-above g c told = λ n less le.
    let many = ap (λ (l : List Entry). rotates l) c.in_ok-cut.ensures.entries in
    let file = file_point c.args.schema.now c.cut.new.self c.args.self.now.highest c.point-point.result c.in_ok-cut.ensures.held c.point-point.ensures.is in
    let high = highest_point c.args.schema.now c.cut.new.self c.args.self.now.highest c.point-point.result c.in_ok-cut.ensures.held c.point-point.ensures.is in
    c.in_ok-cut_behind.ensures.above (c.switch.ensures.tells ∙ told) n (omega (arith, many, file, less)) (omega (arith, high, le))
