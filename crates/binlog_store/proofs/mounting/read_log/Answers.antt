use Rattle.std.proofs.Common.{◌≡◌, ℕ, ◌+◌, ◌-◌, List, inl, length, refl, sym, ap, subst, ◌∙◌, arith}
use Rattle.edge_traits.specs.Works.{telling}
use Rattle.edge_traits.proofs.Working.{disk_tells, works_still}
use Rattle.entry_group.specs.Files.{head_after}
use Rattle.ring_types.specs.declared.entries.Entry.{Entry}
use Rattle.binlog_store.specs.Damages.{FilesFault, before_end}
use Rattle.binlog_store.specs.Following.{ComesTo, IsBegun}
use Rattle.binlog_store.specs.Groups.{log_files}
use Rattle.binlog_store.specs.Stands.{IsWritten}
use Rattle.binlog_store.proofs.FileHeads.{earlier_ending}
use Rattle.binlog_store.proofs.FileReads.{control_then, read_then, same_then}
use Rattle.binlog_store.proofs.HandedOn.{handed_on}
use Rattle.binlog_store.proofs.Keeping.{keeps_then}
use Rattle.binlog_store.proofs.LastFiles.{comes_all}
use Rattle.binlog_store.proofs.Telling.{written_none}
use Rattle.binlog_store.specs.Mounting.{AreRead, ReadsAsLeft}
use Rattle.binlog_store.proofs.mounting.read_log.Goals as goal

pub loop-held-init : goal.loop-held-init
loop-held-init g c =
    let empty = c.in_ok-held.ensures.empty in
    let begun = c.in_ok-held.ensures.begun in
    record {
      held = c.in_ok-held.ensures.held c.args.schema.now;
      written = subst (IsWritten c.args.schema.now) (sym empty) (written_none c.args.schema.now);
      begun = begun.1 ∙ ap (λ (l : List Entry). length (head_after l)) (sym empty);
      first = omega (arith, begun.0);
      within = omega (arith, begun.0, c.requires.file);
      told = λ told x seen n first. inl (omega (arith, begun.0, first), empty);
      read = λ told n one less. absurd (omega (arith, begun.0, one, less));
      same = λ told n. refl;
      control = λ told. refl;
      keeps = λ told. works_still log_files (telling g.D.Disk.files g.D.Disk.moment g.D.Disk.left_since c.args.disk.now) (ReadsAsLeft (g.D.Disk.files c.args.disk.now));
      story = refl;
      tells = refl;
      later = omega arith;
    }

pub loop-held-preserved : goal.loop-held-preserved
loop-held-preserved g c =
    let next = c.in_ok-read_next_file.ensures.next c.loop-held-test.true in
    let old = g.D.Disk.files c.args.disk.now in
    let mid = g.D.Disk.files c.loop-held.disk in
    let new = g.D.Disk.files c.read_next_file.new.disk in
    let k = c.loop-held.held.end.place.file in
    record {
      held = c.in_ok-read_next_file.ensures.held;
      written = c.in_ok-read_next_file.ensures.written;
      begun = next.at_is;
      first = omega (arith, next.number);
      within = omega (arith, next.number, c.loop-held-test.true);
      told = λ told x seen n first.
          let m = n - 1 in
          let here : k ≡ m + 1 = omega (arith, next.number, first, c.loop-held.invariant.first) in
          let came = c.in_ok-read_next_file.ensures.told (c.loop-held.invariant.tells ∙ told) x m (seen (m + 1) ∙ sym (c.loop-held.invariant.same told (m + 1))) here (c.loop-held.invariant.told told x seen m here) in
          let begun : IsBegun c.args.schema.now (before_end c.args.point x) (m + 1) c.read_next_file.new.held.entries =
          subst (ComesTo c.args.schema.now c.args.point x (m + 1) c.read_next_file.new.held.entries) (earlier_ending c.args.point x (m + 1) (omega (arith, here, c.loop-held-test.true))) came in
          let up : m + 1 ≡ n = omega (arith, next.number, first, here) in
          subst (λ (z : ℕ). IsBegun c.args.schema.now (before_end c.args.point x) z c.read_next_file.new.held.entries) up begun;
      read = λ told.
          let told_mid = c.loop-held.invariant.tells ∙ told in
          subst (λ (z : ℕ). AreRead z old new) (sym next.number)
          (read_then old mid new k (c.read_next_file.ensures.elsewhere told_mid) (c.loop-held.invariant.same told) (c.in_ok-read_next_file.ensures.read told_mid) (c.loop-held.invariant.read told));
      same = λ told.
          let told_mid = c.loop-held.invariant.tells ∙ told in
          same_then old mid new k (c.read_next_file.ensures.elsewhere told_mid) (c.loop-held.invariant.same told) (c.read_next_file.ensures.same told_mid);
      control = λ told.
          let told_mid = c.loop-held.invariant.tells ∙ told in
          control_then old mid new k (c.read_next_file.ensures.elsewhere told_mid) (c.loop-held.invariant.same told) (c.loop-held.invariant.control told);
      keeps = λ told.
          let told_mid = c.loop-held.invariant.tells ∙ told in
          keeps_then g.D.Disk.files g.D.Disk.moment g.D.Disk.left_since
          (disk_tells g.met.D.Disk.reads_left g.met.D.Disk.counts_now g.met.D.Disk.only_now told) (disk_tells g.met.D.Disk.reads_left g.met.D.Disk.counts_now g.met.D.Disk.only_now told_mid)
          (c.loop-held.invariant.keeps told) (c.read_next_file.ensures.keeps told_mid);
      story = c.read_next_file.ensures.story ∙ c.loop-held.invariant.story;
      tells = c.read_next_file.ensures.tells ∙ c.loop-held.invariant.tells;
      later = omega (arith, c.read_next_file.ensures.later, c.loop-held.invariant.later);
    }

pub returns-in_err-read_next_file-clause-damaged : goal.returns-in_err-read_next_file-clause-damaged
returns-in_err-read_next_file-clause-damaged g c told = λ x seen.
    let m = c.loop-held.held.end.place.file - 1 in
    let here : c.loop-held.held.end.place.file ≡ m + 1 = omega (arith, c.loop-held.invariant.first) in
    handed_on (Unit {0}) c.from_residual-in_err-read_next_file.result _ (FilesFault c.args.schema.now c.args.point x) c.from_residual-in_err-read_next_file.ensures.1
    (c.in_err-read_next_file.ensures.damaged (c.loop-held.invariant.tells ∙ told) x m (seen (m + 1) ∙ sym (c.loop-held.invariant.same told (m + 1))) here (c.loop-held.invariant.told told x seen m here))

pub returns-in_err-read_next_file-clause-keeps : goal.returns-in_err-read_next_file-clause-keeps
returns-in_err-read_next_file-clause-keeps g c told =
    let told_mid = c.loop-held.invariant.tells ∙ told in
    keeps_then g.D.Disk.files g.D.Disk.moment g.D.Disk.left_since
    (disk_tells g.met.D.Disk.reads_left g.met.D.Disk.counts_now g.met.D.Disk.only_now told) (disk_tells g.met.D.Disk.reads_left g.met.D.Disk.counts_now g.met.D.Disk.only_now told_mid)
    (c.loop-held.invariant.keeps told) (c.read_next_file.ensures.keeps told_mid)

pub returns-in_err-read_next_file-2-clause-damaged : goal.returns-in_err-read_next_file-2-clause-damaged
returns-in_err-read_next_file-2-clause-damaged g c told = λ x seen.
    let m = c.loop-held.held.end.place.file - 1 in
    let here : c.loop-held.held.end.place.file ≡ m + 1 = omega (arith, c.loop-held.invariant.first) in
    handed_on (Unit {0}) c.from_residual-in_err-read_next_file-2.result _ (FilesFault c.args.schema.now c.args.point x) c.from_residual-in_err-read_next_file-2.ensures.1
    (c.in_err-read_next_file-2.ensures.damaged (c.loop-held.invariant.tells ∙ told) x m (seen (m + 1) ∙ sym (c.loop-held.invariant.same told (m + 1))) here (c.loop-held.invariant.told told x seen m here))

pub returns-in_err-read_next_file-2-clause-keeps : goal.returns-in_err-read_next_file-2-clause-keeps
returns-in_err-read_next_file-2-clause-keeps g c told =
    let told_mid = c.loop-held.invariant.tells ∙ told in
    keeps_then g.D.Disk.files g.D.Disk.moment g.D.Disk.left_since
    (disk_tells g.met.D.Disk.reads_left g.met.D.Disk.counts_now g.met.D.Disk.only_now told) (disk_tells g.met.D.Disk.reads_left g.met.D.Disk.counts_now g.met.D.Disk.only_now told_mid)
    (c.loop-held.invariant.keeps told) (c.read_next_file-2.ensures.keeps told_mid)

pub returns-clause-all : goal.returns-clause-all
returns-clause-all g c told = λ x seen.
    let m = c.loop-held.held.end.place.file - 1 in
    let here : c.loop-held.held.end.place.file ≡ m + 1 = omega (arith, c.loop-held.invariant.first) in
    let own : m + 1 ≡ c.args.point.file = omega (arith, here, c.loop-held.invariant.within, c.loop-held-test.false) in
    comes_all c.args.point x (m + 1) own c.args.schema.now c.read_next_file-2.new.held.entries
    (c.in_ok-read_next_file-2.ensures.told (c.loop-held.invariant.tells ∙ told) x m (seen (m + 1) ∙ sym (c.loop-held.invariant.same told (m + 1))) here (c.loop-held.invariant.told told x seen m here))

pub returns-clause-keeps : goal.returns-clause-keeps
returns-clause-keeps g c told =
    let told_mid = c.loop-held.invariant.tells ∙ told in
    keeps_then g.D.Disk.files g.D.Disk.moment g.D.Disk.left_since
    (disk_tells g.met.D.Disk.reads_left g.met.D.Disk.counts_now g.met.D.Disk.only_now told) (disk_tells g.met.D.Disk.reads_left g.met.D.Disk.counts_now g.met.D.Disk.only_now told_mid)
    (c.loop-held.invariant.keeps told) (c.read_next_file-2.ensures.keeps told_mid)

pub returns-in_err-read_next_file-clause-same : goal.returns-in_err-read_next_file-clause-same
returns-in_err-read_next_file-clause-same g c told =
    let told_mid = c.loop-held.invariant.tells ∙ told in
    same_then (g.D.Disk.files c.args.disk.now) (g.D.Disk.files c.loop-held.disk) (g.D.Disk.files c.read_next_file.new.disk) c.loop-held.held.end.place.file (c.read_next_file.ensures.elsewhere told_mid)
    (c.loop-held.invariant.same told) (c.read_next_file.ensures.same told_mid)

pub returns-in_err-read_next_file-2-clause-same : goal.returns-in_err-read_next_file-2-clause-same
returns-in_err-read_next_file-2-clause-same g c told =
    let told_mid = c.loop-held.invariant.tells ∙ told in
    same_then (g.D.Disk.files c.args.disk.now) (g.D.Disk.files c.loop-held.disk) (g.D.Disk.files c.read_next_file-2.new.disk) c.loop-held.held.end.place.file (c.read_next_file-2.ensures.elsewhere told_mid)
    (c.loop-held.invariant.same told) (c.read_next_file-2.ensures.same told_mid)

pub returns-clause-same : goal.returns-clause-same
returns-clause-same g c told =
    let told_mid = c.loop-held.invariant.tells ∙ told in
    same_then (g.D.Disk.files c.args.disk.now) (g.D.Disk.files c.loop-held.disk) (g.D.Disk.files c.read_next_file-2.new.disk) c.loop-held.held.end.place.file (c.read_next_file-2.ensures.elsewhere told_mid)
    (c.loop-held.invariant.same told) (c.read_next_file-2.ensures.same told_mid)
