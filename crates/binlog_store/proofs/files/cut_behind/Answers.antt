use Rattle.std.proofs.Common.{List, ℕ, ◌∙◌}
use Rattle.edge_traits.specs.FileStates.{MayLeave}
use Rattle.edge_traits.specs.Moments.{AtEachMoment}
use Rattle.edge_traits.specs.declared.disks.FileId.TheVariants as id
use Rattle.edge_traits.proofs.Moments.{call}
use Rattle.binlog_store.specs.Files.{Begins}
use Rattle.std.proofs.Common.{take}
use Rattle.binlog_store.proofs.BehindTheEnd.{cut_kept, first_works, then_rest}
use Rattle.binlog_store.proofs.Truncating.{cut_begins}
use Rattle.binlog_store.proofs.files.cut_behind.Goals as goal

pub returns-in_err-cut-clause-crash : goal.returns-in_err-cut-clause-crash
returns-in_err-cut-clause-crash g c told =
    let run : AtEachMoment g.D.Disk.files g.D.Disk.moment g.D.Disk.left_since (id.Binlog c.args.number) c.args.disk.now c.cut.new.self (Begins c.args.at (take c.args.at (g.D.Disk.files c.args.disk.now (id.Binlog c.args.number)).bytes)) =
    call _ (c.cut.ensures.time told) (c.cut.ensures.elsewhere told) (λ left may. cut_begins c.args.at _ (c.requires.firm told) left (c.cut.ensures.crash told left may)) in
    first_works c.args.number c.args.at _ run

pub returns-clause-crash : goal.returns-clause-crash
returns-clause-crash g c told =
    let before = g.D.Disk.files c.args.disk.now (id.Binlog c.args.number) in
    let begins : (left : List ℕ) → MayLeave (g.D.Disk.files c.cut.new.self (id.Binlog c.args.number)) left → Begins c.args.at (take c.args.at before.bytes) left =
    λ left may. cut_begins c.args.at before (c.requires.firm told) left (c.cut.ensures.crash told left may) in
    let run : AtEachMoment g.D.Disk.files g.D.Disk.moment g.D.Disk.left_since (id.Binlog c.args.number) c.args.disk.now c.cut.new.self (Begins c.args.at (take c.args.at before.bytes)) =
    call _ (c.cut.ensures.time told) (c.cut.ensures.elsewhere told) begins in
    then_rest c.args.number c.args.at _ run (cut_kept c.args.number c.args.at (g.D.Disk.files c.cut.new.self) _ begins) (c.empty_files.ensures.crash (c.cut.ensures.tells ∙ told))
