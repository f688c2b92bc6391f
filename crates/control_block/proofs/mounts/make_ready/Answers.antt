use Rattle.std.proofs.Common.{◌≡◌, ◌≤◌, ◌∙◌, inl, inr, ap, sym, length, Some, None, arith}
use Rattle.std.proofs.lemmas.Result.{on_ok_weaker}
use Rattle.edge_traits.specs.FileStates.{FileState}
use Rattle.edge_traits.proofs.Moments.{call, read, after}
use Rattle.control_block.specs.Blocks.{IsAsBefore, IsLaidOut}
use Rattle.control_block.specs.ControlFiles.{control_of}
use Rattle.control_block.proofs.Fresh.{not_laid_out}
use Rattle.control_block.proofs.mounts.make_ready.Goals as goal

pub returns-in_err-sync-clause-crash : goal.returns-in_err-sync-clause-crash
returns-in_err-sync-clause-crash g c told = call _ (c.sync.ensures.time told) (c.sync.ensures.elsewhere told)
    (λ left may. inl (c.sync.ensures.crash told left may))

pub returns-clause-here : goal.returns-clause-here
returns-clause-here g c told =
    let told_1 = c.sync.ensures.tells ∙ told in
    let told_2 = c.length.ensures.tells ∙ told_1 in
    let file = g.D.Disk.files c.args.disk.now c.args.file in
    let bytes = ap (λ (f : FileState). length f.bytes) (c.in_ok-sync.ensures.here told) in
    let short : length file.bytes ≤ 65552 = omega (arith, bytes, c.in_ok-length.ensures.told told_1, c.if-branch-gt65552.false) in
    let new = g.D.Disk.files c.lay_out.new.disk c.args.file in
    let is : IsLaidOut new × (control_of new.bytes ≡ Some None) → IsLaidOut new × (control_of new.bytes ≡ control_of file.bytes) =
    λ done. (done.0, done.1 ∙ sym (not_laid_out file.bytes short)) in
    on_ok_weaker _ is (c.lay_out.ensures.here told_2)

pub returns-clause-crash : goal.returns-clause-crash
returns-clause-crash g c told =
    let told_1 = c.sync.ensures.tells ∙ told in
    let told_2 = c.length.ensures.tells ∙ told_1 in
    let file = g.D.Disk.files c.args.disk.now c.args.file in
    let bytes = ap (λ (f : FileState). length f.bytes) (c.in_ok-sync.ensures.here told) in
    let short : length file.bytes ≤ 65552 = omega (arith, bytes, c.in_ok-length.ensures.told told_1, c.if-branch-gt65552.false) in
    let before = call (IsAsBefore file) (c.sync.ensures.time told) (c.sync.ensures.elsewhere told) (λ left may. inl (c.sync.ensures.crash told left may)) in
    let measured = read (IsAsBefore file) (c.length.ensures.time told_1) (c.length.ensures.same told_1)
    (λ left may. inl (c.sync.ensures.crash told left may)) in
    after _ before (after (IsAsBefore file) measured (c.lay_out.ensures.crash told_2) (λ left is. is)
    (λ left is. inr (is ∙ sym (not_laid_out file.bytes short)))) (λ left is. is) (λ left is. is)
