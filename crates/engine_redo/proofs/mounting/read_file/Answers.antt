use Rattle.std.proofs.Common.{◌∙◌}
use Rattle.edge_traits.specs.FileStates.{MayLeave}
use Rattle.edge_traits.specs.declared.disks.FileId.TheVariants as id
use Rattle.edge_traits.proofs.Moments.{after, call, read, stays}
use Rattle.engine_redo.proofs.mounting.read_file.Goals as goal

pub returns-in_err-read-clause-crash : goal.returns-in_err-read-clause-crash
returns-in_err-read-clause-crash g c told =
    let told_1 = c.sync.ensures.tells ∙ told in
    let told_2 = c.length.ensures.tells ∙ told_1 in
    let file = g.D.Disk.files c.args.disk.now (id.Redo c.args.number) in
    let synced = call (MayLeave file) (c.sync.ensures.time told) (c.sync.ensures.elsewhere told) (c.sync.ensures.crash told) in
    let measured = read (MayLeave file) (c.length.ensures.time told_1) (c.length.ensures.same told_1) (c.sync.ensures.crash told) in
    let fetched = read (MayLeave file) (c.read.ensures.time told_2) (c.read.ensures.same told_2)
    (λ left may. c.sync.ensures.crash told left (stays (id.Redo c.args.number) _ _ (c.length.ensures.same told_1) left may)) in
    after _ synced (after (MayLeave file) measured fetched (λ left is. is) (λ left is. is)) (λ left is. is) (λ left is. is)

pub returns-clause-crash : goal.returns-clause-crash
returns-clause-crash g c told =
    let told_1 = c.sync.ensures.tells ∙ told in
    let told_2 = c.length.ensures.tells ∙ told_1 in
    let file = g.D.Disk.files c.args.disk.now (id.Redo c.args.number) in
    let synced = call (MayLeave file) (c.sync.ensures.time told) (c.sync.ensures.elsewhere told) (c.sync.ensures.crash told) in
    let measured = read (MayLeave file) (c.length.ensures.time told_1) (c.length.ensures.same told_1) (c.sync.ensures.crash told) in
    let fetched = read (MayLeave file) (c.read.ensures.time told_2) (c.read.ensures.same told_2)
    (λ left may. c.sync.ensures.crash told left (stays (id.Redo c.args.number) _ _ (c.length.ensures.same told_1) left may)) in
    after _ synced (after (MayLeave file) measured fetched (λ left is. is) (λ left is. is)) (λ left is. is) (λ left is. is)
