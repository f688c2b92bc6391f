use Rattle.std.proofs.Common.{subst, ℕ}
use Rattle.disk_memory.specs.declared.edits.Edit.TheVariants as edit
use Rattle.disk_memory.specs.Records.{with_edit}
use Rattle.disk_memory.specs.Pasts.{record_at}
use Rattle.disk_memory.specs.Tables.{IsPut}
use Rattle.disk_memory.proofs.PastLaws.{edit_agrees}
use Rattle.disk_memory.proofs.recording.do_cut.Goals as goal

pub returns-in-Ok-clause-same : goal.returns-in-Ok-clause-same
returns-in-Ok-clause-same c =
    let steps = c.args.steps.now.items in
    let table = c.args.table.now in
    let e = edit.Cut c.args.to in
    rw c.in_ok-push.ensures.items (edit_agrees steps table c.cut.new.self c.requires c.args.file e
    (subst (λ (n : ℕ). IsPut n (with_edit (record_at n table) e) table c.cut.new.self) c.number_of.ensures c.in-Ok.ensures.ok))
