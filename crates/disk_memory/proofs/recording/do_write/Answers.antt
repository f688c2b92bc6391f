use Rattle.std.proofs.Common.{◌∙◌, ◌++◌, ap, subst, List, ◌∷◌, [], ℕ}
use Rattle.disk_memory.specs.declared.edits.Edit.TheVariants as edit
use Rattle.disk_memory.specs.declared.steps.Step.TheVariants as step
use Rattle.disk_memory.specs.Records.{with_edit}
use Rattle.disk_memory.specs.Pasts.{record_at}
use Rattle.disk_memory.specs.Tables.{IsPut}
use Rattle.disk_memory.proofs.PastLaws.{edit_agrees}
use Rattle.disk_memory.proofs.recording.do_write.Goals as goal

pub returns-in-Ok-clause-same : goal.returns-in-Ok-clause-same
returns-in-Ok-clause-same c =
    let steps = c.args.steps.now.items in
    let table = c.args.table.now in
    let e = edit.Write c.args.at c.args.bytes.now in
    let copy = c.in_ok-extend_from_slice.ensures.ok ∙ ap (λ (o : List ℕ). o ++ c.args.bytes.now) c.new-copy.ensures in
    let items = c.in_ok-push.ensures.items ∙ ap (λ (b : List ℕ). steps ++ step.Edit c.args.file (edit.Write c.args.at b) ∷ []) copy in
    rw items (edit_agrees steps table c.write.new.self c.requires c.args.file e
    (subst (λ (n : ℕ). IsPut n (with_edit (record_at n table) e) table c.write.new.self) c.number_of.ensures c.in-Ok.ensures.ok))
