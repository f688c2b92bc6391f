use Rattle.std.proofs.Common.{◌∙◌, ap, sym, List}
use Rattle.ring_types.specs.declared.entries.Keep.{Keep}
use Rattle.disk_memory.specs.declared.edits.Edit.TheVariants as edit
use Rattle.disk_memory.specs.Records.{FileRecord, with_edit}
use Rattle.disk_memory.specs.Tables.{brought}
use Rattle.disk_memory.proofs.TableLaws.{added_put, put_to}
use Rattle.disk_memory.proofs.file_tables.FileTable.write_new.Goals as goal

pub returns-clause-ok : goal.returns-clause-ok
returns-clause-ok c =
    let n = c.args.number in
    let old = c.self.inside in
    let w = c.write.new.self in
    let first = ap (λ (ks : List Keep). brought ks c.new-held.result) (c.deref-2.ensures.value ∙ sym c.deref.ensures.value) ∙ c.new-held.ensures.file in
    put_to n _ _ _ _ _ (added_put old.crashes.items old.files c.insert.new.self n w c.in_ok-insert.ensures.updates.0)
    (sym (ap (λ (ks : List Keep). brought ks w) c.deref-2.ensures.value) ∙ c.in_ok-write.ensures.ok
    ∙ ap (λ (r : FileRecord). with_edit r (edit.Write c.args.at c.args.bytes.now)) first) c.self.view_is
