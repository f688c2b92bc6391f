use Rattle.std.proofs.Common.{◌≡◌, ◌∙◌, ap, sym, subst, List}
use Rattle.std.specs.Option.{option_copied_mut}
use Rattle.std.proofs.lemmas.Result.{on_ok_weaker, on_err_weaker}
use Rattle.ring_types.specs.declared.entries.Keep.{Keep}
use Rattle.disk_memory.specs.declared.edits.Edit.TheVariants as edit
use Rattle.disk_memory.specs.Records.{FileRecord, with_edit}
use Rattle.disk_memory.specs.Pasts.{record_at}
use Rattle.disk_memory.specs.Tables.{brought, records_of}
use Rattle.disk_memory.proofs.TableLaws.{none_at, some_at, touched_put, touched_same, put_to}
use Rattle.disk_memory.proofs.file_tables.FileTable.write.Goals as goal

pub write_new-requires : goal.write_new-requires
write_new-requires c =
    let n = c.args.number in
    let old = c.self.inside in
    let none = sym c.get_mut.ensures.value ∙ ap option_copied_mut c.in_default.is in
    let at = ap (record_at n) (sym c.self.view_is) ∙ none_at old.crashes.items old.files.entries n none in
    let table = ap (λ (m : _). records_of old.crashes.items m.entries) c.get_mut.follows.holds-at-none ∙ c.self.view_is in
    ap (record_at n) table ∙ at

pub returns-in_default-clause-ok : goal.returns-in_default-clause-ok
returns-in_default-clause-ok c =
    let n = c.args.number in
    let old = c.self.inside in
    let none = sym c.get_mut.ensures.value ∙ ap option_copied_mut c.in_default.is in
    let at = ap (record_at n) (sym c.self.view_is) ∙ none_at old.crashes.items old.files.entries n none in
    let table = ap (λ (m : _). records_of old.crashes.items m.entries) c.get_mut.follows.holds-at-none ∙ c.self.view_is in
    on_ok_weaker c.write_new.result (λ changes. put_to n _ _ _ _ _ changes
    (ap (λ (r : FileRecord). with_edit r (edit.Write c.args.at c.args.bytes.now)) (sym at)) table) c.write_new.ensures.ok

pub returns-clause-ok : goal.returns-clause-ok
returns-clause-ok c =
    let n = c.args.number in
    let old = c.self.inside in
    let found = sym c.get_mut.ensures.value ∙ ap option_copied_mut c.in-Some.is in
    let at = ap (record_at n) (sym c.self.view_is) ∙ some_at old.crashes.items old.files.entries n c.in-Some.held.now found in
    let before = ap (λ (ks : List Keep). brought ks c.in-Some.held.now) c.deref.ensures.value ∙ sym at in
    let w = c.write.new.self in
    on_ok_weaker c.write.result (λ is. put_to n _ _ _ _ _ (touched_put old.crashes.items old.files (c.get_mut.follows.lender w) n c.in-Some.held.now w found
    (c.get_mut.follows.holds w)) (sym (ap (λ (ks : List Keep). brought ks w) c.deref.ensures.value) ∙ is
    ∙ ap (λ (r : FileRecord). with_edit r (edit.Write c.args.at c.args.bytes.now)) before) c.self.view_is) c.write.ensures.ok

pub returns-clause-err : goal.returns-clause-err
returns-clause-err c =
    let n = c.args.number in
    let old = c.self.inside in
    let found = sym c.get_mut.ensures.value ∙ ap option_copied_mut c.in-Some.is in
    let at = ap (record_at n) (sym c.self.view_is) ∙ some_at old.crashes.items old.files.entries n c.in-Some.held.now found in
    let before = ap (λ (ks : List Keep). brought ks c.in-Some.held.now) c.deref.ensures.value ∙ sym at in
    let w = c.write.new.self in
    on_err_weaker c.write.result (λ is q. touched_same old.crashes.items old.files (c.get_mut.follows.lender w) n c.in-Some.held.now w found
    (c.get_mut.follows.holds w) (subst (λ (ks : List Keep). brought ks w ≡ brought ks c.in-Some.held.now) c.deref.ensures.value is) q
    ∙ ap (record_at q) c.self.view_is) c.write.ensures.err
