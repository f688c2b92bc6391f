use Rattle.std.proofs.Common.{◌≡◌, ◌∙◌, ap, sym, subst, length, List}
use Rattle.std.specs.Option.{option_copied_mut}
use Rattle.std.specs.Result.{IfOk}
use Rattle.ring_types.specs.declared.entries.Keep.{Keep}
use Rattle.disk_memory.specs.Records.{FileRecord, reads}
use Rattle.disk_memory.specs.Pasts.{Records, record_at}
use Rattle.disk_memory.specs.Tables.{brought}
use Rattle.disk_memory.proofs.TableLaws.{none_at, some_at, touched_same}
use Rattle.disk_memory.proofs.file_tables.FileTable.length.Goals as goal

pub returns-in_default-clause-ok : goal.returns-in_default-clause-ok
returns-in_default-clause-ok c =
    let n = c.args.number in
    let old = c.self.inside in
    let none = sym c.get_mut.ensures.value ∙ ap option_copied_mut c.in_default.is in
    sym (ap (λ (rs : Records). length (reads (record_at n rs))) (sym c.self.view_is)
    ∙ ap (λ (r : FileRecord). length (reads r)) (none_at old.crashes.items old.files.entries n none))

pub returns-clause-ok : goal.returns-clause-ok
returns-clause-ok c =
    let n = c.args.number in
    let old = c.self.inside in
    let found = sym c.get_mut.ensures.value ∙ ap option_copied_mut c.in-Some.is in
    let at = ap (record_at n) (sym c.self.view_is) ∙ some_at old.crashes.items old.files.entries n c.in-Some.held.now found in
    subst (λ (r : FileRecord). IfOk c.length.result (λ k. k ≡ length (reads r)))
    (ap (λ (ks : List Keep). brought ks c.in-Some.held.now) c.deref.ensures.value ∙ sym at) c.length.ensures.ok

pub returns-clause-same : goal.returns-clause-same
returns-clause-same c q =
    let n = c.args.number in
    let old = c.self.inside in
    let w = c.length.new.self in
    let found = sym c.get_mut.ensures.value ∙ ap option_copied_mut c.in-Some.is in
    let same = subst (λ (ks : List Keep). brought ks w ≡ brought ks c.in-Some.held.now) c.deref.ensures.value c.length.ensures.same in
    touched_same old.crashes.items old.files (c.get_mut.follows.lender w) n c.in-Some.held.now w found (c.get_mut.follows.holds w) same q
    ∙ ap (record_at q) c.self.view_is
