use Rattle.std.proofs.Common.{◌≡◌, ◌+◌, ◌≤◌, ◌∙◌, ap, sym, subst, length, List}
use Rattle.std.specs.Option.{option_copied_mut}
use Rattle.std.specs.Result.{OnOk}
use Rattle.ring_types.specs.declared.entries.Keep.{Keep}
use Rattle.edge_traits.specs.DiskCalls.{slice}
use Rattle.disk_memory.specs.Records.{FileRecord, reads}
use Rattle.disk_memory.specs.Pasts.{record_at}
use Rattle.disk_memory.specs.Tables.{brought}
use Rattle.disk_memory.proofs.TableLaws.{none_at, some_at, touched_same, empty_read}
use Rattle.disk_memory.proofs.file_tables.FileTable.read.Goals as goal

pub returns-in_default-clause-ok : goal.returns-in_default-clause-ok
returns-in_default-clause-ok c =
    let n = c.args.number in
    let old = c.self.inside in
    let none = sym c.get_mut.ensures.value ∙ ap option_copied_mut c.in_default.is in
    let at = ap (record_at n) (sym c.self.view_is) ∙ none_at old.crashes.items old.files.entries n none in
    let short : c.args.at + length c.args.into.now ≤ 0 = subst (λ (r : FileRecord). c.args.at + length c.args.into.now ≤ length (reads r)) at c.requires in
    empty_read c.args.at c.args.into.now (record_at n c.args.self.now) at short

pub read-requires-clause-within : goal.read-requires-clause-within
read-requires-clause-within c =
    let n = c.args.number in
    let old = c.self.inside in
    let found = sym c.get_mut.ensures.value ∙ ap option_copied_mut c.in-Some.is in
    let at = ap (record_at n) (sym c.self.view_is) ∙ some_at old.crashes.items old.files.entries n c.in-Some.held.now found in
    let before = ap (λ (ks : List Keep). brought ks c.in-Some.held.now) c.deref.ensures.value ∙ sym at in
    subst (λ (r : FileRecord). c.args.at + length c.args.into.now ≤ length (reads r)) (sym before) c.requires

pub returns-clause-ok : goal.returns-clause-ok
returns-clause-ok c =
    let n = c.args.number in
    let old = c.self.inside in
    let found = sym c.get_mut.ensures.value ∙ ap option_copied_mut c.in-Some.is in
    let at = ap (record_at n) (sym c.self.view_is) ∙ some_at old.crashes.items old.files.entries n c.in-Some.held.now found in
    let before = ap (λ (ks : List Keep). brought ks c.in-Some.held.now) c.deref.ensures.value ∙ sym at in
    subst (λ (r : FileRecord). OnOk c.read.result (c.read.new.into ≡ slice c.args.at (length c.args.into.now) (reads r))) before c.read.ensures.ok

pub returns-clause-same : goal.returns-clause-same
returns-clause-same c q =
    let n = c.args.number in
    let old = c.self.inside in
    let found = sym c.get_mut.ensures.value ∙ ap option_copied_mut c.in-Some.is in
    let at = ap (record_at n) (sym c.self.view_is) ∙ some_at old.crashes.items old.files.entries n c.in-Some.held.now found in
    let before = ap (λ (ks : List Keep). brought ks c.in-Some.held.now) c.deref.ensures.value ∙ sym at in
    let w = c.read.new.self in
    let same = subst (λ (ks : List Keep). brought ks w ≡ brought ks c.in-Some.held.now) c.deref.ensures.value c.read.ensures.same in
    touched_same old.crashes.items old.files (c.get_mut.follows.lender w) n c.in-Some.held.now w found (c.get_mut.follows.holds w) same q
    ∙ ap (record_at q) c.self.view_is
