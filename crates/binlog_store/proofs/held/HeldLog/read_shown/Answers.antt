use Rattle.std.proofs.Common.{ℕ, ◌≡◌, ◌≢◌, ◌+◌, ◌==◌, true, false, not, Err, length, ap, ap₂, subst, sym, ◌∙◌, arith}
use Rattle.std.proofs.lemmas.Bool.Decides.{nat_tests}
use Rattle.edge_traits.specs.FileStates.{Contents}
use Rattle.binlog_store.specs.Faults.{IfDamaged, damage}
use Rattle.binlog_store.specs.Following.{Answers, ComesTo, GoesOn, HasNoHead, IfRefused, IsEnded, IsInside, IsRefused, IsShown, IsWalked, at_end, group_event}
use Rattle.binlog_store.specs.declared.faults.StoreFault.{StoreFault}
use Rattle.binlog_store.specs.declared.points.LogPoint.{LogPoint}
use Rattle.binlog_store.specs.declared.reading.ReadFault.{ReadFault}
use Rattle.binlog_store.specs.declared.reading.ReadFault.TheVariants as fault
use Rattle.binlog_store.specs.Damages.{FilesFault, before_end}
use Rattle.edge_traits.specs.declared.disks.FileId.TheVariants as id
use Rattle.binlog_store.proofs.FileHeads.{head_told, no_head_fault}
use Rattle.binlog_store.proofs.FileEnds.{end_damaged, end_told, refused_damaged}
use Rattle.binlog_store.proofs.GroupWalks.{over_now, still_on}
use Rattle.binlog_store.proofs.HandedOn.{answers_damaged, answers_ok, damaged_more, handed_on}
use Rattle.binlog_store.proofs.held.HeldLog.read_shown.Goals as goal

-- src/one_file.rt:125:9
pub returns-in_err-check_head-clause-damaged : goal.returns-in_err-check_head-clause-damaged
returns-in_err-check_head-clause-damaged c = λ p x n first is.
    damaged_more c.from_residual.result (HasNoHead c.args.self.now.entries c.args.shown.now c.args.ending c.args.self.now.end.place.file) (FilesFault c.args.schema.now p x)
    (λ f at none. no_head_fault c.args.schema.now p x n c.args.self.now.entries c.args.shown.now c.args.ending c.args.count is f at
    (subst (λ (m : ℕ). HasNoHead c.args.self.now.entries c.args.shown.now c.args.ending m f at) first none))
    (handed_on (Unit {0}) c.from_residual.result _ (HasNoHead c.args.self.now.entries c.args.shown.now c.args.ending c.args.self.now.end.place.file) c.from_residual.ensures.1 c.in_err-check_head.ensures.damaged)

pub returns-in-Err-NotNext-clause-damaged : goal.returns-in-Err-NotNext-clause-damaged
returns-in-Err-NotNext-clause-damaged c = λ p x n first is.
    let on = head_told c.args.schema.now (before_end p x) n c.args.self.now.entries c.args.shown.now is.bytes c.requires.schema c.in_ok-check_head.ensures.ok is.begun in
    let there : before_end p x (id.Binlog c.args.self.now.end.place.file) ≡ c.args.shown.now = ap (λ (m : ℕ). before_end p x (id.Binlog m)) first ∙ sym is.bytes in
    let refused : IsRefused c.args.schema.now (before_end p x) (n + 1) c.read_groups.new.self.entries c.in-Err-NotNext.group c.in-Err-NotNext.at =
    subst (λ (m : ℕ). IsRefused c.args.schema.now (before_end p x) m c.read_groups.new.self.entries c.in-Err-NotNext.group c.in-Err-NotNext.at) first
    (subst (λ (f : ReadFault). IfRefused c.args.schema.now (before_end p x) c.args.self.now.end.place.file c.read_groups.new.self.entries (Err f)) c.in-Err-NotNext.field-0-is
    (c.in-Err-NotNext.ensures.refused (before_end p x) there on.told)) in
    let inside : IsInside (length c.args.shown.now) (fault.NotNext c.in-Err-NotNext.group c.in-Err-NotNext.at) =
    subst (IsInside (length c.args.shown.now)) c.in-Err-NotNext.field-0-is c.in-Err-NotNext.ensures.sizes in
    let found = refused_damaged c.args.schema.now p x n is.within c.args.shown.now is.bytes c.args.ending is.ending_is c.read_groups.new.self.entries c.in-Err-NotNext.group
    c.in-Err-NotNext.at inside.0 inside.1 refused in
    subst (λ (f : StoreFault). IfDamaged {T = Unit {0}} (FilesFault c.args.schema.now p x) (Err f))
    (sym (c.group_fault.ensures ∙ ap (λ (m : ℕ). damage (id.Binlog m, group_event c.args.ending c.in-Err-NotNext.group c.in-Err-NotNext.at c.args.shown.now)) first)) found

-- ---- where the groups end
record EndIs (c : goal.After-check_end) (p : LogPoint) (x : Contents) (n : ℕ) : Type 0 where
  walked : IsWalked c.args.schema.now (before_end p x) (n + 1) c.read_groups.new.self.entries c.in-Ok.at
  goes : not (c.read_groups.new.self.end.place.file == c.args.self.now.end.place.file) ≡ false
      → GoesOn c.args.schema.now (before_end p x) (n + 1) c.read_groups.new.self.entries c.in-Ok.at × (c.in-Ok.at ≡ length c.args.shown.now)
  ended : not (c.read_groups.new.self.end.place.file == c.args.self.now.end.place.file) ≡ true
      → IsEnded c.args.schema.now (before_end p x) (n + 1) c.read_groups.new.self.entries c.in-Ok.at

same_by : (a b : ℕ) → not (a == b) ≡ false → a ≡ b
same_by a b is = grind (arith, nat_tests, is)

differs_by : (a b : ℕ) → not (a == b) ≡ true → a ≢ b
differs_by a b is same = grind (arith, nat_tests, is, same)

end_is : (c : goal.After-check_end) (p : LogPoint) (x : Contents) (n : ℕ) → c.args.self.now.end.place.file ≡ n + 1
    → IsShown c.args.schema.now p x n c.args.self.now.entries c.args.shown.now c.args.ending c.args.count → EndIs c p x n
end_is c p x n first is =
    let on = head_told c.args.schema.now (before_end p x) n c.args.self.now.entries c.args.shown.now is.bytes c.requires.schema c.in_ok-check_head.ensures.ok is.begun in
    let there : before_end p x (id.Binlog c.args.self.now.end.place.file) ≡ c.args.shown.now = ap (λ (m : ℕ). before_end p x (id.Binlog m)) first ∙ sym is.bytes in
    let new = c.read_groups.new.self in
    let walked : IsWalked c.args.schema.now (before_end p x) (n + 1) new.entries c.in-Ok.at =
    subst (λ (m : ℕ). IsWalked c.args.schema.now (before_end p x) m new.entries c.in-Ok.at) first (c.in-Ok.ensures.walked (before_end p x) there on.told) in
    record {
      walked = walked;
      goes = λ still.
          let same = same_by new.end.place.file c.args.self.now.end.place.file still in (
            still_on c.args.schema.now (before_end p x) new (n + 1) c.in-Ok.at c.in-Ok.ensures.held (same ∙ first) walked,
            (c.in-Ok.ensures.on same).0,
          );
      ended = λ over.
          let differs = differs_by new.end.place.file c.args.self.now.end.place.file over in
          over_now c.args.schema.now (before_end p x) new (n + 1) c.in-Ok.at c.in-Ok.ensures.held (λ here. differs (here ∙ sym first)) walked;
    }

-- what the end of the file is called, by its number
end_of_file : (c : goal.After-check_end) (n : ℕ) → c.args.self.now.end.place.file ≡ n + 1
    → Answers
    (at_end c.args.ending (n + 1) c.in-Ok.at (length c.args.shown.now) (not (c.read_groups.new.self.end.place.file == c.args.self.now.end.place.file)) (c.len.result == c.args.count))
    c.check_end.result
end_of_file c n first =
    subst
    (λ (m : ℕ). Answers (at_end c.args.ending m c.in-Ok.at (length c.args.shown.now) (not (c.read_groups.new.self.end.place.file == c.args.self.now.end.place.file)) (c.len.result == c.args.count)) c.check_end.result)
    first c.check_end.ensures

pub returns-clause-told : goal.returns-clause-told
returns-clause-told c = λ p x n first is.
    let e = end_is c p x n first is in
    answers_ok _ c.check_end.result (ComesTo c.args.schema.now p x (n + 1) c.read_groups.new.self.entries c.args.ending) (end_of_file c n first)
    (λ none. end_told c.args.schema.now p x n is.within c.args.shown.now is.bytes c.args.ending is.ending_is c.read_groups.new.self.entries c.in-Ok.at c.in-Ok.ensures.within _ _ e.goes e.ended
    (ap₂ (λ (a b : ℕ). a == b) c.len.ensures is.count_is) none)

pub returns-clause-damaged : goal.returns-clause-damaged
returns-clause-damaged c = λ p x n first is.
    let e = end_is c p x n first is in
    answers_damaged _ c.check_end.result (FilesFault c.args.schema.now p x) (end_of_file c n first)
    (λ f at there. end_damaged c.args.schema.now p x n is.within c.args.shown.now is.bytes c.args.ending is.ending_is c.read_groups.new.self.entries c.in-Ok.at c.in-Ok.ensures.within _ _ e.goes
    e.ended (ap₂ (λ (a b : ℕ). a == b) c.len.ensures is.count_is) f at there)
