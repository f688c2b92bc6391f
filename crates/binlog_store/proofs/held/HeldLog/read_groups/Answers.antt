use Rattle.std.proofs.Common.{ℕ, List, Err, drop, arith, subst, sym, refl, inl, ap, ◌≢◌, ◌≡◌, ◌+◌, length-drop, length}
use Rattle.std.proofs.lemmas.List.{get_or-drop}
use Rattle.event_frame.specs.Laws.{IsBytes}
use Rattle.binlog_store.specs.Following.{IfRefused, IsNextRead, ReadsNext}
use Rattle.binlog_store.specs.declared.reading.ReadFault.{ReadFault}
use Rattle.binlog_store.specs.declared.reading.ReadFault.TheVariants as fault
use Rattle.binlog_store.specs.declared.held.HeldLog.{HeldLog}
use Rattle.binlog_store.proofs.GroupWalks.{file_more, goes_on, on_more, refused_behind, walk_more}
use Rattle.binlog_store.proofs.held.HeldLog.read_groups.Goals as goal

pub loop-self-init : goal.loop-self-init
loop-self-init c = record {
  held = c.requires.held;
  written = c.requires.written;
  within = c.requires.long;
  on = λ same. refl;
  next = λ differs. absurd (differs refl);
  walked = λ x is told. inl (goes_on c.args.schema.now x c.args.self.now c.requires.held told);
}

pub loop-self-preserved : goal.loop-self-preserved
loop-self-preserved c =
    let n = c.args.self.now.end.place.file in
    let next : IsNextRead c.args.schema.now c.loop-self.self.entries (drop c.loop-self.at c.args.bytes.now) c.loop-self.self.end.place c.in-Ok.size c.read_next.new.self.entries =
    subst (λ (b : List ℕ). IsNextRead c.args.schema.now c.loop-self.self.entries b c.loop-self.self.end.place c.in-Ok.size c.read_next.new.self.entries) c.after.ensures c.in-Ok.ensures.given in
    let in_range : IsBytes (drop c.loop-self.at c.args.bytes.now) = λ i. omega (arith, get_or-drop c.loop-self.at c.args.bytes.now i 0, c.type_inv.bytes (c.loop-self.at + i)) in
    let at = c.loop-self.invariant.on c.loop-self-test.true in
    record {
      held = c.in-Ok.ensures.held;
      written = c.in-Ok.ensures.written;
      within = omega (arith, c.in-Ok.ensures.within.1, ap length c.after.ensures, length-drop c.loop-self.at c.args.bytes.now, c.loop-self.invariant.within);
      on = on_more c.args.schema.now n c.loop-self.at c.in-Ok.size c.loop-self.self c.read_next.new.self c.args.bytes.now c.loop-self.invariant.held c.in-Ok.ensures.held c.loop-self.invariant.written
          c.loop-self-test.true at c.requires.schema in_range next;
      next = file_more c.args.schema.now n c.loop-self.at c.in-Ok.size c.loop-self.self c.read_next.new.self c.args.bytes.now c.loop-self.invariant.held c.in-Ok.ensures.held c.loop-self.invariant.written
          c.loop-self-test.true at c.requires.schema in_range next c.args.self.now.end.place refl;
      walked = λ x is told.
          walk_more c.args.schema.now n c.loop-self.at c.in-Ok.size c.loop-self.self c.read_next.new.self c.args.bytes.now c.loop-self.invariant.held c.in-Ok.ensures.held c.loop-self.invariant.written
          c.loop-self-test.true at c.requires.schema in_range next x is (c.loop-self.invariant.walked x is told);
    }

pub returns-in-Err-clause-refused : goal.returns-in-Err-clause-refused
returns-in-Err-clause-refused c = λ x is told.
    let reads : ReadsNext c.args.schema.now c.loop-self.self.entries (drop c.loop-self.at c.args.bytes.now) c.loop-self.self.end.place (Err c.in-Err.fault) c.read_next.new.self.entries =
    subst (λ (b : List ℕ). ReadsNext c.args.schema.now c.loop-self.self.entries b c.loop-self.self.end.place (Err c.in-Err.fault) c.read_next.new.self.entries) c.after.ensures c.in-Err.ensures.given in
    let kept : c.in-Err.fault ≢ fault.Memory → c.read_next.new.self.entries ≡ c.loop-self.self.entries =
    λ other. ap (λ (h : HeldLog). h.entries) (c.in-Err.ensures.same (λ is_memory. other (let e : Err c.in-Err.fault ≡ Err fault.Memory = is_memory in cc))) in
    subst (λ (f : ReadFault). IfRefused c.args.schema.now x c.args.self.now.end.place.file c.read_next.new.self.entries (Err f)) (sym c.behind.ensures)
    (refused_behind c.args.schema.now c.args.self.now.end.place.file c.loop-self.at c.loop-self.self c.args.bytes.now c.read_next.new.self.entries c.in-Err.fault c.loop-self.invariant.held
    c.loop-self-test.true reads kept x is (c.loop-self.invariant.walked x is told))
