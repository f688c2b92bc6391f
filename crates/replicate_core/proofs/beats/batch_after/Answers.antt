use Rattle.std.proofs.Common.{◌≡◌, ◌+◌, ◌-◌, List, Some, drop, subst, refl, ◌∙◌, arith}
use Rattle.std.specs.Prelude.{IfSome}
use Rattle.ring_types.specs.declared.entries.Entry.{Entry}
use Rattle.ring_types.specs.Logs.{entry_at}
use Rattle.edge_traits.specs.Views.{Sight}
use Rattle.ring_model.specs.Replication.{batch_of}
use Rattle.replicate_core.proofs.Batches.{ends_full, ends_over, goes_on}
use Rattle.replicate_core.proofs.beats.batch_after.Goals as goal

pub returns-then-bytes-size-clause-told : goal.returns-then-bytes-size-clause-told
returns-then-bytes-size-clause-told g c =
    let l = c.loop-left in
    let told = (g.V.LogView.sees c.args.view.now).log in
    ends_over told c.args.schema.now l.batch l.left l.bytes l.at c.group_size-size.result c.in_ok-entry.entry
    (λ (log : List Entry). batch_of c.args.schema.now (drop c.args.position log))
    c.loop-left-test.true c.group_size-size.ensures c.if-bytes-size.true
    (subst (λ (s : Sight). IfSome s.log (λ log. entry_at log (l.at + 1) ≡ Some c.in_ok-entry.entry)) l.invariant.kept.same c.in_ok-entry.ensures.told)
    l.invariant.so_far

pub loop-left-preserved : goal.loop-left-preserved
loop-left-preserved g c =
    let l = c.loop-left in
    let told = (g.V.LogView.sees c.args.view.now).log in
    let more = c.loop-left-test.true in
    let inside = c.if-end-at.false in
    let read = c.in_ok-entry.ensures.keeps in
    record {
      so_far =
          goes_on told c.args.schema.now l.batch c.push.new.self l.left (l.left - 1) l.bytes (l.bytes - c.group_size-size.result) l.at (l.at + 1)
          c.group_size-size.result c.in_ok-entry.entry
          (λ (log : List Entry). batch_of c.args.schema.now (drop c.args.position log))
          (omega arith) c.group_size-size.ensures c.if-bytes-size.false refl refl c.in-Ok.ensures.ok
          (subst (λ (s : Sight). IfSome s.log (λ log. entry_at log (l.at + 1) ≡ Some c.in_ok-entry.entry)) l.invariant.kept.same c.in_ok-entry.ensures.told)
          l.invariant.so_far;
      within = omega arith;
      kept =
          record {
            same = read.same ∙ l.invariant.kept.same;
            still_behind = read.still_behind
                ∙ l.invariant.kept.still_behind;
            still_stands = read.still_stands;
            later = omega (arith, read.later, l.invariant.kept.later);
          };
    }

pub returns-clause-told : goal.returns-clause-told
returns-clause-told g c =
    let l = c.loop-left in
    let none = c.loop-left-test.false in
    ends_full (g.V.LogView.sees c.args.view.now).log c.args.schema.now l.batch l.left l.bytes l.at
    (λ (log : List Entry). batch_of c.args.schema.now (drop c.args.position log)) (omega arith) l.invariant.so_far
