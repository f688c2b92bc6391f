use Rattle.std.proofs.Common.{◌≡◌, ◌+◌, ◌∷◌, ℕ, drop, sym, ap, ◌∙◌, arith}
use Rattle.std.proofs.lemmas.List.{drop_more}
use Rattle.std.proofs.lemmas.Result.{err_from_is_err_and}
use Rattle.ring_types.specs.declared.values.Change.{Change}
use Rattle.event_txn.proofs.Kept.{kept_on, kept_more}
use Rattle.event_txn.proofs.Events.{goes_on, ends_there}
use Rattle.event_txn.proofs.writing.put_changes.Goals as goal

pub returns-in_err-offset-clause-err : goal.returns-in_err-offset-clause-err
returns-in_err-offset-clause-err c =
    let p = err_from_is_err_and c.from_residual.result c.from_residual.ensures.1 in
    rw p.1 (kept_on _ _ _ c.loop-change.invariant.kept c.in_err-offset.ensures.err)

pub loop-change-preserved : goal.loop-change-preserved
loop-change-preserved c =
    let i : ℕ = c.loop-change.change-index in
    let next : drop i c.args.changes.now ≡ c.change-item.result ∷ drop (i + 1) c.args.changes.now = drop_more c.args.changes.now i c.change-item.result c.loop-change-test.true ∙ ap (λ (x : Change). x ∷ drop (i + 1) c.args.changes.now) (sym c.change-item.is) in
    record {
      stands = goes_on c.args.schema.now c.loop-change.out.items _ _ c.loop-change.offset _ c.in_ok-offset.offset c.change-item.result (drop (i + 1) c.args.changes.now)
          (rw next at c.loop-change.invariant.stands) c.in_ok-offset.ensures.ok c.in_ok-offset.ensures.behind;
      small = omega (arith, c.in_ok-offset.ensures.behind);
      kept = kept_on _ _ _ c.loop-change.invariant.kept (kept_more _ _ _ c.in_ok-offset.ensures.ok);
    }

pub returns-clause-behind : goal.returns-clause-behind
returns-clause-behind c =
    ends_there c.args.schema.now _ _ c.loop-change.offset _ c.args.changes.now c.loop-change.change-index c.loop-change-test.false c.loop-change.invariant.small c.loop-change.invariant.stands
