use Rattle.std.proofs.Common.{◌≡◌, suc, ◌+◌, ◌-◌, ◌++◌, ◌∙◌, arith}
use Rattle.ring_types.specs.Logs.{entry_at}
use Rattle.ring_model.specs.Steps.{prepare_entry}
use Rattle.commit_pipeline.specs.Advances.{pairs_left}
use Rattle.commit_pipeline.proofs.Counting.{same_told}
use Rattle.commit_pipeline.proofs.Preparing.{follows}
use Rattle.commit_pipeline.proofs.follows.engine_actions.Goals as goal

pub loop-left-preserved : goal.loop-left-preserved
loop-left-preserved g c =
    let v = g.V.LogView in
    let pairs = pairs_left c.args.engine.now in
    let p = c.loop-left.position in
    let left = c.loop-left.left in
    let less : left ≡ suc (left - 1) = omega arith in
    let more : p + 1 ≡ suc p = omega arith in
    let now = c.in_ok-all.ensures.keeps in
    let past = c.loop-left.invariant.kept in
    let first = now.later in
    let then = past.later in
    let made = same_told (v.sees c.loop-left.view) (v.sees c.args.view.now) (λ log. c.in_ok-all.all ≡ c.loop-left.all ++ prepare_entry pairs (entry_at log (p + 1))) past.same c.in_ok-all.ensures.told in
    record {
      so_far = follows (v.sees c.args.view.now).log pairs p (p + 1) left (left - 1) c.args.engine.now.applied c.args.count c.args.actions c.loop-left.all c.in_ok-all.all c.push.new.self less more made c.in-Ok.ensures.ok c.loop-left.invariant.so_far;
      total = (let sum = c.loop-left.invariant.total in omega arith);
      kept = record { same = now.same ∙ past.same; still_behind = now.still_behind ∙ past.still_behind; still_stands = now.still_stands; later = omega arith };
    }
