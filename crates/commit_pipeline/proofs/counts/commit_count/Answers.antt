use Rattle.std.proofs.Common.{◌≡◌, ◌<◌, sym, ◌∙◌, subst, arith}
use Rattle.ring_types.specs.Logs.{term_at}
use Rattle.commit_pipeline.proofs.Counting.{skips, finds, stops, ends, same_told, whole_of, matched_below-up, matched_below-below}
use Rattle.commit_pipeline.proofs.counts.commit_count.Goals as goal

pub returns-then-found-term-clause-told : goal.returns-then-found-term-clause-told
returns-then-found-term-clause-told g c =
    let v = g.V.LogView in
    let place = c.loop-position.position in
    finds (v.sees c.args.view.now).log c.args.leader.now.engine.ring.now c.args.leader.now.engine.me c.args.leader.now.term c.in_ok-found.found c.args.leader.now.commit c.args.leader.now.peers.now place c.loop-position-test.true
    (sym c.in-Ok.ensures ∙ c.if-held.true)
    (same_told (v.sees c.loop-position.view) (v.sees c.args.view.now) (λ log. c.in_ok-found.found ≡ term_at log place) c.loop-position.invariant.kept.same c.in_ok-found.ensures.told)
    c.if-found-term.true c.loop-position.invariant.so_far

pub returns-else-found-term-clause-told : goal.returns-else-found-term-clause-told
returns-else-found-term-clause-told g c =
    let v = g.V.LogView in
    let place = c.loop-position.position in
    stops (v.sees c.args.view.now).log c.args.leader.now.engine.ring.now c.args.leader.now.engine.me c.args.leader.now.term c.in_ok-found.found (v.sees c.args.view.now).length c.args.leader.now.commit c.args.leader.now.peers.now place c.loop-position-test.true c.loop-position.invariant.within
    (whole_of (v.sees c.args.view.now).log c.in_ok-end.end (v.sees c.args.view.now).length c.in_ok-end.ensures.told c.in_ok-end.ensures.position) c.requires.rises c.requires.below
    (same_told (v.sees c.loop-position.view) (v.sees c.args.view.now) (λ log. c.in_ok-found.found ≡ term_at log place) c.loop-position.invariant.kept.same c.in_ok-found.ensures.told)
    c.if-found-term.false c.loop-position.invariant.so_far

pub loop-position-smaller : goal.loop-position-smaller
loop-position-smaller g c =
    let place = c.loop-position.position in
    let below = matched_below-below c.args.leader.now.commit place c.args.leader.now.peers.now c.loop-position-test.true in
    subst (λ n. n < place) (sym c.matched_below-position.ensures) below

pub loop-position-preserved : goal.loop-position-preserved
loop-position-preserved g c =
    let v = g.V.LogView in
    let place = c.loop-position.position in
    let below = matched_below-below c.args.leader.now.commit place c.args.leader.now.peers.now c.loop-position-test.true in
    let up = matched_below-up c.args.leader.now.commit place c.args.leader.now.peers.now in
    let is = c.matched_below-position.ensures in
    record {
      so_far = skips (v.sees c.args.view.now).log c.args.leader.now.engine.ring.now c.args.leader.now.engine.me c.args.leader.now.term c.args.leader.now.commit c.args.leader.now.peers.now place c.matched_below-position.result c.loop-position-test.true
          (sym c.in-Ok.ensures ∙ c.if-held.false)
          is c.loop-position.invariant.so_far;
      up = omega arith;
      within = (let inside = c.loop-position.invariant.within in omega arith);
      kept = c.loop-position.invariant.kept;
    }

pub returns-clause-told : goal.returns-clause-told
returns-clause-told g c =
    ends (g.V.LogView.sees c.args.view.now).log c.args.leader.now.engine.ring.now c.args.leader.now.engine.me c.args.leader.now.term c.args.leader.now.commit c.args.leader.now.peers.now c.loop-position.position c.loop-position-test.false c.loop-position.invariant.so_far
