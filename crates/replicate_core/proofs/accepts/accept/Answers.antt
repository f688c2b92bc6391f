use Rattle.replicate_core.proofs.Accepting.{plans, places_planned}
use Rattle.replicate_core.proofs.accepts.accept.Goals as goal

pub accept_rest-requires-clause-may_plan : goal.accept_rest-requires-clause-may_plan
accept_rest-requires-clause-may_plan g c =
    let v = g.V.LogView in
    plans (v.sees c.args.view.now) (v.sees c.all_matched.new.view) c.args.receiver.now.end c.in_ok-count.count c.args.sent.now c.suffix-added.result.now
    c.in_ok-count.ensures.keeps.same c.suffix-added.ensures
    c.requires.end c.requires.fits c.requires.whole c.requires.sent c.in_ok-count.ensures.within

pub accept_rest-requires-clause-placed : goal.accept_rest-requires-clause-placed
accept_rest-requires-clause-placed g c =
    let v = g.V.LogView in
    places_planned (v.sees c.args.view.now) (v.sees c.all_matched.new.view) c.args.receiver.now.end c.in_ok-count.count c.args.sent.now
    c.suffix-added.result.now c.in_ok-count.ensures.keeps.same c.suffix-added.ensures
    c.requires.end c.requires.whole c.requires.placed c.requires.sent c.in_ok-count.ensures.within
