use Rattle.std.proofs.Common.{rules, ◌≡◌, length}
use Rattle.std.proofs.lemmas.Result.{on_ok_weaker}
use Rattle.event_frame.proofs.Appended.{event_is_put}
use Rattle.event_control.specs.Bodies.{opid_body}
use Rattle.event_control.proofs.opid_events.put_event.Goals as goal

pub returns-clause-ok : goal.returns-clause-ok
returns-clause-ok c =
    let b : c.len-begin.result ≡ length c.args.out.now.items = search (rules, c.len-begin.ensures) in
    on_ok_weaker c.put_sum.result
    (λ e. event_is_put 28 128 c.args.at (opid_body c.args.kind c.args.opid c.args.region) c.args.out.now.items _ _ _ _ b c.in_ok-put_header.ensures.ok c.in_ok-put_body.ensures.ok e)
    c.put_sum.ensures.ok
