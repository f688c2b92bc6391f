use Rattle.std.proofs.Common.{rules, ◌≡◌, ◌++◌, ℕ, length, ap, sym, ◌∙◌}
use Rattle.std.proofs.lemmas.Result.{on_ok_weaker}
use Rattle.event_frame.specs.Events.{header_at}
use Rattle.event_frame.proofs.Appended.{event_is_put}
use Rattle.event_control.specs.Bodies.{format_body}
use Rattle.event_control.proofs.Spellings.{format_length}
use Rattle.event_control.proofs.heads.put_format.Goals as goal

pub returns-clause-ok : goal.returns-clause-ok
returns-clause-ok c =
    let b : c.len-begin.result ≡ length c.args.out.now.items = search (rules, c.len-begin.ensures) in
    let h = c.in_ok-put_header.ensures.ok ∙ ap (λ (n : ℕ). c.args.out.now.items ++ header_at 15 0 n 4) (sym format_length) in
    on_ok_weaker c.put_sum.result
    (λ e. event_is_put 15 0 4 format_body c.args.out.now.items _ _ _ _ b h c.in_ok-put_format_body.ensures.ok e)
    c.put_sum.ensures.ok
