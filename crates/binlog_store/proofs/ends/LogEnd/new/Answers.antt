use Rattle.std.proofs.Common.{◌≡◌, length, ap, ◌∙◌, rules}
use Rattle.binlog_store.proofs.Putting.{empty_end}
use Rattle.binlog_store.proofs.ends.LogEnd.new.Goals as goal

pub returns : goal.returns
returns c = λ schema.
    let long : c.len.result ≡ length c.in_ok-head.head.items = search (rules, c.len.ensures) in
    empty_end schema c.new-gtids.result c.len.result c.new-gtids.ensures (long ∙ ap length c.in_ok-head.ensures)
