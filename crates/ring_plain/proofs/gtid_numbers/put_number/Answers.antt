use Rattle.std.proofs.Common.{◌≡◌, ℕ, ◌<◌, ◌≤◌, true, List, nat_le, sym, ◌∙◌, rules}
use Rattle.std.specs.List.{list_all}
use Rattle.ring_plain.proofs.Rising.{put_last, last_below, put_below_ok}
use Rattle.ring_plain.proofs.gtid_numbers.put_number.Goals as goal

pub returns-then-number-bound-clause-below : goal.returns-then-number-bound-clause-below
returns-then-number-bound-clause-below c =
    let within : c.args.number ≤ c.args.bound = search rules in
    put_below_ok c.args.bound c.args.number c.args.numbers c.with_number.result within c.requires (rw (c.as_slice.ensures) at c.with_number.ensures)

pub returns-clause-put : goal.returns-clause-put
returns-clause-put c =
    let above : c.args.bound < c.args.number = search rules in
    c.in_ok-push.ensures.ok ∙ sym (put_last c.args.bound c.args.number c.args.numbers above c.requires)

pub returns-clause-below : goal.returns-clause-below
returns-clause-below c =
    let above : c.args.bound < c.args.number = search rules in
    rw (c.in_ok-push.ensures.ok) (last_below c.args.bound c.args.number c.args.numbers above c.requires)
