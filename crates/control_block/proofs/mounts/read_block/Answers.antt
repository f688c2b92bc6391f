use Rattle.std.proofs.Common.{◌≡◌, ◌∙◌, sym, Err, rules}
use Rattle.edge_traits.proofs.Moments.{after, stays}
use Rattle.control_block.specs.declared.faults.ControlFault.TheVariants as fault
use Rattle.control_block.proofs.Mounted.{damaged_first, damaged_second, damaged_unclear, winner_read}
use Rattle.control_block.proofs.mounts.read_block.Goals as goal

pub returns-in_err-bytes-in-First-clause-damaged : goal.returns-in_err-bytes-in-First-clause-damaged
returns-in_err-bytes-in-First-clause-damaged g c told is =
    let damaged : c.read_content.result ≡ Err fault.Damaged = search rules in
    let told_1 = c.read_head.ensures.tells ∙ told in
    let same_1 = c.read_head.ensures.same told c.args.file in
    let same_2 = c.read_head-2.ensures.same told_1 c.args.file in
    let won = winner_read _ _ _ _ (c.in_ok-first.ensures.told told) (c.in_ok-second.ensures.told told_1) same_1 ∙ sym c.winner_among.ensures ∙ c.in-First.is in
    damaged_first _ (c.requires told) won (rw (same_2 ∙ same_1) at (c.read_content.ensures.damaged (c.read_head-2.ensures.tells ∙ told_1) damaged))

pub returns-in_err-bytes-in-Second-clause-damaged : goal.returns-in_err-bytes-in-Second-clause-damaged
returns-in_err-bytes-in-Second-clause-damaged g c told is =
    let damaged : c.read_content-in-Second.result ≡ Err fault.Damaged = search rules in
    let told_1 = c.read_head.ensures.tells ∙ told in
    let same_1 = c.read_head.ensures.same told c.args.file in
    let same_2 = c.read_head-2.ensures.same told_1 c.args.file in
    let won = winner_read _ _ _ _ (c.in_ok-first.ensures.told told) (c.in_ok-second.ensures.told told_1) same_1 ∙ sym c.winner_among.ensures ∙ c.in-Second.is in
    damaged_second _ (c.requires told) won (rw (same_2 ∙ same_1) at (c.read_content-in-Second.ensures.damaged (c.read_head-2.ensures.tells ∙ told_1) damaged))

pub returns-in-Unclear-clause-damaged : goal.returns-in-Unclear-clause-damaged
returns-in-Unclear-clause-damaged g c told is =
    let told_1 = c.read_head.ensures.tells ∙ told in
    damaged_unclear _ (c.requires told) (winner_read _ _ _ _ (c.in_ok-first.ensures.told told) (c.in_ok-second.ensures.told told_1)
    (c.read_head.ensures.same told c.args.file) ∙ sym c.winner_among.ensures ∙ c.in-Unclear.is)

pub returns-in_ok-bytes-in-First-clause-crash : goal.returns-in_ok-bytes-in-First-clause-crash
returns-in_ok-bytes-in-First-clause-crash g c told =
    let told_1 = c.read_head.ensures.tells ∙ told in
    let told_2 = c.read_head-2.ensures.tells ∙ told_1 in
    let first = stays c.args.file _ _ (c.read_head.ensures.same told) in
    let second = stays c.args.file _ _ (c.read_head-2.ensures.same told_1) in
    after _ (c.read_head.ensures.crash told) (after _ (c.read_head-2.ensures.crash told_1) (c.read_content.ensures.crash told_2) (λ left may. may) second)
    (λ left may. may) first

pub returns-in_ok-bytes-in-Second-clause-crash : goal.returns-in_ok-bytes-in-Second-clause-crash
returns-in_ok-bytes-in-Second-clause-crash g c told =
    let told_1 = c.read_head.ensures.tells ∙ told in
    let told_2 = c.read_head-2.ensures.tells ∙ told_1 in
    let first = stays c.args.file _ _ (c.read_head.ensures.same told) in
    let second = stays c.args.file _ _ (c.read_head-2.ensures.same told_1) in
    after _ (c.read_head.ensures.crash told) (after _ (c.read_head-2.ensures.crash told_1) (c.read_content-in-Second.ensures.crash told_2)
    (λ left may. may) second) (λ left may. may) first
