use Rattle.std.proofs.Common.{ℕ, List, ap, ◌∙◌}
use Rattle.ring_model.specs.Transfers as spec
use Rattle.transfer_core.proofs.polls.may_pass.Goals as goal

pub returns : goal.returns
returns c = c.covers_both.ensures ∙ ap (λ (ids : List ℕ). spec.covers_both c.args.ring.now c.args.leader c.args.me ids) c.in_ok-left.ensures
