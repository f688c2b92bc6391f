use Rattle.std.proofs.Common.{◌≤◌, sym, subst}
use Rattle.std.specs.List.{All}
use Rattle.std.proofs.lemmas.List.Elements.{All-filter}
use Rattle.std.specs.Prelude.{nat_lt}
use Rattle.ring_types.specs.declared.entries.Vote.{Vote}
use Rattle.state_tests.proofs.votes.drop_first.Goals as goal

pub returns : goal.returns
returns c =
    subst (All (λ (v : Vote). v.term ≤ c.args.last)) (sym c.drop_to.ensures)
    (All-filter (λ (v : Vote). nat_lt 1 v.term) (λ (v : Vote). v.term ≤ c.args.last) c.args.history.now c.requires)
