use Rattle.std.proofs.Common.{rules, ◌≡◌, ◌<◌, List, sym, subst}
use Rattle.std.specs.List.{All}
use Rattle.std.specs.Result.{is_ok}
use Rattle.ring_types.specs.declared.entries.Vote.{Vote}
use Rattle.vote_history.specs.Rising.{AreRising}
use Rattle.vote_history.proofs.Dropping.{rising-if}
use Rattle.vote_history.proofs.histories.History.grant.Goals as goal

pub invariant_of-self : goal.invariant_of-self
invariant_of-self c =
    let items = c.self.inside.votes.items in
    let same : c.args.self.now ≡ items = search rules in
    let below : All (λ (v : Vote). v.term < c.args.vote.term) items = subst
    (λ (xs : List Vote). All (λ (v : Vote). v.term < c.args.vote.term) xs) same c.requires in
    (search rules, search rules, subst AreRising (sym c.push.ensures.items) (rising-if (is_ok c.push.result) items c.args.vote c.self.invariant.2 below))
