use Rattle.std.proofs.Common.{rules, ◌≡◌, ◌-◌, List, length, take, ◌∙◌, sym, ap, subst}
use Rattle.ring_types.specs.declared.entries.Vote.{Vote}
use Rattle.ring_model.specs.Actions.{votes_above}
use Rattle.vote_history.specs.Rising.{AreRising}
use Rattle.vote_history.proofs.Dropping.{drops, rising-above}
use Rattle.vote_history.proofs.histories.History.drop_to.Goals as goal

pub invariant_of-self : goal.invariant_of-self
invariant_of-self c =
    let items = c.self.inside.votes.items in
    let floor = c.args.floor in
    let kept = c.count_above-kept.result in
    let kept_is = c.count_above-kept.ensures ∙ ap (λ (xs : List Vote). length (votes_above floor xs)) c.as_slice.ensures.value in
    let len_is : c.len.result ≡ length items = search rules in
    let gone_is = c.saturating_sub-gone.ensures ∙ ap (λ n. n - kept) len_is in
    let is = c.truncate.ensures.items ∙ (ap (take kept) c.rotate_left.ensures.items
    ∙ drops floor items kept c.saturating_sub-gone.result c.self.invariant.2 kept_is gone_is) in
    (search rules, search rules, subst AreRising (sym is) (rising-above floor items c.self.invariant.2))

pub returns : goal.returns
returns c =
    let items = c.self.inside.votes.items in
    let floor = c.args.floor in
    let kept = c.count_above-kept.result in
    let kept_is = c.count_above-kept.ensures ∙ ap (λ (xs : List Vote). length (votes_above floor xs)) c.as_slice.ensures.value in
    let len_is : c.len.result ≡ length items = search rules in
    let gone_is = c.saturating_sub-gone.ensures ∙ ap (λ n. n - kept) len_is in
    let same : items ≡ c.args.self.now = search rules in
    c.truncate.ensures.items ∙ (ap (take kept) c.rotate_left.ensures.items
    ∙ (drops floor items kept c.saturating_sub-gone.result c.self.invariant.2 kept_is gone_is ∙ ap (votes_above floor) same))
