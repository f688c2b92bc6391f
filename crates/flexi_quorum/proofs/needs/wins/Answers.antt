use Rattle.std.proofs.Common.{◌≡◌, ℕ, Bool, List, ap, ◌∙◌}
use Rattle.std.specs.List.{list_all}
use Rattle.ring_model.specs.Quorums.{covers}
use Rattle.ring_model.specs.Needs.{need, wins, voters_in}
use Rattle.flexi_quorum.proofs.needs.wins.Goals as goal

pub returns : goal.returns
unfolding wins
returns c =
    let ring = c.args.ring.now in
    let all : List ℕ → List ℕ → Bool = λ voters regions. list_all (λ region. covers ring region voters) regions in
    let v : c.as_slice-2.result.now ≡ voters_in c.args.grants.now = c.as_slice-2.ensures ∙ c.in_ok-voters.ensures in
    let r : c.as_slice.result.now ≡ need ring c.args.base c.args.base_region c.args.own c.args.term c.args.grants.now = c.as_slice.ensures ∙ c.in_ok-regions.ensures in
    c.cover_all.ensures ∙ (ap (λ voters. all voters c.as_slice.result.now) v ∙ ap (all (voters_in c.args.grants.now)) r)
