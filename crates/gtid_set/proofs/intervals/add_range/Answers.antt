use Rattle.std.proofs.Common.{◌≡◌, ◌∙◌, ℕ, List, Option, ap}
use Rattle.ring_types.specs.declared.gtid_sets.Interval.{Interval}
use Rattle.gtid_set.specs.Ranges.{intervals, begun_by, joined, grown}
use Rattle.gtid_set.proofs.Entries.{after_insert, range_put}
use Rattle.gtid_set.proofs.intervals.add_range.Goals as goal

pub returns-clause-ok : goal.returns-clause-ok
returns-clause-ok c =
    let r = c.args.range in
    let es = c.args.ends.now.entries in
    let whole : c.joined-range.result ≡ joined (begun_by r.first (intervals es)) r = c.joined-range.ensures ∙ ap (λ (o : Option Interval). joined o r) c.begun_by.ensures in
    c.swallow.ensures
    ∙ ap (λ (l : List (ℕ × ℕ)). grown c.joined-range.result.first (intervals l)) c.in_ok-insert.ensures.entries
    ∙ ap (λ (i : Interval). after_insert i es) whole
    ∙ range_put 0 r es c.requires.merged c.requires.some
