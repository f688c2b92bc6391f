use Rattle.std.proofs.Common.{◌≡◌, ◌∙◌, ◌<◌, ℕ, List, length, sym, ap, subst}
use Rattle.std.specs.List.Sorted.{IsStrictlySortedBy}
use Rattle.std.specs.Map.{keys_of, set_value}
use Rattle.std.specs.BTreeMap.{is_at}
use Rattle.std.specs.Ordering.{nat_cmp}
use Rattle.std.proofs.lemmas.Map.{keys-set_value}
use Rattle.gtid_set.specs.Ranges.{intervals, grown}
use Rattle.gtid_set.proofs.Growing.{after_take, step_taken, settled}
use Rattle.gtid_set.proofs.intervals.swallow.Goals as goal

pub loop-next-smaller : goal.loop-next-smaller
loop-next-smaller c =
    let f = c.args.first in
    let es = c.loop-next.ends.entries in
    let step = step_taken f c.in-Some.next c.in-Some.last es c.loop-next.invariant.ordered (sym c.in-Some.ensures) in
    let new : c.set_end.new.ends.entries ≡ after_take f c.in-Some.next c.in-Some.last es =
    c.set_end.ensures ∙ ap (λ (l : List (ℕ × ℕ)). set_value (is_at (nat_cmp f)) l c.in-Some.last) c.remove.ensures.entries in
    subst (λ (l : List (ℕ × ℕ)). length l < length es) (sym new) step.fewer

pub loop-next-preserved : goal.loop-next-preserved
loop-next-preserved c =
    let f = c.args.first in
    let es = c.loop-next.ends.entries in
    let step = step_taken f c.in-Some.next c.in-Some.last es c.loop-next.invariant.ordered (sym c.in-Some.ensures) in
    let new : c.set_end.new.ends.entries ≡ after_take f c.in-Some.next c.in-Some.last es =
    c.set_end.ensures ∙ ap (λ (l : List (ℕ × ℕ)). set_value (is_at (nat_cmp f)) l c.in-Some.last) c.remove.ensures.entries in
    let keys : keys_of c.set_end.new.ends.entries ≡ keys_of c.remove.new.self.entries =
    ap keys_of c.set_end.ensures ∙ keys-set_value (is_at (nat_cmp f)) c.remove.new.self.entries c.in-Some.last in
    record {
      same = ap (λ (l : List (ℕ × ℕ)). grown f (intervals l)) new ∙ step.same ∙ c.loop-next.invariant.same;
      ordered = subst (IsStrictlySortedBy nat_cmp) (sym keys) c.remove.ensures.ordered;
    }

pub returns : goal.returns
returns c = sym (settled c.args.first c.loop-next.ends.entries c.loop-next.invariant.ordered (sym c.touched.ensures ∙ c.in_default.is)) ∙ c.loop-next.invariant.same
