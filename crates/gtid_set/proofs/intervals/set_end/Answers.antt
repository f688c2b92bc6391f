use Rattle.std.proofs.Common.{◌≡◌, ◌∙◌, ℕ, sym, ap, rules}
use Rattle.std.specs.BTreeMap.{BTreeMap, is_at}
use Rattle.std.specs.Ordering.{nat_cmp}
use Rattle.gtid_set.proofs.Entries.{set_absent}
use Rattle.gtid_set.proofs.intervals.set_end.Goals as goal

pub returns-in_default : goal.returns-in_default
returns-in_default c =
    let same : c.get_mut.follows.lender-at-none ≡ c.args.ends.now = search rules in
    ap (λ (m : BTreeMap ℕ ℕ). m.entries) same
    ∙ sym (set_absent (is_at (nat_cmp c.args.first)) c.args.last c.args.ends.now.entries (sym c.in_default.ensures.value))
