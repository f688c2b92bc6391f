use Rattle.std.proofs.Common.{◌≡◌, ◌∙◌, ◌<◌, ◌+◌, ◌^◌, ℕ, List, sym, ap, subst, arith, rules}
use Rattle.ring_types.specs.declared.gtid_sets.Interval.{Interval}
use Rattle.gtid_set.specs.Canonical.{AreMerged}
use Rattle.gtid_set.specs.Ranges.{intervals}
use Rattle.gtid_set.specs.Servers.{range_in, ranges_in}
use Rattle.gtid_set.proofs.ServerMembers.{range_in-canonical}
use Rattle.gtid_set.proofs.servers.put_set.Goals as goal

pub loop-first-preserved : goal.loop-first-preserved
loop-first-preserved c =
    let x : Interval = record { first = c.in-Some.first.now; last = c.in-Some.last.now } in
    let step = c.in-Some.ensures.steps in
    let merged = c.loop-first.invariant.merged in
    let one = subst (λ (l : List (ℕ × ℕ)). AreMerged merged.0 (intervals l)) step merged.1 in
    let low : merged.0 < x.first = one.0 in
    let fits : c.server-server.result < 2 ^ 128 = search rules in
    let server = c.args.set.now.server in
    record {
      whole =
          ap (ranges_in server (intervals c.next.new.self)) (c.in_ok-put_range.ensures.ok ∙ ap (λ (s : ℕ). range_in s x c.loop-first.servers.items) c.server-server.ensures)
          ∙ ap (λ (l : List (ℕ × ℕ)). ranges_in server (intervals l) c.loop-first.servers.items) (sym step)
          ∙ c.loop-first.invariant.whole;
      canonical = rw c.in_ok-put_range.ensures.ok (range_in-canonical 0 c.server-server.result x c.loop-first.servers.items c.loop-first.invariant.canonical (omega arith) fits (omega arith, one.1, one.2, tt));
      merged = (x.last + 1, one.3);
    }
