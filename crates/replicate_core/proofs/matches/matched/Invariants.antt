-- what is unmatched of the entries that are left is what is unmatched of all
use Rattle.std.proofs.Common.{◌≡◌, ◌≤◌, ◌+◌, ◌-◌, drop, length}
use Rattle.std.specs.Prelude.{IfSome}
use Rattle.edge_traits.specs.Views.{Keeps}
use Rattle.ring_model.specs.Replication as spec
use Rattle.replicate_core.proofs.matches.matched.Given as goal

pub record Going (unmatched few inside keeps : Type 0) : Type 0 where
  pub so_far : unmatched
  pub up : few
  pub within : inside
  pub kept : keeps

abbrev pub invariant-loop-entry : goal.invariant-loop-entry
invariant-loop-entry g l =
    let v = g.V.LogView in
    Going (IfSome (v.sees l.fn.view).log (λ log. spec.unmatched log (l.position + l.count) (drop l.count l.entries) ≡ spec.unmatched log l.position
    l.entries))
    (l.count ≤ length l.entries) (l.position + l.count ≤ l.end) (Keeps v.sees v.behind v.stands v.faults l.fn.view l.view)

abbrev pub decreases-loop-entry : goal.decreases-loop-entry
decreases-loop-entry g l = length l.entries - l.count
