-- the first tear among the entries that are left is that among all
use Rattle.std.proofs.Common.{◌≡◌, ◌+◌, drop}
use Rattle.std.specs.Prelude.{IfSome}
use Rattle.edge_traits.specs.Views.{Keeps}
use Rattle.ring_model.specs.Replication as spec
use Rattle.replicate_core.proofs.tears.first_tear.Given as goal

pub record Going (first_left place keeps : Type 0) : Type 0 where
  pub so_far : first_left
  pub here : place
  pub kept : keeps

abbrev pub invariant-loop-entry : goal.invariant-loop-entry
invariant-loop-entry g l =
    let v = g.V.LogView in
    Going (IfSome (v.sees l.fn.view).log (λ log. spec.first_tear log l.commit l.at (spec.terms_of (drop l.entry-index l.entries)) ≡ spec.first_tear log
    l.commit l.position (spec.terms_of l.entries)))
    (l.at ≡ l.position + l.entry-index) (Keeps v.sees v.behind v.stands v.faults l.fn.view l.view)
