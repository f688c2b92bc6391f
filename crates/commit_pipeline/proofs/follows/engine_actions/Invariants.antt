-- the actions so far stand before those of the positions that are left
use Rattle.std.proofs.Common.{◌≡◌, ◌++◌, ◌+◌}
use Rattle.std.specs.Prelude.{IfSome}
use Rattle.edge_traits.specs.Views.{Keeps}
use Rattle.ring_model.specs.Steps as spec
use Rattle.commit_pipeline.specs.Advances.{pairs_left}
use Rattle.commit_pipeline.proofs.follows.engine_actions.Given as goal

pub record Going (made sum keeps : Type 0) : Type 0 where
  pub so_far : made
  pub total : sum
  pub kept : keeps

abbrev pub invariant-loop-left : goal.invariant-loop-left
invariant-loop-left g l =
    let v = g.V.LogView in
    Going (IfSome (v.sees l.fn.view).log (λ log. l.all ++ spec.engine_actions log (pairs_left l.engine) l.position l.left ≡ l.fn.actions ++ spec.engine_actions log (pairs_left l.engine) l.engine.applied l.count))
    (l.position + l.left ≡ l.engine.applied + l.count) (Keeps v.sees v.behind v.stands v.faults l.fn.view l.view)

abbrev pub decreases-loop-left : goal.decreases-loop-left
decreases-loop-left g l = l.left
