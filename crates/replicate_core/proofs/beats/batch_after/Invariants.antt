-- the batch so far, with what the room left takes of the rest, is the whole
use Rattle.std.proofs.Common.{◌≡◌, ◌≤◌, ◌++◌, drop}
use Rattle.std.specs.Prelude.{IfSome}
use Rattle.edge_traits.specs.Views.{Keeps}
use Rattle.ring_model.specs.Replication.{batch_of}
use Rattle.replicate_core.specs.Beats.{batch_left}
use Rattle.replicate_core.proofs.beats.batch_after.Given as goal

pub record Going (whole inside keeps : Type 0) : Type 0 where
  pub so_far : whole
  pub within : inside
  pub kept : keeps

abbrev pub invariant-loop-left : goal.invariant-loop-left
invariant-loop-left g l =
    let v = g.V.LogView in
    Going (IfSome (v.sees l.fn.view).log (λ log. l.batch ++ batch_left l.schema l.left l.bytes (drop l.at log) ≡ batch_of l.schema (drop l.position log)))
    (l.at ≤ l.end) (Keeps v.sees v.behind v.stands v.faults l.fn.view l.view)

abbrev pub decreases-loop-left : goal.decreases-loop-left
decreases-loop-left g l = l.left
