-- the greatest up to this position is the greatest of all
use Rattle.std.proofs.Common.{◌≡◌, ◌≤◌}
use Rattle.std.specs.Prelude.{IfSome}
use Rattle.edge_traits.specs.Views.{Keeps}
use Rattle.ring_model.specs.Steps as spec
use Rattle.commit_pipeline.specs.Counts.{count_of}
use Rattle.commit_pipeline.proofs.counts.commit_count.Given as goal

pub record Going (counted above inside keeps : Type 0) : Type 0 where
  pub so_far : counted
  pub up : above
  pub within : inside
  pub kept : keeps

abbrev pub invariant-loop-position : goal.invariant-loop-position
invariant-loop-position g l =
    let v = g.V.LogView in
    Going (IfSome (v.sees l.fn.view).log (λ log. spec.greatest (spec.may_commit l.leader.engine.ring.now l.leader.engine.me l.term log l.peers) l.commit l.position ≡ count_of l.leader.engine.ring.now l.leader.engine.me l.term log l.commit l.peers))
    (l.commit ≤ l.position) (l.position ≤ (v.sees l.fn.view).length) (Keeps v.sees v.behind v.stands v.faults l.fn.view l.view)

abbrev pub decreases-loop-position : goal.decreases-loop-position
decreases-loop-position g l = l.position
