-- the messages to the members so far
use Rattle.std.proofs.Common.{◌≡◌, map, take}
use Rattle.std.specs.Prelude.{IfSome}
use Rattle.edge_traits.specs.Views.{Keeps}
use Rattle.replicate_core.specs.Beats.{message_to}
use Rattle.replicate_core.proofs.beats.all_beats.Given as goal

pub record Going (messages keeps : Type 0) : Type 0 where
  pub so_far : messages
  pub kept : keeps

abbrev pub invariant-loop-peer : goal.invariant-loop-peer
invariant-loop-peer g l =
    let v = g.V.LogView in
    Going (IfSome (v.sees l.fn.view).log (λ log. l.messages ≡ map (message_to l.sender log) (take l.peer-index l.peers)))
    (Keeps v.sees v.behind v.stands v.faults l.fn.view l.view)
