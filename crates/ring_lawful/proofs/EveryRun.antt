-- The laws of nodes of runs, read off the one induction: nodes are sound and lawful, plans possible, messages well formed, prepared pairs in order.
use Rattle.std.proofs.Common.{◌≡◌, ℕ, List, arith, subst, true}
use Rattle.std.proofs.lemmas.Bool.Decides.{nat_tests}
use Rattle.std.specs.List.{Contains}
use Rattle.ring_types.specs.declared.entries.Pair.{Pair}
use Rattle.ring_types.specs.Rings.{Layout}
use Rattle.ring_model.specs.declared.messages.Input.{Input}
use Rattle.ring_model.specs.declared.messages.Input.TheVariants as input
use Rattle.ring_model.specs.declared.messages.Message.{Message}
use Rattle.ring_model.specs.declared.nodes.Durable.{Durable}
use Rattle.ring_model.specs.Nodes.{ArePairsAbove}
use Rattle.ring_model.specs.Runs.{IsRun, Move, is_whole_input, world}
use Rattle.ring_model.specs.Safety.{PreparedAgrees}
use Rattle.ring_model.specs.WellFormed.{IsNearlyWellFormed}
use Rattle.ring_lawful.specs.EachStep.{EveryMessageIsNearlyWellFormed, IsGood}
use Rattle.ring_lawful.specs.Lawful.{EveryNodeIsSound, EveryPlanIsPossible, EveryRunningNodeIsLawful, WasSent}
use Rattle.ring_lawful.proofs.Carry.{always_fits}
use Rattle.ring_lawful.proofs.EachStep.{every_step_is_possible}
use Rattle.ring_lawful.proofs.Possible.{restart_possible}

pub every_node_is_sound : EveryNodeIsSound
every_node_is_sound ring run is id = (always_fits ring run is).nodes id

pub every_running_node_is_lawful : EveryRunningNodeIsLawful
every_running_node_is_lawful ring run is id s up = (always_fits ring run is).running id s up

pub every_message_is_nearly_well_formed : EveryMessageIsNearlyWellFormed
every_message_is_nearly_well_formed ring run is m in_m = (always_fits ring run is).messages m in_m

-- an input that a node of a run may be given is good
good_given : (ring : Layout) (messages : List Message) (id : ℕ) (i : Input) → WasSent messages id i → is_whole_input i ≡ true → ((m : Message) → Contains messages m → IsNearlyWellFormed ring.schema m) → IsGood ring i
good_given ring messages id input.Elect given whole sent = tt
good_given ring messages id input.Beat given whole sent = tt
good_given ring messages id (input.Deliver m) given whole sent = sent m given.0
good_given ring messages id (input.Write client changes) given whole sent = grind (arith, nat_tests, whole)
good_given ring messages id (input.Rotate client) given whole sent = tt
good_given ring messages id (input.Transfer client target) given whole sent = tt
good_given ring messages id (input.Cancel client) given whole sent = tt

pub every_plan_is_possible : EveryPlanIsPossible
every_plan_is_possible ring run is = (
  λ id s up i given whole.
      let x = always_fits ring run is in
      (every_step_is_possible ring id ((world ring run).nodes id).durable s i (x.running id s up) (good_given ring (world ring run).messages id i given whole x.messages)).0,
  λ id. restart_possible ring ((world ring run).nodes id).durable,
)

pub prepared_agrees : (ring : Layout) (run : List Move) → IsRun ring run → PreparedAgrees ring (world ring run)
prepared_agrees ring run is = record {
  engine = λ id s up runs.
      let d : Durable = ((world ring run).nodes id).durable in
      let x = ((always_fits ring run is).running id s up).0 in
      subst (λ (ps : List Pair). ArePairsAbove d.log d.applied ps) x.pairs_in_log x.sound.pairs_in_order;
  tailer = λ id runs. (let z = ((always_fits ring run is).nodes id).0.tailer runs in (z.1, z.0));
}
