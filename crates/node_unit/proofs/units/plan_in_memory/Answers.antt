use Rattle.std.proofs.Common.{◌≡◌, sym, ap₂, ◌∙◌}
use Rattle.ring_model.specs.Dispatch.{step}
use Rattle.ring_model.specs.Steps.{idle}
use Rattle.ring_model.specs.declared.effects.Plan.{Plan}
use Rattle.ring_model.specs.declared.effects.Step.{Step}
use Rattle.ring_model.specs.declared.nodes.Soft.{Soft}
use Rattle.node_unit.proofs.Standing.{are_entries}
use Rattle.node_unit.proofs.units.plan_in_memory.Goals as goal

pub planned-requires-clause-read : goal.planned-requires-clause-read
planned-requires-clause-read c = record {
  stand = c.view-view.ensures.stands (are_entries c.args.ring.now c.args.me c.args.store.now.durable (c.requires.fit.0.sound, c.requires.fit.1));
  sight = c.view-view.ensures.sees;
}

abbrev step_of : Plan → Soft → Step
step_of plan soft = record { plan = plan; soft = soft }

pub returns-in-Err-Torn : goal.returns-in-Err-Torn
returns-in-Err-Torn c =
    let rests : step c.args.ring.now c.args.me c.args.store.now.durable c.args.soft.now c.args.input.now ≡ idle c.args.soft.now = rw c.in-Err-Torn.field-0-is at c.in-Err-Torn.ensures.torn in
    let stays : c.planned.new.soft ≡ c.args.soft.now = rw c.in-Err-Torn.field-0-is at c.in-Err-Torn.ensures.rests in
    record { told = rests ∙ ap₂ step_of (sym c.idle.ensures) (sym stays) }
