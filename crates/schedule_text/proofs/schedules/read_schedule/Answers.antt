use Rattle.std.proofs.Common.{◌≡◌, ◌∷◌, sym, ◌∙◌, arith}
use Rattle.std.proofs.lemmas.Grind.{common_steps}
use Rattle.std.proofs.lemmas.Result.{err_from_is_err_and}
use Rattle.schedule_text.specs.Cutting.{lines}
use Rattle.schedule_text.specs.Lines.{line_of}
use Rattle.schedule_text.specs.Schedules.{events_from, events_of, Adds}
use Rattle.schedule_text.proofs.Events.{with_none, events_more, events_refused}
use Rattle.schedule_text.proofs.schedules.read_schedule.Goals as goal

pub loop-text-init : goal.loop-text-init
unfolding events_of
loop-text-init c = record { events = rw c.new-events.ensures (with_none (events_from 1 (lines c.args.bytes.now))); count = omega arith }

pub loop-text-preserved : goal.loop-text-preserved
loop-text-preserved c =
    let split : lines c.loop-text.rest.now ≡ c.in-Some.text.now ∷ lines c.in-Some.after.now = grind (arith, common_steps) in
    let added : Adds c.loop-text.number (line_of c.in-Some.text.now) c.loop-text.events c.add_line.new.events = grind (arith, common_steps) in
    record {
      events = sym (events_more c.loop-text.events c.add_line.new.events c.loop-text.number c.loop-text.rest.now c.in-Some.text.now c.in-Some.after.now split added) ∙ c.loop-text.invariant.events;
      count = omega (arith, c.in-Some.ensures.shorter, c.loop-text.invariant.count);
    }

pub returns-in_err-add_line : goal.returns-in_err-add_line
returns-in_err-add_line c =
    let split : lines c.loop-text.rest.now ≡ c.in-Some.text.now ∷ lines c.in-Some.after.now = grind (arith, common_steps) in
    let p = err_from_is_err_and c.from_residual.result c.from_residual.ensures.1 in
    rw (p.1, p.2) (events_refused c.loop-text.events c.loop-text.number c.loop-text.rest.now c.in-Some.text.now c.in-Some.after.now (events_of c.args.bytes.now) c.in_err-add_line.field-0.0 split c.in_err-add_line.ensures.err c.loop-text.invariant.events)
