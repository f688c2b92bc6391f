use Rattle.event_frame.proofs.ReadEvents.{read_is_at_front}
use Rattle.event_frame.proofs.laws.law_event_takes.Goals as goal

pub returns : goal.returns
returns c = read_is_at_front
