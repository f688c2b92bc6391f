use Rattle.event_frame.proofs.Written.{event_again}
use Rattle.event_frame.proofs.laws.law_event_again.Goals as goal

pub returns : goal.returns
returns c = λ kind flags at body rest fits small. event_again kind flags at body rest fits small
