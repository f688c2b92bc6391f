use Rattle.event_control.proofs.WrittenAndRead.{head_is_read, read_head_was_written}
use Rattle.event_control.proofs.laws.law_head.Goals as goal

pub returns-clause-again : goal.returns-clause-again
returns-clause-again c = head_is_read

pub returns-clause-takes : goal.returns-clause-takes
returns-clause-takes c = read_head_was_written
