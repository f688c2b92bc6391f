use Rattle.event_control.proofs.WrittenAndRead.{opid_is_read, read_opid_was_written}
use Rattle.event_control.proofs.laws.law_opid.Goals as goal

pub returns-clause-again : goal.returns-clause-again
returns-clause-again c = opid_is_read

pub returns-clause-takes : goal.returns-clause-takes
returns-clause-takes c = read_opid_was_written
