use Rattle.event_control.proofs.WrittenAndRead.{rotation_is_read, read_rotation_was_written}
use Rattle.event_control.proofs.laws.law_rotation.Goals as goal

pub returns-clause-again : goal.returns-clause-again
returns-clause-again c = rotation_is_read

pub returns-clause-takes : goal.returns-clause-takes
returns-clause-takes c = read_rotation_was_written
