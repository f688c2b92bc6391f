use Rattle.binlog_store.proofs.NextPlaces.{next_begins_at_the_end}
use Rattle.binlog_store.proofs.laws.law_end.Goals as goal

pub returns : goal.returns
returns c = next_begins_at_the_end
