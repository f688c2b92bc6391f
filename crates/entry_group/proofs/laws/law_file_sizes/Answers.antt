use Rattle.entry_group.proofs.OneLog.{files_have_sizes}
use Rattle.entry_group.proofs.laws.law_file_sizes.Goals as goal

pub returns : goal.returns
returns c = files_have_sizes
