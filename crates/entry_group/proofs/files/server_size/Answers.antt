use Rattle.std.proofs.Common.{arith}
use Rattle.entry_group.proofs.Sizes.{server_size}
use Rattle.entry_group.proofs.files.server_size.Goals as goal

pub returns : goal.returns
returns c = omega (arith, server_size c.args.set.now)
