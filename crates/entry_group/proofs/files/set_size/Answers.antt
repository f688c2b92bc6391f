use Rattle.entry_group.proofs.Sizes.{whole_set}
use Rattle.entry_group.proofs.files.set_size.Goals as goal

pub returns : goal.returns
returns c = whole_set c.args.sets.now c.loop-set.set-index c.loop-set.size c.loop-set.invariant c.loop-set-test.false
