use Rattle.std.proofs.Common.{List, subst, sym}
use Rattle.ring_types.specs.declared.entries.Entry.{Entry}
use Rattle.ring_types.specs.Gtids.{gtids_in}
use Rattle.gtid_set.specs.Laws.{AreInRange}
use Rattle.node_store.proofs.Sets.{range-take}
use Rattle.node_store.proofs.stores.NodeStore.truncate.Goals as goal

pub gtids_of-requires : goal.gtids_of-requires
gtids_of-requires c =
    let here = c.self.inside.log in
    subst (λ (l : List Entry). AreInRange (gtids_in l)) (sym c.prefix-left.ensures) (range-take c.args.position here c.self.invariant.set_is.in_range)
