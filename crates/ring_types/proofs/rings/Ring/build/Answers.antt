-- the parts that pass every test make a ring
use Rattle.ring_types.proofs.RingLaws.{is_ring}
use Rattle.ring_types.proofs.rings.Ring.build.Goals as goal

pub lay_out-requires : goal.lay_out-requires
lay_out-requires c = is_ring c.args.parts c.requires (cc) (cc) (cc) (cc) (cc)
