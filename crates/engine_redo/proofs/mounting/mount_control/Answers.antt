use Rattle.edge_traits.proofs.Working.{disk_tells}
use Rattle.engine_redo.proofs.Keeping.{keeps_control}
use Rattle.engine_redo.proofs.mounting.mount_control.Goals as goal

pub returns-in-Ok-clause-keeps : goal.returns-in-Ok-clause-keeps
returns-in-Ok-clause-keeps g c told =
    keeps_control g.D.Disk.files g.D.Disk.moment g.D.Disk.left_since (disk_tells g.met.D.Disk.reads_left g.met.D.Disk.counts_now g.met.D.Disk.only_now told) (c.mount.ensures.crash told)

pub returns-in-Err-Disk-clause-keeps : goal.returns-in-Err-Disk-clause-keeps
returns-in-Err-Disk-clause-keeps g c told =
    keeps_control g.D.Disk.files g.D.Disk.moment g.D.Disk.left_since (disk_tells g.met.D.Disk.reads_left g.met.D.Disk.counts_now g.met.D.Disk.only_now told) (c.mount.ensures.crash told)

pub returns-in-Err-Memory-clause-keeps : goal.returns-in-Err-Memory-clause-keeps
returns-in-Err-Memory-clause-keeps g c told =
    keeps_control g.D.Disk.files g.D.Disk.moment g.D.Disk.left_since (disk_tells g.met.D.Disk.reads_left g.met.D.Disk.counts_now g.met.D.Disk.only_now told) (c.mount.ensures.crash told)

pub returns-in-Err-Damaged-clause-keeps : goal.returns-in-Err-Damaged-clause-keeps
returns-in-Err-Damaged-clause-keeps g c told =
    keeps_control g.D.Disk.files g.D.Disk.moment g.D.Disk.left_since (disk_tells g.met.D.Disk.reads_left g.met.D.Disk.counts_now g.met.D.Disk.only_now told) (c.mount.ensures.crash told)
