use Rattle.std.proofs.Common.{refl}
use Rattle.edge_traits.specs.declared.disks.FileId.TheVariants as id
use Rattle.engine_redo.proofs.Keeping.{bytes_kept, keeps_one}
use Rattle.engine_redo.proofs.mounting.read_redo.Goals as goal

pub returns-clause-bytes : goal.returns-clause-bytes
returns-clause-bytes g c told =
    bytes_kept c.args.number (g.D.Disk.files c.args.disk.now) (g.D.Disk.files c.read_file.new.disk) (c.read_file.ensures.crash told).elsewhere (c.read_file.ensures.same told)

pub returns-clause-control : goal.returns-clause-control
returns-clause-control g c told = (c.read_file.ensures.crash told).elsewhere id.EngineCtl (λ is. cc)

pub returns-clause-keeps : goal.returns-clause-keeps
returns-clause-keeps g c told = keeps_one g.D.Disk.files g.D.Disk.moment g.D.Disk.left_since (id.Redo c.args.number) refl (c.read_file.ensures.crash told)
