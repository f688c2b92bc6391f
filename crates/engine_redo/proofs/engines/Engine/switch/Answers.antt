use Rattle.std.proofs.Common.{inl}
use Rattle.edge_traits.proofs.Moments.{still}
use Rattle.control_block.proofs.Mounted.{stands_left}
use Rattle.engine_redo.proofs.engines.Engine.switch.Goals as goal

pub returns-in_err-bytes-clause-crash : goal.returns-in_err-bytes-clause-crash
returns-in_err-bytes-clause-crash g c told =
    still c.args.disk.now _ (λ left may. inl (stands_left c.args.self.now.control (g.D.Disk.files c.args.disk.now c.args.self.now.control.file) (c.requires told) left may))
