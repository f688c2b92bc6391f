use Rattle.std.proofs.Common.{◌≡◌, ◌≤◌, ◌-◌, length}
use Rattle.engine_redo.specs.Mounted.{schema_of}
use Rattle.engine_redo.specs.Mounting.{HasRedone}
use Rattle.engine_redo.proofs.engines.Engine.redo_all.Given as goal

abbrev pub invariant-loop-self : goal.invariant-loop-self
invariant-loop-self l =
    HasRedone l.bytes l.self × (schema_of l.self ≡ schema_of l.fn.self) × (l.self.control ≡ l.fn.self.control) × (l.self.point.number ≡ l.fn.self.point.number)
    × (l.self.point.end ≤ length l.bytes)

abbrev pub decreases-loop-self : goal.decreases-loop-self
decreases-loop-self l = length l.bytes - l.self.point.end
