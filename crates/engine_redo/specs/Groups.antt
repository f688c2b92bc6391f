-- The files of an engine: its control file, and the redo files.
use Rattle.std.specs.Prelude.{true, false}
use Rattle.edge_traits.specs.Works.{Group}
use Rattle.edge_traits.specs.declared.disks.FileId.TheVariants as file

abbrev pub engine_files : Group
engine_files file.EngineCtl = true
engine_files (file.Redo n) = true
engine_files _ = false
