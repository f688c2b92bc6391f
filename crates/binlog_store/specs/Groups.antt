-- The files of a log's store: its control file, and the binary log files.
use Rattle.std.specs.Prelude.{true, false}
use Rattle.edge_traits.specs.Works.{Group}
use Rattle.edge_traits.specs.declared.disks.FileId.TheVariants as file

abbrev pub log_control : Group
log_control file.LogCtl = true
log_control _ = false

abbrev pub binlog_files : Group
binlog_files (file.Binlog n) = true
binlog_files _ = false

abbrev pub log_files : Group
log_files file.LogCtl = true
log_files (file.Binlog n) = true
log_files _ = false
