-- What a list gives at a position fits, since each of its entries does.
use Rattle.std.proofs.Common.{◌≡◌, ℕ, List, Some, Result, Ok, Err}
use Rattle.std.specs.Prelude.{IfOk}
use Rattle.ring_types.specs.declared.entries.Entry.{Entry}
use Rattle.ring_types.specs.declared.schemas.Schema.{Schema}
use Rattle.ring_types.specs.Logs.{entry_at}
use Rattle.edge_traits.specs.Views.{AreEntries, IsEntryOf}
use Rattle.edge_traits.specs.declared.disks.DiskFault.{DiskFault}

pub entries_fit : (schema : Schema) (log : List Entry) (position : ℕ) → AreEntries schema log → (r : Result Entry DiskFault)
    → IfOk r (λ e. entry_at log position ≡ Some e) → IfOk r (IsEntryOf schema position)
entries_fit schema log position are (Ok e) found = are position e found
entries_fit schema log position are (Err fault) found = tt
