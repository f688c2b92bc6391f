use Rattle.std.proofs.Common.{◌≡◌, drop}
use Rattle.std.specs.List.{flat_map}
use Rattle.ring_types.specs.declared.entries.Keep.TheVariants as keep
use Rattle.disk_memory.specs.Records.{done, kept}
use Rattle.disk_memory.specs.Undone.{edits_of}
use Rattle.disk_memory.proofs.stored_files.redo_halves.Given as goal

abbrev pub invariant-loop-edit : goal.invariant-loop-edit
invariant-loop-edit l = done (flat_map (kept keep.Half) (edits_of (drop l.edit-index l.pending))) l.bytes.items ≡ done
    (flat_map (kept keep.Half) (edits_of l.pending)) l.fn.bytes.items
