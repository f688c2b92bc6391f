-- A log's end is where its last file ends, and each group has an event at least.
use Rattle.std.proofs.Common.{◌≡◌, ◌≤◌, List, length, ap, ◌∙◌, arith}
use Rattle.ring_types.specs.declared.entries.Entry.{Entry}
use Rattle.ring_types.specs.declared.entries.Payload.{Payload}
use Rattle.ring_types.specs.declared.entries.Payload.TheVariants as payload
use Rattle.ring_types.specs.declared.entries.Place.{Place}
use Rattle.ring_types.specs.declared.schemas.Schema.{Schema}
use Rattle.ring_types.specs.Sizes.{group_bytes}
use Rattle.entry_group.specs.Files.{files}
use Rattle.binlog_store.specs.Held.{IsEnd}
use Rattle.binlog_store.specs.declared.ends.LogEnd.{LogEnd}
use Rattle.binlog_store.proofs.NextPlaces.{next_begins_at_the_end}

pub file_there : (schema : Schema) (log : List Entry) (end : LogEnd) → IsEnd schema log end → end.place.file ≡ length (files schema log)
file_there schema log end is = ap (λ (p : Place). p.file) is.place_is ∙ (next_begins_at_the_end schema log).0

pub some_bytes : (schema : Schema) (p : Payload) → 1 ≤ group_bytes schema p
some_bytes schema payload.NoOp = omega arith
some_bytes schema payload.Rotate = omega arith
some_bytes schema (payload.Txn t) = omega arith
