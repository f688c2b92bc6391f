-- What holds of every content of a disk.
use Rattle.std.specs.Prelude.{◌≡◌, ℕ, ◌%◌, ◌^◌, List, length}
use Rattle.ring_types.specs.declared.entries.Entry.{Entry}
use Rattle.ring_types.specs.declared.schemas.Schema.{Schema}
use Rattle.edge_traits.specs.FileStates.{Contents}
use Rattle.edge_traits.specs.declared.disks.FileId.{FileId}
use Rattle.entry_group.specs.Files.{files}
use Rattle.binlog_store.specs.Added.{end_of}
use Rattle.binlog_store.specs.Damages.{LogFault}
use Rattle.binlog_store.specs.Mounting.{IsOfLog}
use Rattle.binlog_store.specs.Stands.{LogStands, last_length}

abbrev pub OneLogAtMost : Type 0
OneLogAtMost = (schema : Schema) (c : Contents) (a b : List Entry) → LogStands schema a c → LogStands schema b c → a ≡ b

-- the entry behind a log begins in the last of its files, behind the bytes of it; an offset has 64 bits
abbrev pub NextBeginsAtTheEnd : Type 0
NextBeginsAtTheEnd =
    (schema : Schema) (log : List Entry)
    → ((end_of schema log).file ≡ length (files schema log)) × ((end_of schema log).at % 2 ^ 64 ≡ last_length (files schema log) % 2 ^ 64)

abbrev pub StandsUndamaged : Type 0
StandsUndamaged =
    (schema : Schema) (c : Contents) (log : List Entry) (f : FileId) (at : ℕ) → LogStands schema log c → LogFault schema c f at → ⊥

abbrev pub OneFaultAtMost : Type 0
OneFaultAtMost =
    (schema : Schema) (c : Contents) (f g : FileId) (at to : ℕ) → LogFault schema c f at → LogFault schema c g to → (f ≡ g) × (at ≡ to)

-- contents that read alike stand for the same log, and have the same fault
pub record AreOfLog : Type 0 where
  pub log : (schema : Schema) (log : List Entry) → IsOfLog (LogStands schema log)
  pub fault : (schema : Schema) (f : FileId) (at : ℕ) → IsOfLog (λ c. LogFault schema c f at)
