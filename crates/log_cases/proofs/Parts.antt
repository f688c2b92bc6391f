-- Two parts of a log that files can have make the log again, so files can have what they make.
use Rattle.std.proofs.Common.{◌≡◌, ℕ, List, ◌++◌, take, drop, sym, subst, ap₂, ◌∙◌, take-append-drop}
use Rattle.ring_types.specs.declared.entries.Entry.{Entry}
use Rattle.ring_types.specs.declared.schemas.Schema.{Schema}
use Rattle.binlog_store.specs.Stands.{IsWritten}

pub parts_written : (schema : Schema) (n : ℕ) (log first rest : List Entry) → first ≡ take n log → rest ≡ drop n log → IsWritten schema log
    → IsWritten schema (first ++ rest)
parts_written schema n log first rest first_is rest_is is =
    subst (IsWritten schema) (sym (ap₂ (λ a b. a ++ b) first_is rest_is ∙ take-append-drop n log)) is
