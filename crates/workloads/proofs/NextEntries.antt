-- The entries before the next one are a prefix of the whole log, and with it they are the next longer prefix.
use Rattle.std.proofs.Common.{◌≡◌, ℕ, ◌+◌, ◌<◌, List, [], ◌∷◌, ◌++◌, length, take, get_or, sym, ap, subst, ◌∙◌}
use Rattle.std.proofs.lemmas.Grind.{take_at_read}
use Rattle.ring_types.specs.declared.entries.Entry.{Entry}
use Rattle.ring_types.specs.declared.schemas.Schema.{Schema}
use Rattle.binlog_store.specs.Stands.{IsWritten}
use Rattle.binlog_store.proofs.Prefixes.{written_first}

pub longer : (whole log : List Entry) (i : ℕ) (d e : Entry) → i < length whole → e ≡ get_or whole i d → log ≡ take i whole
    → log ++ e ∷ [] ≡ take (i + 1) whole
longer whole log i d e within is so_far =
    ap (λ (z : List Entry). z ++ e ∷ []) so_far
    ∙ (ap (λ (z : Entry). take i whole ++ z ∷ []) is ∙ sym (take_at_read whole i d within).1)

pub longer_written : (schema : Schema) (whole log : List Entry) (i : ℕ) (d e : Entry) → IsWritten schema whole
    → i < length whole → e ≡ get_or whole i d → log ≡ take i whole → IsWritten schema (log ++ e ∷ [])
longer_written schema whole log i d e written within is so_far =
    subst (IsWritten schema) (sym (longer whole log i d e within is so_far)) (written_first schema (i + 1) whole written)
