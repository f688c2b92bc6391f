-- The log once a plan's actions are done: the first so many entries of the log below, and then those added.
use Rattle.std.specs.Prelude.{◌≡◌, ℕ, ◌+◌, ◌^◌, ◌<◌, ◌≤◌, List, ◌++◌, length, take, Some, IfSome, slice_get}
use Rattle.std.specs.Option.{option_map}
use Rattle.ring_types.specs.declared.entries.Entry.{Entry}
use Rattle.ring_types.specs.declared.schemas.Schema.{Schema}
use Rattle.edge_traits.specs.Views.{Sight, IsEntryOf}

abbrev pub after : ℕ → List Entry → List Entry → List Entry
after kept added log = take kept log ++ added

abbrev pub planned : ℕ → List Entry → Sight → Sight
planned kept added below = record below { log = option_map (after kept added) below.log; length = kept + length added }

-- the entries are those of the positions after this one
abbrev pub Follow : Schema → ℕ → List Entry → Type 0
Follow schema kept added = (k : ℕ) (e : Entry) → slice_get added k ≡ Some e → IsEntryOf schema (kept + 1 + k) e

pub record MayPlan (below : Sight) (kept : ℕ) (added : List Entry) : Type 0 where
  pub inside : kept ≤ below.length
  pub short : kept + length added < 2 ^ 64
  pub whole : IfSome below.log (λ log. length log ≡ below.length)
  pub added_follow : Follow below.schema kept added
