-- What a store keeps beside its log follows the log: entries behind it leave those that are applied.
use Rattle.std.proofs.Common.{◌≡◌, ℕ, ◌+◌, ◌≤◌, List, [], ◌++◌, length, Option, Some, None, refl, sym, subst, arith}
use Rattle.std.specs.Prelude.{option_map, IfSome}
use Rattle.std.proofs.lemmas.List.{take-append-le}
use Rattle.ring_types.specs.declared.entries.Entry.{Entry}
use Rattle.ring_types.specs.declared.gtid_sets.ServerSet.{ServerSet}
use Rattle.ring_types.specs.declared.schemas.Schema.{Schema}
use Rattle.ring_types.specs.Logs.{rotates}
use Rattle.ring_types.specs.Rows as tables
use Rattle.row_engine.specs.Filled.{Filled}
use Rattle.node_store.specs.Kept.{IsKept, Lengthens}
use Rattle.node_store.proofs.Ends.{rotates-append}
use Rattle.node_store.proofs.Sets.{none_yet}

abbrev rows_of : List Entry → Option Filled → Type 0
rows_of applied held = IfSome held (λ (t : Filled). t.rows ≡ tables.rows t.schema applied)

pub kept_longer : (log more : List Entry) (set new : List ServerSet) (file applied : ℕ) (held : Option Filled) → IsKept log set file applied held
    → Lengthens more set new → applied ≤ length log → IsKept (log ++ more) new (file + rotates more) applied held
kept_longer log more set new file applied held kept longer inside = record {
  set_is = longer log kept.set_is;
  file_is = omega (arith, kept.file_is, rotates-append log more);
  rows_are = subst (λ (l : List Entry). rows_of l held) (sym (take-append-le applied log more inside)) kept.rows_are;
}

first_rows : (engine : Option Schema) → rows_of [] (option_map (λ (s : Schema). record { schema = s; rows = tables.empty_tables s }) engine)
unfolding tables.rows
first_rows None = tt
first_rows (Some s) = refl

-- a store that never had an entry
pub kept_first : (engine : Option Schema) (held : Option Filled)
    → held ≡ option_map (λ (s : Schema). record { schema = s; rows = tables.empty_tables s }) engine
    → IsKept [] [] 1 0 held
kept_first engine held is = record { set_is = none_yet; file_is = refl; rows_are = subst (rows_of []) (sym is) (first_rows engine) }
