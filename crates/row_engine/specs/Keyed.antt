-- For a private invariant alone: a map keeps each row under its own key.
use Rattle.std.specs.Prelude.{◌≡◌, List}
use Rattle.std.specs.List.{AllByRecursion}
use Rattle.ring_types.specs.declared.values.Value.{Value}
use Rattle.ring_types.specs.Rows.{key_of}

abbrev pub IsKeyed : List (Value × List Value) → Type 0
IsKeyed entries = AllByRecursion (λ e. e.0 ≡ key_of e.1) entries
