-- The first change whose key a prepared transaction writes, and what a call that prepares answers.
use Rattle.std.specs.Prelude.{◌≡◌, ℕ, suc, List, [], ◌∷◌, Option, Some, None, Result, Ok, Err}
use Rattle.ring_types.specs.declared.entries.Conflict.{Conflict}
use Rattle.ring_types.specs.declared.entries.Pair.{Pair}
use Rattle.ring_types.specs.declared.values.Change.{Change}
use Rattle.ring_model.specs.Actions.{holder_of}
use Rattle.prepared_txns.specs.declared.refusals.PrepareError.{PrepareError}
use Rattle.prepared_txns.specs.declared.refusals.PrepareError.TheVariants as prepare

-- changes are counted from this number on
abbrev pub conflict_from : ℕ → List Pair → List Change → Option Conflict
conflict_from n pairs [] = None
conflict_from n pairs (c ∷ changes) =
    elim (holder_of pairs c) [ Some p ↦ Some (record { change = n; holder = p.opid }) | None ↦ conflict_from (suc n) pairs changes ]

-- a conflict is told as it is; without one the call does its work, or lacks memory
abbrev pub Tells : Option Conflict → Result (Unit {0}) PrepareError → Type 0
Tells (Some c) result = result ≡ Err (prepare.Locked c.change c.holder)
Tells None (Ok done) = Unit {0}
Tells None (Err prepare.Memory) = Unit {0}
Tells None (Err (prepare.Locked change holder)) = ⊥
