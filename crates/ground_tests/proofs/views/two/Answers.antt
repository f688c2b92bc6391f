use Rattle.std.proofs.Common.{◌≡◌, ℕ, zero, suc, [], ◌∷◌, Some, refl, sym, subst, arith}
use Rattle.ring_types.specs.declared.entries.Entry.{Entry}
use Rattle.ring_types.specs.declared.schemas.Schema.{Schema}
use Rattle.edge_traits.specs.Views.{AreEntries, IsEntryOf}
use Rattle.ground_tests.proofs.views.two.Goals as goal

both : (schema : Schema) (a b : Entry) → IsEntryOf schema 1 a → IsEntryOf schema 2 b → AreEntries schema (a ∷ b ∷ [])
both schema a b first second zero e found = cc
both schema a b first second (suc zero) e found = let is : a ≡ e = cc in subst (IsEntryOf schema 1) is first
both schema a b first second (suc (suc zero)) e found = let is : b ≡ e = cc in subst (IsEntryOf schema 2) is second
both schema a b first second (suc (suc (suc k))) e found = cc

pub returns-clause-entries : goal.returns-clause-entries
returns-clause-entries c schema =
    both schema c.entry.result c.entry-2.result
    (subst (IsEntryOf schema 1) (sym c.entry.ensures) (record { placed = refl; fits = refl; group_fits = omega arith }))
    (subst (IsEntryOf schema 2) (sym c.entry-2.ensures) (record { placed = refl; fits = refl; group_fits = omega arith }))
