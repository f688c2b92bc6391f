-- What a lawful node's own log and term give: its term, its last opid and every opid of its log stay within the limits that a message asks for.
use Rattle.std.proofs.Common.{◌≡◌, ℕ, ◌<◌, ◌≤◌, [], ◌∷◌, ◌++◌, List, arith, length, refl, subst, suc, true, zero}
use Rattle.std.proofs.lemmas.Bool.Decides.{nat_tests}
use Rattle.std.specs.Prelude.{nat_le, nat_lt}
use Rattle.std.specs.List.{Contains, list_all}
use Rattle.ring_types.specs.declared.limits.TheConstants.{TERM_END}
use Rattle.ring_types.specs.declared.entries.Entry.{Entry}
use Rattle.ring_types.specs.declared.entries.Opid.{Opid}
use Rattle.ring_types.specs.declared.schemas.Schema.{Schema}
use Rattle.ring_types.specs.Logs.{last, term_at}
use Rattle.ring_types.specs.Rings.{Layout}
use Rattle.ring_model.specs.declared.effects.Say.{Say}
use Rattle.ring_model.specs.declared.effects.Step.{Step}
use Rattle.ring_model.specs.declared.effects.Action.{Action}
use Rattle.ring_model.specs.declared.messages.Message.{Message}
use Rattle.ring_model.specs.declared.nodes.Durable.{Durable}
use Rattle.ring_model.specs.declared.nodes.Soft.{Soft}
use Rattle.ring_model.specs.Steps.{advance}
use Rattle.ring_model.specs.WellFormed.{IsWellFormed, opid_fits}
use Rattle.ring_types.proofs.Booleans.{both_true}
use Rattle.ring_lawful.proofs.Chains.{Ordered}
use Rattle.ring_lawful.proofs.Sized.{Sized}

-- ---- lists of messages
abbrev pub AllWell : Schema → List Message → Type 0
AllWell schema [] = Unit {0}
AllWell schema (m ∷ ms) = IsWellFormed schema m × AllWell schema ms

abbrev pub Well : Layout → Step → Type 0
Well ring st = AllWell ring.schema st.plan.messages

pub well_join : (schema : Schema) (a b : List Message) → AllWell schema a → AllWell schema b → AllWell schema (a ++ b)
well_join schema [] b x y = y
well_join schema (m ∷ a) b x y = (x.0, well_join schema a b x.1 y)

pub well_each : (schema : Schema) (ms : List Message) (m : Message) → AllWell schema ms → Contains ms m → IsWellFormed schema m
well_each schema [] m x c = absurd (omega (arith, c.1))
well_each schema (y ∷ ms) m x (zero, lt, is) = subst (IsWellFormed schema) (let z : y ≡ m = cc in z) x.0
well_each schema (y ∷ ms) m x (suc k, lt, is) = well_each schema ms m x.1 (k, omega arith, is)

-- ---- opids
pub opid_is : (o : Opid) → o.term < TERM_END → o.position < TERM_END → opid_fits o ≡ true
opid_is o a b =
    let x : nat_lt o.term TERM_END ≡ true = grind (arith, nat_tests, a) in
    let y : nat_lt o.position TERM_END ≡ true = grind (arith, nat_tests, b) in
    rw (x, y) refl

pub opid_parts : (o : Opid) → opid_fits o ≡ true → (o.term < TERM_END) × (o.position < TERM_END)
opid_parts o is =
    let z = both_true (nat_lt o.term TERM_END) (nat_lt o.position TERM_END) is in
    let a = z.0 in
    let b = z.1 in
    (grind (arith, nat_tests, a), grind (arith, nat_tests, b))

pub term_low : (log : List Entry) (top k : ℕ) → list_all (λ (e : Entry). nat_le e.opid.term top) log ≡ true → term_at log k ≤ top
term_low log top zero all = omega arith
term_low [] top (suc k) all = omega arith
term_low (e ∷ log) top (suc zero) all =
    let z = (both_true (nat_le e.opid.term top) (list_all (λ (e : Entry). nat_le e.opid.term top) log) all).0 in grind (arith, nat_tests, z)
term_low (e ∷ log) top (suc (suc k)) all =
    term_low log top (suc k) (both_true (nat_le e.opid.term top) (list_all (λ (e : Entry). nat_le e.opid.term top) log) all).1

-- what a node's own log and term give
pub record Tells (ring : Layout) (d : Durable) (s : Soft) : Type 0 where
  pub ordered : Ordered d
  pub sized : Sized ring d
  pub short : length d.log < TERM_END
  pub inside : s.commit ≤ length d.log

pub last_fits : (ring : Layout) (d : Durable) (s : Soft) → Tells ring d s → opid_fits (last d.log) ≡ true
last_fits ring d s x = let t = x.sized.term in let a = term_low d.log d.term (length d.log) x.ordered.low in opid_is (last d.log) (omega (arith, t, a)) x.short

pub advance_well : (schema : Schema) (ring : Layout) (me : ℕ) (d : Durable) (s : Soft) (first : List Action) (says : List Say)
    → AllWell schema (advance ring me d s first says).plan.messages
unfolding advance
advance_well schema ring me d s first says = tt
