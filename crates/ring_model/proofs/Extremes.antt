-- The three computed values are what their statements say: by induction over the list, or down from the top.
use Rattle.std.proofs.Common.{◌≡◌, ◌⊎◌, inl, inr, ℕ, ◌+◌, ◌-◌, ◌<◌, ◌≤◌, ◌==◌, ◌∙◌, if◌then◌else◌, Bool, List, [], ◌∷◌, Option, Some, None, arith, false, refl, subst, suc, sym, true, zero}
use Rattle.std.specs.Prelude.{nat_le, slice_get}
use Rattle.std.proofs.lemmas.Bool.{cases_eq}
use Rattle.std.proofs.lemmas.Bool.Decides.{nat_tests}
use Rattle.ring_types.specs.declared.entries.Entry.{Entry}
use Rattle.ring_types.specs.Logs.{term_at}
use Rattle.ring_types.specs.Sizes.{group_size}
use Rattle.ring_model.specs.declared.effects.Tear.{Tear}
use Rattle.ring_model.specs.Extremes.{BatchIsLongest, GreatestPasses, IsGreatest, IsLongest, TearIs, TearIsFirst}
use Rattle.ring_model.specs.Replication.{batch_length, first_tear}
use Rattle.ring_model.specs.Steps.{greatest}

-- ---- a batch
pub batch_is_longest : BatchIsLongest
batch_is_longest schema zero bytes entries = record { inside = omega arith; few = omega arith; fits = omega arith; longest = λ a b. absurd (omega (arith, b)) }
batch_is_longest schema (suc count) bytes [] =
    record { inside = omega arith; few = omega arith; fits = omega arith; longest = λ a b. absurd (omega (arith, a)) }
batch_is_longest schema (suc count) bytes (e ∷ entries) = go (nat_le (group_size schema e.payload) bytes) refl (batch_is_longest schema count (bytes - group_size schema e.payload) entries)
  where
    go : (b : Bool) → nat_le (group_size schema e.payload) bytes ≡ b
        → IsLongest schema count (bytes - group_size schema e.payload) entries (batch_length schema count (bytes - group_size schema e.payload) entries)
        → IsLongest schema (suc count) bytes (e ∷ entries) (if b then suc (batch_length schema count (bytes - group_size schema e.payload) entries) else 0)
    go true is rest =
        let small : group_size schema e.payload ≤ bytes = grind (arith, nat_tests, is) in
        let a = rest.inside in
        let b = rest.few in
        let c = rest.fits in
        record {
          inside = omega (arith, a);
          few = omega (arith, b);
          fits = omega (arith, small, c);
          longest = λ x y. (let z = rest.longest (omega (arith, x)) (omega (arith, y)) in omega (arith, small, z));
        }
    go false is rest =
        let large : bytes < group_size schema e.payload = grind (arith, nat_tests, is) in
        record { inside = omega arith; few = omega arith; fits = omega arith; longest = λ x y. omega (arith, large) }

-- ---- a tear
shifted : (log : List Entry) (commit position sent : ℕ) (terms : List ℕ) → term_at log position ≡ sent → (o : Option Tear)
    → TearIs log commit (suc position) terms o → TearIs log commit position (sent ∷ terms) o
shifted log commit position sent terms same None x = go
  where
    go : (k other : ℕ) → position + k ≤ commit → slice_get (sent ∷ terms) k ≡ Some other → term_at log (position + k) ≡ other
    go zero other low at = let e : position + 0 ≡ position = omega arith in let s : sent ≡ other = cc in rw e (same ∙ s)
    go (suc k) other low at = let e : position + suc k ≡ suc position + k = omega arith in rw e (x k other (omega (arith, low)) at)
shifted log commit position sent terms same (Some t) x = record {
  place = suc x.place;
  at = x.at ∙ omega arith;
  committed = x.committed;
  sent = x.sent;
  kept = x.kept;
  differs = x.differs;
  least = go;
}
  where
    go : (k other : ℕ) → k < suc x.place → slice_get (sent ∷ terms) k ≡ Some other → term_at log (position + k) ≡ other
    go zero other low at = let e : position + 0 ≡ position = omega arith in let s : sent ≡ other = cc in rw e (same ∙ s)
    go (suc k) other low at = let e : position + suc k ≡ suc position + k = omega arith in rw e (x.least k other (omega (arith, low)) at)

pub tear_is_first : TearIsFirst
tear_is_first log commit position [] = λ k sent low at. absurd cc
tear_is_first log commit position (sent ∷ terms) = go (nat_le position commit) refl (term_at log position == sent) refl (tear_is_first log commit (suc position) terms)
  where
    go : (a : Bool) → nat_le position commit ≡ a → (b : Bool) → (term_at log position == sent) ≡ b
        → TearIs log commit (suc position) terms (first_tear log commit (suc position) terms)
        → TearIs log commit position (sent ∷ terms) (if a then (if b then first_tear log commit (suc position) terms else Some (record { position = position; kept_term = term_at log position; sent_term = sent })) else None)
    go true x true y rest = shifted log commit position sent terms (grind (arith, nat_tests, y)) (first_tear log commit (suc position) terms) rest
    go true x false y rest = record {
      place = 0;
      at = omega arith;
      committed = grind (arith, nat_tests, x);
      sent = refl;
      kept = refl;
      differs = λ e. (let z : (term_at log position == sent) ≡ true = grind (arith, nat_tests, e) in let w : true ≡ false = sym z ∙ y in cc);
      least = λ k other low at. absurd (omega (arith, low));
    }
    go false x b y rest = λ k other low at. absurd (let z : commit < position = grind (arith, nat_tests, x) in omega (arith, z, low))

-- ---- the greatest position that passes
pub greatest_passes : GreatestPasses
greatest_passes test floor zero = record { reached = inl refl; none_above = λ k above top. absurd (omega (arith, above, top)) }
greatest_passes test floor (suc n) = go (nat_le (suc n) floor) refl (test (suc n)) refl (greatest_passes test floor n)
  where
    wider : (m : ℕ) → (m ≡ floor) ⊎ ((floor < m) × (m ≤ n) × (test m ≡ true)) → (m ≡ floor) ⊎ ((floor < m) × (m ≤ suc n) × (test m ≡ true))
    wider m (inl is) = inl is
    wider m (inr x) = inr (x.0, omega (arith, x.1), x.2)

    one_more : (m k : ℕ) → ((j : ℕ) → m < j → j ≤ n → test j ≡ false) → test (suc n) ≡ false → m < k → k ≤ suc n → test k ≡ false
    one_more m k none fails above top =
        elim (cases_eq k (suc n)) [ inl here ↦ subst (λ (j : ℕ). test j ≡ false) (sym here) fails | inr other ↦ none k above (omega (arith, other, top)) ]

    go : (a : Bool) → nat_le (suc n) floor ≡ a → (b : Bool) → test (suc n) ≡ b → IsGreatest test floor n (greatest test floor n)
        → IsGreatest test floor (suc n) (if a then floor else (if b then suc n else greatest test floor n))
    go true x b y rest =
        record { reached = inl refl; none_above = λ k above top. absurd (let z : suc n ≤ floor = grind (arith, nat_tests, x) in omega (arith, z, above, top)) }
    go false x true y rest = record {
      reached = inr ((let z : floor < suc n = grind (arith, nat_tests, x) in z), omega arith, y);
      none_above = λ k above top. absurd (omega (arith, above, top));
    }
    go false x false y rest = record {
      reached = wider (greatest test floor n) rest.reached;
      none_above = λ k above top. one_more (greatest test floor n) k rest.none_above y above top;
    }
