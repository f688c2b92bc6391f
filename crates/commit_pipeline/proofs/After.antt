-- what stands at a position of the log after a plan's actions
use Rattle.std.proofs.Common.{◌≡◌, Bool, true, false, nat_le, ℕ, zero, suc, ◌+◌, ◌-◌, ◌<◌, ◌≤◌, List, [], ◌∷◌, ◌++◌, length, take, Option, Some, None, Result, Ok, Err, slice_get, refl, sym, ap, ◌∙◌, arith}
use Rattle.std.specs.Prelude.{IfSome, IfOk}
use Rattle.std.specs.Option.{option_map}
use Rattle.ring_types.specs.declared.entries.Entry.{Entry}
use Rattle.ring_types.specs.Logs.{entry_at, term_at, region_at}
use Rattle.edge_traits.specs.declared.disks.DiskFault.{DiskFault}
use Rattle.ring_types.proofs.Positions.{term_at-found, term_at-past, region_at-found, region_at-past}
use Rattle.std.proofs.lemmas.Bool.Decides.{nat_tests}
use Rattle.ring_types.specs.declared.schemas.Schema.{Schema}
use Rattle.commit_pipeline.specs.Placed.{IsPlaced}
use Rattle.commit_pipeline.specs.Planned.{after, Follow}

pub term_at-front : (l xs : List Entry) (k p : ℕ) → p ≤ k → k ≤ length l → term_at (take k l ++ xs) p ≡ term_at l p
term_at-front l xs k zero h inside = refl
term_at-front [] xs zero (suc p) h inside = absurd (omega arith)
term_at-front [] xs (suc k) (suc p) h inside = absurd (omega arith)
term_at-front (e ∷ l) xs zero (suc p) h inside = absurd (omega arith)
term_at-front (e ∷ l) xs (suc k) (suc zero) h inside = refl
term_at-front (e ∷ l) xs (suc k) (suc (suc p)) h inside = term_at-front l xs k (suc p) (omega arith) (omega arith)

pub region_at-front : (home : ℕ) (l xs : List Entry) (k p : ℕ) → p ≤ k → k ≤ length l → region_at home (take k l ++ xs) p ≡ region_at home l p
region_at-front home l xs k zero h inside = refl
region_at-front home [] xs zero (suc p) h inside = absurd (omega arith)
region_at-front home [] xs (suc k) (suc p) h inside = absurd (omega arith)
region_at-front home (e ∷ l) xs zero (suc p) h inside = absurd (omega arith)
region_at-front home (e ∷ l) xs (suc k) (suc zero) h inside = refl
region_at-front home (e ∷ l) xs (suc k) (suc (suc p)) h inside = region_at-front home l xs k (suc p) (omega arith) (omega arith)

slice_get-after : (l xs : List Entry) (k i m : ℕ) → m ≡ k + i → k ≤ length l → slice_get (take k l ++ xs) m ≡ slice_get xs i
slice_get-after l xs zero i m is inside = let same : m ≡ i = omega arith in ap (slice_get xs) same
slice_get-after [] xs (suc k) i m is inside = absurd (omega arith)
slice_get-after (e ∷ l) xs (suc k) i zero is inside = absurd (omega arith)
slice_get-after (e ∷ l) xs (suc k) i (suc m) is inside = slice_get-after l xs k i m (omega arith) (omega arith)

pub entry_at-added : (l xs : List Entry) (k p : ℕ) → k ≤ length l → k < p → entry_at (take k l ++ xs) p ≡ slice_get xs (p - (k + 1))
entry_at-added l xs k zero inside h = absurd (omega arith)
entry_at-added l xs k (suc q) inside h = slice_get-after l xs k (suc q - (k + 1)) q (omega arith) inside

-- the same of a log that may be told
pub front_term : (told : Option (List Entry)) (n kept : ℕ) (added : List Entry) (p : ℕ) (result : Result ℕ DiskFault) → IfSome told (λ log. length log ≡ n) → kept ≤ n → p ≤ kept
    → IfSome told (λ log. IfOk result (λ it. it ≡ term_at log p)) → IfSome (option_map (after kept added) told) (λ log. IfOk result (λ it. it ≡ term_at log p))
front_term None n kept added p result whole inside h is = tt
front_term (Some log) n kept added p (Err e) whole inside h is = tt
front_term (Some log) n kept added p (Ok v) whole inside h is = is ∙ sym (term_at-front log added kept p h (omega arith))

pub front_region : (told : Option (List Entry)) (home n kept : ℕ) (added : List Entry) (p : ℕ) (result : Result ℕ DiskFault) → IfSome told (λ log. length log ≡ n) → kept ≤ n → p ≤ kept
    → IfSome told (λ log. IfOk result (λ it. it ≡ region_at home log p)) → IfSome (option_map (after kept added) told) (λ log. IfOk result (λ it. it ≡ region_at home log p))
front_region None home n kept added p result whole inside h is = tt
front_region (Some log) home n kept added p (Err e) whole inside h is = tt
front_region (Some log) home n kept added p (Ok v) whole inside h is = is ∙ sym (region_at-front home log added kept p h (omega arith))

pub added_term : (told : Option (List Entry)) (n kept : ℕ) (added : List Entry) (p : ℕ) (e : Entry) → IfSome told (λ log. length log ≡ n) → kept ≤ n → kept < p
    → Some e ≡ slice_get added (p - (kept + 1)) → IfSome (option_map (after kept added) told) (λ log. e.opid.term ≡ term_at log p)
added_term None n kept added p e whole inside h is = tt
added_term (Some log) n kept added p e whole inside h is = term_at-found (take kept log ++ added) p e (entry_at-added log added kept p (omega arith) h ∙ sym is)

pub added_region : (told : Option (List Entry)) (home n kept : ℕ) (added : List Entry) (p : ℕ) (e : Entry) → IfSome told (λ log. length log ≡ n) → kept ≤ n → kept < p
    → Some e ≡ slice_get added (p - (kept + 1)) → IfSome (option_map (after kept added) told) (λ log. e.region ≡ region_at home log p)
added_region None home n kept added p e whole inside h is = tt
added_region (Some log) home n kept added p e whole inside h is = region_at-found home (take kept log ++ added) p e (entry_at-added log added kept p (omega arith) h ∙ sym is)

pub past_term : (told : Option (List Entry)) (n kept : ℕ) (added : List Entry) (p : ℕ) → IfSome told (λ log. length log ≡ n) → kept ≤ n → kept < p
    → None ≡ slice_get added (p - (kept + 1)) → IfSome (option_map (after kept added) told) (λ log. 0 ≡ term_at log p)
past_term None n kept added p whole inside h is = tt
past_term (Some log) n kept added p whole inside h is = term_at-past (take kept log ++ added) p (entry_at-added log added kept p (omega arith) h ∙ sym is)

pub past_region : (told : Option (List Entry)) (home n kept : ℕ) (added : List Entry) (p : ℕ) (result : Result ℕ DiskFault) → IfSome told (λ log. length log ≡ n) → kept ≤ n → kept < p
    → None ≡ slice_get added (p - (kept + 1)) → IfSome told (λ log. IfOk result (λ it. it ≡ region_at home log 0)) → IfSome (option_map (after kept added) told) (λ log. IfOk result (λ it. it ≡ region_at home log p))
past_region None home n kept added p result whole inside h none is = tt
past_region (Some log) home n kept added p (Err e) whole inside h none is = tt
past_region (Some log) home n kept added p (Ok v) whole inside h none is = is ∙ region_at-past home (take kept log ++ added) p (entry_at-added log added kept p (omega arith) h ∙ sym none)

-- ---- places
entry_at-front : (l xs : List Entry) (k p : ℕ) → p ≤ k → k ≤ length l → entry_at (take k l ++ xs) p ≡ entry_at l p
entry_at-front l xs k zero h inside = refl
entry_at-front [] xs zero (suc p) h inside = absurd (omega arith)
entry_at-front [] xs (suc k) (suc p) h inside = absurd (omega arith)
entry_at-front (e ∷ l) xs zero (suc p) h inside = absurd (omega arith)
entry_at-front (e ∷ l) xs (suc k) (suc zero) h inside = refl
entry_at-front (e ∷ l) xs (suc k) (suc (suc p)) h inside = entry_at-front l xs k (suc p) (omega arith) (omega arith)

pub placed_after : (schema : Schema) (log added : List Entry) (kept : ℕ) → IsPlaced log → kept ≤ length log → Follow schema kept added → IsPlaced (after kept added log)
placed_after schema log added kept placed inside follow = λ p e is. by p e is (nat_le p kept) refl
  where
    by : (p : ℕ) (e : Entry) → entry_at (after kept added log) p ≡ Some e → (b : Bool) → nat_le p kept ≡ b → e.opid.position ≡ p
    by p e is true h = placed p e (sym (entry_at-front log added kept p (grind (arith, nat_tests)) inside) ∙ is)
    by p e is false h =
        let above : kept < p = grind (arith, nat_tests) in
        let there = follow (p - (kept + 1)) e (sym (entry_at-added log added kept p inside above) ∙ is) in
        let same : kept + 1 + (p - (kept + 1)) ≡ p = omega arith in
        there.placed ∙ same
