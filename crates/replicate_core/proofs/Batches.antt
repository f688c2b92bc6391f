-- A batch grows by the entry at its end while there is room, so what it is in the end is what it is so far with what the room left takes of the rest.
use Rattle.std.proofs.Common.{◌≡◌, ℕ, zero, suc, ◌+◌, ◌-◌, ◌<◌, ◌≤◌, Bool, true, false, nat_le, if◌then◌else◌, List, [], ◌∷◌, ◌++◌, take, drop, Option, Some, None, slice_get, sym, ap, ◌∙◌, append_assoc, append-nil, arith}
use Rattle.std.specs.Prelude.{IfSome}
use Rattle.std.proofs.lemmas.Bool.Decides.{nat_tests}
use Rattle.ring_types.specs.declared.entries.Entry.{Entry}
use Rattle.ring_types.specs.declared.schemas.Schema.{Schema}
use Rattle.ring_types.specs.Logs.{entry_at}
use Rattle.ring_types.specs.Sizes.{group_size}
use Rattle.ring_model.specs.Replication.{batch_length}
use Rattle.replicate_core.specs.Beats.{batch_left}

drop_at : (xs : List Entry) (k : ℕ) (e : Entry) → slice_get xs k ≡ Some e → drop k xs ≡ e ∷ drop (suc k) xs
drop_at [] k e is = absurd cc
drop_at (x ∷ xs) zero e is = let same : x ≡ e = cc in ap (λ (y : Entry). y ∷ xs) same
drop_at (x ∷ xs) (suc k) e is = drop_at xs k e is

-- ---- one entry more
left-more : (schema : Schema) (count bytes : ℕ) (e : Entry) (rest : List Entry) → group_size schema e.payload ≤ bytes
    → batch_left schema (suc count) bytes (e ∷ rest) ≡ e ∷ batch_left schema count (bytes - group_size schema e.payload) rest
left-more schema count bytes e rest fits =
    let test : nat_le (group_size schema e.payload) bytes ≡ true = grind (arith, nat_tests) in
    ap (λ (b : Bool). take (if b then suc (batch_length schema count (bytes - group_size schema e.payload) rest) else 0) (e ∷ rest)) test

left-none : (schema : Schema) (count bytes : ℕ) (e : Entry) (rest : List Entry) → bytes < group_size schema e.payload
    → batch_left schema (suc count) bytes (e ∷ rest) ≡ []
left-none schema count bytes e rest over =
    let test : nat_le (group_size schema e.payload) bytes ≡ false = grind (arith, nat_tests) in
    ap (λ (b : Bool). take (if b then suc (batch_length schema count (bytes - group_size schema e.payload) rest) else 0) (e ∷ rest)) test

-- ---- the same along a log that may be told: what is so far is all, once nothing more is taken
pub ends_full : (told : Option (List Entry)) (schema : Schema) (batch : List Entry) (left bytes at : ℕ) (all : List Entry → List Entry) → left ≡ 0
    → IfSome told (λ log. batch ++ batch_left schema left bytes (drop at log) ≡ all log) → IfSome told (λ log. batch ≡ all log)
ends_full None schema batch left bytes at all none so_far = tt
ends_full (Some log) schema batch left bytes at all none so_far =
    sym (append-nil batch) ∙ (ap (λ (n : ℕ). batch ++ batch_left schema n bytes (drop at log)) (sym none) ∙ so_far)

rest_is : (log : List Entry) (at : ℕ) (e : Entry) → entry_at log (at + 1) ≡ Some e → drop at log ≡ e ∷ drop (at + 1) log
rest_is log at e is =
    let one : at + 1 ≡ suc at = omega arith in
    drop_at log at e (ap (entry_at log) (sym one) ∙ is) ∙ ap (λ (n : ℕ). e ∷ drop n log) (sym one)

pub ends_over : (told : Option (List Entry)) (schema : Schema) (batch : List Entry) (left bytes at size : ℕ) (e : Entry) (all : List Entry → List Entry)
    → 0 < left → size ≡ group_size schema e.payload → bytes < size
    → IfSome told (λ log. entry_at log (at + 1) ≡ Some e)
    → IfSome told (λ log. batch ++ batch_left schema left bytes (drop at log) ≡ all log) → IfSome told (λ log. batch ≡ all log)
ends_over None schema batch left bytes at size e all some is over there so_far = tt
ends_over (Some log) schema batch zero bytes at size e all some is over there so_far = absurd (omega arith)
ends_over (Some log) schema batch (suc count) bytes at size e all some is over there so_far =
    let none : batch_left schema (suc count) bytes (drop at log) ≡ [] =
    ap (batch_left schema (suc count) bytes) (rest_is log at e there) ∙ left-none schema count bytes e (drop (at + 1) log) (omega (arith, is, over)) in
    sym (append-nil batch) ∙ (ap (λ (xs : List Entry). batch ++ xs) (sym none) ∙ so_far)

pub goes_on : (told : Option (List Entry)) (schema : Schema) (batch longer : List Entry) (left fewer bytes less at next size : ℕ) (e : Entry)
    (all : List Entry → List Entry)
    → left ≡ fewer + 1 → size ≡ group_size schema e.payload → size ≤ bytes → less ≡ bytes - size → next ≡ at + 1 → longer ≡ batch ++ e ∷ []
    → IfSome told (λ log. entry_at log (at + 1) ≡ Some e)
    → IfSome told (λ log. batch ++ batch_left schema left bytes (drop at log) ≡ all log)
    → IfSome told (λ log. longer ++ batch_left schema fewer less (drop next log) ≡ all log)
goes_on None schema batch longer left fewer bytes less at next size e all one is fits rest up pushed there so_far = tt
goes_on (Some log) schema batch longer left fewer bytes less at next size e all one is fits rest up pushed there so_far =
    let suc_is : left ≡ suc fewer = omega (arith, one) in
    let less_is : less ≡ bytes - group_size schema e.payload = rest ∙ ap (λ (n : ℕ). bytes - n) is in
    let L : List Entry → ℕ → ℕ → List Entry = λ xs n k. xs ++ batch_left schema fewer n (drop k log) in
    let step : batch_left schema left bytes (drop at log) ≡ e ∷ batch_left schema fewer (bytes - group_size schema e.payload) (drop (at + 1) log) =
    ap (λ (n : ℕ). batch_left schema n bytes (drop at log)) suc_is
    ∙ (ap (batch_left schema (suc fewer) bytes) (rest_is log at e there)
    ∙ left-more schema fewer bytes e (drop (at + 1) log) (omega (arith, is, fits))) in
    ap (λ (xs : List Entry). L xs less next) pushed
    ∙ (ap (λ (n : ℕ). L (batch ++ e ∷ []) n next) less_is
    ∙ (ap (λ (k : ℕ). L (batch ++ e ∷ []) (bytes - group_size schema e.payload) k) up
    ∙ (append_assoc batch (e ∷ []) (batch_left schema fewer (bytes - group_size schema e.payload) (drop (at + 1) log))
    ∙ (ap (λ (xs : List Entry). batch ++ xs) (sym step) ∙ so_far))))
