-- Logs as chains: each entry at the next position, of a term that is not below the one before; what allows each action keeps a durable part's log such a chain.
use Rattle.std.proofs.Common.{◌≡◌, ℕ, ◌+◌, ◌-◌, ◌<◌, ◌≤◌, [], ◌∷◌, ◌++◌, if◌then◌else◌, Bool, List, None, Option, Some, ap, arith, false, length, refl, subst, suc, sym, take, true, zero}
use Rattle.std.proofs.lemmas.Bool.Decides.{nat_tests}
use Rattle.std.proofs.lemmas.List.{length-take-le}
use Rattle.std.specs.Prelude.{nat_le, slice_get}
use Rattle.std.specs.List.{list_all}
use Rattle.ring_types.specs.declared.entries.Entry.{Entry}
use Rattle.ring_types.specs.declared.entries.Pair.{Pair}
use Rattle.ring_types.specs.Logs.{entry_at, term_at}
use Rattle.ring_types.specs.Rings.{Layout, runs_engine}
use Rattle.ring_model.specs.declared.effects.Action.{Action}
use Rattle.ring_model.specs.declared.effects.Action.TheVariants as action
use Rattle.ring_model.specs.declared.nodes.Durable.{Durable}
use Rattle.ring_model.specs.Actions.{all_done, done, is_prepared, pair_of}
use Rattle.ring_model.specs.Steps.{engine_actions, follow_actions, prepare_entry}
use Rattle.ring_types.proofs.Booleans.{both_true}
use Rattle.ring_lawful.proofs.Keeps.{KeepsOrder}
use Rattle.ring_lawful.proofs.Along.{Allowed, Along, allowed_along, allowed_join, along_end}
use Rattle.ring_lawful.proofs.Sized.{all_join, all_take, all_weaker}

-- entries after this term and position
abbrev pub Chain : ℕ → ℕ → List Entry → Type 0
Chain term position [] = Unit {0}
Chain term position (e ∷ entries) = (e.opid.position ≡ suc position) × (term ≤ e.opid.term) × Chain e.opid.term (suc position) entries

-- the term at the end
abbrev pub end : ℕ → List Entry → ℕ
end term [] = term
end term (e ∷ entries) = end e.opid.term entries

-- ---- from places to chains and back
pub chain_of : (log : List Entry) (t p : ℕ) → ((k : ℕ) (e : Entry) → slice_get log k ≡ Some e → e.opid.position ≡ suc (p + k)) → ((k : ℕ) → k < length log → t ≤ term_at log (suc k))
    → ((j k : ℕ) → j ≤ k → k < length log → term_at log (suc j) ≤ term_at log (suc k)) → Chain t p log
chain_of [] t p placed low rises = tt
chain_of (x ∷ log) t p placed low rises = (
  (let z = placed zero x refl in omega (arith, z)),
  low zero (omega arith),
  chain_of log x.opid.term (suc p) (λ k e is. let z = placed (suc k) e is in omega (arith, z)) (λ k lt. rises zero (suc k) (omega arith) (omega (arith, lt))) (λ j k le lt. rises (suc j) (suc k) (omega (arith, le)) (omega (arith, lt))),
)

pub log_chain : (log : List Entry) → ((k : ℕ) (e : Entry) → entry_at log k ≡ Some e → e.opid.position ≡ k) → ((j k : ℕ) → j ≤ k → k ≤ length log → term_at log j ≤ term_at log k) → Chain 0 0 log
log_chain log placed rises = chain_of log 0 0 (λ k e is. let z = placed (suc k) e is in omega (arith, z)) (λ k lt. omega arith) (λ j k le lt. rises (suc j) (suc k) (omega (arith, le)) (omega (arith, lt)))

chain_place : (t p : ℕ) (log : List Entry) → Chain t p log → (k : ℕ) (e : Entry) → slice_get log k ≡ Some e → e.opid.position ≡ suc (p + k)
chain_place t p [] c k e is = absurd cc
chain_place t p (x ∷ log) c zero e is = let z : x ≡ e = cc in let y : x.opid.position ≡ e.opid.position = ap (λ (w : Entry). w.opid.position) z in let a = c.0 in omega (arith, y, a)
chain_place t p (x ∷ log) c (suc k) e is = let z = chain_place x.opid.term (suc p) log c.2 k e is in omega (arith, z)

chain_low : (t p : ℕ) (log : List Entry) → Chain t p log → (k : ℕ) → k < length log → t ≤ term_at log (suc k)
chain_low t p [] c k lt = absurd (omega (arith, lt))
chain_low t p (x ∷ log) c zero lt = c.1
chain_low t p (x ∷ log) c (suc k) lt = let z = chain_low x.opid.term (suc p) log c.2 k (omega (arith, lt)) in let y = c.1 in omega (arith, z, y)

chain_rise : (t p : ℕ) (log : List Entry) → Chain t p log → (j k : ℕ) → j ≤ k → k < length log → term_at log (suc j) ≤ term_at log (suc k)
chain_rise t p [] c j k le lt = absurd (omega (arith, lt))
chain_rise t p (x ∷ log) c zero zero le lt = omega arith
chain_rise t p (x ∷ log) c zero (suc k) le lt = chain_low x.opid.term (suc p) log c.2 k (omega (arith, lt))
chain_rise t p (x ∷ log) c (suc j) zero le lt = absurd (omega (arith, le))
chain_rise t p (x ∷ log) c (suc j) (suc k) le lt = chain_rise x.opid.term (suc p) log c.2 j k (omega (arith, le)) (omega (arith, lt))

pub chain_places : (log : List Entry) → Chain 0 0 log → (k : ℕ) (e : Entry) → entry_at log k ≡ Some e → e.opid.position ≡ k
chain_places log c zero e is = absurd cc
chain_places log c (suc k) e is = let z = chain_place 0 0 log c k e is in omega (arith, z)

pub chain_rises : (log : List Entry) → Chain 0 0 log → (j k : ℕ) → j ≤ k → k ≤ length log → term_at log j ≤ term_at log k
chain_rises log c zero k le high = omega arith
chain_rises log c (suc j) zero le high = absurd (omega (arith, le))
chain_rises log c (suc j) (suc k) le high = chain_rise 0 0 log c j k (omega (arith, le)) (omega (arith, high))

-- ---- ends
end_is : (xs : List Entry) (x : Entry) (t : ℕ) → end t (x ∷ xs) ≡ term_at (x ∷ xs) (length (x ∷ xs))
end_is [] x t = refl
end_is (y ∷ xs) x t = end_is xs y x.opid.term

pub end_last : (log : List Entry) → end 0 log ≡ term_at log (length log)
end_last [] = refl
end_last (x ∷ log) = end_is log x 0

end_take_suc : (n : ℕ) (log : List Entry) (t : ℕ) → suc n ≤ length log → end t (take (suc n) log) ≡ term_at log (suc n)
end_take_suc n [] t le = absurd (omega (arith, le))
end_take_suc zero (x ∷ log) t le = refl
end_take_suc (suc n) (x ∷ log) t le = end_take_suc n log x.opid.term (omega (arith, le))

pub end_take : (n : ℕ) (log : List Entry) → n ≤ length log → end 0 (take n log) ≡ term_at log n
end_take zero log le = refl
end_take (suc n) log le = end_take_suc n log 0 le

chain_end : (t p : ℕ) (xs : List Entry) → Chain t p xs → t ≤ end t xs
chain_end t p [] c = omega arith
chain_end t p (x ∷ xs) c = let z = chain_end x.opid.term (suc p) xs c.2 in let y = c.1 in omega (arith, z, y)

pub low_of : (t p top : ℕ) (xs : List Entry) → Chain t p xs → end t xs ≤ top → list_all (λ (e : Entry). nat_le e.opid.term top) xs ≡ true
low_of t p top [] c le = refl
low_of t p top (x ∷ xs) c le =
    let z = chain_end x.opid.term (suc p) xs c.2 in
    let here : nat_le x.opid.term top ≡ true = grind (arith, nat_tests, z, le) in
    rw here (low_of x.opid.term (suc p) top xs c.2 le)

pub end_low : (t top : ℕ) (xs : List Entry) → t ≤ top → list_all (λ (e : Entry). nat_le e.opid.term top) xs ≡ true → end t xs ≤ top
end_low t top [] le all = le
end_low t top (x ∷ xs) le all = let z = both_true (nat_le x.opid.term top) (list_all (λ (e : Entry). nat_le e.opid.term top) xs) all in let here : x.opid.term ≤ top = (let y = z.0 in grind (arith, nat_tests, y)) in end_low x.opid.term top xs here z.1

-- ---- chains that are cut or go on
pub chain_take : (n t p : ℕ) (xs : List Entry) → Chain t p xs → Chain t p (take n xs)
chain_take zero t p xs c = tt
chain_take (suc n) t p [] c = tt
chain_take (suc n) t p (x ∷ xs) c = (c.0, c.1, chain_take n x.opid.term (suc p) xs c.2)

pub chain_join : (t p : ℕ) (xs ys : List Entry) → Chain t p xs → Chain (end t xs) (p + length xs) ys → Chain t p (xs ++ ys)
chain_join t p [] ys c d = let z : p + 0 ≡ p = omega arith in subst (λ (n : ℕ). Chain t n ys) z d
chain_join t p (x ∷ xs) ys c d = let z : p + suc (length xs) ≡ suc p + length xs = omega arith in (c.0, c.1, chain_join x.opid.term (suc p) xs ys c.2 (subst (λ (n : ℕ). Chain (end x.opid.term xs) n ys) z d))

-- ---- durable parts
pub record Ordered (d : Durable) : Type 0 where
  pub chain : Chain 0 0 d.log
  pub low : list_all (λ (e : Entry). nat_le e.opid.term d.term) d.log ≡ true
  pub applied : d.applied ≤ length d.log

-- what allows an action
abbrev pub Orderly : Durable → Action → Type 0
Orderly d (action.SetTerm t) = d.term ≤ t
Orderly d (action.Vote v floor) = Unit {0}
Orderly d (action.Append es) = Chain (end 0 d.log) (length d.log) es × (list_all (λ (e : Entry). nat_le e.opid.term d.term) es ≡ true)
Orderly d (action.Truncate p) = (d.applied ≤ p) × (p ≤ length d.log)
Orderly d (action.Prepare p) = Unit {0}
Orderly d (action.Commit p) = p ≤ length d.log
Orderly d (action.RollBackAfter p) = Unit {0}
Orderly d (action.DropPairs opids) = Unit {0}

pub length_join : (xs ys : List Entry) → length (xs ++ ys) ≡ length xs + length ys
length_join [] ys = omega arith
length_join (x ∷ xs) ys = let y = length_join xs ys in omega (arith, y)

pub ordered_one : (d : Durable) (a : Action) → Orderly d a → Ordered d → Ordered (done d a)
ordered_one d (action.SetTerm t) m x = record { chain = x.chain; low = all_weaker (λ (e : Entry). nat_le e.opid.term d.term) (λ (e : Entry). nat_le e.opid.term t) d.log (λ e is. grind (arith, nat_tests, is, m)) x.low; applied = x.applied }
ordered_one d (action.Vote v floor) m x = record { chain = x.chain; low = x.low; applied = x.applied }
ordered_one d (action.Append es) m x = record {
  chain = chain_join 0 0 d.log es x.chain (let z : 0 + length d.log ≡ length d.log = omega arith in subst (λ (n : ℕ). Chain (end 0 d.log) n es) (sym z) m.0);
  low = all_join (λ (e : Entry). nat_le e.opid.term d.term) d.log es x.low m.1;
  applied = (let a = x.applied in let n = length_join d.log es in omega (arith, a, n));
}
ordered_one d (action.Truncate p) m x = record {
  chain = chain_take p 0 0 d.log x.chain;
  low = all_take (λ (e : Entry). nat_le e.opid.term d.term) p d.log x.low;
  applied = (let n = length-take-le p d.log m.1 in let a = m.0 in omega (arith, a, n));
}
ordered_one d (action.Prepare p) m x = record { chain = x.chain; low = x.low; applied = x.applied }
ordered_one d (action.Commit p) m x = record { chain = x.chain; low = x.low; applied = m }
ordered_one d (action.RollBackAfter p) m x = record { chain = x.chain; low = x.low; applied = x.applied }
ordered_one d (action.DropPairs opids) m x = record { chain = x.chain; low = x.low; applied = x.applied }

pub ordered_along : (d : Durable) (actions : List Action) → Allowed Orderly d actions → Ordered d → Along Ordered d actions
ordered_along d actions a x = allowed_along Orderly Ordered ordered_one d actions a x

pub ordered_after : (d : Durable) (actions : List Action) → Allowed Orderly d actions → Ordered d → Ordered (all_done d actions)
ordered_after d actions a x = along_end Ordered d actions (ordered_along d actions a x)

pub ordered_from : (d : Durable) → KeepsOrder d → Ordered d
ordered_from d o =
    let c = log_chain d.log o.placed o.rises in
    record { chain = c; low = low_of 0 0 d.term d.log c (let z = end_last d.log in let y = o.log_below in omega (arith, z, y)); applied = o.applied_inside }

pub order_of : (d : Durable) → Ordered d → KeepsOrder d
order_of d x = record {
  placed = chain_places d.log x.chain;
  rises = chain_rises d.log x.chain;
  log_below = (let z = end_last d.log in let y = end_low 0 d.term d.log (omega arith) x.low in omega (arith, z, y));
  applied_inside = x.applied;
}

-- ---- the engine follows
prepare_orderly : (d : Durable) (pairs : List Pair) (o : Option Entry) → Allowed Orderly d (prepare_entry pairs o) × ((all_done d (prepare_entry pairs o)).log ≡ d.log)
prepare_orderly d pairs None = (tt, refl)
prepare_orderly d pairs (Some e) = go (pair_of e) (is_prepared pairs e.opid)
  where
    go : (a : Option Pair) (b : Bool) → Allowed Orderly d (elim a [ None ↦ [] | Some p ↦ if b then [] else action.Prepare p ∷ [] ]) × ((all_done d (elim a [ None ↦ [] | Some p ↦ if b then [] else action.Prepare p ∷ [] ])).log ≡ d.log)
    go None b = (tt, refl)
    go (Some p) true = (tt, refl)
    go (Some p) false = ((tt, tt), refl)

engine_orderly : (n a : ℕ) (d : Durable) (l : List Entry) (pairs : List Pair) → a + n ≤ length d.log → Allowed Orderly d (engine_actions l pairs a n)
engine_orderly zero a d l pairs le = tt
engine_orderly (suc n) a d l pairs le =
    let p = prepare_orderly d pairs (entry_at l (suc a)) in
    let e : Durable = all_done d (prepare_entry pairs (entry_at l (suc a))) in
    let same : length e.log ≡ length d.log = ap length p.1 in
    allowed_join Orderly d (prepare_entry pairs (entry_at l (suc a))) (action.Commit (suc a) ∷ engine_actions l pairs (suc a) n) p.0
    (omega (arith, same, le), engine_orderly n (suc a) (done e (action.Commit (suc a))) l pairs (omega (arith, same, le)))

pub follow_orderly : (ring : Layout) (me : ℕ) (d : Durable) (c : ℕ) → d.applied ≤ length d.log → c ≤ length d.log → Allowed Orderly d (follow_actions ring me d c)
follow_orderly ring me d c low high = go (runs_engine ring me)
  where
    go : (b : Bool) → Allowed Orderly d (if b then engine_actions d.log d.prepared d.applied (c - d.applied) else [])
    go true = engine_orderly (c - d.applied) d.applied d d.log d.prepared (omega (arith, low, high))
    go false = tt
