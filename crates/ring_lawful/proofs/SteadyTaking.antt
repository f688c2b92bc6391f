-- Where an entry differs from the log its position is above the commit count, or the message were torn; so a cut keeps all that is committed.
use Rattle.std.proofs.Common.{◌≡◌, ℕ, ◌+◌, ◌-◌, ◌<◌, ◌≤◌, ◌==◌, ◌&&◌, [], ◌∷◌, ◌++◌, ◌∙◌, if◌then◌else◌, Bool, List, None, Option, Some, ap, arith, false, length, refl, subst, suc, sym, take, true}
use Rattle.std.proofs.lemmas.Bool.Decides.{nat_tests}
use Rattle.std.proofs.lemmas.List.{length-take-le}
use Rattle.std.specs.Prelude.{nat_le, nat_lt}
use Rattle.std.specs.List.{list_all}
use Rattle.ring_types.specs.declared.entries.Entry.{Entry}
use Rattle.ring_types.specs.Logs.{term_at}
use Rattle.ring_types.specs.Rings.{Layout, runs_engine}
use Rattle.ring_model.specs.declared.effects.Action.{Action}
use Rattle.ring_model.specs.declared.effects.Action.TheVariants as action
use Rattle.ring_model.specs.declared.effects.Tear.{Tear}
use Rattle.ring_model.specs.declared.nodes.Durable.{Durable}
use Rattle.ring_model.specs.Actions.{all_done}
use Rattle.ring_model.specs.Replication.{first_tear, take_in, terms_of, unmatched}
use Rattle.ring_types.proofs.Booleans.{both_true}
use Rattle.ring_lawful.proofs.Along.{Allowed}
use Rattle.ring_lawful.proofs.Chains.{Chain, Orderly, end, end_last, end_take, length_join}

-- ---- the entries that a log does not hold
pub record Kept (log : List Entry) (commit p : ℕ) (es rest : List Entry) : Type 0 where
  pub k : ℕ
  pub is : p + (length es - length rest) ≡ k
  pub low : p ≤ k
  pub high : k ≤ length log
  pub total : k + length rest ≡ p + length es
  pub chain : Chain (term_at log k) k rest
  pub cut : 1 ≤ length rest → k < length log → commit ≤ k

tear_beyond : (log : List Entry) (commit p : ℕ) (ts : List ℕ) → commit < p → first_tear log commit p ts ≡ None
tear_beyond log commit p [] lt = refl
tear_beyond log commit p (t ∷ ts) lt = let z : nat_le p commit ≡ false = grind (arith, nat_tests, lt) in rw z refl

pub tear_tail : (log : List Entry) (commit p t : ℕ) (ts : List ℕ) → first_tear log commit p (t ∷ ts) ≡ None → first_tear log commit (suc p) ts ≡ None
tear_tail log commit p t ts is = go (nat_le p commit) refl (term_at log p == t) is
  where
    go : (a : Bool) → nat_le p commit ≡ a → (b : Bool)
        → ◌≡◌ {A = Option Tear} (if a then (if b then first_tear log commit (suc p) ts else Some (record { position = p; kept_term = term_at log p; sent_term = t })) else None) None → first_tear log commit (suc p) ts ≡ None
    go true x true y = y
    go true x false y = absurd cc
    go false x b y = tear_beyond log commit (suc p) ts (grind (arith, nat_tests, x))

tear_head : (log : List Entry) (commit p t : ℕ) (ts : List ℕ) → first_tear log commit p (t ∷ ts) ≡ None → (term_at log p == t) ≡ false → commit < p
tear_head log commit p t ts is differs = go (nat_le p commit) refl (term_at log p == t) differs is
  where
    go : (a : Bool) → nat_le p commit ≡ a → (b : Bool) → b ≡ false
        → ◌≡◌ {A = Option Tear} (if a then (if b then first_tear log commit (suc p) ts else Some (record { position = p; kept_term = term_at log p; sent_term = t })) else None) None → commit < p
    go true x true w y = absurd (let z : true ≡ false = w in cc)
    go true x false w y = absurd cc
    go false x b w y = grind (arith, nat_tests, x)

pub unmatched_kept : (log : List Entry) (commit p t : ℕ) (es : List Entry) → p ≤ length log → term_at log p ≡ t → Chain t p es
    → first_tear log commit (suc p) (terms_of es) ≡ None → Kept log commit p es (unmatched log p es)
unmatched_kept log commit p t [] high at c whole =
    record { k = p; is = omega arith; low = omega arith; high = high; total = omega arith; chain = tt; cut = λ some. absurd (omega (arith, some)) }
unmatched_kept log commit p t (e ∷ es) high at c whole =
    go (nat_lt p (length log)) refl (term_at log (suc p) == e.opid.term) refl
    (λ lt same. unmatched_kept log commit (suc p) e.opid.term es (grind (arith, nat_tests, lt)) (grind (arith, nat_tests, same)) c.2 (tear_tail log commit (suc p) e.opid.term (terms_of es) whole))
  where
    stop : (nat_lt p (length log) ≡ true → (term_at log (suc p) == e.opid.term) ≡ false) → Kept log commit p (e ∷ es) (e ∷ es)
    stop differs = record {
      k = p;
      is = omega arith;
      low = omega arith;
      high = high;
      total = refl;
      chain = subst (λ (n : ℕ). Chain n p (e ∷ es)) (sym at) c;
      cut = λ some lt. (let z = tear_head log commit (suc p) e.opid.term (terms_of es) whole (differs (grind (arith, nat_tests, lt))) in omega (arith, z));
    }

    go : (a : Bool) → nat_lt p (length log) ≡ a → (b : Bool) → (term_at log (suc p) == e.opid.term) ≡ b
        → (nat_lt p (length log) ≡ true → (term_at log (suc p) == e.opid.term) ≡ true → Kept log commit (suc p) es (unmatched log (suc p) es))
        → Kept log commit p (e ∷ es) (unmatched log p (e ∷ es))
    go true x true y more =
        let m = more x y in
        let i = m.is in
        let l = m.low in
        let u = m.total in
        rw (x, y) (record { k = m.k; is = omega (arith, i, l, u); low = omega (arith, l); high = m.high; total = omega (arith, u); chain = m.chain; cut = m.cut })
    go true x false y more = rw (x, y) (stop (λ lt. y))
    go false x b y more = rw x (stop (λ lt. absurd (let z : true ≡ false = sym lt ∙ x in cc)))

pub rest_low : (log : List Entry) (top p : ℕ) (es : List Entry) → list_all (λ (e : Entry). nat_le e.opid.term top) es ≡ true
    → list_all (λ (e : Entry). nat_le e.opid.term top) (unmatched log p es) ≡ true
rest_low log top p [] fit = refl
rest_low log top p (e ∷ es) fit = go (nat_lt p (length log) && term_at log (suc p) == e.opid.term) refl (rest_low log top (suc p) es (both_true (nat_le e.opid.term top) (list_all (λ (e : Entry). nat_le e.opid.term top) es) fit).1)
  where
    go : (b : Bool) → (nat_lt p (length log) && term_at log (suc p) == e.opid.term) ≡ b
        → list_all (λ (e : Entry). nat_le e.opid.term top) (unmatched log (suc p) es) ≡ true
        → list_all (λ (e : Entry). nat_le e.opid.term top) (unmatched log p (e ∷ es)) ≡ true
    go true is rest = rw is rest
    go false is rest = rw is fit

-- ---- what is cut and added
pub record Taking (e : Durable) (commit last : ℕ) (actions : List Action) : Type 0 where
  pub allowed : Allowed Orderly e actions
  pub count : commit ≤ length (all_done e actions).log
  pub total : last ≤ length (all_done e actions).log

pub taking : (ring : Layout) (me : ℕ) (d e : Durable) (commit p : ℕ) (es rest : List Entry) (k : Kept d.log commit p es rest) (kept : ℕ) → kept ≡ k.k
    → e.log ≡ d.log → e.applied ≤ commit → commit ≤ length d.log
    → list_all (λ (x : Entry). nat_le x.opid.term e.term) rest ≡ true → Taking e commit (p + length es) (take_in ring me d kept rest)
taking ring me d e commit p es [] k kept at l above inside low =
    let n : length e.log ≡ length d.log = ap length l in
    let u = k.total in
    let h = k.high in
    record { allowed = tt; count = omega (arith, n, inside); total = omega (arith, n, u, h) }
taking ring me d e commit p es (x ∷ rest) k kept at l above inside low = go (nat_lt kept (length d.log)) refl (runs_engine ring me)
  where
    n : length e.log ≡ length d.log
    n = ap length l

    high : k.k ≤ length d.log
    high = k.high

    total : k.k + length (x ∷ rest) ≡ p + length es
    total = k.total

    there : (log : List Entry) (j : ℕ) → term_at d.log k.k ≡ end 0 log → k.k ≡ j → Chain (end 0 log) j (x ∷ rest)
    there log j t is = subst (λ (m : ℕ). Chain (end 0 log) m (x ∷ rest)) is (subst (λ (m : ℕ). Chain m k.k (x ∷ rest)) t k.chain)

    cut_allowed : nat_lt kept (length d.log) ≡ true → (c : Bool)
        → Taking e commit (p + length es) (action.Truncate kept ∷ ((if c then action.RollBackAfter kept ∷ [] else []) ++ (action.Append (x ∷ rest) ∷ [])))
    cut_allowed is c = pick c
      where
        some : 1 ≤ length (x ∷ rest)
        some = omega arith

        lt : kept < length d.log
        lt = grind (arith, nat_tests, is)

        far : commit ≤ k.k
        far = k.cut some (omega (arith, lt, at))

        in_e : kept ≤ length e.log
        in_e = omega (arith, lt, n)

        size : length (take kept e.log) ≡ kept
        size = length-take-le kept e.log in_e

        ends : term_at d.log k.k ≡ end 0 (take kept e.log)
        ends = ap (λ (w : List Entry). term_at w k.k) (sym l) ∙ (ap (λ (m : ℕ). term_at e.log m) (sym at) ∙ sym (end_take kept e.log in_e))

        goes_on : Chain (end 0 (take kept e.log)) (length (take kept e.log)) (x ∷ rest)
        goes_on = there (take kept e.log) (length (take kept e.log)) ends (omega (arith, at, size))

        after : length (take kept e.log ++ (x ∷ rest)) ≡ p + length es
        after = let j = length_join (take kept e.log) (x ∷ rest) in omega (arith, j, size, at, total)

        count : commit ≤ length (take kept e.log ++ (x ∷ rest))
        count = let j = length_join (take kept e.log) (x ∷ rest) in omega (arith, j, size, at, far)

        pick : (c : Bool) → Taking e commit (p + length es)
            (action.Truncate kept ∷ ((if c then action.RollBackAfter kept ∷ [] else []) ++ (action.Append (x ∷ rest) ∷ [])))
        pick true = record { allowed = ((omega (arith, above, far, at), in_e), (tt, ((goes_on, low), tt))); count = count; total = omega (arith, after) }
        pick false = record { allowed = ((omega (arith, above, far, at), in_e), ((goes_on, low), tt)); count = count; total = omega (arith, after) }

    go : (b : Bool) → nat_lt kept (length d.log) ≡ b → (c : Bool)
        → Taking e commit (p + length es) (if b then action.Truncate kept ∷ ((if c then action.RollBackAfter kept ∷ [] else []) ++ (action.Append (x ∷ rest) ∷ [])) else action.Append (x ∷ rest) ∷ [])
    go true is c = cut_allowed is c
    go false is c =
        let full : kept ≡ length d.log = (let g : length d.log ≤ kept = grind (arith, nat_tests, is) in omega (arith, g, at, high)) in
        let j = length_join e.log (x ∷ rest) in
        let ends : term_at d.log k.k ≡ end 0 e.log = ap (λ (m : ℕ). term_at d.log m) (omega (arith, full, at)) ∙ (sym (end_last d.log) ∙ ap (end 0) (sym l)) in
        record {
          allowed = ((there e.log (length e.log) ends (omega (arith, full, at, n)), low), tt);
          count = omega (arith, j, n, inside);
          total = omega (arith, j, n, full, at, total);
        }
