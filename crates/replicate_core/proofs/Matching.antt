-- Entries at committed positions are matched where nothing is torn, so a search for the first unmatched one may begin behind them.
use Rattle.std.proofs.Common.{◌≡◌, ℕ, zero, suc, ◌+◌, ◌-◌, ◌<◌, ◌≤◌, ◌==◌, Bool, true, false, List, [], ◌∷◌, length, drop, Option, Some, None, min, refl, sym, ap, ◌∙◌, subst, arith}
use Rattle.std.specs.Prelude.{IfSome}
use Rattle.std.proofs.lemmas.Bool.Decides.{nat_tests}
use Rattle.ring_types.specs.declared.entries.Entry.{Entry}
use Rattle.ring_types.specs.Logs.{term_at}
use Rattle.ring_model.specs.Replication.{unmatched, first_tear, terms_of}

-- ---- lists by place
drop-empty : (n : ℕ) (none : List Entry) → none ≡ [] → drop n none ≡ []
drop-empty zero none h = h
drop-empty (suc n) [] h = refl
drop-empty (suc n) (x ∷ xs) h = cc

pub drop-drop : (entries : List Entry) (j k : ℕ) → drop k (drop j entries) ≡ drop (j + k) entries
drop-drop entries zero k = let same : k ≡ 0 + k = omega arith in ap (λ n. drop n entries) same
drop-drop [] (suc j) k = drop-empty k [] refl ∙ sym (drop-empty (suc j + k) [] refl)
drop-drop (x ∷ xs) (suc j) k = drop-drop xs j k ∙ (let same : suc (j + k) ≡ suc j + k = omega arith in ap (λ n. drop n (x ∷ xs)) same)

-- ---- one entry
unmatched-same : (log : List Entry) (p : ℕ) (e : Entry) (es : List Entry) → p < length log → term_at log (suc p) ≡ e.opid.term
    → unmatched log p (e ∷ es) ≡ unmatched log (suc p) es
unmatched-same log p e es h k = grind (arith, nat_tests)

-- ---- entries at committed positions are matched, where nothing is torn
no_tear : (log : List Entry) (commit p t : ℕ) (terms : List ℕ) → p ≤ commit → first_tear log commit p (t ∷ terms) ≡ None
    → (term_at log p ≡ t) × (first_tear log commit (suc p) terms ≡ None)
no_tear log commit p t terms h none = go (term_at log p == t) refl
  where
    go : (b : Bool) → (term_at log p == t) ≡ b → (term_at log p ≡ t) × (first_tear log commit (suc p) terms ≡ None)
    go true is = (grind (arith, nat_tests), grind (arith, nat_tests))
    go false is = absurd (grind (arith, nat_tests))

known_match : (log : List Entry) (commit position n : ℕ) (entries : List Entry) → commit ≤ length log → n ≤ length entries → position + n ≤ commit
    → first_tear log commit (suc position) (terms_of entries) ≡ None
    → unmatched log (position + n) (drop n entries) ≡ unmatched log position entries
known_match log commit position zero entries inside few h none = let same : position + 0 ≡ position = omega arith in ap (λ p. unmatched log p entries) same
known_match log commit position (suc n) [] inside few h none = absurd (omega arith)
known_match log commit position (suc n) (e ∷ es) inside few h none =
    let both = no_tear log commit (suc position) e.opid.term (terms_of es) (omega arith) none in
    let goes = unmatched-same log position e es (omega arith) both.0 in
    let rest = known_match log commit (suc position) n es inside (omega arith) (omega arith) both.1 in
    let next : position + suc n ≡ suc position + n = omega arith in
    ap (λ p. unmatched log p (drop n es)) next ∙ (rest ∙ sym goes)

pub knows : (told : Option (List Entry)) (end commit position sure more : ℕ) (entries : List Entry) → IfSome told (λ log. length log ≡ end) → commit ≤ end
    → sure ≡ min (commit - position) (length entries)
    → IfSome told (λ log. position < commit → first_tear log commit (position + 1) (terms_of entries) ≡ None)
    → IfSome told (λ log. drop more (drop sure entries) ≡ unmatched log (position + sure) (drop sure entries))
    → IfSome told (λ log. drop (sure + more) entries ≡ unmatched log position entries)
knows None end commit position sure more entries whole inside most sound is = tt
knows (Some log) end commit position sure more entries whole inside most sound is =
    sym (drop-drop entries sure more) ∙ (is ∙ by sure refl)
  where
    by : (n : ℕ) → sure ≡ n → unmatched log (position + sure) (drop sure entries) ≡ unmatched log position entries
    by zero e =
        let same : position + 0 ≡ position = omega arith in
        subst (λ n. unmatched log (position + n) (drop n entries) ≡ unmatched log position entries) (sym e) (ap (λ p. unmatched log p entries) same)
    by (suc m) e =
        let below : position < commit = omega arith in
        let next : position + 1 ≡ suc position = omega arith in
        known_match log commit position sure entries (omega arith) (omega arith) (omega arith)
        (subst (λ p. first_tear log commit p (terms_of entries) ≡ None) next (sound below))
