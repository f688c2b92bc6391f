-- No place that a member committed differs from the leader's book, and what the leader sends is a stretch of that book; so a member is never torn.
use Rattle.std.proofs.Common.{◌≡◌, ℕ, ◌+◌, ◌≤◌, ◌==◌, ◌||◌, [], ◌∷◌, ◌∙◌, if◌then◌else◌, Bool, List, None, Some, arith, drop, false, inl, inr, length, refl, suc, sym, take, true}
use Rattle.std.proofs.lemmas.Bool.{cases_lt}
use Rattle.std.proofs.lemmas.Bool.Decides.{nat_tests}
use Rattle.std.specs.Prelude.{nat_le, nat_lt}
use Rattle.ring_types.specs.declared.entries.Entry.{Entry}
use Rattle.ring_types.specs.Rings.{Layout}
use Rattle.ring_types.specs.Logs.{term_at}
use Rattle.ring_model.specs.declared.messages.Append.{Append}
use Rattle.ring_model.specs.declared.nodes.Durable.{Durable}
use Rattle.ring_model.specs.declared.nodes.Soft.{Soft}
use Rattle.ring_model.specs.Replication.{append_tear, first_tear, leads_it, outgrows, tear_in, terms_of}
use Rattle.ring_model.specs.declared.messages.Body.TheVariants as body
use Rattle.ring_model.proofs.Invariant.{History, IsHistory, IsNode, IsRunning, IsSent}
use Rattle.ring_model.proofs.Casting.{raise_keeps}
use Rattle.ring_model.proofs.Following.{window_cons}
use Rattle.ring_model.proofs.Moves.{same_node}
use Rattle.ring_model.proofs.Matching.{never_torn}
use Rattle.ring_model.proofs.Advance.{seal_raise}

-- ---- never torn
-- a stretch of a book with which the log agrees up to its commit count is not torn there
no_tear : (log b : List Entry) (commit q : ℕ) (es : List Entry) → q + length es ≤ length b → es ≡ take (length es) (drop q b)
    → ((j : ℕ) → j ≤ commit → term_at log j ≡ term_at b j) → first_tear log commit (suc q) (terms_of es) ≡ None
no_tear log b commit q [] fits win same = refl
no_tear log b commit q (e ∷ es) fits win same =
    go (nat_le (suc q) commit) refl (term_at log (suc q) == e.opid.term) refl
    (no_tear log b commit (suc q) es (omega arith) (window_cons q b e es (omega arith) win).1 same)
  where
    term_is : e.opid.term ≡ term_at b (suc q)
    term_is = (window_cons q b e es (omega arith) win).0

    go : (a : Bool) → nat_le (suc q) commit ≡ a → (c : Bool) → (term_at log (suc q) == e.opid.term) ≡ c
        → first_tear log commit (suc (suc q)) (terms_of es) ≡ None
        → (if a then (if c then first_tear log commit (suc (suc q)) (terms_of es) else Some (record { position = suc q; kept_term = term_at log (suc q); sent_term = e.opid.term })) else None) ≡ None
    go false x c y rest = refl
    go true x true y rest = rest
    go true x false y rest =
        absurd (let le : suc q ≤ commit = grind (arith, nat_tests, x) in let is : term_at log (suc q) ≡ e.opid.term = same (suc q) le ∙ sym term_is in grind (arith, nat_tests, y, is))

tear_none : (ring : Layout) (h : History) (id : ℕ) (sent : Append) (d : Durable) (s : Soft) → nat_lt sent.term d.term ≡ false → IsHistory ring h
    → IsNode ring h id d → IsRunning ring h id d s
    → IsSent ring h sent.leader id (body.Append sent) → (sent.leader ≡ id → ⊥) → tear_in d s sent ≡ None
tear_none ring h id sent d s x k n r told foreign = go (nat_le sent.prev.position s.commit) refl (term_at d.log sent.prev.position == sent.prev.term) refl
  where
    up : d.term ≤ sent.term
    up = grind (arith, nat_tests, x)

    raised : IsNode ring h id (record d { term = sent.term })
    raised = elim (cases_lt d.term sent.term) [
      | inl lt ↦ raise_keeps ring h id sent.term d lt n
      | inr ge ↦ same_node ring h id d (record d { term = sent.term }) (record { term = (let z : sent.term ≡ d.term = omega (arith, up) in z); votes = refl; log = refl; applied = refl }) n
    ]

    same : (j : ℕ) → j ≤ s.commit → term_at d.log j ≡ term_at (h.book sent.term) j
    same =
        never_torn ring h id (record d { term = sent.term }) k raised sent.leader sent.prev sent.commit sent.entries told.0 told.1 foreign s.commit
        (seal_raise ring h d.term sent.term s.commit d.log up r.sealed)

    go : (a : Bool) → nat_le sent.prev.position s.commit ≡ a → (c : Bool) → (term_at d.log sent.prev.position == sent.prev.term) ≡ c
        → (if a then (if c then first_tear d.log s.commit (suc sent.prev.position) (terms_of sent.entries) else Some (record { position = sent.prev.position; kept_term = term_at d.log sent.prev.position; sent_term = sent.prev.term })) else None) ≡ None
    go false y c z = refl
    go true y true z = no_tear d.log (h.book sent.term) s.commit sent.prev.position sent.entries told.0.fits (sym told.1) same
    go true y false z =
        absurd (let le : sent.prev.position ≤ s.commit = grind (arith, nat_tests, y) in let is : term_at d.log sent.prev.position ≡ sent.prev.term = same sent.prev.position le ∙ told.0.prev_term in grind (arith, nat_tests, z, is))

pub append_tears_not : (ring : Layout) (h : History) (id : ℕ) (sent : Append) (d : Durable) (s : Soft) → IsHistory ring h → IsNode ring h id d
    → IsRunning ring h id d s
    → IsSent ring h sent.leader id (body.Append sent) → (sent.leader ≡ id → ⊥) → append_tear d s sent ≡ None
append_tears_not ring h id sent d s k n r told foreign = go (outgrows d sent) (nat_lt sent.term d.term) refl (leads_it d s sent)
  where
    go : (a b : Bool) → nat_lt sent.term d.term ≡ b → (c : Bool) → (if a || b || c then None else tear_in d s sent) ≡ None
    go true b x c = refl
    go false true x c = refl
    go false false x true = refl
    go false false x false = tear_none ring h id sent d s x k n r told foreign
