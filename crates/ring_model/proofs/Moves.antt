-- Each action of a step is a guarded move: whatever its guard asks is what the invariant needs to hold again after it.
use Rattle.std.proofs.Common.{◌⊎◌, ◌≡◌, ℕ, ◌<◌, ◌≤◌, [], ◌∷◌, ◌++◌, ◌∙◌, List, arith, inl, inr, length, refl, subst, suc, sym, take, zero}
use Rattle.std.specs.List.{Contains}
use Rattle.ring_types.specs.declared.entries.Entry.{Entry}
use Rattle.ring_types.specs.Rings.{Layout}
use Rattle.ring_types.specs.declared.entries.Vote.{Vote}
use Rattle.ring_types.specs.Logs.{term_at}
use Rattle.ring_model.specs.declared.effects.Action.{Action}
use Rattle.ring_model.specs.Safety.{Agree}
use Rattle.ring_model.specs.declared.nodes.Durable.{Durable}
use Rattle.ring_model.specs.Runs.{Election}
use Rattle.ring_model.specs.Actions.{done}
use Rattle.ring_model.specs.declared.effects.Action.TheVariants as action
use Rattle.ring_model.proofs.Invariant.{Cast, Cut_by, History, IsBookedLog, IsHistory, IsNode, IsSealed, Kept}
use Rattle.ring_model.proofs.Growth.{Grows, agree_less, agree_trans}
use Rattle.ring_model.proofs.Casting.{MayVote, cast_grows, cast_keeps_history, cast_keeps_node, raise_keeps, with_cast}
use Rattle.ring_model.proofs.Following.{IsFollowed, agree_same, follow_keeps}
use Rattle.ring_model.proofs.Leading.{MayAdd, MayLead, added_grows, added_history, added_node, led_grows, led_history, led_node, with_book, with_election}
use Rattle.ring_model.proofs.Sending.{apply_keeps}

pub only_one : (f e : Election) → Contains (f ∷ []) e → f ≡ e
only_one f e (zero, lt, is) = cc
only_one f e (suc k, lt, is) = absurd (omega (arith, lt))

-- the two parts of a node that the ring's safety does not look at may differ
pub record SameLog (d e : Durable) : Type 0 where
  pub term : e.term ≡ d.term
  pub votes : e.votes ≡ d.votes
  pub log : e.log ≡ d.log
  pub applied : e.applied ≡ d.applied

-- what the log becomes follows the book of the node's term, whose leader is another node
pub record MayFollow (ring : Layout) (h : History) (id : ℕ) (d : Durable) (l : List Entry) : Type 0 where
  pub leader : Election
  pub led : Contains h.elections leader
  pub of_term : leader.term ≡ d.term
  pub not_mine : leader.node ≡ id → ⊥
  pub follows : IsFollowed d.log l (h.book d.term)
  pub log : IsBookedLog ring h d.term l

-- the node led this term
abbrev pub IsLed : History → ℕ → ℕ → Type 0
IsLed h id t = (e : Election) × Contains h.elections e × (e.node ≡ id) × (e.term ≡ t)

-- only a node that led the term reaches beyond the chosen sequence
abbrev pub MayReach : History → ℕ → ℕ → ℕ → Type 0
MayReach h id t p = (p ≤ length h.chosen) ⊎ IsLed h id t

-- one action, and what allows it
pub data Guarded (ring : Layout) (id : ℕ) (h : History) (d : Durable) (a : Action) (g : History) : Type 0 where
  Raises : (t : ℕ) → a ≡ action.SetTerm t → d.term < t → d.applied ≤ length h.chosen → g ≡ h → Guarded ring id h d a g
  Votes : (c : Cast) (floor : ℕ) → a ≡ action.Vote c.vote floor → MayVote ring h id d c floor → g ≡ with_cast h c → Guarded ring id h d a g
  Leads : (e : Election) (x : Entry) → a ≡ action.Append (x ∷ []) → MayLead ring h id d e x → g ≡ with_election h e (d.log ++ x ∷ []) → Guarded ring id h d a g
  Adds : (e : Election) (x : Entry) → a ≡ action.Append (x ∷ []) → MayAdd ring h id d e x → g ≡ with_book h d.term (d.log ++ x ∷ []) → Guarded ring id h d a g
  Cuts : (p : ℕ) → a ≡ action.Truncate p → MayFollow ring h id d (take p d.log) → g ≡ h → Guarded ring id h d a g
  Extends : (es : List Entry) → a ≡ action.Append es → MayFollow ring h id d (d.log ++ es) → g ≡ h → Guarded ring id h d a g
  Applies : (p : ℕ) → a ≡ action.Commit p → IsSealed ring h d.term p d.log → MayReach h id d.term p → g ≡ h → Guarded ring id h d a g
  Engine : SameLog d (done d a) → g ≡ h → Guarded ring id h d a g

-- the history, the node that acts, and who acted
pub record Holds (ring : Layout) (id : ℕ) (h g : History) (d : Durable) : Type 0 where
  pub history : IsHistory ring g
  pub node : IsNode ring g id d
  pub grows : Grows id h g

pub grows_refl : (id : ℕ) (h : History) → Grows id h h
grows_refl id h = record {
  elections = λ e in_e. in_e;
  casts = λ c in_c. in_c;
  messages = λ m in_m. in_m;
  books = λ e in_e. agree_same (length (h.book e.term)) (h.book e.term) (omega arith);
  other_books = λ e in_e other. refl;
  chosen = omega arith;
  new_elections = λ e in_e. inl in_e;
  new_casts = λ c in_c. inl in_c;
  new_acks = λ v s p a. inl a;
}

pub grows_trans : (id : ℕ) (h g f : History) → Grows id h g → Grows id g f → Grows id h f
grows_trans id h g f x y = record {
  elections = λ e in_e. y.elections e (x.elections e in_e);
  casts = λ c in_c. y.casts c (x.casts c in_c);
  messages = λ m in_m. y.messages m (x.messages m in_m);
  books = λ e in_e.
      let a = x.books e in_e in
      let b = y.books e (x.elections e in_e) in
      agree_trans (length (h.book e.term)) (h.book e.term) (g.book e.term) (f.book e.term) a
      (agree_less (length (h.book e.term)) (length (g.book e.term)) (g.book e.term) (f.book e.term) a.right b);
  other_books = λ e in_e other. x.other_books e in_e other ∙ y.other_books e (x.elections e in_e) other;
  chosen = omega (arith, x.chosen, y.chosen);
  new_elections = λ e in_e. elim (y.new_elections e in_e) [ inl old ↦ x.new_elections e old | inr new ↦ inr new ];
  new_casts = λ c in_c. elim (y.new_casts c in_c) [ inl old ↦ x.new_casts c old | inr new ↦ inr (new.0, λ d in_d by. new.1 d (x.casts d in_d) by) ];
  new_acks = λ v s p a. elim (y.new_acks v s p a) [ inl old ↦ x.new_acks v s p old | inr new ↦ inr (new.0, λ c in_c by. new.1 c (x.casts c in_c) by) ];
}

held_after : (ring : Layout) (id : ℕ) (h g : History) (d : Durable) → Grows id h g → IsHistory ring g → IsNode ring g id d → Holds ring id h g d
held_after ring id h g d grows history node = record { history = history; node = node; grows = grows }

pub same_node : (ring : Layout) (h : History) (id : ℕ) (d e : Durable) → SameLog d e → IsNode ring h id d → IsNode ring h id e
same_node ring h id d e s n = record {
  log = subst (λ (t : ℕ). IsBookedLog ring h t e.log) (sym s.term) (subst (λ (l : List Entry). IsBookedLog ring h d.term l) (sym s.log) n.log);
  led_below = λ f in_f by. omega (arith, n.led_below f in_f by, s.term);
  led_log = λ f in_f by t. s.log ∙ n.led_log f in_f by (t ∙ s.term);
  cast_below = λ c in_c by. omega (arith, n.cast_below c in_c by, s.term);
  cast_kept = λ c in_c by t. subst (λ (v : List Vote). Contains v c.vote) (sym s.votes) (n.cast_kept c in_c by (t ∙ s.term));
  votes_cast = λ w in_w. n.votes_cast w (subst (λ (v : List Vote). Contains v w) s.votes in_w);
  dropped = λ c in_c by. elim (n.dropped c in_c by) [
    | inl kept ↦ inl (subst (λ (v : List Vote). Contains v c.vote) (sym s.votes) kept)
    | inr gone ↦ inr (record {
      at = gone.at;
      sealed = subst (λ (l : List Entry). IsSealed ring h e.term gone.at l) (sym s.log)
          (subst (λ (t : ℕ). IsSealed ring h t gone.at d.log) (sym s.term) gone.sealed);
      above = subst (λ (l : List Entry). c.vote.term ≤ term_at l gone.at) (sym s.log) gone.above;
    })
  ];
  between = λ c f in_c in_f by_c by_f t low high. subst (λ (v : List Vote). Contains v f.vote) (sym s.votes)
      (n.between c f in_c in_f by_c by_f (t ∙ s.term) low high);
  acked_below = λ q p a. omega (arith, n.acked_below q p a, s.term);
  acked = λ q p a. elim (n.acked q p a) [ Kept x ↦ Kept (subst (λ (l : List Entry). Agree p (h.book q) l) (sym s.log) x) | Cut_by u o le ↦ Cut_by u o (omega (arith, s.term)) ];
  applied = subst (λ (l : List Entry). IsSealed ring h e.term e.applied l) (sym s.log)
      (subst (λ (t : ℕ). IsSealed ring h t e.applied d.log) (sym s.term) (subst (λ (c : ℕ). IsSealed ring h d.term c d.log) (sym s.applied) n.applied));
}

said_move : (ring : Layout) (id : ℕ) (h g f : History) (d : Durable) (a b : Action) → a ≡ b → g ≡ f → Holds ring id h f (done d b)
    → Holds ring id h g (done d a)
said_move ring id h g f d a b is same x =
    subst (λ (w : History). Holds ring id h w (done d a)) (sym same) (subst (λ (c : Action). Holds ring id h f (done d c)) (sym is) x)

pub still : (ring : Layout) (id : ℕ) (h : History) (d : Durable) → IsHistory ring h → IsNode ring h id d → Holds ring id h h d
still ring id h d k n = record { history = k; node = n; grows = grows_refl id h }

pub guarded_keeps : (ring : Layout) (id : ℕ) (h g : History) (d : Durable) (a : Action) → IsHistory ring h → IsNode ring h id d → Guarded ring id h d a g
    → Holds ring id h g (done d a)
guarded_keeps ring id h g d a k n (Raises t is up low same) =
    said_move ring id h g h d a (action.SetTerm t) is same (still ring id h (done d (action.SetTerm t)) k (raise_keeps ring h id t d up n))
guarded_keeps ring id h g d a k n (Votes c floor is may same) =
    said_move ring id h g (with_cast h c) d a (action.Vote c.vote floor) is same
    (held_after ring id h (with_cast h c) (done d (action.Vote c.vote floor)) (cast_grows ring h id d c floor k n may) (cast_keeps_history ring h id d c floor k n may) (cast_keeps_node ring h id d c floor k n may))
guarded_keeps ring id h g d a k n (Leads e x is may same) =
    said_move ring id h g (with_election h e (d.log ++ x ∷ [])) d a (action.Append (x ∷ [])) is same
    (held_after ring id h (with_election h e (d.log ++ x ∷ [])) (done d (action.Append (x ∷ []))) (led_grows ring h id d e x k n may) (led_history ring h id d e x k n may) (led_node ring h id d e x k n may))
guarded_keeps ring id h g d a k n (Adds e x is may same) =
    said_move ring id h g (with_book h d.term (d.log ++ x ∷ [])) d a (action.Append (x ∷ [])) is same
    (held_after ring id h (with_book h d.term (d.log ++ x ∷ [])) (done d (action.Append (x ∷ []))) (added_grows ring h id d e x k n may) (added_history ring h id d e x k n may) (added_node ring h id d e x k n may))
guarded_keeps ring id h g d a k n (Cuts p is may same) =
    said_move ring id h g h d a (action.Truncate p) is same
    (still ring id h (done d (action.Truncate p)) k (follow_keeps ring h id d (take p d.log) k n may.leader may.led may.of_term may.not_mine may.follows may.log))
guarded_keeps ring id h g d a k n (Extends es is may same) =
    said_move ring id h g h d a (action.Append es) is same
    (still ring id h (done d (action.Append es)) k (follow_keeps ring h id d (d.log ++ es) k n may.leader may.led may.of_term may.not_mine may.follows may.log))
guarded_keeps ring id h g d a k n (Applies p is s may same) =
    said_move ring id h g h d a (action.Commit p) is same
    (still ring id h (done d (action.Commit p)) k (same_node ring h id (record d { applied = p }) (done d (action.Commit p)) (record { term = refl; votes = refl; log = refl; applied = refl }) (apply_keeps ring h id p d n s)))
guarded_keeps ring id h g d a k n (Engine s same) =
    subst (λ (w : History). Holds ring id h w (done d a)) (sym same) (still ring id h (done d a) k (same_node ring h id d (done d a) s n))
