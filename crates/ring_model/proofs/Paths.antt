-- A step's actions as guarded moves, one after another: each keeps the invariant, so each beginning of them does, and only a winning move holds an election.
use Rattle.std.proofs.Common.{◌⊎◌, ◌≡◌, ◌==◌, Bool, true, false, ℕ, ◌≤◌, [], ◌∷◌, ◌++◌, ◌∙◌, List, ap, append_assoc, arith, inl, inr, length, refl, subst, suc, sym, take, zero}
use Rattle.std.proofs.lemmas.List.{append-nil}
use Rattle.std.proofs.lemmas.Bool.Decides.{nat_tests}
use Rattle.std.proofs.lemmas.List.Elements.{Contains-append_cases, Contains-append_left}
use Rattle.std.specs.List.{Contains}
use Rattle.ring_types.specs.declared.entries.Entry.{Entry}
use Rattle.ring_types.specs.Rings.{Layout}
use Rattle.ring_model.specs.declared.effects.Action.{Action}
use Rattle.ring_model.specs.declared.nodes.Durable.{Durable}
use Rattle.ring_model.specs.Runs.{Election}
use Rattle.ring_model.specs.Actions.{all_done, done}
use Rattle.ring_model.proofs.Invariant.{History, IsHistory, IsNode}
use Rattle.ring_model.proofs.Leading.{with_book, with_election}
use Rattle.ring_model.proofs.Moves.{Adds, Applies, Cuts, Engine, Extends, Guarded, Holds, Leads, MayReach, Raises, Votes, grows_trans, guarded_keeps, only_one, still}

-- ---- the actions of a step, one after another
pub data Path (ring : Layout) (id : ℕ) : History → Durable → List Action → History → Type 0 where
  Ends : {h : History} {d : Durable} → Path ring id h d [] h
  Goes_on : {h g f : History} {d : Durable} {a : Action} {rest : List Action} → Guarded ring id h d a g → Path ring id g (done d a) rest f
      → Path ring id h d (a ∷ rest) f

pub path_keeps : (ring : Layout) (id : ℕ) (h g : History) (d : Durable) (steps : List Action) → IsHistory ring h → IsNode ring h id d
    → Path ring id h d steps g → Holds ring id h g (all_done d steps)
path_keeps ring id h g d [] k n Ends = still ring id h d k n
path_keeps ring id h g d (a ∷ rest) k n (Goes_on {g = m} move path) =
    let x = guarded_keeps ring id h m d a k n move in
    let y = path_keeps ring id m g (done d a) rest x.history x.node path in
    record { history = y.history; node = y.node; grows = grows_trans id h m g x.grows y.grows }

-- a cut step: each beginning of a path is a path
unfoldable pub path_cut : (ring : Layout) (id : ℕ) (h g : History) (d : Durable) (steps : List Action) (n : ℕ) → Path ring id h d steps g
    → (f : History) × Path ring id h d (take n steps) f
path_cut ring id h g d steps zero p = (h, Ends)
path_cut ring id h g d [] (suc n) Ends = (h, Ends)
path_cut ring id h g d (a ∷ rest) (suc n) (Goes_on {g = m} move path) = let x = path_cut ring id m g (done d a) rest n path in (x.0, Goes_on move x.1)

-- no action sends or chooses
guarded_still : (ring : Layout) (id : ℕ) (h g : History) (d : Durable) (a : Action) → Guarded ring id h d a g
    → (g.messages ≡ h.messages) × (g.chosen ≡ h.chosen)
guarded_still ring id h g d a (Raises t is up low same) = (ap (λ (w : History). w.messages) same, ap (λ (w : History). w.chosen) same)
guarded_still ring id h g d a (Votes c floor is may same) = (ap (λ (w : History). w.messages) same, ap (λ (w : History). w.chosen) same)
guarded_still ring id h g d a (Leads e x is may same) = (ap (λ (w : History). w.messages) same, ap (λ (w : History). w.chosen) same)
guarded_still ring id h g d a (Adds e x is may same) = (ap (λ (w : History). w.messages) same, ap (λ (w : History). w.chosen) same)
guarded_still ring id h g d a (Cuts p is may same) = (ap (λ (w : History). w.messages) same, ap (λ (w : History). w.chosen) same)
guarded_still ring id h g d a (Extends es is may same) = (ap (λ (w : History). w.messages) same, ap (λ (w : History). w.chosen) same)
guarded_still ring id h g d a (Applies p is s may same) = (ap (λ (w : History). w.messages) same, ap (λ (w : History). w.chosen) same)
guarded_still ring id h g d a (Engine s same) = (ap (λ (w : History). w.messages) same, ap (λ (w : History). w.chosen) same)

pub path_messages : (ring : Layout) (id : ℕ) (h g : History) (d : Durable) (steps : List Action) → Path ring id h d steps g → g.messages ≡ h.messages
path_messages ring id h g d [] Ends = refl
path_messages ring id h g d (a ∷ rest) (Goes_on {g = m} move path) = path_messages ring id m g (done d a) rest path ∙ (guarded_still ring id h m d a move).0

pub path_chosen : (ring : Layout) (id : ℕ) (h g : History) (d : Durable) (steps : List Action) → Path ring id h d steps g → g.chosen ≡ h.chosen
path_chosen ring id h g d [] Ends = refl
path_chosen ring id h g d (a ∷ rest) (Goes_on {g = m} move path) = path_chosen ring id m g (done d a) rest path ∙ (guarded_still ring id h m d a move).1

-- ---- books on the way
-- the book of each led term is as it was, or the node's log after some of the actions
abbrev pub BooksGo : History → History → Durable → List Action → Type 0
BooksGo h g d steps =
    (e : Election) → Contains g.elections e → (Contains h.elections e × (g.book e.term ≡ h.book e.term)) ⊎ ((n : ℕ) × (g.book e.term ≡ (all_done d (take n steps)).log))

abbrev pub BookGoes : History → History → List Entry → Election → Type 0
BookGoes h g l e = (Contains h.elections e × (g.book e.term ≡ h.book e.term)) ⊎ (g.book e.term ≡ l)

book_stays : (h g : History) (l : List Entry) → g ≡ h → (e : Election) → Contains g.elections e → BookGoes h g l e
book_stays h g l same e in_e = inl (subst (λ (w : History). Contains w.elections e) same in_e, ap (λ (w : History). w.book e.term) same)

pub guarded_books : (ring : Layout) (id : ℕ) (h g : History) (d : Durable) (a : Action) → Guarded ring id h d a g → (e : Election) → Contains g.elections e
    → BookGoes h g (done d a).log e
guarded_books ring id h g d a (Leads f x is may same) e in_e =
    subst (λ (w : History). BookGoes h w (done d a).log e) (sym same)
    (subst (λ (b : Action). BookGoes h (with_election h f (d.log ++ x ∷ [])) (done d b).log e) (sym is)
    (go (e.term == f.term) refl (Contains-append_cases h.elections (f ∷ []) e (subst (λ (w : History). Contains w.elections e) same in_e))))
  where
    go : (b : Bool) → (e.term == f.term) ≡ b → Contains h.elections e ⊎ Contains (f ∷ []) e
        → BookGoes h (with_election h f (d.log ++ x ∷ [])) (d.log ++ x ∷ []) e
    go true y c = inr (rw y refl)
    go false y (inl old) = inl (old, rw y refl)
    go false y (inr new) =
        absurd (let z : f ≡ e = only_one f e new in let u : e.term ≡ f.term = ap (λ (w : Election). w.term) (sym z) in let v : (e.term == f.term) ≡ true = grind (arith, nat_tests, u) in let q : true ≡ false = sym v ∙ y in cc)
guarded_books ring id h g d a (Adds f x is may same) e in_e =
    subst (λ (w : History). BookGoes h w (done d a).log e) (sym same)
    (subst (λ (b : Action). BookGoes h (with_book h d.term (d.log ++ x ∷ [])) (done d b).log e) (sym is)
    (go (e.term == d.term) refl (subst (λ (w : History). Contains w.elections e) same in_e)))
  where
    go : (b : Bool) → (e.term == d.term) ≡ b → Contains h.elections e → BookGoes h (with_book h d.term (d.log ++ x ∷ [])) (d.log ++ x ∷ []) e
    go true y c = inr (rw y refl)
    go false y c = inl (c, rw y refl)
guarded_books ring id h g d a (Raises t is up low same) e in_e = book_stays h g (done d a).log same e in_e
guarded_books ring id h g d a (Votes c floor is may same) e in_e =
    inl (subst (λ (w : History). Contains w.elections e) same in_e, ap (λ (w : History). w.book e.term) same)
guarded_books ring id h g d a (Cuts p is may same) e in_e = book_stays h g (done d a).log same e in_e
guarded_books ring id h g d a (Extends es is may same) e in_e = book_stays h g (done d a).log same e in_e
guarded_books ring id h g d a (Applies p is s may same) e in_e = book_stays h g (done d a).log same e in_e
guarded_books ring id h g d a (Engine s same) e in_e = book_stays h g (done d a).log same e in_e

pub path_books : (ring : Layout) (id : ℕ) (h g : History) (d : Durable) (steps : List Action) → Path ring id h d steps g → BooksGo h g d steps
path_books ring id h g d [] Ends e in_e = inl (in_e, refl)
path_books ring id h g d (a ∷ rest) (Goes_on {g = m} move path) e in_e = elim (path_books ring id m g (done d a) rest path e in_e) [
  | inl old ↦ elim (guarded_books ring id h m d a move e old.0) [ inl before ↦ inl (before.0, old.1 ∙ before.1) | inr new ↦ inr (1, old.1 ∙ new) ]
  | inr new ↦ inr (suc new.0, new.1)
]

-- ---- elections on the way
-- the election that a move holds
abbrev pub elects : (ring : Layout) (id : ℕ) (h g : History) (d : Durable) (a : Action) → Guarded ring id h d a g → List Election
elects ring id h g d a (Raises t is up low same) = []
elects ring id h g d a (Votes c floor is may same) = []
elects ring id h g d a (Leads e x is may same) = e ∷ []
elects ring id h g d a (Adds e x is may same) = []
elects ring id h g d a (Cuts p is may same) = []
elects ring id h g d a (Extends es is may same) = []
elects ring id h g d a (Applies p is s may same) = []
elects ring id h g d a (Engine s same) = []

abbrev pub elected : (ring : Layout) (id : ℕ) (h g : History) (d : Durable) (steps : List Action) → Path ring id h d steps g → List Election
elected ring id h g d [] Ends = []
elected ring id h g d (a ∷ rest) (Goes_on {g = m} move path) = elects ring id h m d a move ++ elected ring id m g (done d a) rest path

guarded_elections : (ring : Layout) (id : ℕ) (h g : History) (d : Durable) (a : Action) (move : Guarded ring id h d a g)
    → g.elections ≡ h.elections ++ elects ring id h g d a move
guarded_elections ring id h g d a (Raises t is up low same) = ap (λ (w : History). w.elections) same ∙ sym (append-nil h.elections)
guarded_elections ring id h g d a (Votes c floor is may same) = ap (λ (w : History). w.elections) same ∙ sym (append-nil h.elections)
guarded_elections ring id h g d a (Leads e x is may same) = ap (λ (w : History). w.elections) same
guarded_elections ring id h g d a (Adds e x is may same) = ap (λ (w : History). w.elections) same ∙ sym (append-nil h.elections)
guarded_elections ring id h g d a (Cuts p is may same) = ap (λ (w : History). w.elections) same ∙ sym (append-nil h.elections)
guarded_elections ring id h g d a (Extends es is may same) = ap (λ (w : History). w.elections) same ∙ sym (append-nil h.elections)
guarded_elections ring id h g d a (Applies p is s may same) = ap (λ (w : History). w.elections) same ∙ sym (append-nil h.elections)
guarded_elections ring id h g d a (Engine s same) = ap (λ (w : History). w.elections) same ∙ sym (append-nil h.elections)

pub path_elections : (ring : Layout) (id : ℕ) (h g : History) (d : Durable) (steps : List Action) (path : Path ring id h d steps g)
    → g.elections ≡ h.elections ++ elected ring id h g d steps path
path_elections ring id h g d [] Ends = sym (append-nil h.elections)
path_elections ring id h g d (a ∷ rest) (Goes_on {g = m} move path) =
    path_elections ring id m g (done d a) rest path
    ∙ (ap (λ (w : List Election). w ++ elected ring id m g (done d a) rest path) (guarded_elections ring id h m d a move)
    ∙ append_assoc h.elections (elects ring id h m d a move) (elected ring id m g (done d a) rest path))

-- ---- how far a path reaches
pub reach_on : (h g : History) (id t u p q : ℕ) → g.chosen ≡ h.chosen → ((e : Election) → Contains h.elections e → Contains g.elections e) → u ≡ t → q ≡ p
    → MayReach h id t p → MayReach g id u q
reach_on h g id t u p q chosen more same_term same (inl low) = inl (omega (arith, ap length chosen))
reach_on h g id t u p q chosen more same_term same (inr led) = inr (led.0, more led.0 led.1, led.2, led.3 ∙ sym same_term)

pub reach_less : (h : History) (id t p q : ℕ) → q ≤ p → MayReach h id t p → MayReach h id t q
reach_less h id t p q le (inl low) = inl (omega arith)
reach_less h id t p q le (inr led) = inr led

guarded_leads : (ring : Layout) (id : ℕ) (h g : History) (d : Durable) (a : Action) → Guarded ring id h d a g → (e : Election) → Contains h.elections e
    → Contains g.elections e
guarded_leads ring id h g d a move e in_e =
    subst (λ (l : List Election). Contains l e) (sym (guarded_elections ring id h g d a move))
    (Contains-append_left h.elections (elects ring id h g d a move) e in_e)

guarded_reaches : (ring : Layout) (id : ℕ) (h g : History) (d : Durable) (a : Action) → Guarded ring id h d a g → MayReach h id d.term d.applied
    → MayReach g id (done d a).term (done d a).applied
guarded_reaches ring id h g d a (Raises t is up low same) x =
    inl (omega (arith, low, ap (λ (w : Action). (done d w).applied) is, ap (λ (w : History). length w.chosen) same))
guarded_reaches ring id h g d a (Applies p is s may same) x =
    reach_on h g id d.term (done d a).term p (done d a).applied (guarded_still ring id h g d a (Applies p is s may same)).1
    (guarded_leads ring id h g d a (Applies p is s may same)) (ap (λ (w : Action). (done d w).term) is) (ap (λ (w : Action). (done d w).applied) is) may
guarded_reaches ring id h g d a (Engine s same) x =
    reach_on h g id d.term (done d a).term d.applied (done d a).applied (guarded_still ring id h g d a (Engine s same)).1
    (guarded_leads ring id h g d a (Engine s same)) s.term s.applied x
guarded_reaches ring id h g d a (Votes c floor is may same) x =
    reach_on h g id d.term (done d a).term d.applied (done d a).applied (guarded_still ring id h g d a (Votes c floor is may same)).1
    (guarded_leads ring id h g d a (Votes c floor is may same)) (ap (λ (w : Action). (done d w).term) is) (ap (λ (w : Action). (done d w).applied) is) x
guarded_reaches ring id h g d a (Leads e y is may same) x =
    reach_on h g id d.term (done d a).term d.applied (done d a).applied (guarded_still ring id h g d a (Leads e y is may same)).1
    (guarded_leads ring id h g d a (Leads e y is may same)) (ap (λ (w : Action). (done d w).term) is) (ap (λ (w : Action). (done d w).applied) is) x
guarded_reaches ring id h g d a (Adds e y is may same) x =
    reach_on h g id d.term (done d a).term d.applied (done d a).applied (guarded_still ring id h g d a (Adds e y is may same)).1
    (guarded_leads ring id h g d a (Adds e y is may same)) (ap (λ (w : Action). (done d w).term) is) (ap (λ (w : Action). (done d w).applied) is) x
guarded_reaches ring id h g d a (Cuts y is may same) x =
    reach_on h g id d.term (done d a).term d.applied (done d a).applied (guarded_still ring id h g d a (Cuts y is may same)).1
    (guarded_leads ring id h g d a (Cuts y is may same)) (ap (λ (w : Action). (done d w).term) is) (ap (λ (w : Action). (done d w).applied) is) x
guarded_reaches ring id h g d a (Extends y is may same) x =
    reach_on h g id d.term (done d a).term d.applied (done d a).applied (guarded_still ring id h g d a (Extends y is may same)).1
    (guarded_leads ring id h g d a (Extends y is may same)) (ap (λ (w : Action). (done d w).term) is) (ap (λ (w : Action). (done d w).applied) is) x

pub path_reaches : (ring : Layout) (id : ℕ) (h g : History) (d : Durable) (steps : List Action) → Path ring id h d steps g → MayReach h id d.term d.applied
    → MayReach g id (all_done d steps).term (all_done d steps).applied
path_reaches ring id h g d [] Ends x = x
path_reaches ring id h g d (a ∷ rest) (Goes_on {g = m} move path) x = path_reaches ring id m g (done d a) rest path (guarded_reaches ring id h m d a move x)
