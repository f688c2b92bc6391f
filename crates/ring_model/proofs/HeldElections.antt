-- Paths one after another hold what each of them holds; so a path that ends in a win holds the election that the definition finds in its actions.
use Rattle.std.proofs.Common.{◌≡◌, ℕ, [], ◌∷◌, ◌++◌, ◌∙◌, List, ap, refl, subst, suc, sym, take, zero}
use Rattle.ring_types.specs.declared.entries.Entry.{Entry}
use Rattle.ring_types.specs.declared.entries.Grant.{Grant}
use Rattle.ring_types.specs.Rings.{Layout}
use Rattle.ring_types.specs.declared.entries.Vote.{Vote}
use Rattle.ring_model.specs.declared.effects.Action.{Action}
use Rattle.ring_model.specs.declared.nodes.Durable.{Durable}
use Rattle.ring_model.specs.Runs.{Election, first_append}
use Rattle.ring_model.specs.Actions.{all_done, done}
use Rattle.ring_model.specs.declared.effects.Action.TheVariants as action
use Rattle.ring_model.proofs.Invariant.{History}
use Rattle.ring_model.proofs.Moves.{Adds, Applies, Cuts, Engine, Extends, Guarded, Leads, Raises, Votes}
use Rattle.ring_model.proofs.Paths.{Ends, Goes_on, Path, elected, elects, path_cut}

-- a move of a path that goes on to an election with these grants: a term or a vote, or the election itself with none after it
abbrev pub IsHeldBy : (ring : Layout) (id : ℕ) (h g : History) (d : Durable) (a : Action) → List Grant → Guarded ring id h d a g → Type 0 → List Election
    → Type 0
IsHeldBy ring id h g d a grants (Raises t is up low same) rest more = rest
IsHeldBy ring id h g d a grants (Votes c floor is may same) rest more = rest
IsHeldBy ring id h g d a grants (Leads e x is may same) rest more = (e.grants ≡ grants) × (more ≡ [])
IsHeldBy ring id h g d a grants (Adds e x is may same) rest more = ⊥
IsHeldBy ring id h g d a grants (Cuts p is may same) rest more = ⊥
IsHeldBy ring id h g d a grants (Extends es is may same) rest more = ⊥
IsHeldBy ring id h g d a grants (Applies p is s may same) rest more = ⊥
IsHeldBy ring id h g d a grants (Engine s same) rest more = ⊥

-- the path holds an election with these grants
abbrev pub IsHeld : (ring : Layout) (id : ℕ) (h g : History) (d : Durable) (steps : List Action) → List Grant → Path ring id h d steps g → Type 0
IsHeld ring id h g d [] grants Ends = ⊥
IsHeld ring id h g d (a ∷ rest) grants (Goes_on {g = m} move path) =
    IsHeldBy ring id h m d a grants move (IsHeld ring id m g (done d a) rest grants path) (elected ring id m g (done d a) rest path)

-- a path of terms and votes alone
abbrev pub IsBefore : (ring : Layout) (id : ℕ) (h g : History) (d : Durable) (steps : List Action) → Path ring id h d steps g → Type 0
IsBefore ring id h g d [] Ends = Unit {0}
IsBefore ring id h g d (a ∷ rest) (Goes_on {g = m} (Raises t is up low same) path) = IsBefore ring id m g (done d a) rest path
IsBefore ring id h g d (a ∷ rest) (Goes_on {g = m} (Votes c floor is may same) path) = IsBefore ring id m g (done d a) rest path
IsBefore ring id h g d (a ∷ rest) (Goes_on {g = m} (Leads e x is may same) path) = ⊥
IsBefore ring id h g d (a ∷ rest) (Goes_on {g = m} (Adds e x is may same) path) = ⊥
IsBefore ring id h g d (a ∷ rest) (Goes_on {g = m} (Cuts p is may same) path) = ⊥
IsBefore ring id h g d (a ∷ rest) (Goes_on {g = m} (Extends es is may same) path) = ⊥
IsBefore ring id h g d (a ∷ rest) (Goes_on {g = m} (Applies p is s may same) path) = ⊥
IsBefore ring id h g d (a ∷ rest) (Goes_on {g = m} (Engine s same) path) = ⊥

quiet_cut_go : (xs ys : List Election) → xs ++ ys ≡ [] → (xs ≡ []) × (ys ≡ [])
quiet_cut_go [] ys is = (refl, is)
quiet_cut_go (x ∷ xs) ys is = absurd cc

-- a path that holds no election holds none in any beginning
pub quiet_cut : (ring : Layout) (id : ℕ) (h g : History) (d : Durable) (steps : List Action) (n : ℕ) (path : Path ring id h d steps g)
    → elected ring id h g d steps path ≡ []
    → elected ring id h (path_cut ring id h g d steps n path).0 d (take n steps) (path_cut ring id h g d steps n path).1 ≡ []
unfolding path_cut
quiet_cut ring id h g d [] zero Ends none = refl
quiet_cut ring id h g d (a ∷ rest) zero (Goes_on move path) none = refl
quiet_cut ring id h g d [] (suc n) Ends none = refl
quiet_cut ring id h g d (a ∷ rest) (suc n) (Goes_on {g = m} move path) none =
    let two = quiet_cut_go (elects ring id h m d a move) (elected ring id m g (done d a) rest path) none in
    ap (λ (w : List Election). w ++ elected ring id m (path_cut ring id m g (done d a) rest n path).0 (done d a) (take n rest) (path_cut ring id m g (done d a) rest n path).1) two.0
    ∙ quiet_cut ring id m g (done d a) rest n path two.1

-- ---- paths one after another
pub path_join : (ring : Layout) (id : ℕ) (h g f : History) (d : Durable) (a b : List Action) → Path ring id h d a g → Path ring id g (all_done d a) b f
    → Path ring id h d (a ++ b) f
path_join ring id h g f d [] b Ends q = q
path_join ring id h g f d (x ∷ a) b (Goes_on {g = m} move p) q = Goes_on move (path_join ring id m g f (done d x) a b p q)

pub done_join : (d : Durable) (a b : List Action) → all_done d (a ++ b) ≡ all_done (all_done d a) b
done_join d [] b = refl
done_join d (x ∷ a) b = done_join (done d x) a b

pub quiet_join : (ring : Layout) (id : ℕ) (h g f : History) (d : Durable) (a b : List Action) (p : Path ring id h d a g) (q : Path ring id g (all_done d a) b f)
    → elected ring id h g d a p ≡ [] → elected ring id g f (all_done d a) b q ≡ [] → elected ring id h f d (a ++ b) (path_join ring id h g f d a b p q) ≡ []
unfolding path_join
quiet_join ring id h g f d [] b Ends q x y = y
quiet_join ring id h g f d (s ∷ a) b (Goes_on {g = m} move p) q x y =
    let two = quiet_cut_go (elects ring id h m d s move) (elected ring id m g (done d s) a p) x in
    ap (λ (w : List Election). w ++ elected ring id m f (done d s) (a ++ b) (path_join ring id m g f (done d s) a b p q)) two.0
    ∙ quiet_join ring id m g f (done d s) a b p q two.1 y

-- what comes after an election holds none
pub held_join : (ring : Layout) (id : ℕ) (h g f : History) (d : Durable) (a b : List Action) (grants : List Grant) (p : Path ring id h d a g)
    (q : Path ring id g (all_done d a) b f)
    → IsHeld ring id h g d a grants p → elected ring id g f (all_done d a) b q ≡ [] → IsHeld ring id h f d (a ++ b) grants (path_join ring id h g f d a b p q)
unfolding path_join
held_join ring id h g f d [] b grants Ends q x y = absurd x
held_join ring id h g f d (s ∷ a) b grants (Goes_on {g = m} (Raises t is up low same) p) q x y = held_join ring id m g f (done d s) a b grants p q x y
held_join ring id h g f d (s ∷ a) b grants (Goes_on {g = m} (Votes c floor is may same) p) q x y = held_join ring id m g f (done d s) a b grants p q x y
held_join ring id h g f d (s ∷ a) b grants (Goes_on {g = m} (Leads e w is may same) p) q x y = (x.0, quiet_join ring id m g f (done d s) a b p q x.1 y)
held_join ring id h g f d (s ∷ a) b grants (Goes_on {g = m} (Adds e w is may same) p) q x y = absurd x
held_join ring id h g f d (s ∷ a) b grants (Goes_on {g = m} (Cuts w is may same) p) q x y = absurd x
held_join ring id h g f d (s ∷ a) b grants (Goes_on {g = m} (Extends es is may same) p) q x y = absurd x
held_join ring id h g f d (s ∷ a) b grants (Goes_on {g = m} (Applies w is sealed may same) p) q x y = absurd x
held_join ring id h g f d (s ∷ a) b grants (Goes_on {g = m} (Engine sealed same) p) q x y = absurd x

-- terms and votes may come before an election
pub before_join : (ring : Layout) (id : ℕ) (h g f : History) (d : Durable) (a b : List Action) (grants : List Grant) (p : Path ring id h d a g)
    (q : Path ring id g (all_done d a) b f)
    → IsBefore ring id h g d a p → IsHeld ring id g f (all_done d a) b grants q → IsHeld ring id h f d (a ++ b) grants (path_join ring id h g f d a b p q)
unfolding path_join
before_join ring id h g f d [] b grants Ends q x y = y
before_join ring id h g f d (s ∷ a) b grants (Goes_on {g = m} (Raises t is up low same) p) q x y = before_join ring id m g f (done d s) a b grants p q x y
before_join ring id h g f d (s ∷ a) b grants (Goes_on {g = m} (Votes c floor is may same) p) q x y = before_join ring id m g f (done d s) a b grants p q x y
before_join ring id h g f d (s ∷ a) b grants (Goes_on {g = m} (Leads e w is may same) p) q x y = absurd x
before_join ring id h g f d (s ∷ a) b grants (Goes_on {g = m} (Adds e w is may same) p) q x y = absurd x
before_join ring id h g f d (s ∷ a) b grants (Goes_on {g = m} (Cuts w is may same) p) q x y = absurd x
before_join ring id h g f d (s ∷ a) b grants (Goes_on {g = m} (Extends es is may same) p) q x y = absurd x
before_join ring id h g f d (s ∷ a) b grants (Goes_on {g = m} (Applies w is sealed may same) p) q x y = absurd x
before_join ring id h g f d (s ∷ a) b grants (Goes_on {g = m} (Engine sealed same) p) q x y = absurd x

-- terms and votes hold no election
pub before_quiet : (ring : Layout) (id : ℕ) (h g : History) (d : Durable) (a : List Action) (p : Path ring id h d a g) → IsBefore ring id h g d a p
    → elected ring id h g d a p ≡ []
before_quiet ring id h g d [] Ends x = refl
before_quiet ring id h g d (s ∷ a) (Goes_on {g = m} (Raises t is up low same) p) x = before_quiet ring id m g (done d s) a p x
before_quiet ring id h g d (s ∷ a) (Goes_on {g = m} (Votes c floor is may same) p) x = before_quiet ring id m g (done d s) a p x
before_quiet ring id h g d (s ∷ a) (Goes_on {g = m} (Leads e w is may same) p) x = absurd x
before_quiet ring id h g d (s ∷ a) (Goes_on {g = m} (Adds e w is may same) p) x = absurd x
before_quiet ring id h g d (s ∷ a) (Goes_on {g = m} (Cuts w is may same) p) x = absurd x
before_quiet ring id h g d (s ∷ a) (Goes_on {g = m} (Extends es is may same) p) x = absurd x
before_quiet ring id h g d (s ∷ a) (Goes_on {g = m} (Applies w is sealed may same) p) x = absurd x
before_quiet ring id h g d (s ∷ a) (Goes_on {g = m} (Engine sealed same) p) x = absurd x

-- ---- the election that the definition finds
abbrev election_of : ℕ → ℕ → List Entry → List Grant → Election
election_of term node base grants = record { term = term; node = node; base = base; grants = grants }

election_is : (e : Election) (id : ℕ) (d : Durable) (grants : List Grant) → e.term ≡ d.term → e.node ≡ id → e.base ≡ d.log → e.grants ≡ grants
    → e ≡ record { term = d.term; node = id; base = d.log; grants = grants }
election_is e id d grants t n b g =
    ap (λ (w : ℕ). election_of w e.node e.base e.grants) t
    ∙ (ap (λ (w : ℕ). election_of d.term w e.base e.grants) n
    ∙ (ap (λ (w : List Entry). election_of d.term id w e.grants) b ∙ ap (λ (w : List Grant). election_of d.term id d.log w) g))

append_found : (id : ℕ) (grants : List Grant) (d : Durable) (a : Action) (x : Entry) (rest : List Action) → a ≡ action.Append (x ∷ [])
    → first_append id grants d (a ∷ rest) ≡ record { term = d.term; node = id; base = d.log; grants = grants } ∷ []
append_found id grants d a x rest is =
    subst (λ (w : Action). first_append id grants d (w ∷ rest) ≡ record { term = d.term; node = id; base = d.log; grants = grants } ∷ []) (sym is) refl

term_passed : (id : ℕ) (grants : List Grant) (d : Durable) (a : Action) (t : ℕ) (rest : List Action) → a ≡ action.SetTerm t
    → first_append id grants d (a ∷ rest) ≡ first_append id grants (done d a) rest
term_passed id grants d a t rest is = subst (λ (w : Action). first_append id grants d (w ∷ rest) ≡ first_append id grants (done d w) rest) (sym is) refl

vote_passed : (id : ℕ) (grants : List Grant) (d : Durable) (a : Action) (v : Vote) (floor : ℕ) (rest : List Action) → a ≡ action.Vote v floor
    → first_append id grants d (a ∷ rest) ≡ first_append id grants (done d a) rest
vote_passed id grants d a v floor rest is = subst (λ (w : Action). first_append id grants d (w ∷ rest) ≡ first_append id grants (done d w) rest) (sym is) refl

pub held_whole : (ring : Layout) (id : ℕ) (h g : History) (d : Durable) (steps : List Action) (grants : List Grant) (path : Path ring id h d steps g)
    → IsHeld ring id h g d steps grants path
    → elected ring id h g d steps path ≡ first_append id grants d steps
held_whole ring id h g d [] grants Ends x = absurd x
held_whole ring id h g d (a ∷ rest) grants (Goes_on {g = m} (Raises t is up low same) p) x =
    held_whole ring id m g (done d a) rest grants p x ∙ sym (term_passed id grants d a t rest is)
held_whole ring id h g d (a ∷ rest) grants (Goes_on {g = m} (Votes c floor is may same) p) x =
    held_whole ring id m g (done d a) rest grants p x ∙ sym (vote_passed id grants d a c.vote floor rest is)
held_whole ring id h g d (a ∷ rest) grants (Goes_on {g = m} (Leads e w is may same) p) x =
    ap (λ (q : List Election). e ∷ q) x.1
    ∙ (ap (λ (q : Election). q ∷ []) (election_is e id d grants may.of_term may.by may.base x.0) ∙ sym (append_found id grants d a w rest is))
held_whole ring id h g d (a ∷ rest) grants (Goes_on {g = m} (Adds e w is may same) p) x = absurd x
held_whole ring id h g d (a ∷ rest) grants (Goes_on {g = m} (Cuts w is may same) p) x = absurd x
held_whole ring id h g d (a ∷ rest) grants (Goes_on {g = m} (Extends es is may same) p) x = absurd x
held_whole ring id h g d (a ∷ rest) grants (Goes_on {g = m} (Applies w is sealed may same) p) x = absurd x
held_whole ring id h g d (a ∷ rest) grants (Goes_on {g = m} (Engine sealed same) p) x = absurd x

pub held_cut : (ring : Layout) (id : ℕ) (h g : History) (d : Durable) (steps : List Action) (grants : List Grant) (n : ℕ) (path : Path ring id h d steps g)
    → IsHeld ring id h g d steps grants path
    → elected ring id h (path_cut ring id h g d steps n path).0 d (take n steps) (path_cut ring id h g d steps n path).1 ≡ first_append id grants d (take n steps)
unfolding path_cut
held_cut ring id h g d [] grants n Ends x = absurd x
held_cut ring id h g d (a ∷ rest) grants zero (Goes_on move p) x = refl
held_cut ring id h g d (a ∷ rest) grants (suc n) (Goes_on {g = m} (Raises t is up low same) p) x =
    held_cut ring id m g (done d a) rest grants n p x ∙ sym (term_passed id grants d a t (take n rest) is)
held_cut ring id h g d (a ∷ rest) grants (suc n) (Goes_on {g = m} (Votes c floor is may same) p) x =
    held_cut ring id m g (done d a) rest grants n p x ∙ sym (vote_passed id grants d a c.vote floor (take n rest) is)
held_cut ring id h g d (a ∷ rest) grants (suc n) (Goes_on {g = m} (Leads e w is may same) p) x =
    ap (λ (q : List Election). e ∷ q) (quiet_cut ring id m g (done d a) rest n p x.1)
    ∙ (ap (λ (q : Election). q ∷ []) (election_is e id d grants may.of_term may.by may.base x.0) ∙ sym (append_found id grants d a w (take n rest) is))
held_cut ring id h g d (a ∷ rest) grants (suc n) (Goes_on {g = m} (Adds e w is may same) p) x = absurd x
held_cut ring id h g d (a ∷ rest) grants (suc n) (Goes_on {g = m} (Cuts w is may same) p) x = absurd x
held_cut ring id h g d (a ∷ rest) grants (suc n) (Goes_on {g = m} (Extends es is may same) p) x = absurd x
held_cut ring id h g d (a ∷ rest) grants (suc n) (Goes_on {g = m} (Applies w is sealed may same) p) x = absurd x
held_cut ring id h g d (a ∷ rest) grants (suc n) (Goes_on {g = m} (Engine sealed same) p) x = absurd x
