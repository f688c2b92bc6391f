-- the actions of a plan, one after the other: each is possible where its turn comes, and what is left of the list is what was given
use Rattle.std.proofs.Common.{◌≡◌, ℕ, zero, suc, ◌≤◌, List, [], ◌∷◌, length, take, drop, Option, None, Some, option_map, refl, sym, ap, subst, ◌∙◌, arith}
use Rattle.std.specs.Prelude.{IfSome, OnOk, Result, Ok, Err, slice_get, slice_set}
use Rattle.ring_types.specs.Rings.{Layout}
use Rattle.ring_model.specs.Actions.{ArePossible, IsPossible, all_done, done}
use Rattle.ring_model.specs.declared.effects.Action.{Action}
use Rattle.ring_model.specs.declared.nodes.Durable.{Durable}
use Rattle.ring_lawful.specs.EachStep.{IsFitNode, IsFitPart, IsGood}
use Rattle.ring_lawful.proofs.EachStep.{every_step_is_possible, every_step_keeps_lawful}
use Rattle.ring_lawful.proofs.Recovery.{every_first_node_is_lawful}
use Rattle.ring_model.specs.Nodes.{empty_durable, fresh_soft}
use Rattle.ring_model.specs.declared.worlds.Shown.{Shown}
use Rattle.node_unit.specs.Units.{IsFitShown, after_answer, answered}
use Rattle.ring_model.specs.Dispatch.{step}
use Rattle.ring_model.specs.declared.effects.Plan.{Plan}
use Rattle.ring_model.specs.declared.effects.Step.{Step}
use Rattle.ring_model.specs.declared.messages.Input.{Input}
use Rattle.ring_model.specs.declared.nodes.Soft.{Soft}
use Rattle.node_store.specs.Stores.{StoreState}

-- so many of the given actions are done; those that are left stand where they stood
pub record Going (ring : Layout) (me : ℕ) (old now : StoreState) (given left : List Action) (at end : ℕ) : Type 0 where
  pub long : length left ≡ end
  pub rest : drop at left ≡ drop at given
  pub done_so_far : all_done now.durable (drop at given) ≡ all_done old.durable given
  pub possible : ArePossible ring.schema now.durable (drop at given)
  pub fit : (n : ℕ) → IsFitPart ring me (all_done now.durable (take n (drop at given)))
  pub engine : now.engine ≡ old.engine

drop_at : (xs : List Action) (k : ℕ) (x : Action) → slice_get xs k ≡ Some x → drop k xs ≡ x ∷ drop (suc k) xs
drop_at [] k x is = absurd cc
drop_at (y ∷ xs) zero x is = let same : y ≡ x = cc in ap (λ (z : Action). z ∷ xs) same
drop_at (y ∷ xs) (suc k) x is = drop_at xs k x is

drop_more : (xs : List Action) (k : ℕ) → drop (suc k) xs ≡ drop 1 (drop k xs)
drop_more [] zero = refl
drop_more [] (suc k) = refl
drop_more (y ∷ xs) zero = refl
drop_more (y ∷ xs) (suc k) = drop_more xs k

drop_set : (xs : List Action) (k : ℕ) (x : Action) → drop (suc k) (slice_set xs k x) ≡ drop (suc k) xs
drop_set [] k x = refl
drop_set (y ∷ xs) zero x = refl
drop_set (y ∷ xs) (suc k) x = drop_set xs k x

length_set : (xs : List Action) (k : ℕ) (x : Action) → length (slice_set xs k x) ≡ length xs
length_set [] k x = refl
length_set (y ∷ xs) zero x = refl
length_set (y ∷ xs) (suc k) x = ap suc (length_set xs k x)

drop_all : (xs : List Action) (k : ℕ) → length xs ≤ k → drop k xs ≡ []
drop_all [] zero h = refl
drop_all [] (suc k) h = refl
drop_all (x ∷ xs) zero h = absurd (omega arith)
drop_all (x ∷ xs) (suc k) h = drop_all xs k (omega arith)

tails : (given left : List Action) (at : ℕ) (a : Action) → drop at left ≡ drop at given → slice_get left at ≡ Some a → drop (suc at) given ≡ drop (suc at) left
tails given left at a rest is = drop_more given at ∙ ap (drop 1) (sym rest ∙ drop_at left at a is)

split : (given left : List Action) (at : ℕ) (a : Action) → drop at left ≡ drop at given → slice_get left at ≡ Some a → drop at given ≡ a ∷ drop (suc at) given
split given left at a rest is = sym rest ∙ (drop_at left at a is ∙ ap (λ (xs : List Action). a ∷ xs) (sym (tails given left at a rest is)))

-- ---- the beginning and the end
pub begins : (ring : Layout) (me : ℕ) (old : StoreState) (given : List Action) (end : ℕ) → end ≡ length given → ArePossible ring.schema old.durable given
    → ((n : ℕ) → IsFitPart ring me (all_done old.durable (take n given))) → Going ring me old old given given 0 end
begins ring me old given end is possible fit = record { long = sym is; rest = refl; done_so_far = refl; possible = possible; fit = fit; engine = refl }

pub ends : (ring : Layout) (me : ℕ) (old now : StoreState) (given left : List Action) (at end : ℕ) → Going ring me old now given left at end → end ≤ at → now.durable ≡ all_done old.durable given
ends ring me old now given left at end g past =
    let long = g.long in
    let none : drop at given ≡ [] = sym g.rest ∙ drop_all left at (omega arith) in
    sym (ap (all_done now.durable) none) ∙ g.done_so_far

-- ---- one action
pub here_fits : (ring : Layout) (me : ℕ) (old now : StoreState) (given left : List Action) (at end : ℕ) → Going ring me old now given left at end → IsFitPart ring me now.durable
here_fits ring me old now given left at end g = g.fit 0

pub here_possible : (ring : Layout) (me : ℕ) (old now : StoreState) (given left : List Action) (at end : ℕ) (a : Action) → Going ring me old now given left at end
    → slice_get left at ≡ Some a → IsPossible ring.schema now.durable a
here_possible ring me old now given left at end a g is =
    let both : ArePossible ring.schema now.durable (a ∷ drop (suc at) given) = subst (ArePossible ring.schema now.durable) (split given left at a g.rest is) g.possible in
    both.0

pub goes_on : (ring : Layout) (me : ℕ) (old now new : StoreState) (given left after : List Action) (at m end : ℕ) (a x : Action) → Going ring me old now given left at end
    → slice_get left at ≡ Some a → after ≡ slice_set left at x → m ≡ suc at → new.durable ≡ done now.durable a → new.engine ≡ now.engine → Going ring me old new given after m end
goes_on ring me old now new given left after at m end a x g is set next did same =
    let front = split given left at a g.rest is in
    let possible : ArePossible ring.schema now.durable (a ∷ drop (suc at) given) = subst (ArePossible ring.schema now.durable) front g.possible in
    let whole : all_done now.durable (a ∷ drop (suc at) given) ≡ all_done old.durable given = sym (ap (all_done now.durable) front) ∙ g.done_so_far in
    let fits : (n : ℕ) → IsFitPart ring me (all_done now.durable (take (suc n) (a ∷ drop (suc at) given))) =
    λ n. subst (λ (xs : List Action). IsFitPart ring me (all_done now.durable (take (suc n) xs))) front (g.fit (suc n)) in
    rw (set, next, did) (record {
      long = length_set left at x ∙ g.long;
      rest = drop_set left at x ∙ sym (tails given left at a g.rest is);
      done_so_far = whole;
      possible = possible.1;
      fit = fits;
      engine = same ∙ g.engine;
    })

-- ---- the actions of a step
pub fit_of : (ring : Layout) (me : ℕ) (d : Durable) (o : Option Soft) (s : Soft) → o ≡ Some s → IfSome o (IsFitNode ring me d) → IsFitNode ring me d s
fit_of ring me d None s is fit = absurd cc
fit_of ring me d (Some t) s is fit = let same : t ≡ s = cc in subst (IsFitNode ring me d) same fit

pub step_acts : (ring : Layout) (me : ℕ) (d : Durable) (s new : Soft) (i : Input) (plan : Plan) → IsFitNode ring me d s → IsGood ring i → step ring me d s i ≡ record { plan = plan; soft = new }
    → ArePossible ring.schema d plan.actions × ((n : ℕ) → IsFitPart ring me (all_done d (take n plan.actions)))
step_acts ring me d s new i plan fit good is =
    let same : (step ring me d s i).plan.actions ≡ plan.actions = ap (λ (st : Step). st.plan.actions) is in
    subst (λ (xs : List Action). ArePossible ring.schema d xs × ((n : ℕ) → IsFitPart ring me (all_done d (take n xs)))) same (every_step_is_possible ring me d s i fit good)

-- ---- a fit node stays fit
pub answer_fits : (ring : Layout) (i : Input) (s : Shown) → IsFitShown ring s → IsGood ring i → IsFitShown ring (after_answer s (answered ring i s))
answer_fits ring i s fit good = go s.soft fit.node
  where
    go : (o : Option Soft) → IfSome o (IsFitNode ring s.node s.durable) → IsFitShown ring (after_answer s (option_map (λ (f : Soft). step ring s.node s.durable f i) o))
    go None node = fit
    go (Some f) node =
        let kept = every_step_keeps_lawful ring s.node s.durable f i node good in
        record { part = (kept.0.sound, kept.1); node = kept }

pub answer_keeps : (ring : Layout) (i : Input) (s : Shown) → (after_answer s (answered ring i s)).node ≡ s.node
answer_keeps ring i s = go (answered ring i s)
  where
    go : (o : Option Step) → (after_answer s o).node ≡ s.node
    go None = refl
    go (Some st) = refl

pub first_fits : (ring : Layout) (me : ℕ) → IsFitShown ring (record { node = me; durable = empty_durable; soft = Some (fresh_soft empty_durable) })
first_fits ring me = let (part, node) = every_first_node_is_lawful ring me in record { part = part; node = node }

-- ---- what an answer that is Ok brings
pub on_ok : {T E : Type 0} (A B : Type 0) (r : Result T E) → (A → B) → OnOk r A → OnOk r B
on_ok A B (Ok x) f a = f a
on_ok A B (Err e) f a = tt

pub on_ok2 : {T E : Type 0} (A B C : Type 0) (r : Result T E) → (A → B → C) → OnOk r A → OnOk r B → OnOk r C
on_ok2 A B C (Ok x) f a b = f a b
on_ok2 A B C (Err e) f a b = tt
