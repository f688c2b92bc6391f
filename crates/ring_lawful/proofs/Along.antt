-- A fact of durable parts that holds before and after each of a list of actions, so after any beginning of them.
use Rattle.std.proofs.Common.{ℕ, [], ◌∷◌, ◌++◌, List, suc, take, zero}
use Rattle.ring_model.specs.declared.effects.Action.{Action}
use Rattle.ring_model.specs.declared.nodes.Durable.{Durable}
use Rattle.ring_model.specs.Actions.{all_done, done}

abbrev pub Along : (Durable → Type 0) → Durable → List Action → Type 0
Along P d [] = P d
Along P d (a ∷ actions) = P d × Along P (done d a) actions

pub along_cut : (P : Durable → Type 0) (d : Durable) (actions : List Action) (n : ℕ) → Along P d actions → P (all_done d (take n actions))
along_cut P d [] zero x = x
along_cut P d [] (suc n) x = x
along_cut P d (a ∷ actions) zero x = x.0
along_cut P d (a ∷ actions) (suc n) x = along_cut P (done d a) actions n x.1

pub along_end : (P : Durable → Type 0) (d : Durable) (actions : List Action) → Along P d actions → P (all_done d actions)
along_end P d [] x = x
along_end P d (a ∷ actions) x = along_end P (done d a) actions x.1

pub along_join : (P : Durable → Type 0) (d : Durable) (a b : List Action) → Along P d a → Along P (all_done d a) b → Along P d (a ++ b)
along_join P d [] b x y = y
along_join P d (s ∷ a) b x y = (x.0, along_join P (done d s) a b x.1 y)

-- each action that is allowed keeps the fact
abbrev pub Allowed : (Durable → Action → Type 0) → Durable → List Action → Type 0
Allowed G d [] = Unit {0}
Allowed G d (a ∷ actions) = G d a × Allowed G (done d a) actions

pub allowed_join : (G : Durable → Action → Type 0) (d : Durable) (a b : List Action) → Allowed G d a → Allowed G (all_done d a) b → Allowed G d (a ++ b)
allowed_join G d [] b x y = y
allowed_join G d (s ∷ a) b x y = (x.0, allowed_join G (done d s) a b x.1 y)

pub allowed_along : (G : Durable → Action → Type 0) (P : Durable → Type 0) → ((d : Durable) (a : Action) → G d a → P d → P (done d a)) → (d : Durable) (actions : List Action) → Allowed G d actions → P d → Along P d actions
allowed_along G P keeps d [] x p = p
allowed_along G P keeps d (a ∷ actions) x p = (p, allowed_along G P keeps (done d a) actions x.1 (keeps d a x.0 p))
