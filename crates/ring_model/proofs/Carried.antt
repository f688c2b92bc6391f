-- What an event leaves is carried through the next one, since each part of it is an equation, an order or an inclusion, and these compose.
use Rattle.std.proofs.Common.{◌≡◌, ◌⊎◌, inl, inr, ℕ, ◌<◌, ◌≤◌, [], ◌∷◌, ◌++◌, ◌∙◌, List, None, Option, Some, ap, append_assoc, arith, length, refl, subst, suc, sym, take, zero}
use Rattle.std.proofs.lemmas.List.{append-nil}
use Rattle.std.specs.List.{Contains}
use Rattle.ring_types.specs.declared.entries.Entry.{Entry}
use Rattle.ring_types.specs.Rings.{Layout}
use Rattle.ring_model.specs.declared.effects.Action.{Action}
use Rattle.ring_model.specs.Safety.{Agree}
use Rattle.ring_model.specs.Worlds.{ComeUp, GoDown, Handle, Rest, Task, WorldState, passed}
use Rattle.ring_model.specs.declared.nodes.Durable.{Durable}
use Rattle.ring_model.specs.Runs.{Election}
use Rattle.ring_model.specs.Nodes.{Node}
use Rattle.ring_model.specs.declared.nodes.Soft.{Soft}
use Rattle.ring_model.specs.Actions.{all_done}
use Rattle.ring_model.specs.Dispatch.{step}
use Rattle.ring_model.proofs.Invariant.{History, IsNode, IsRunning, IsSealed}
use Rattle.ring_model.proofs.Growth.{agree_less, agree_trans, grow_sealed}
use Rattle.ring_model.proofs.Following.{agree_same}
use Rattle.ring_model.proofs.Moves.{IsLed}
use Rattle.ring_model.proofs.Turns.{IsWorld, TurnedTo}
use Rattle.ring_model.proofs.Dispatch.{IsGiven}
use Rattle.ring_model.proofs.Told.{HoldsTold, same_told}

-- the log of the acting node after some of its step's actions, or as it was where it went down, came up or rested
abbrev pub OnWay : Layout → WorldState → Option (ℕ × Task) → List Entry → Type 0
OnWay ring w None l = ⊥
OnWay ring w (Some (id, Handle i)) l =
    (s : Soft) × ((w.nodes id).soft ≡ Some s) × IsGiven w.messages id i × ((n : ℕ) × (l ≡ (all_done (w.nodes id).durable (take n (step ring id (w.nodes id).durable s i).plan.actions)).log))
OnWay ring w (Some (id, GoDown)) l = l ≡ (w.nodes id).durable.log
OnWay ring w (Some (id, ComeUp)) l = l ≡ (w.nodes id).durable.log
OnWay ring w (Some (id, Rest)) l = l ≡ (w.nodes id).durable.log

-- from a world with a history: the invariant holds after, nothing that was committed or led is lost, and these elections were held
pub record Joined (ring : Layout) (w v : WorldState) (h : History) (held : List Election) : Type 0 where
  pub after : History
  pub world : IsWorld ring v after
  pub chosen : Agree (length w.chosen) w.chosen v.chosen
  pub led : (e : Election) → Contains h.elections e → Contains after.elections e
  pub sealed : (u c : ℕ) (l : List Entry) → IsSealed ring h u c l → IsSealed ring after u c l
  pub elections : after.elections ≡ h.elections ++ held
  pub told : HoldsTold ring w h → HoldsTold ring v after

-- the same over one event: who made the chosen sequence grow, and whose log a new book is
pub record Carried (ring : Layout) (w v : WorldState) (h : History) (held : List Election) (acted : Option (ℕ × Task)) : Type 0 where
  pub joined : Joined ring w v h held
  pub grew : length w.chosen < length v.chosen → (id : ℕ) (task : Task) → acted ≡ Some (id, task) → IsLed joined.after id (v.nodes id).durable.term
  pub books : (e : Election) → Contains joined.after.elections e
      → (Contains h.elections e × (joined.after.book e.term ≡ h.book e.term)) ⊎ OnWay ring w acted (joined.after.book e.term)

-- the node that acted
abbrev actor : Option (ℕ × Task) → ℕ
actor None = 0
actor (Some a) = a.0

pub by_turn : (ring : Layout) (w v : WorldState) (h : History) (id : ℕ) (task : Task) (held : List Election) (acts : List Action)
    (x : TurnedTo ring w v h id held acts) → (HoldsTold ring w h → HoldsTold ring v x.after)
    → ((l : List Entry) (n : ℕ) → l ≡ (all_done (w.nodes id).durable (take n acts)).log → OnWay ring w (Some (id, task)) l)
    → Carried ring w v h held (Some (id, task))
by_turn ring w v h id task held acts x told way = record {
  joined = record {
    after = x.after;
    world = x.world;
    chosen = x.chosen;
    led = x.grows.elections;
    sealed = λ u c l y. grow_sealed ring id h x.after x.grows u u c l (omega arith) y;
    elections = x.elections;
    told = told;
  };
  grew = λ more other t is. let same : id ≡ other = ap actor is in subst (λ (i : ℕ). IsLed x.after i (v.nodes i).durable.term) same (x.grew more);
  books = λ e in_e. elim (x.books e in_e) [ inl old ↦ inl old | inr new ↦ inr (way (x.after.book e.term) new.0 new.1) ];
}

abbrev no_actions : List Action
no_actions = []

take_none : (n : ℕ) → take n no_actions ≡ no_actions
take_none zero = refl
take_none (suc n) = refl

-- where nothing is done the log stays
pub no_way : (d : Durable) (l : List Entry) (n : ℕ) → l ≡ (all_done d (take n [])).log → l ≡ d.log
no_way d l n is = is ∙ ap (λ (actions : List Action). (all_done d actions).log) (take_none n)

-- a beginning of a beginning is a beginning
pub take_twice : (n p : ℕ) (actions : List Action) → (m : ℕ) × (take n (take p actions) ≡ take m actions)
take_twice zero p actions = (0, refl)
take_twice (suc n) zero actions = (0, refl)
take_twice (suc n) (suc p) [] = (0, refl)
take_twice (suc n) (suc p) (a ∷ actions) = let x = take_twice n p actions in (suc x.0, ap (λ (rest : List Action). a ∷ rest) x.1)

pub carried_join : (ring : Layout) (w v z : WorldState) (h : History) (a b : List Election) (acted : Option (ℕ × Task)) (x : Carried ring w v h a acted)
    → Joined ring v z x.joined.after b → Joined ring w z h (a ++ b)
carried_join ring w v z h a b acted x y = record {
  after = y.after;
  world = y.world;
  chosen = agree_trans (length w.chosen) w.chosen v.chosen z.chosen x.joined.chosen
      (agree_less (length w.chosen) (length v.chosen) v.chosen z.chosen x.joined.chosen.right y.chosen);
  led = λ e in_e. y.led e (x.joined.led e in_e);
  sealed = λ u c l q. y.sealed u c l (x.joined.sealed u c l q);
  elections = y.elections ∙ (ap (λ (e : List Election). e ++ b) x.joined.elections ∙ append_assoc h.elections a b);
  told = λ t. y.told (x.joined.told t);
}

-- where nodes, messages and the chosen sequence stay
pub same_world : (ring : Layout) (w v : WorldState) (h : History) → v.nodes ≡ w.nodes → v.messages ≡ w.messages → v.chosen ≡ w.chosen → IsWorld ring w h
    → IsWorld ring v h
same_world ring w v h nodes messages chosen k = record {
  messages = k.messages ∙ sym messages;
  chosen = k.chosen ∙ sym chosen;
  history = k.history;
  nodes = λ id. subst (λ (f : ℕ → Node). IsNode ring h id (f id).durable) (sym nodes) (k.nodes id);
  running = subst (λ (f : ℕ → Node). (id : ℕ) (s : Soft) → (f id).soft ≡ Some s → IsRunning ring h id (f id).durable s) (sym nodes) k.running;
  applied = λ id. subst (λ (f : ℕ → Node). (f id).durable.applied ≤ length h.chosen) (sym nodes) (k.applied id);
}

-- an event that makes no node act, from a world that differs in its cursors alone
pub passed_over : (ring : Layout) (w : WorldState) (h : History) (acted : Option (ℕ × Task)) → IsWorld ring w h → Carried ring w (passed w) h [] acted
passed_over ring w h acted k = record {
  joined = record {
    after = h;
    world = same_world ring w (passed w) h refl refl refl k;
    chosen = agree_same (length w.chosen) w.chosen (omega arith);
    led = λ e in_e. in_e;
    sealed = λ u c l x. x;
    elections = sym (append-nil h.elections);
    told = same_told ring w (passed w) h refl refl;
  };
  grew = λ more id task is. absurd (omega arith);
  books = λ e in_e. inl (in_e, refl);
}
