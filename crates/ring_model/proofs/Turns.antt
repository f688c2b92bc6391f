-- One turn of a node: where its new parts keep the invariant it holds in the next world, with a chosen sequence that only grows.
use Rattle.std.proofs.Common.{◌≡◌, ℕ, ◌<◌, ◌≤◌, ◌==◌, [], ◌∷◌, ◌++◌, ◌∙◌, Bool, List, Some, ap, arith, false, inl, inr, length, refl, subst, suc, sym, take, true}
use Rattle.std.proofs.lemmas.List.{length-take-le}
use Rattle.std.proofs.lemmas.Bool.{cases_eq}
use Rattle.std.proofs.lemmas.Bool.Decides.{nat_tests}
use Rattle.std.specs.Prelude.{nat_lt}
use Rattle.ring_types.specs.declared.entries.Entry.{Entry}
use Rattle.ring_types.specs.Rings.{Layout}
use Rattle.ring_model.specs.declared.effects.Action.{Action}
use Rattle.ring_model.specs.Safety.{Agree}
use Rattle.ring_model.specs.declared.nodes.Role.TheVariants.{Candidate, Follower, Leader}
use Rattle.ring_model.specs.Worlds.{WorldState, grown, reach, turned, with_node}
use Rattle.ring_model.specs.declared.nodes.Durable.{Durable}
use Rattle.ring_model.specs.Runs.{Election}
use Rattle.ring_model.specs.declared.messages.Message.{Message}
use Rattle.ring_model.specs.Nodes.{Node, is_leader}
use Rattle.ring_model.specs.declared.nodes.Role.{Role}
use Rattle.ring_model.specs.declared.effects.Say.{Say}
use Rattle.ring_model.specs.declared.nodes.Soft.{Soft}
use Rattle.ring_model.specs.declared.effects.Step.{Step}
use Rattle.ring_model.specs.Actions.{all_done}
use Rattle.ring_model.proofs.Invariant.{As_leader, By_reply, HasAcked, HasRole, History, IsHistory, IsNode, IsRunning, IsSealed, IsSent, Nothing_yet, Sealed_at}
use Rattle.ring_model.proofs.Growth.{Grows, agree_sym, agree_trans, candidate_stays, cast_stays, chosen_stays, grow_log, grow_sealed, leader_stays, others_stay, sent_stays, won_stays}
use Rattle.ring_model.proofs.Following.{agree_same, agree_take}
use Rattle.ring_model.proofs.Sending.{MayAnswer, sealed_agree, with_message}
use Rattle.ring_model.proofs.Moves.{IsLed, MayReach, grows_trans}
use Rattle.ring_model.proofs.Paths.{BooksGo, Path, elected}
use Rattle.ring_model.proofs.HeldElections.{IsHeld}

-- the history is the world's
pub record IsWorld (ring : Layout) (w : WorldState) (h : History) : Type 0 where
  pub messages : h.messages ≡ w.messages
  pub chosen : h.chosen ≡ w.chosen
  pub history : IsHistory ring h
  pub nodes : (id : ℕ) → IsNode ring h id (w.nodes id).durable
  pub running : (id : ℕ) (s : Soft) → (w.nodes id).soft ≡ Some s → IsRunning ring h id (w.nodes id).durable s
  pub applied : (id : ℕ) → (w.nodes id).durable.applied ≤ length h.chosen

-- messages that a node sends one after another
pub data Sends (ring : Layout) (id : ℕ) (d : Durable) : History → List Message → History → Type 0 where
  Sent_all : {h : History} → Sends ring id d h [] h
  Sends_on : {h g : History} {m : Message} {ms : List Message} → IsSent ring h m.from m.to m.body → MayAnswer h id d m
      → Sends ring id d (with_message h m) ms g → Sends ring id d h (m ∷ ms) g

-- which elections a step holds: none, where the node led before or does not lead after; else the one that its path holds, with the grants of its soft part
pub data Holding (ring : Layout) (id : ℕ) (h g : History) (d : Durable) (s o : Soft) (steps : List Action) (path : Path ring id h d steps g) : Type 0 where
  Led_before : is_leader s.role ≡ true → elected ring id h g d steps path ≡ [] → Holding ring id h g d s o steps path
  Leads_not : is_leader o.role ≡ false → elected ring id h g d steps path ≡ [] → Holding ring id h g d s o steps path
  Leads_now : is_leader s.role ≡ false → is_leader o.role ≡ true → IsHeld ring id h g d steps o.grants path → Holding ring id h g d s o steps path

-- what a rule of the step owes, for a node with these parts
pub record IsRow (ring : Layout) (h : History) (id : ℕ) (d : Durable) (s : Soft) (st : Step) : Type 0 where
  pub acted : History
  pub path : Path ring id h d st.plan.actions acted
  pub sent : History
  pub sends : Sends ring id (all_done d st.plan.actions) acted st.plan.messages sent
  pub role : HasRole sent id (all_done d st.plan.actions) st.soft st.soft.role
  pub sealed : IsSealed ring sent (all_done d st.plan.actions).term st.soft.commit (all_done d st.plan.actions).log
  pub applied : (all_done d st.plan.actions).applied ≤ st.soft.commit
  pub reaches : MayReach acted id (all_done d st.plan.actions).term st.soft.commit
  pub holding : Holding ring id h acted d s st.soft st.plan.actions path

-- ---- the chosen list grows
abbrev pub with_chosen : History → List Entry → History
with_chosen h l = record h { chosen = l }

chosen_acks : (h : History) (l : List Entry) (v s p : ℕ) → HasAcked (with_chosen h l) v s p → HasAcked h v s p
chosen_acks h l v s p (As_leader e in_e t by le) = As_leader e in_e t by le
chosen_acks h l v s p (By_reply m q in_m by body le) = By_reply m q in_m by body le

chosen_grows : (id : ℕ) (h : History) (l : List Entry) → length h.chosen ≤ length l → Grows id h (with_chosen h l)
chosen_grows id h l le = record {
  elections = λ e in_e. in_e;
  casts = λ c in_c. in_c;
  messages = λ m in_m. in_m;
  books = λ e in_e. agree_same (length (h.book e.term)) (h.book e.term) (omega arith);
  other_books = λ e in_e other. refl;
  chosen = le;
  new_elections = λ e in_e. inl in_e;
  new_casts = λ c in_c. inl in_c;
  new_acks = λ v s p a. inl (chosen_acks h l v s p a);
}

-- what a sealed beginning of a log gives as the chosen list
chosen_history : (ring : Layout) (id : ℕ) (h : History) (l : List Entry) → length h.chosen ≤ length l → IsHistory ring h
    → (u : ℕ) × IsSealed ring h u (length l) l → IsHistory ring (with_chosen h l)
chosen_history ring id h l le k s =
    let g = chosen_grows id h l le in
    record {
      elections = λ f in_f. let y = k.elections f in_f in won_stays ring id h (with_chosen h l) g f in_f y (λ i low high. absurd (omega arith))
          (grow_log ring id h (with_chosen h l) g f.term f.term (h.book f.term) (omega arith) y.book);
      one_leader = k.one_leader;
      terms_once = k.terms_once;
      casts = λ c in_c. cast_stays ring id h (with_chosen h l) g k c in_c (k.casts c in_c);
      valid = k.valid;
      one_vote = k.one_vote;
      sent = λ m in_m. sent_stays ring id h (with_chosen h l) g m.from m.to m.body (k.sent m in_m);
      chosen = chosen_stays ring id h (with_chosen h l) g (length l) l s;
    }

-- the first c of a log, sealed, is sealed as a list
seal_take : (ring : Layout) (h : History) (u c : ℕ) (l : List Entry) → c ≤ length l → IsSealed ring h u c l → IsSealed ring h u (length (take c l)) (take c l)
seal_take ring h u c l le x = subst (λ (n : ℕ). IsSealed ring h u n (take c l)) (sym (length-take-le c l le)) (go x)
  where
    go : IsSealed ring h u c l → IsSealed ring h u c (take c l)
    go (Nothing_yet z) = Nothing_yet z
    go (Sealed_at s p a b m y) = Sealed_at s p a b m (agree_trans c (take c l) l (h.book s) (agree_sym c l (take c l) (agree_take c c l (omega arith) le)) y)

-- chosen only grows: the old list is a beginning of the new one
pub chosen_only_grows : (ring : Layout) (h : History) (u c : ℕ) (l : List Entry) → IsHistory ring h → c ≤ length l → IsSealed ring h u c l
    → length h.chosen ≤ c → Agree (length h.chosen) h.chosen (take c l)
chosen_only_grows ring h u c l k le x more =
    let t = k.chosen in
    sealed_agree ring h t.0 u (length h.chosen) c h.chosen (take c l) k t.1
    (subst (λ (n : ℕ). IsSealed ring h u n (take c l)) (length-take-le c l le) (seal_take ring h u c l le x)) more

-- a node's applied or committed beginning is a beginning of the chosen list
pub in_chosen : (ring : Layout) (h : History) (u c : ℕ) (l : List Entry) → IsHistory ring h → IsSealed ring h u c l → c ≤ length h.chosen → Agree c l h.chosen
in_chosen ring h u c l k x le = let t = k.chosen in sealed_agree ring h u t.0 c (length h.chosen) l h.chosen k x t.1 le

pub node_here : (nodes : ℕ → Node) (id : ℕ) (n : Node) → with_node nodes id n id ≡ n
node_here nodes id n = let same : (id == id) ≡ true = grind (arith, nat_tests) in rw same refl

pub node_other : (nodes : ℕ → Node) (id j : ℕ) (n : Node) → (j ≡ id → ⊥) → with_node nodes id n j ≡ nodes j
node_other nodes id j n other = let same : (j == id) ≡ false = grind (arith, nat_tests, other) in rw same refl

role_stays : (ring : Layout) (id j : ℕ) (h g : History) (d : Durable) (s : Soft) (r : Role) → Grows id h g → (j ≡ id → ⊥) → HasRole h j d s r
    → HasRole g j d s r
role_stays ring id j h g d s Follower x other y = tt
role_stays ring id j h g d s Candidate x other y = candidate_stays ring id h g x j d s.grants other y
role_stays ring id j h g d s Leader x other y = leader_stays ring id h g x j d s y

running_stays : (ring : Layout) (id j : ℕ) (h g : History) (d : Durable) (s : Soft) → Grows id h g → (j ≡ id → ⊥) → IsRunning ring h j d s
    → IsRunning ring g j d s
running_stays ring id j h g d s x other y = record {
  sealed = grow_sealed ring id h g x d.term d.term s.commit d.log (omega arith) y.sealed;
  chosen = omega (arith, y.chosen, x.chosen);
  applied = y.applied;
  role = role_stays ring id j h g d s s.role x other y.role;
}

grow_length : (l : List Entry) (n : Node) → reach n ≤ length n.durable.log → (length l ≤ length (grown l n)) × (reach n ≤ length (grown l n))
grow_length l n le = go (nat_lt (length l) (reach n)) refl
  where
    go : (b : Bool) → nat_lt (length l) (reach n) ≡ b → (length l ≤ length (grown l n)) × (reach n ≤ length (grown l n))
    go true is =
        rw is (let lt : length l < reach n = grind (arith, nat_tests, is) in let k = length-take-le (reach n) n.durable.log le in (omega arith, omega arith))
    go false is = rw is (omega arith, grind (arith, nat_tests, is))

grow_sealed_list : (ring : Layout) (h : History) (u : ℕ) (n : Node) → reach n ≤ length n.durable.log → IsSealed ring h u (reach n) n.durable.log
    → (t : ℕ) × IsSealed ring h t (length h.chosen) h.chosen
    → (t : ℕ) × IsSealed ring h t (length (grown h.chosen n)) (grown h.chosen n)
grow_sealed_list ring h u n le x old = go (nat_lt (length h.chosen) (reach n)) refl
  where
    go : (b : Bool) → nat_lt (length h.chosen) (reach n) ≡ b → (t : ℕ) × IsSealed ring h t (length (grown h.chosen n)) (grown h.chosen n)
    go true is = rw is (u, seal_take ring h u (reach n) n.durable.log le x)
    go false is = rw is old

reach_up : (n : Node) (s : Soft) → n.soft ≡ Some s → reach n ≡ s.commit
reach_up n s so = rw (so, reach) refl

-- what a turn of a node leaves, before the chosen list grows
pub record IsTurn (ring : Layout) (w : WorldState) (h : History) (id : ℕ) (n : Node) (ms : List Message) (held : List Election) (acts : List Action) : Type 0 where
  pub after : History
  pub history : IsHistory ring after
  pub node : IsNode ring after id n.durable
  pub grows : Grows id h after
  pub messages : after.messages ≡ w.messages ++ ms
  pub chosen : after.chosen ≡ h.chosen
  pub elections : after.elections ≡ h.elections ++ held
  pub reaches : MayReach after id n.durable.term (reach n)
  pub reached : IsSealed ring after n.durable.term (reach n) n.durable.log
  pub inside : reach n ≤ length n.durable.log
  pub applied : n.durable.applied ≤ reach n
  pub role : (s : Soft) → n.soft ≡ Some s → HasRole after id n.durable s s.role
  pub books : BooksGo h after (w.nodes id).durable acts

-- what a turn comes to: the invariant of the new world, and the chosen list as it was or longer
pub record TurnedTo (ring : Layout) (w v : WorldState) (h : History) (id : ℕ) (held : List Election) (acts : List Action) : Type 0 where
  pub after : History
  pub world : IsWorld ring v after
  pub grows : Grows id h after
  pub chosen : Agree (length w.chosen) w.chosen v.chosen
  pub elections : after.elections ≡ h.elections ++ held
  pub grew : length w.chosen < length v.chosen → IsLed after id (v.nodes id).durable.term
  pub books : BooksGo h after (w.nodes id).durable acts

-- where the chosen sequence grew the node led its term
grown_led : (h : History) (id : ℕ) (n : Node) (c : List Entry) → h.chosen ≡ c → MayReach h id n.durable.term (reach n) → length c < length (grown c n)
    → IsLed h id n.durable.term
grown_led h id n c is (inr led) more = led
grown_led h id n c is (inl low) more = go (nat_lt (length c) (reach n)) refl more
  where
    go : (b : Bool) → nat_lt (length c) (reach n) ≡ b → length c < length (grown c n) → IsLed h id n.durable.term
    go true x y = absurd (let lt : length c < reach n = grind (arith, nat_tests, x) in omega (arith, low, ap length is))
    go false x y = absurd (let z = rw x at y in omega arith)

grow_agrees : (ring : Layout) (h : History) (u : ℕ) (n : Node) → IsHistory ring h → reach n ≤ length n.durable.log
    → IsSealed ring h u (reach n) n.durable.log → Agree (length h.chosen) h.chosen (grown h.chosen n)
grow_agrees ring h u n k le x = go (nat_lt (length h.chosen) (reach n)) refl
  where
    go : (b : Bool) → nat_lt (length h.chosen) (reach n) ≡ b → Agree (length h.chosen) h.chosen (grown h.chosen n)
    go true is =
        rw is (chosen_only_grows ring h u (reach n) n.durable.log k le x (let lt : length h.chosen < reach n = grind (arith, nat_tests, is) in omega arith))
    go false is = rw is (agree_same (length h.chosen) h.chosen (omega arith))

pub turn_keeps : (ring : Layout) (w : WorldState) (h : History) (id : ℕ) (n : Node) (ms : List Message) (says : List Say) (cuts : List ℕ)
    (held : List Election) (acts : List Action) → IsWorld ring w h → IsTurn ring w h id n ms held acts
    → TurnedTo ring w (turned w id n ms says cuts) h id held acts
turn_keeps ring w h id n ms says cuts held acts k t =
    let x = t.after in
    let l = grown x.chosen n in
    let long = grow_length x.chosen n t.inside in
    let cg : Grows id x (with_chosen x l) = chosen_grows id x l long.0 in
    let co : Grows (suc id) x (with_chosen x l) = chosen_grows (suc id) x l long.0 in
    let all : Grows id h (with_chosen x l) = grows_trans id h x (with_chosen x l) t.grows cg in
    let is : x.chosen ≡ w.chosen = t.chosen ∙ k.chosen in
    record {
      after = with_chosen x l;
      world = record {
        messages = t.messages;
        chosen = ap (λ (c : List Entry). grown c n) is;
        history = chosen_history ring id x l long.0 t.history (grow_sealed_list ring x n.durable.term n t.inside t.reached t.history.chosen);
        nodes = λ j. elim (cases_eq j id) [
          | inl same ↦ subst (λ (i : ℕ). IsNode ring (with_chosen x l) i (with_node w.nodes id n i).durable) (sym same)
              (subst (λ (m : Node). IsNode ring (with_chosen x l) id m.durable) (sym (node_here w.nodes id n))
              (others_stay ring (suc id) x (with_chosen x l) co t.history id n.durable (λ e. omega arith) t.node))
          | inr other ↦ subst (λ (m : Node). IsNode ring (with_chosen x l) j m.durable) (sym (node_other w.nodes id j n other))
              (others_stay ring id h (with_chosen x l) all k.history j (w.nodes j).durable other (k.nodes j))
        ];
        running = λ j s up. elim (cases_eq j id) [
          | inl same ↦
              let up' : (with_node w.nodes id n id).soft ≡ Some s = subst (λ (i : ℕ). (with_node w.nodes id n i).soft ≡ Some s) same up in
              let so : n.soft ≡ Some s = sym (ap (λ (m : Node). m.soft) (node_here w.nodes id n)) ∙ up' in
              subst (λ (i : ℕ). IsRunning ring (with_chosen x l) i (with_node w.nodes id n i).durable s) (sym same)
              (subst (λ (m : Node). IsRunning ring (with_chosen x l) id m.durable s) (sym (node_here w.nodes id n)) (runs s so l long co))
          | inr other ↦
              let was : (w.nodes j).soft ≡ Some s = sym (ap (λ (m : Node). m.soft) (node_other w.nodes id j n other)) ∙ up in
              subst (λ (m : Node). IsRunning ring (with_chosen x l) j m.durable s) (sym (node_other w.nodes id j n other))
              (running_stays ring id j h (with_chosen x l) (w.nodes j).durable s all other (k.running j s was))
        ];
        applied = λ j. elim (cases_eq j id) [
          | inl same ↦ subst (λ (i : ℕ). (with_node w.nodes id n i).durable.applied ≤ length l) (sym same)
              (subst (λ (m : Node). m.durable.applied ≤ length l) (sym (node_here w.nodes id n)) (omega (arith, t.applied, long.1)))
          | inr other ↦ subst (λ (m : Node). m.durable.applied ≤ length l) (sym (node_other w.nodes id j n other)) (omega (arith, k.applied j, long.0, ap length t.chosen))
        ];
      };
      grows = all;
      elections = t.elections;
      books = t.books;
      grew = λ more. subst (λ (m : Node). IsLed (with_chosen x l) id m.durable.term) (sym (node_here w.nodes id n))
          (grown_led x id n w.chosen is t.reaches more);
      chosen = subst (λ (c : List Entry). Agree (length c) c (grown c n)) is (grow_agrees ring x n.durable.term n t.history t.inside t.reached);
    }
  where
    runs : (s : Soft) → n.soft ≡ Some s → (l : List Entry) → (length t.after.chosen ≤ length l) × (reach n ≤ length l)
        → Grows (suc id) t.after (with_chosen t.after l) → IsRunning ring (with_chosen t.after l) id n.durable s
    runs s so l long co =
        let is : reach n ≡ s.commit = reach_up n s so in
        record {
          sealed = grow_sealed ring (suc id) t.after (with_chosen t.after l) co n.durable.term n.durable.term s.commit n.durable.log (omega arith)
              (subst (λ (c : ℕ). IsSealed ring t.after n.durable.term c n.durable.log) is t.reached);
          chosen = omega (arith, long.1);
          applied = omega (arith, t.applied);
          role = role_stays ring (suc id) id t.after (with_chosen t.after l) n.durable s s.role co (λ e. omega arith) (t.role s so);
        }

pub seal_within : (ring : Layout) (h : History) (u c : ℕ) (l : List Entry) → IsSealed ring h u c l → c ≤ length l
seal_within ring h u c l (Nothing_yet z) = omega arith
seal_within ring h u c l (Sealed_at s p a b m y) = y.left
