-- A whole step, a cut one, a crash and a restart are turns: a step's path keeps the invariant, and each beginning of a path is a path.
use Rattle.std.proofs.Common.{◌≡◌, ℕ, ◌≤◌, [], ◌∷◌, ◌++◌, ◌∙◌, Bool, List, None, Some, ap, append_assoc, arith, false, inl, inr, length, refl, subst, sym, take, true}
use Rattle.std.proofs.lemmas.List.{append-nil}
use Rattle.std.specs.List.{Contains}
use Rattle.ring_types.specs.Rings.{Layout}
use Rattle.ring_model.specs.declared.effects.Action.{Action}
use Rattle.ring_model.specs.declared.nodes.Role.TheVariants.{Follower}
use Rattle.ring_model.specs.Worlds.{Cut, Whole, WorldState, ended, reach, turned}
use Rattle.ring_model.specs.declared.nodes.Durable.{Durable}
use Rattle.ring_model.specs.Runs.{Election, held_by}
use Rattle.ring_model.specs.declared.messages.Message.{Message}
use Rattle.ring_model.specs.Nodes.{Node, fresh_soft, is_leader, recover}
use Rattle.ring_model.specs.declared.nodes.Role.{Role}
use Rattle.ring_model.specs.declared.nodes.Soft.{Soft}
use Rattle.ring_model.specs.declared.effects.Step.{Step}
use Rattle.ring_model.specs.Actions.{all_done}
use Rattle.ring_model.proofs.Invariant.{HasRole, History, IsHistory, IsNode, IsSealed}
use Rattle.ring_model.proofs.Growth.{Grows}
use Rattle.ring_model.proofs.Sending.{sent_grows, sent_history, sent_node, with_message}
use Rattle.ring_model.proofs.Moves.{SameLog, grows_refl, grows_trans, same_node}
use Rattle.ring_model.proofs.Paths.{BooksGo, Path, elected, path_books, path_chosen, path_cut, path_elections, path_keeps, path_messages, path_reaches, reach_on}
use Rattle.ring_model.proofs.HeldElections.{held_cut, held_whole, quiet_cut}
use Rattle.ring_model.proofs.Turns.{Holding, IsRow, IsWorld, Leads_not, Leads_now, Led_before, Sends, Sends_on, Sent_all, TurnedTo, seal_within, turn_keeps}

sends_hold : (ring : Layout) (id : ℕ) (d : Durable) (h g : History) (ms : List Message) → IsHistory ring h → IsNode ring h id d → Sends ring id d h ms g
    → IsHistory ring g × IsNode ring g id d × Grows id h g × (g.messages ≡ h.messages ++ ms) × (g.chosen ≡ h.chosen) × (g.elections ≡ h.elections)
sends_hold ring id d h g [] k n Sent_all = (k, n, grows_refl id h, sym (append-nil h.messages), refl, refl)
sends_hold ring id d h g (m ∷ ms) k n (Sends_on sends may rest) =
    let x = sends_hold ring id d (with_message h m) g ms (sent_history ring h id d m k n sends may) (sent_node ring h id d m k n sends may) rest in (
      x.0,
      x.1,
      grows_trans id h (with_message h m) g (sent_grows ring h id d m k n sends may) x.2,
      x.3 ∙ append_assoc h.messages (m ∷ []) ms,
      x.4,
      x.5,
    )

-- ---- the elections of a step
held_in_cut : (ring : Layout) (id : ℕ) (h g : History) (d : Durable) (s : Soft) (st : Step) (path : Path ring id h d st.plan.actions g) (count : ℕ)
    → Holding ring id h g d s st.soft st.plan.actions path
    → elected ring id h (path_cut ring id h g d st.plan.actions count path).0 d (take count st.plan.actions) (path_cut ring id h g d st.plan.actions count path).1 ≡ held_by id d s st (Cut count)
held_in_cut ring id h g d s st path count (Led_before led none) = quiet_cut ring id h g d st.plan.actions count path none ∙ sym (rw led refl)
held_in_cut ring id h g d s st path count (Leads_not led none) = quiet_cut ring id h g d st.plan.actions count path none ∙ sym (go (is_leader s.role) refl)
  where
    go : (b : Bool) → is_leader s.role ≡ b → held_by id d s st (Cut count) ≡ []
    go true is = rw is refl
    go false is = rw (is, led) refl
held_in_cut ring id h g d s st path count (Leads_now was is held) =
    held_cut ring id h g d st.plan.actions st.soft.grants count path held ∙ sym (rw (was, is) refl)

held_in_whole : (ring : Layout) (id : ℕ) (h g : History) (d : Durable) (s : Soft) (st : Step) (path : Path ring id h d st.plan.actions g)
    → Holding ring id h g d s st.soft st.plan.actions path
    → elected ring id h g d st.plan.actions path ≡ held_by id d s st Whole
held_in_whole ring id h g d s st path (Led_before led none) = none ∙ sym (rw led refl)
held_in_whole ring id h g d s st path (Leads_not led none) = none ∙ sym (go (is_leader s.role) refl)
  where
    go : (b : Bool) → is_leader s.role ≡ b → held_by id d s st Whole ≡ []
    go true is = rw is refl
    go false is = rw (is, led) refl
held_in_whole ring id h g d s st path (Leads_now was is held) = held_whole ring id h g d st.plan.actions st.soft.grants path held ∙ sym (rw (was, is) refl)

-- sending leaves the books
sends_books : (ring : Layout) (id : ℕ) (d : Durable) (h g : History) (ms : List Message) → Sends ring id d h ms g → (t : ℕ) → g.book t ≡ h.book t
sends_books ring id d h g [] Sent_all t = refl
sends_books ring id d h g (m ∷ ms) (Sends_on sends may rest) t = sends_books ring id d (with_message h m) g ms rest t

same_books : (h g f : History) (d : Durable) (steps : List Action) → ((t : ℕ) → f.book t ≡ g.book t) → f.elections ≡ g.elections → BooksGo h g d steps
    → BooksGo h f d steps
same_books h g f d steps book held x e in_e = elim (x e (subst (λ (l : List Election). Contains l e) held in_e)) [
  | inl old ↦ inl (old.0, book e.term ∙ old.1)
  | inr new ↦ inr (new.0, book e.term ∙ new.1)
]

-- ---- a whole step
pub whole_keeps : (ring : Layout) (w : WorldState) (h : History) (id : ℕ) (s : Soft) (st : Step) → IsWorld ring w h → IsRow ring h id (w.nodes id).durable s st
    → TurnedTo ring w (ended w id (w.nodes id).durable st Whole) h id (held_by id (w.nodes id).durable s st Whole) st.plan.actions
whole_keeps ring w h id s st k row =
    let d = (w.nodes id).durable in
    let p = path_keeps ring id h row.acted d st.plan.actions k.history (k.nodes id) row.path in
    let q = sends_hold ring id (all_done d st.plan.actions) row.acted row.sent st.plan.messages p.history p.node row.sends in
    turn_keeps ring w h id (record { durable = all_done d st.plan.actions; soft = Some st.soft }) st.plan.messages st.plan.says [] (held_by id d s st Whole) st.plan.actions k (record {
      after = row.sent;
      history = q.0;
      node = q.1;
      grows = grows_trans id h row.acted row.sent p.grows q.2;
      messages = q.3 ∙ ap (λ (m : List Message). m ++ st.plan.messages) (path_messages ring id h row.acted d st.plan.actions row.path ∙ k.messages);
      chosen = q.4 ∙ path_chosen ring id h row.acted d st.plan.actions row.path;
      elections = q.5 ∙ (path_elections ring id h row.acted d st.plan.actions row.path ∙ ap (λ (e : List Election). h.elections ++ e) (held_in_whole ring id h row.acted d s st row.path row.holding));
      reaches = reach_on row.acted row.sent id (all_done d st.plan.actions).term (all_done d st.plan.actions).term st.soft.commit st.soft.commit q.4
          (λ e in_e. subst (λ (l : List Election). Contains l e) (sym q.5) in_e) refl refl row.reaches;
      reached = row.sealed;
      inside = seal_within ring row.sent (all_done d st.plan.actions).term st.soft.commit (all_done d st.plan.actions).log row.sealed;
      applied = row.applied;
      books = same_books h row.acted row.sent d st.plan.actions
          (sends_books ring id (all_done d st.plan.actions) row.acted row.sent st.plan.messages row.sends) q.5
          (path_books ring id h row.acted d st.plan.actions row.path);
      role = λ o so. let is : st.soft ≡ o = cc in subst (λ (x : Soft). HasRole row.sent id (all_done d st.plan.actions) x x.role) is row.role;
    })

-- a cut step: the first of the actions, and the node is down
pub cut_keeps : (ring : Layout) (w : WorldState) (h : History) (id count : ℕ) (s : Soft) (st : Step) → IsWorld ring w h
    → IsRow ring h id (w.nodes id).durable s st
    → TurnedTo ring w (ended w id (w.nodes id).durable st (Cut count)) h id (held_by id (w.nodes id).durable s st (Cut count)) (take count st.plan.actions)
cut_keeps ring w h id count s st k row =
    let d = (w.nodes id).durable in
    let c = path_cut ring id h row.acted d st.plan.actions count row.path in
    let p = path_keeps ring id h c.0 d (take count st.plan.actions) k.history (k.nodes id) c.1 in
    turn_keeps ring w h id (record { durable = all_done d (take count st.plan.actions); soft = None }) [] [] (count ∷ []) (held_by id d s st (Cut count)) (take count st.plan.actions) k (record {
      books = path_books ring id h c.0 d (take count st.plan.actions) c.1;
      after = c.0;
      history = p.history;
      node = p.node;
      grows = p.grows;
      messages = path_messages ring id h c.0 d (take count st.plan.actions) c.1 ∙ (k.messages ∙ sym (append-nil w.messages));
      chosen = path_chosen ring id h c.0 d (take count st.plan.actions) c.1;
      elections = path_elections ring id h c.0 d (take count st.plan.actions) c.1
          ∙ ap (λ (e : List Election). h.elections ++ e) (held_in_cut ring id h row.acted d s st row.path count row.holding);
      reaches = path_reaches ring id h c.0 d (take count st.plan.actions) c.1 (inl (k.applied id));
      reached = p.node.applied;
      inside = seal_within ring c.0 (all_done d (take count st.plan.actions)).term (all_done d (take count st.plan.actions)).applied
          (all_done d (take count st.plan.actions)).log p.node.applied;
      applied = omega arith;
      role = λ o so. absurd cc;
    })

-- a turn without a step leaves a follower or a node that is down, with its prepared pairs as they were or fewer
still_keeps : (ring : Layout) (w : WorldState) (h : History) (id : ℕ) (n : Node) (cuts : List ℕ) → SameLog (w.nodes id).durable n.durable
    → reach n ≡ n.durable.applied
    → ((s : Soft) → n.soft ≡ Some s → s.role ≡ Follower) → IsWorld ring w h → TurnedTo ring w (turned w id n [] [] cuts) h id [] []
still_keeps ring w h id n cuts same low follower k =
    let kept = same_node ring h id (w.nodes id).durable n.durable same (k.nodes id) in
    turn_keeps ring w h id n [] [] cuts [] [] k (record {
      books = λ e in_e. inl (in_e, refl);
      after = h;
      history = k.history;
      node = kept;
      grows = grows_refl id h;
      messages = k.messages ∙ sym (append-nil w.messages);
      chosen = refl;
      elections = sym (append-nil h.elections);
      reaches = inl (omega (arith, low, same.applied, k.applied id));
      reached = subst (λ (r : ℕ). IsSealed ring h n.durable.term r n.durable.log) (sym low) kept.applied;
      inside = subst (λ (r : ℕ). r ≤ length n.durable.log) (sym low) (seal_within ring h n.durable.term n.durable.applied n.durable.log kept.applied);
      applied = omega (arith, low);
      role = λ s so. subst (λ (r : Role). HasRole h id n.durable s r) (sym (follower s so)) tt;
    })

pub down_keeps : (ring : Layout) (w : WorldState) (h : History) (id : ℕ) (e : Durable) (cuts : List ℕ) → SameLog (w.nodes id).durable e → IsWorld ring w h
    → TurnedTo ring w (turned w id (record { durable = e; soft = None }) [] [] cuts) h id [] []
down_keeps ring w h id e cuts same k = still_keeps ring w h id (record { durable = e; soft = None }) cuts same refl (λ s so. absurd cc) k

pub restart_keeps : (ring : Layout) (w : WorldState) (h : History) (id : ℕ) → IsWorld ring w h
    → TurnedTo ring w (turned w id (record { durable = recover (w.nodes id).durable; soft = Some (fresh_soft (w.nodes id).durable) }) [] [] []) h id [] []
restart_keeps ring w h id k =
    let d = (w.nodes id).durable in
    let same : SameLog d (recover d) = record { term = refl; votes = refl; log = refl; applied = refl } in
    still_keeps ring w h id (record { durable = recover d; soft = Some (fresh_soft d) }) [] same refl
    (λ s so. let is : fresh_soft d ≡ s = cc in ap (λ (o : Soft). o.role) (sym is)) k
