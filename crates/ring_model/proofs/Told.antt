-- What clients were told stands: when a leader said it the entry was sealed in the book of its term, and growth keeps that.
use Rattle.std.proofs.Common.{◌≡◌, ℕ, ◌≤◌, [], ◌∙◌, List, Some, ap, arith, false, inl, inr, length, map, refl, subst, suc, sym, true}
use Rattle.std.proofs.lemmas.List.Elements.{Contains-append_cases}
use Rattle.std.proofs.lemmas.Bool.{cases_eq}
use Rattle.std.specs.List.{Contains}
use Rattle.ring_types.specs.declared.entries.Entry.{Entry}
use Rattle.ring_types.specs.declared.values.Gtid.{Gtid}
use Rattle.ring_types.specs.Rings.{Layout}
use Rattle.ring_types.specs.declared.entries.Opid.{Opid}
use Rattle.ring_types.specs.Logs.{entry_at}
use Rattle.ring_model.specs.declared.effects.Action.{Action}
use Rattle.ring_model.specs.Safety.{Agree, Leads, ToldStands}
use Rattle.ring_model.specs.declared.nodes.Role.TheVariants.{Candidate, Follower, Leader}
use Rattle.ring_model.specs.declared.nodes.Durable.{Durable}
use Rattle.ring_model.specs.Runs.{Election, IsTold}
use Rattle.ring_model.specs.declared.messages.Message.{Message}
use Rattle.ring_model.specs.Nodes.{Node, is_leader}
use Rattle.ring_model.specs.declared.nodes.Pending.{Pending}
use Rattle.ring_model.specs.declared.nodes.Role.{Role}
use Rattle.ring_model.specs.declared.worlds.Said.{Said}
use Rattle.ring_model.specs.declared.effects.Say.{Say}
use Rattle.ring_model.specs.declared.nodes.Soft.{Soft}
use Rattle.ring_model.specs.declared.effects.Step.{Step}
use Rattle.ring_model.specs.Worlds.{Whole, WorldState, ended, said_in, turned, with_node}
use Rattle.ring_model.specs.Actions.{all_done}
use Rattle.ring_model.specs.declared.effects.What.TheVariants as what
use Rattle.ring_model.proofs.Lists.{map_of, none_contained}
use Rattle.ring_model.proofs.Invariant.{HasRole, History, IsHistory, IsLeader, IsSealed, Nothing_yet, Sealed_at}
use Rattle.ring_model.proofs.Growth.{Grows, agree_less, agree_trans, grow_book, seal_moves}
use Rattle.ring_model.proofs.Cover.{committed_in_book}
use Rattle.ring_model.proofs.Following.{agree_same, entry_at_take}
use Rattle.ring_model.proofs.Sending.{sealed_agree}
use Rattle.ring_model.proofs.Turns.{IsWorld, TurnedTo, node_here, node_other, seal_within}
use Rattle.ring_model.proofs.Advance.{seal_less}
use Rattle.ring_model.proofs.TellingLeader.{IsEntryFor, KeepsPending, MayTell, Tells}

pub record IsToldOf (ring : Layout) (h : History) (gtid : Gtid) (opid : Opid) (term : ℕ) : Type 0 where
  pub election : Election
  pub led : Contains h.elections election
  pub of_term : election.term ≡ term
  pub sealed : IsSealed ring h term opid.position (h.book term)
  pub inside : opid.position ≤ length h.chosen
  pub stands : IsEntryFor (h.book term) gtid opid

entry_agree : (k : ℕ) (a b : List Entry) → Agree k a b → entry_at a k ≡ entry_at b k
entry_agree k a b x = sym (entry_at_take k k a (omega arith)) ∙ (ap (λ (w : List Entry). entry_at w k) x.same ∙ entry_at_take k k b (omega arith))

stands_in_both : (a b : List Entry) (gtid : Gtid) (opid : Opid) → Agree opid.position a b → IsEntryFor a gtid opid → IsEntryFor b gtid opid
stands_in_both a b gtid opid x y = record { entry = y.entry; at = sym (entry_agree opid.position a b x) ∙ y.at; named = y.named; numbered = y.numbered }

told_grows : (ring : Layout) (id : ℕ) (h g : History) → Grows id h g → (gtid : Gtid) (opid : Opid) (term : ℕ) → IsToldOf ring h gtid opid term
    → IsToldOf ring g gtid opid term
told_grows ring id h g grows gtid opid term x =
    let within : opid.position ≤ length (h.book term) = seal_within ring h term opid.position (h.book term) x.sealed in
    record {
      election = x.election;
      led = grows.elections x.election x.led;
      of_term = x.of_term;
      sealed = seal_moves ring id h g grows x.election term opid.position x.led x.of_term x.sealed;
      inside = omega (arith, x.inside, grows.chosen);
      stands = stands_in_both (h.book term) (g.book term) gtid opid
          (grow_book ring id h g grows x.election term opid.position (h.book term) x.led x.of_term (agree_same opid.position (h.book term) within)) x.stands;
    }

-- in a world: what waits stands in its leader's log, and what was told stands in the book of the term of its telling
pub record HoldsTold (ring : Layout) (w : WorldState) (h : History) : Type 0 where
  pub pending : (id : ℕ) (s : Soft) → (w.nodes id).soft ≡ Some s → KeepsPending (w.nodes id).durable.log s
  pub told : (gtid : Gtid) (opid : Opid) (term : ℕ) → IsTold w gtid opid term → IsToldOf ring h gtid opid term

-- what a running leader may say is told
telling_holds : (ring : Layout) (w : WorldState) (h : History) (id : ℕ) (s : Soft) (gtid : Gtid) (opid : Opid) (term : ℕ) → IsWorld ring w h
    → (w.nodes id).soft ≡ Some s → MayTell (w.nodes id).durable s gtid opid term → IsToldOf ring h gtid opid term
telling_holds ring w h id s gtid opid term k up may =
    let d : Durable = (w.nodes id).durable in
    let r = k.running id s up in
    let l = leader_role h id d s s.role refl may.leads r.role in
    let book : d.log ≡ h.book d.term = (k.nodes id).led_log l.election l.led l.by l.of_term ∙ ap h.book l.of_term in
    subst (λ (t : ℕ). IsToldOf ring h gtid opid t) (sym may.of_term) (record {
      election = l.election;
      led = l.led;
      of_term = l.of_term;
      sealed = subst (λ (b : List Entry). IsSealed ring h d.term opid.position b) book
          (seal_less ring h d.term s.commit opid.position d.log may.inside r.sealed);
      inside = omega (arith, may.inside, r.chosen);
      stands = subst (λ (b : List Entry). IsEntryFor b gtid opid) book may.stands;
    })
  where
    leader_role : (h : History) (id : ℕ) (d : Durable) (s : Soft) (r : Role) → s.role ≡ r → is_leader s.role ≡ true → HasRole h id d s r → IsLeader h id d s
    leader_role h id d s Follower is leads x = absurd (let z : false ≡ true = sym (ap is_leader is) ∙ leads in cc)
    leader_role h id d s Candidate is leads x = absurd (let z : false ≡ true = sym (ap is_leader is) ∙ leads in cc)
    leader_role h id d s Leader is leads x = x

pub told_by_turn : (ring : Layout) (w : WorldState) (h : History) (id : ℕ) (n : Node) (ms : List Message) (says : List Say) (cuts : List ℕ)
    (held : List Election) (acts : List Action) (x : TurnedTo ring w (turned w id n ms says cuts) h id held acts)
    → ((s : Soft) → n.soft ≡ Some s → KeepsPending n.durable.log s)
    → ((y : Say) → Contains says y → (gtid : Gtid) (opid : Opid) (term : ℕ) → y.what ≡ what.Committed gtid opid term → (s : Soft) × (n.soft ≡ Some s) × MayTell n.durable s gtid opid term)
    → HoldsTold ring w h → HoldsTold ring (turned w id n ms says cuts) x.after
told_by_turn ring w h id n ms says cuts held acts x waits tells t = record {
  pending = λ j s up. elim (cases_eq j id) [
    | inl same ↦
        let up' : (with_node w.nodes id n id).soft ≡ Some s = subst (λ (i : ℕ). (with_node w.nodes id n i).soft ≡ Some s) same up in
        let so : n.soft ≡ Some s = sym (ap (λ (m : Node). m.soft) (node_here w.nodes id n)) ∙ up' in
        subst (λ (i : ℕ). KeepsPending (with_node w.nodes id n i).durable.log s) (sym same)
        (subst (λ (m : Node). KeepsPending m.durable.log s) (sym (node_here w.nodes id n)) (waits s so))
    | inr other ↦
        let was : (w.nodes j).soft ≡ Some s = sym (ap (λ (m : Node). m.soft) (node_other w.nodes id j n other)) ∙ up in
        subst (λ (m : Node). KeepsPending m.durable.log s) (sym (node_other w.nodes id j n other)) (t.pending j s was)
  ];
  told = λ gtid opid term y. elim (Contains-append_cases w.said (map (said_in (suc w.events) id) says) y.0 y.1) [
    | inl old ↦ told_grows ring id h x.after x.grows gtid opid term (t.told gtid opid term (y.0, old, y.2))
    | inr new ↦
        let z = map_of (said_in (suc w.events) id) says y.0 new in
        let may = tells z.0 z.1 gtid opid term (ap (λ (q : Said). q.say.what) z.2 ∙ y.2) in
        telling_holds ring (turned w id n ms says cuts) x.after id may.0 gtid opid term x.world (ap (λ (m : Node). m.soft) (node_here w.nodes id n) ∙ may.1)
        (subst (λ (m : Node). MayTell m.durable may.0 gtid opid term) (sym (node_here w.nodes id n)) may.2)
  ];
}

-- a step that went to its end
pub told_by_step : (ring : Layout) (w : WorldState) (h : History) (id : ℕ) (st : Step) (held : List Election) (acts : List Action)
    (x : TurnedTo ring w (ended w id (w.nodes id).durable st Whole) h id held acts) → Tells (w.nodes id).durable st
    → HoldsTold ring w h → HoldsTold ring (ended w id (w.nodes id).durable st Whole) x.after
told_by_step ring w h id st held acts x tells t =
    told_by_turn ring w h id
    (record { durable = all_done (w.nodes id).durable st.plan.actions; soft = Some st.soft }) st.plan.messages st.plan.says [] held acts x
    (λ s so. let is : st.soft ≡ s = cc in subst (λ (o : Soft). KeepsPending (all_done (w.nodes id).durable st.plan.actions).log o) is tells.pending)
    (λ y in_y gtid opid term is. (st.soft, refl, tells.says y in_y gtid opid term is)) t

-- a node that goes down, or comes up, says nothing, and nothing waits
pub told_by_silence : (ring : Layout) (w : WorldState) (h : History) (id : ℕ) (n : Node) (cuts : List ℕ) (held : List Election) (acts : List Action)
    (x : TurnedTo ring w (turned w id n [] [] cuts) h id held acts)
    → ((s : Soft) → n.soft ≡ Some s → s.pending ≡ []) → HoldsTold ring w h → HoldsTold ring (turned w id n [] [] cuts) x.after
told_by_silence ring w h id n cuts held acts x none t =
    told_by_turn ring w h id n [] [] cuts held acts x
    (λ s so. record { none = λ is. none s so; each = λ p in_p. absurd (none_contained p (subst (λ (ps : List Pending). Contains ps p) (none s so) in_p)) })
    (λ y in_y. absurd (none_contained y in_y)) t

pub same_told : (ring : Layout) (w v : WorldState) (h : History) → v.nodes ≡ w.nodes → v.said ≡ w.said → HoldsTold ring w h → HoldsTold ring v h
same_told ring w v h nodes said t = record {
  pending = subst (λ (f : ℕ → Node). (id : ℕ) (s : Soft) → (f id).soft ≡ Some s → KeepsPending (f id).durable.log s) (sym nodes) t.pending;
  told = λ gtid opid term y. t.told gtid opid term (y.0, subst (λ (l : List Said). Contains l y.0) said y.1, y.2);
}

-- ---- what it comes to
pub leader_in : (ring : Layout) (w : WorldState) (h : History) (id : ℕ) (s : Soft) → IsWorld ring w h → Leads w id s → IsLeader h id (w.nodes id).durable s
leader_in ring w h id s k leads = go s.role refl (k.running id s leads.0).role
  where
    go : (r : Role) → s.role ≡ r → HasRole h id (w.nodes id).durable s r → IsLeader h id (w.nodes id).durable s
    go Follower is x = absurd (let z : false ≡ true = sym (ap is_leader is) ∙ leads.1 in cc)
    go Candidate is x = absurd (let z : false ≡ true = sym (ap is_leader is) ∙ leads.1 in cc)
    go Leader is x = x

pub sealed_in_book : (ring : Layout) (h : History) (u c t : ℕ) (l : List Entry) (e : Election) → IsHistory ring h → Contains h.elections e → e.term ≡ t
    → u ≤ t → IsSealed ring h u c l → Agree c l (h.book t)
sealed_in_book ring h u c t l e k in_e is le (Nothing_yet z) = record { left = omega arith; right = omega arith; same = rw z refl }
sealed_in_book ring h u c t l e k in_e is le (Sealed_at s p a b m x) =
    agree_trans c l (h.book s) (h.book t) x (agree_less c p (h.book s) (h.book t) b (committed_in_book ring h k s p t e m in_e is (omega arith)))

pub told_stands : (ring : Layout) (w : WorldState) (h : History) → IsWorld ring w h → HoldsTold ring w h → ToldStands w
told_stands ring w h k t gtid opid term y =
    let x = t.told gtid opid term y in
    let c = k.history.chosen in
    let agrees : Agree opid.position (h.book term) h.chosen =
    sealed_agree ring h term c.0 opid.position (length h.chosen) (h.book term) h.chosen k.history x.sealed c.1 x.inside in
    let e = x.stands in (
      e.entry,
      subst (λ (l : List Entry). entry_at l opid.position ≡ Some e.entry) k.chosen (sym (entry_agree opid.position (h.book term) h.chosen agrees) ∙ e.at),
      e.named,
      e.numbered,
      λ id s leads le.
          let d : Durable = (w.nodes id).durable in
          let l = leader_in ring w h id s k leads in
          let book : d.log ≡ h.book d.term = (k.nodes id).led_log l.election l.led l.by l.of_term ∙ ap h.book l.of_term in
          let held : Agree opid.position (h.book term) (h.book d.term) =
          sealed_in_book ring h term opid.position d.term (h.book term) l.election k.history l.led l.of_term le x.sealed in
          subst (λ (b : List Entry). entry_at b opid.position ≡ Some e.entry) (sym book)
          (sym (entry_agree opid.position (h.book term) (h.book d.term) held) ∙ e.at),
    )
