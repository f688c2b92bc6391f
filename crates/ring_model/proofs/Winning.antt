-- What a voter reports, how a grant joins a candidacy, when a candidate may lead, and when a leader's count of holders commits.
use Rattle.std.proofs.Common.{◌≡◌, ℕ, ◌<◌, ◌≤◌, ◌⊎◌, [], ◌∷◌, ◌++◌, ◌∙◌, List, ap, arith, inl, inr, length, refl, subst, suc, sym, true, zero}
use Rattle.std.proofs.lemmas.List.Elements.{Contains-push_cases}
use Rattle.std.specs.List.{Contains}
use Rattle.ring_types.specs.declared.entries.Entry.{Entry}
use Rattle.ring_types.specs.declared.entries.Grant.{Grant}
use Rattle.ring_types.specs.Rings.{Layout, region_of}
use Rattle.ring_types.specs.declared.entries.Opid.{Opid}
use Rattle.ring_types.specs.declared.entries.Vote.{Vote}
use Rattle.ring_types.specs.Logs.{last, region_at, term_at}
use Rattle.ring_model.specs.Safety.{Agree}
use Rattle.ring_model.specs.declared.nodes.Durable.{Durable}
use Rattle.ring_model.specs.declared.nodes.Peer.{Peer}
use Rattle.ring_model.specs.declared.nodes.Soft.{Soft}
use Rattle.ring_model.specs.Quorums.{commits}
use Rattle.ring_model.specs.Needs.{lies_between, votes_between, wins}
use Rattle.ring_types.specs.declared.entries.Payload.TheVariants as payload
use Rattle.ring_model.proofs.Lists.{filter_keeps}
use Rattle.ring_model.proofs.Needs.{is_between}
use Rattle.ring_model.proofs.Invariant.{As_leader, By_reply, Cast, HasAcked, History, IsCandidate, IsGrant, IsHistory, IsLeader, IsNode, IsSealed, Sealed_at}
use Rattle.ring_model.proofs.Leading.{MayLead}

pub acked_less : (h : History) (v s p q : ℕ) → p ≤ q → HasAcked h v s q → HasAcked h v s p
acked_less h v s p q le (As_leader e in_e t by b) = As_leader e in_e t by (omega arith)
acked_less h v s p q le (By_reply m r in_m by body b) = By_reply m r in_m by body (omega arith)

positive : (p : ℕ) (l : List Entry) (t : ℕ) → term_at l p ≡ t → 0 < t → 0 < p
positive zero l t is some = absurd (omega arith)
positive (suc p) l t is some = omega arith

module _ (ring : Layout) (h : History) (id : ℕ) (d : Durable) (k : IsHistory ring h) (n : IsNode ring h id d) where
  -- a voter whose vote of its present term is for x reports all that it cast in between
  pub reports_all : (c : Cast) (x : ℕ) (q : Opid) → Contains h.casts c → c.voter ≡ id → c.vote.term ≡ d.term → c.vote.candidate ≡ x → c.asked ≡ q
      → IsGrant h x d.term q (record { voter = id; votes = votes_between q.term d.term d.votes })
  reports_all c x q in_c by t for asked = record {
    cast = c;
    was_cast = in_c;
    by = by;
    of_term = t;
    for = for;
    asked = asked;
    report = λ e in_e by_e low high.
        let a = ap (λ (o : Opid). o.term) asked in
        filter_keeps (lies_between q.term d.term) d.votes e.vote
        (n.between c e in_c in_e by by_e t (omega arith) (omega arith)) (is_between q.term d.term e.vote low high);
  }

  -- the vote that a node keeps for its present term was asked for as this request asks
  pub kept_vote : (w : Vote) (x : ℕ) (q : Opid) → Contains d.votes w → w.term ≡ d.term → w.candidate ≡ x
      → (r : Cast) → Contains h.casts r → r.voter ≡ x → r.vote.candidate ≡ x → r.vote.term ≡ d.term → r.asked ≡ q
      → (c : Cast) × Contains h.casts c × (c.voter ≡ id) × (c.vote.term ≡ d.term) × (c.vote.candidate ≡ x) × (c.asked ≡ q)
  kept_vote w x q in_w t for r in_r by_r for_r t_r asked =
      let c = n.votes_cast w in_w in
      let for_c : c.0.vote.candidate ≡ x = ap (λ (v : Vote). v.candidate) c.3 ∙ for in
      let t_c : c.0.vote.term ≡ d.term = ap (λ (v : Vote). v.term) c.3 ∙ t in
      let s = (k.casts c.0 c.1).self in
      let same : s.0 ≡ r = k.one_vote s.0 r s.1 in_r (s.2 ∙ (for_c ∙ sym by_r)) (ap (λ (v : Vote). v.term) s.3 ∙ (t_c ∙ sym t_r)) in
      (c.0, c.1, c.2, t_c, for_c, sym s.4 ∙ (ap (λ (e : Cast). e.asked) same ∙ asked))

  -- a candidate whose grants cover what they make it need may lead
  pub candidate_leads : (gs : List Grant) → IsCandidate h id d gs → wins ring (last d.log).term (region_at ring.home d.log (length d.log)) (region_of ring id) d.term gs ≡ true
      → MayLead ring h id d (record { term = d.term; node = id; base = d.log; grants = gs })
      (record { opid = record { term = d.term; position = suc (length d.log) }; region = region_of ring id; payload = payload.NoOp })
  candidate_leads gs x won = record {
    election = record {
      won = won;
      base = record { entry = n.log.entry; rises = n.log.rises; below = omega arith };
      base_below = x.below;
      grants = x.grants;
    };
    by = refl;
    of_term = refl;
    base = refl;
    new = x.not_led;
    x_term = refl;
    x_region = refl;
    x_place = refl;
  }

  -- a reply that grants adds to what a candidate holds
  pub grant_joins : (gs : List Grant) (g : Grant) (q : Opid) → IsCandidate h id d gs → IsGrant h id d.term q g → IsCandidate h id d (gs ++ g ∷ [])
  grant_joins gs g q x y = record {
    self = x.self;
    below = x.below;
    not_led = x.not_led;
    grants = λ r in_r. elim (Contains-push_cases gs g r in_r) [
      | inl old ↦ x.grants r old
      | inr new ↦
          -- the candidate asked once in this term, so the voter was asked with the candidate's last opid
          let s = (k.casts y.cast y.was_cast).self in
          let me = x.self in
          let same : s.0 ≡ me.0 = k.one_vote s.0 me.0 s.1 me.1 (s.2 ∙ (y.for ∙ sym me.2)) (ap (λ (v : Vote). v.term) s.3 ∙ (y.of_term ∙ sym me.4)) in
          let is : q ≡ last d.log = sym y.asked ∙ (sym s.4 ∙ (ap (λ (e : Cast). e.asked) same ∙ me.5)) in
          subst (IsGrant h id d.term (last d.log)) new (subst (λ (o : Opid). IsGrant h id d.term o g) is y)
    ];
  }

  -- a leader's place of its own term that a commit quorum has is committed
  pub leader_commits : (s : Soft) (p : ℕ) (quorum : List ℕ) → IsLeader h id d s → p ≤ length d.log → term_at d.log p ≡ d.term → commits ring (region_of ring id) quorum ≡ true
      → ((v : ℕ) → Contains quorum v → (v ≡ id) ⊎ ((x : Peer) × Contains s.peers x × (x.node ≡ v) × (p ≤ x.matched))) → IsSealed ring h d.term p d.log
  leader_commits s p quorum x le own reached who =
      let book : d.log ≡ h.book d.term = n.led_log x.election x.led x.by x.of_term ∙ ap h.book x.of_term in
      let inside : p ≤ length (h.book d.term) = omega (arith, ap length book) in
      let some : 0 < d.term = omega (arith, (k.elections x.election x.led).base_below, x.of_term) in
      Sealed_at d.term p (omega arith) (omega arith) (record {
        election = x.election;
        led = x.led;
        of_term = x.of_term;
        own = sym (ap (λ (l : List Entry). term_at l p) book) ∙ own;
        inside = inside;
        quorum = quorum;
        reached = subst (λ (v : ℕ). commits ring (region_of ring v) quorum ≡ true) (sym x.by) reached;
        acked = λ v in_v. elim (who v in_v) [
          | inl me ↦ As_leader x.election x.led x.of_term (x.by ∙ sym me) inside
          | inr peer ↦
              let y = x.matched peer.0 peer.1 (omega (arith, peer.3, positive p d.log d.term own some)) in
              subst (λ (w : ℕ). HasAcked h w d.term p) peer.2 (acked_less h peer.0.node d.term p peer.0.matched peer.3 y)
        ];
      }) (subst (λ (b : List Entry). Agree p d.log b) book (record { left = le; right = le; same = refl }))
