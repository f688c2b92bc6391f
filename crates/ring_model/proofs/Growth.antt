-- A history that grows by what one node does keeps what was known of it, since its lists are only added to and its books only go on.
use Rattle.std.proofs.Common.{◌≡◌, ℕ, ◌+◌, ◌<◌, ◌≤◌, ◌⊎◌, [], ◌∷◌, ◌∙◌, List, ap, arith, drop, inl, inr, length, refl, subst, suc, sym, take, zero}
use Rattle.std.proofs.lemmas.Bool.{cases_lt}
use Rattle.std.proofs.lemmas.List.{take-take}
use Rattle.std.specs.List.{Contains}
use Rattle.ring_types.specs.declared.entries.Entry.{Entry}
use Rattle.ring_types.specs.declared.entries.Grant.{Grant}
use Rattle.ring_types.specs.Rings.{Layout}
use Rattle.ring_types.specs.declared.entries.Opid.{Opid}
use Rattle.ring_types.specs.Logs.{last, term_at}
use Rattle.ring_model.specs.Safety.{Agree}
use Rattle.ring_model.specs.declared.messages.Body.{Body}
use Rattle.ring_model.specs.declared.nodes.Durable.{Durable}
use Rattle.ring_model.specs.Runs.{Election}
use Rattle.ring_model.specs.declared.messages.Message.{Message}
use Rattle.ring_model.specs.declared.nodes.Soft.{Soft}
use Rattle.ring_model.specs.Replication.{opids_of, reply}
use Rattle.ring_model.specs.declared.messages.Body.TheVariants as body
use Rattle.ring_model.proofs.Invariant.{As_leader, As_new, By_reply, Cast, Cut_by, HasAcked, History, IsBookedLog, IsCandidate, IsCast, IsCommitted, IsEntryOf, IsGrant, IsHistory, IsLeader, IsNode, IsSealed, IsSent, IsStretch, IsWon, KeepsAcked, Kept, Newer, Nothing_yet, Overruled, Overrules, Sealed_at, VoteKeeps, ok_reply}

pub agree_sym : (p : ℕ) (a b : List Entry) → Agree p a b → Agree p b a
agree_sym p a b h = record { left = h.right; right = h.left; same = sym h.same }

pub agree_trans : (p : ℕ) (a b c : List Entry) → Agree p a b → Agree p b c → Agree p a c
agree_trans p a b c h k = record { left = h.left; right = k.right; same = h.same ∙ k.same }

pub agree_less : (q p : ℕ) (a b : List Entry) → q ≤ p → Agree p a b → Agree q a b
agree_less q p a b le h = record {
  left = omega (arith, h.left);
  right = omega (arith, h.right);
  same = sym (take-take q p a le) ∙ (ap (take q) h.same ∙ take-take q p b le);
}

pub term_at_take : (k p : ℕ) (l : List Entry) → k ≤ p → term_at (take p l) k ≡ term_at l k
term_at_take zero p l le = refl
term_at_take (suc k) zero l le = absurd (omega arith)
term_at_take (suc k) (suc p) [] le = refl
term_at_take (suc zero) (suc p) (e ∷ l) le = refl
term_at_take (suc (suc k)) (suc p) (e ∷ l) le = term_at_take (suc k) p l (omega arith)

pub agree_term : (k p : ℕ) (a b : List Entry) → k ≤ p → Agree p a b → term_at a k ≡ term_at b k
agree_term k p a b le h = sym (term_at_take k p a le) ∙ (ap (λ w. term_at w k) h.same ∙ term_at_take k p b le)

pub take_drop_take : (at n p : ℕ) (l : List Entry) → at + n ≤ p → take n (drop at (take p l)) ≡ take n (drop at l)
take_drop_take zero n p l le = take-take n p l (omega arith)
take_drop_take (suc at) n zero l le = absurd (omega arith)
take_drop_take (suc at) n (suc p) [] le = refl
take_drop_take (suc at) n (suc p) (e ∷ l) le = take_drop_take at n p l (omega arith)

-- the same piece of two logs that agree
pub agree_window : (at n p : ℕ) (a b : List Entry) → at + n ≤ p → Agree p a b → take n (drop at a) ≡ take n (drop at b)
agree_window at n p a b le h =
    let x = take_drop_take at n p a le in
    let y = take_drop_take at n p b le in
    sym x ∙ (ap (λ w. take n (drop at w)) h.same ∙ y)

-- from h to g node id alone added to the history
pub record Grows (id : ℕ) (h g : History) : Type 0 where
  pub elections : (e : Election) → Contains h.elections e → Contains g.elections e
  pub casts : (c : Cast) → Contains h.casts c → Contains g.casts c
  pub messages : (m : Message) → Contains h.messages m → Contains g.messages m
  pub books : (e : Election) → Contains h.elections e → Agree (length (h.book e.term)) (h.book e.term) (g.book e.term)
  pub other_books : (e : Election) → Contains h.elections e → (e.node ≡ id → ⊥) → h.book e.term ≡ g.book e.term
  pub chosen : length h.chosen ≤ length g.chosen
  pub new_elections : (e : Election) → Contains g.elections e → Contains h.elections e ⊎ (e.node ≡ id)
  pub new_casts : (c : Cast) → Contains g.casts c
      → Contains h.casts c ⊎ ((c.voter ≡ id) × ((d : Cast) → Contains h.casts d → d.voter ≡ id → d.vote.term < c.vote.term))
  pub new_acks : (v s p : ℕ) → HasAcked g v s p → HasAcked h v s p ⊎ ((v ≡ id) × ((c : Cast) → Contains h.casts c → c.voter ≡ id → c.vote.term ≤ s))

module _ (ring : Layout) (id : ℕ) (h g : History) (grows : Grows id h g) where
  pub grow_book : (e : Election) (s p : ℕ) (l : List Entry) → Contains h.elections e → e.term ≡ s → Agree p l (h.book s) → Agree p l (g.book s)
  grow_book e s p l in_e is a =
      let b : Agree (length (h.book s)) (h.book s) (g.book s) = subst (λ (t : ℕ). Agree (length (h.book t)) (h.book t) (g.book t)) is (grows.books e in_e) in
      agree_trans p l (h.book s) (g.book s) a (agree_less p (length (h.book s)) (h.book s) (g.book s) a.right b)

  pub grow_entry : (l : List Entry) (k : ℕ) → IsEntryOf ring h l k → IsEntryOf ring g l k
  grow_entry l k x = record {
    election = x.election;
    led = grows.elections x.election x.led;
    of_term = x.of_term;
    of_region = x.of_region;
    in_book = grow_book x.election (term_at l k) k l x.led x.of_term x.in_book;
    place = x.place;
  }

  pub grow_log : (t u : ℕ) (l : List Entry) → t ≤ u → IsBookedLog ring h t l → IsBookedLog ring g u l
  grow_log t u l le x = record { entry = λ k a b. grow_entry l k (x.entry k a b); rises = x.rises; below = omega (arith, x.below) }

  pub grow_acked : (e : Election) (v s p : ℕ) → Contains h.elections e → e.term ≡ s → HasAcked h v s p → HasAcked g v s p
  grow_acked f v s p in_f is (As_leader e in_e t n le) = As_leader e (grows.elections e in_e) t n
      (let a = grow_book e s p (h.book s) in_e t (record { left = le; right = le; same = refl }) in a.right)
  grow_acked f v s p in_f is (By_reply m q in_m by body le) = By_reply m q (grows.messages m in_m) by body le

  pub grow_committed : (s p : ℕ) → IsCommitted ring h s p → IsCommitted ring g s p
  grow_committed s p x =
      let a = grow_book x.election s p (h.book s) x.led x.of_term (record { left = x.inside; right = x.inside; same = refl }) in
      record {
        election = x.election;
        led = grows.elections x.election x.led;
        of_term = x.of_term;
        own = sym (agree_term p p (h.book s) (g.book s) (omega arith) a) ∙ x.own;
        inside = a.right;
        quorum = x.quorum;
        reached = x.reached;
        acked = λ v in_v. grow_acked x.election v s p x.led x.of_term (x.acked v in_v);
      }

  pub grow_sealed : (t u c : ℕ) (l : List Entry) → t ≤ u → IsSealed ring h t c l → IsSealed ring g u c l
  grow_sealed t u c l le (Nothing_yet z) = Nothing_yet z
  grow_sealed t u c l le (Sealed_at s p a b m x) = Sealed_at s p (omega arith) b (grow_committed s p m) (grow_book m.election s c l m.led m.of_term x)

  -- what was acknowledged stands in a book of a term that has a leader
  pub acked_inside : IsHistory ring h → (v s p : ℕ) → HasAcked h v s p → (e : Election) × Contains h.elections e × (e.term ≡ s) × (p ≤ length (h.book s))
  acked_inside k v s p (As_leader e in_e t n le) = (e, in_e, t, le)
  acked_inside k v s p (By_reply m q in_m by body le) =
      let x : IsSent ring h m.from m.to (ok_reply s q) = subst (λ (b : Body). IsSent ring h m.from m.to b) body (k.sent m in_m) in
      let y = x refl in (y.1.0, y.1.1, y.1.2, omega (arith, y.0))

  pub grow_overrules : (e u : Election) (s p : ℕ) → Contains h.elections e → e.term ≡ s → p ≤ length (h.book s) → Overrules h u s p → Overrules g u s p
  grow_overrules e u s p in_e is le x = record {
    led = grows.elections u x.led;
    later = x.later;
    lacks = λ a. x.lacks (agree_trans p (h.book s) (g.book s) u.base (grow_book e s p (h.book s) in_e is (record { left = le; right = le; same = refl })) a);
  }

  pub grow_keeps : IsHistory ring h → (d : Durable) (v s p : ℕ) → HasAcked h v s p → KeepsAcked h d s p → KeepsAcked g d s p
  grow_keeps k d v s p a (Kept x) =
      let i = acked_inside k v s p a in
      Kept (agree_sym p d.log (g.book s) (grow_book i.0 s p d.log i.1 i.2 (agree_sym p (h.book s) d.log x)))
  grow_keeps k d v s p a (Cut_by u x le) = let i = acked_inside k v s p a in Cut_by u (grow_overrules i.0 u s p i.1 i.2 i.3 x) le

  pub grow_vote_keeps : IsHistory ring h → (c : Cast) (v s p : ℕ) → HasAcked h v s p → VoteKeeps h c s p → VoteKeeps g c s p
  grow_vote_keeps k c v s p a (Newer x) = Newer x
  grow_vote_keeps k c v s p a (As_new x y) = As_new x y
  grow_vote_keeps k c v s p a (Overruled u x le f) = let i = acked_inside k v s p a in Overruled u (grow_overrules i.0 u s p i.1 i.2 i.3 x) le f

  pub grow_grant : (x t : ℕ) (q : Opid) (r : Grant) → IsGrant h x t q r → IsGrant g x t q r
  grow_grant x t q r y = record {
    cast = y.cast;
    was_cast = grows.casts y.cast y.was_cast;
    by = y.by;
    of_term = y.of_term;
    for = y.for;
    asked = y.asked;
    report = λ c in_c by low high. elim (grows.new_casts c in_c) [
      | inl old ↦ y.report c old by low high
      | inr new ↦ absurd (let z = new.1 y.cast y.was_cast (y.by ∙ (sym by ∙ new.0)) in omega (arith, y.of_term))
    ];
  }

  -- a sealed beginning of a book stays one
  pub seal_moves : (e : Election) (t c : ℕ) → Contains h.elections e → e.term ≡ t → IsSealed ring h t c (h.book t) → IsSealed ring g t c (g.book t)
  seal_moves e t c in_e is (Nothing_yet z) = Nothing_yet z
  seal_moves e t c in_e is (Sealed_at s p a b m x) =
      let y = grow_book m.election s c (h.book t) m.led m.of_term x in
      let z = grow_book e t c (h.book t) in_e is (record { left = x.left; right = x.left; same = refl }) in
      Sealed_at s p a b (grow_committed s p m) (agree_trans c (g.book t) (h.book t) (g.book s) (agree_sym c (h.book t) (g.book t) z) y)

  -- a node that did not done stays as it was
  pub others_stay : IsHistory ring h → (j : ℕ) (d : Durable) → (j ≡ id → ⊥) → IsNode ring h j d → IsNode ring g j d
  others_stay k j d other n = record {
    log = grow_log d.term d.term d.log (omega arith) n.log;
    led_below = λ e in_e by. elim (grows.new_elections e in_e) [ inl old ↦ n.led_below e old by | inr new ↦ absurd (other (sym by ∙ new)) ];
    led_log = λ e in_e by t. elim (grows.new_elections e in_e) [
      | inl old ↦ n.led_log e old by t ∙ grows.other_books e old (λ q. other (sym by ∙ q))
      | inr new ↦ absurd (other (sym by ∙ new))
    ];
    cast_below = λ c in_c by. elim (grows.new_casts c in_c) [ inl old ↦ n.cast_below c old by | inr new ↦ absurd (other (sym by ∙ new.0)) ];
    cast_kept = λ c in_c by t. elim (grows.new_casts c in_c) [ inl old ↦ n.cast_kept c old by t | inr new ↦ absurd (other (sym by ∙ new.0)) ];
    votes_cast = λ w in_w. let x = n.votes_cast w in_w in (x.0, grows.casts x.0 x.1, x.2, x.3);
    dropped = λ c in_c by. elim (grows.new_casts c in_c) [
      | inl old ↦ elim (n.dropped c old by) [
        | inl kept ↦ inl kept
        | inr gone ↦ inr (record { at = gone.at; sealed = grow_sealed d.term d.term gone.at d.log (omega arith) gone.sealed; above = gone.above })
      ]
      | inr new ↦ absurd (other (sym by ∙ new.0))
    ];
    between = λ c e in_c in_e by_c by_e t low high. elim (grows.new_casts c in_c) [
      | inl old ↦ elim (grows.new_casts e in_e) [ inl old_e ↦ n.between c e old old_e by_c by_e t low high | inr new ↦ absurd (other (sym by_e ∙ new.0)) ]
      | inr new ↦ absurd (other (sym by_c ∙ new.0))
    ];
    acked_below = λ s p a. elim (grows.new_acks j s p a) [ inl old ↦ n.acked_below s p old | inr new ↦ absurd (other new.0) ];
    acked = λ s p a. elim (grows.new_acks j s p a) [ inl old ↦ grow_keeps k d j s p old (n.acked s p old) | inr new ↦ absurd (other new.0) ];
    applied = grow_sealed d.term d.term d.applied d.log (omega arith) n.applied;
  }

  pub candidate_stays : (j : ℕ) (d : Durable) (gs : List Grant) → (j ≡ id → ⊥) → IsCandidate h j d gs → IsCandidate g j d gs
  candidate_stays j d gs other x = record {
    self = let y = x.self in (y.0, grows.casts y.0 y.1, y.2, y.3, y.4, y.5);
    below = x.below;
    not_led = λ e in_e by t. elim (grows.new_elections e in_e) [ inl old ↦ x.not_led e old by t | inr new ↦ other (sym by ∙ new) ];
    grants = λ r in_r. grow_grant j d.term (last d.log) r (x.grants r in_r);
  }

  pub leader_stays : (j : ℕ) (d : Durable) (s : Soft) → IsLeader h j d s → IsLeader g j d s
  leader_stays j d s x = record {
    election = x.election;
    led = grows.elections x.election x.led;
    by = x.by;
    of_term = x.of_term;
    matched = λ p in_p some. grow_acked x.election p.node d.term p.matched x.led x.of_term (x.matched p in_p some);
    next = x.next;
  }

  -- a message that was sent stays true
  pub stretch_stays : (t leader : ℕ) (prev : Opid) (commit n : ℕ) → IsStretch ring h t leader prev commit n → IsStretch ring g t leader prev commit n
  stretch_stays t leader prev commit n x =
      let a : Agree (length (h.book t)) (h.book t) (g.book t) = grow_book x.election t (length (h.book t)) (h.book t) x.led x.of_term (record { left = omega arith; right = omega arith; same = refl }) in
      record {
        election = x.election;
        led = grows.elections x.election x.led;
        of_term = x.of_term;
        by = x.by;
        fits = omega (arith, x.fits, a.right);
        prev_term = sym (agree_term prev.position (length (h.book t)) (h.book t) (g.book t) (omega (arith, x.fits)) a) ∙ x.prev_term;
        sealed = seal_moves x.election t commit x.led x.of_term x.sealed;
        chosen = omega (arith, x.chosen, grows.chosen);
      }

  pub sent_stays : (from to : ℕ) (b : Body) → IsSent ring h from to b → IsSent ring g from to b
  sent_stays from to (body.RequestVote asked) x = (x.0, grows.casts x.0 x.1, x.2, x.3, x.4, x.5)
  sent_stays from to (body.VoteReply reply) x = λ is. let y = x is in (y.0, grow_grant to reply.term y.0 (record { voter = from; votes = reply.votes }) y.1)
  sent_stays from to (body.Append sent) x =
      let s = x.0 in
      let a : Agree (length (h.book sent.term)) (h.book sent.term) (g.book sent.term) = grow_book s.election sent.term (length (h.book sent.term)) (h.book sent.term) s.led s.of_term (record { left = omega arith; right = omega arith; same = refl }) in
      (stretch_stays sent.term sent.leader sent.prev sent.commit (length sent.entries) s, sym (agree_window sent.prev.position (length sent.entries) (length (h.book sent.term)) (h.book sent.term) (g.book sent.term) s.fits a) ∙ x.1)
  sent_stays from to (body.AppendReply answer) x = λ is.
      let y = x is in
      let a = grow_book y.1.0 answer.term answer.position (h.book answer.term) y.1.1 y.1.2 (record { left = y.0; right = y.0; same = refl }) in (a.right, (y.1.0, grows.elections y.1.0 y.1.1, y.1.2))
  sent_stays from to (body.ProxyAppend sent) x =
      let s = x.0 in
      let a : Agree (length (h.book sent.term)) (h.book sent.term) (g.book sent.term) = grow_book s.election sent.term (length (h.book sent.term)) (h.book sent.term) s.led s.of_term (record { left = omega arith; right = omega arith; same = refl }) in (
        stretch_stays sent.term from sent.prev sent.commit (length sent.opids) s,
        ap opids_of (sym (agree_window sent.prev.position (length sent.opids) (length (h.book sent.term)) (h.book sent.term) (g.book sent.term) s.fits a)) ∙ x.1,
      )
  sent_stays from to (body.MockStart sent) x = tt
  sent_stays from to (body.MockRequest sent) x = tt
  sent_stays from to (body.MockReply sent) x = tt
  sent_stays from to (body.MockResult sent) x = tt
  sent_stays from to (body.TimeoutNow term) x = tt
  sent_stays from to (body.ClientWrite changes) x = tt
  sent_stays from to body.ClientRotate x = tt
  sent_stays from to (body.ClientTransfer target) x = tt
  sent_stays from to body.ClientCancel x = tt
  sent_stays from to (body.ClientReply what) x = tt

  -- an election stays won; what its leader added to its book is shown apart
  pub won_stays : (e : Election) → Contains h.elections e → IsWon ring h e
      → ((k : ℕ) → length (h.book e.term) < k → k ≤ length (g.book e.term) → term_at (g.book e.term) k ≡ e.term) → IsBookedLog ring g e.term (g.book e.term) → IsWon ring g e
  won_stays e in_e x more log =
      let a = grows.books e in_e in
      record {
        won = x.won;
        base = grow_log (last e.base).term (last e.base).term e.base (omega arith) x.base;
        base_below = x.base_below;
        grants = λ r in_r. grow_grant e.node e.term (last e.base) r (x.grants r in_r);
        in_book = grow_book e e.term (length e.base) e.base in_e refl x.in_book;
        longer = omega (arith, x.longer, a.right);
        own = λ k low high. elim (cases_lt (length (h.book e.term)) k) [
          | inl past ↦ more k past high
          | inr old ↦ sym (agree_term k (length (h.book e.term)) (h.book e.term) (g.book e.term) old a) ∙ x.own k low old
        ];
        book = log;
      }

  pub cast_stays : IsHistory ring h → (c : Cast) → Contains h.casts c → IsCast ring h c → IsCast ring g c
  cast_stays k c in_c x = record {
    of_region = x.of_region;
    self = let y = x.self in (y.0, grows.casts y.0 y.1, y.2, y.3, y.4);
    keeps = λ s p a below own. elim (grows.new_acks c.voter s p a) [
      | inl old ↦
          let i = acked_inside k c.voter s p old in
          let b = grow_book i.0 s p (h.book s) i.1 i.2 (record { left = i.3; right = i.3; same = refl }) in
          grow_vote_keeps k c c.voter s p old (x.keeps s p old below (agree_term p p (h.book s) (g.book s) (omega arith) b ∙ own))
      | inr new ↦ absurd (let z = new.1 c in_c new.0 in omega arith)
    ];
  }

  pub chosen_stays : (c : ℕ) (l : List Entry) → (u : ℕ) × IsSealed ring h u c l → (u : ℕ) × IsSealed ring g u c l
  chosen_stays c l x = (x.0, grow_sealed x.0 x.0 c l (omega arith) x.1)
