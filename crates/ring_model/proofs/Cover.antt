-- Each leader from an election's base term on is of a region that the election needs; so a term has one leader, and what is committed stays with each later leader.
use Rattle.std.proofs.Common.{◌≡◌, ℕ, ◌+◌, ◌<◌, ◌≤◌, ◌∙◌, List, ap, arith, inl, inr, length, refl, subst, suc, sym, true, zero}
use Rattle.std.proofs.lemmas.Bool.{cases_lt}
use Rattle.std.specs.List.{Contains}
use Rattle.ring_types.specs.declared.entries.Entry.{Entry}
use Rattle.ring_types.specs.declared.entries.Grant.{Grant}
use Rattle.ring_types.specs.Rings.{Layout, region_of}
use Rattle.ring_types.specs.declared.entries.Opid.{Opid}
use Rattle.ring_types.specs.declared.entries.Vote.{Vote}
use Rattle.ring_types.specs.Logs.{last, region_at, term_at}
use Rattle.ring_model.specs.Safety.{Agree}
use Rattle.ring_model.specs.Runs.{Election}
use Rattle.ring_model.specs.Quorums.{InZone, covers}
use Rattle.ring_model.specs.Needs.{need, voters_in, wins}
use Rattle.ring_model.proofs.Quorums.{commit_meets_cover, covers_meet}
use Rattle.ring_model.proofs.Needs.{in_granted, need_has_base, need_has_vote, win_covers}
use Rattle.ring_model.proofs.Invariant.{As_new, Cast, HasAcked, History, IsBookedLog, IsCommitted, IsGrant, IsHistory, Newer, Overruled, VoteKeeps}
use Rattle.ring_model.proofs.Growth.{agree_less, agree_sym, agree_term, agree_trans}

abbrev pub Granted : List Grant → ℕ → Type 0
Granted gs v = (g : Grant) × Contains gs g × (g.voter ≡ v)

abbrev pub last_term : List Entry → ℕ
last_term l = (last l).term

abbrev pub base_region_of : Layout → Election → ℕ
base_region_of ring e = region_at ring.home e.base (length e.base)

-- the region is among those that the election needs
abbrev pub Needed : Layout → Election → ℕ → Type 0
Needed ring e r = Contains (need ring (last e.base).term (base_region_of ring e) (region_of ring e.node) e.term e.grants) r

-- the region that goes with a base term: the home region at 0, and else that of the term's leader
pub data TermRegion (ring : Layout) (h : History) (t r : ℕ) : Type 0 where
  At_start : t ≡ 0 → r ≡ ring.home → TermRegion ring h t r
  At_led : (e : Election) → Contains h.elections e → e.term ≡ t → region_of ring e.node ≡ r → TermRegion ring h t r

-- a new election, as it must be to be added
pub record IsElection (ring : Layout) (h : History) (e : Election) : Type 0 where
  pub won : wins ring (last e.base).term (base_region_of ring e) (region_of ring e.node) e.term e.grants ≡ true
  pub base : IsBookedLog ring h (last e.base).term e.base
  pub base_below : (last e.base).term < e.term
  pub grants : (g : Grant) → Contains e.grants g → IsGrant h e.node e.term (last e.base) g

module _ (ring : Layout) (h : History) (k : IsHistory ring h) where
  pub is_election : (e : Election) → Contains h.elections e → IsElection ring h e
  is_election e in_e = let x = k.elections e in_e in record { won = x.won; base = x.base; base_below = x.base_below; grants = x.grants }

  needs_base : (e : Election) → Needed ring e (base_region_of ring e)
  needs_base e = need_has_base ring (last e.base).term (base_region_of ring e) (region_of ring e.node) e.term e.grants

  needs_vote : (e : Election) (r : ℕ) (g : Grant) (w : Vote) → Needed ring e r → Contains e.grants g → InZone ring r g.voter → Contains g.votes w → last_term e.base < w.term → w.term < e.term → Needed ring e w.region
  needs_vote e r g w = need_has_vote ring (last e.base).term (base_region_of ring e) (region_of ring e.node) e.term r e.grants g w

  election_covers : (e : Election) (r : ℕ) → IsElection ring h e → Needed ring e r → covers ring r (voters_in e.grants) ≡ true
  election_covers e r x c = win_covers ring (last e.base).term (base_region_of ring e) (region_of ring e.node) e.term e.grants r x.won c

  log_region : (t : ℕ) (l : List Entry) → IsBookedLog ring h t l → (n : ℕ) → n ≡ length l → TermRegion ring h (term_at l n) (region_at ring.home l n)
  log_region t l x zero is = At_start refl refl
  log_region t l x (suc n) is = let y = x.entry (suc n) (omega arith) (omega arith) in At_led y.election y.led y.of_term (sym y.of_region)

  base_region : (e : Election) → IsElection ring h e → TermRegion ring h (last_term e.base) (base_region_of ring e)
  base_region e x = log_region (last_term e.base) e.base x.base (length e.base) refl

  region_once : (t r s : ℕ) → TermRegion ring h t r → TermRegion ring h t s → r ≡ s
  region_once t r s (At_start z a) (At_start y b) = cc
  region_once t r s (At_start z a) (At_led f in_f tf rf) = absurd (omega (arith, (k.elections f in_f).base_below))
  region_once t r s (At_led e in_e te re) (At_start y b) = absurd (omega (arith, (k.elections e in_e).base_below))
  region_once t r s (At_led e in_e te re) (At_led f in_f tf rf) =
      let same : e ≡ f = k.one_leader e f in_e in_f (te ∙ sym tf) in cc

  -- a voter in the zone of a region that f needs granted both elections
  pub record Meets (f e : Election) : Type 0 where
    pub region : ℕ
    pub voter : ℕ
    pub needed : Needed ring f region
    pub zoned : InZone ring region voter
    pub first : Granted f.grants voter
    pub second : Granted e.grants voter

  abbrev pub Below : ℕ → Type 0
  Below n = (f e : Election) → IsElection ring h f → Contains h.elections e → last_term f.base ≤ e.term → e.term < f.term → e.term + f.term < n
      → Needed ring f (region_of ring e.node)

  meet_in : (f e : Election) (r : ℕ) → IsElection ring h f → IsElection ring h e → Needed ring f r → Needed ring e r → Meets f e
  meet_in f e r vf ve nf ne =
      let m = covers_meet ring k.valid r (voters_in f.grants) (voters_in e.grants) (election_covers f r vf nf) (election_covers e r ve ne) in
      record { region = r; voter = m.0; needed = nf; zoned = m.1; first = in_granted f.grants m.0 m.2; second = in_granted e.grants m.0 m.3 }

  -- where the base of f is below e, and e is not above f, some voter granted both
  meets : (n : ℕ) (f e : Election) → Below n → IsElection ring h f → Contains h.elections e
      → last_term f.base < e.term → e.term ≤ f.term → e.term + f.term ≤ n → (a : ℕ) → a ≡ last_term f.base → (b : ℕ) → b ≡ last_term e.base
      → TermRegion ring h a (base_region_of ring f) → TermRegion ring h b (base_region_of ring e) → Meets f e
  meets n f e ih vf in_e low high sum a is_a b is_b (At_start za ra) (At_start zb rb) =
      meet_in f e ring.home vf (is_election e in_e) (subst (Needed ring f) ra (needs_base f)) (subst (Needed ring e) rb (needs_base e))
  meets n f e ih vf in_e low high sum a is_a b is_b (At_start za ra) (At_led eb in_eb tb rb) =
      let ve = is_election e in_e in
      let x : Needed ring f (region_of ring eb.node) = ih f eb vf in_eb (omega arith) (omega (arith, ve.base_below)) (omega (arith, ve.base_below)) in
      meet_in f e (region_of ring eb.node) vf ve x (subst (Needed ring e) (sym rb) (needs_base e))
  meets n f e ih vf in_e low high sum a is_a b is_b (At_led fb in_fb ta ra) (At_start zb rb) =
      let ve = is_election e in_e in
      let x : Needed ring e (region_of ring fb.node) = ih e fb ve in_fb (omega arith) (omega arith) (omega (arith, vf.base_below)) in
      meet_in f e (region_of ring fb.node) vf ve (subst (Needed ring f) (sym ra) (needs_base f)) x
  meets n f e ih vf in_e low high sum a is_a b is_b (At_led fb in_fb ta ra) (At_led eb in_eb tb rb) =
      let ve = is_election e in_e in
      elim (cases_lt a b) [
        | inl lt ↦
            let x : Needed ring f (region_of ring eb.node) = ih f eb vf in_eb (omega arith) (omega (arith, ve.base_below)) (omega (arith, ve.base_below)) in
            meet_in f e (region_of ring eb.node) vf ve x (subst (Needed ring e) (sym rb) (needs_base e))
        | inr ge ↦
            let x : Needed ring e (region_of ring fb.node) = ih e fb ve in_fb (omega arith) (omega arith) (omega (arith, vf.base_below)) in
            meet_in f e (region_of ring fb.node) vf ve (subst (Needed ring f) (sym ra) (needs_base f)) x
      ]

  -- the region of a leader whose voter also granted the later election is needed there
  cover_vote : (f e : Election) → IsElection ring h f → IsElection ring h e → last_term f.base < e.term → e.term < f.term → Meets f e → Needed ring f (region_of ring e.node)
  cover_vote f e vf ve low high m =
      let gf = m.first in
      let ge = m.second in
      let c = ve.grants ge.0 ge.1 in
      let told = (vf.grants gf.0 gf.1).report c.cast c.was_cast (c.by ∙ (ge.2 ∙ sym gf.2)) (omega (arith, c.of_term)) (omega (arith, c.of_term)) in
      let reg : c.cast.vote.region ≡ region_of ring e.node = (k.casts c.cast c.was_cast).of_region ∙ ap (region_of ring) c.for in
      let z : InZone ring m.region gf.0.voter = subst (InZone ring m.region) (sym gf.2) m.zoned in
      subst (Needed ring f) reg (needs_vote f m.region gf.0 c.cast.vote m.needed gf.1 z told (omega (arith, c.of_term)) (omega (arith, c.of_term)))

  -- the cover lemma: each leader from the base term on is of a needed region
  cover_below : (n : ℕ) → Below n
  cover_below zero f e vf in_e low high sum = absurd (omega arith)
  cover_below (suc n) f e vf in_e low high sum =
      let ve = is_election e in_e in
      elim (cases_lt (last_term f.base) e.term) [
        | inl lt ↦ cover_vote f e vf ve lt high
            (meets n f e (cover_below n) vf in_e lt (omega arith) (omega arith) (last_term f.base) refl (last_term e.base) refl (base_region f vf) (base_region e ve))
        | inr ge ↦
            let same = region_once (last_term f.base) (base_region_of ring f) (region_of ring e.node) (base_region f vf) (At_led e in_e (omega arith) refl) in
            subst (Needed ring f) same (needs_base f)
      ]

  pub leaders_covered : (f e : Election) → IsElection ring h f → Contains h.elections e → last_term f.base ≤ e.term → e.term < f.term
      → Needed ring f (region_of ring e.node) × (covers ring (region_of ring e.node) (voters_in f.grants) ≡ true)
  leaders_covered f e vf in_e low high =
      let x = cover_below (suc (e.term + f.term)) f e vf in_e low high (omega arith) in (x, election_covers f (region_of ring e.node) vf x)

  -- a new election of a term that has a leader was won by that leader
  pub leader_once : (f e : Election) → IsElection ring h f → Contains h.elections e → f.term ≡ e.term → f.node ≡ e.node
  leader_once f e vf in_e same =
      let ve = is_election e in_e in
      let m = meets (f.term + f.term) f e (cover_below (f.term + f.term)) vf in_e (omega (arith, vf.base_below)) (omega arith) (omega arith)
      (last_term f.base) refl (last_term e.base) refl (base_region f vf) (base_region e ve) in
      let c = vf.grants m.first.0 m.first.1 in
      let d = ve.grants m.second.0 m.second.1 in
      let one : c.cast ≡ d.cast = k.one_vote c.cast d.cast c.was_cast d.was_cast (c.by ∙ (m.first.2 ∙ sym (d.by ∙ m.second.2))) (c.of_term ∙ (same ∙ sym d.of_term)) in
      sym c.for ∙ (ap (λ (w : Cast). w.vote.candidate) one ∙ d.for)

  -- ---- what is committed stays with each later leader
  abbrev Held : ℕ → ℕ → ℕ → Type 0
  Held n s p = (e : Election) → Contains h.elections e → s < e.term → e.term < n → Agree p (h.book s) e.base

  -- the base is a beginning of the book of its last term
  base_in_book : (e : Election) → Contains h.elections e → 0 < last_term e.base → Agree (length e.base) e.base (h.book (last_term e.base))
  base_in_book e in_e some = go e.base (last_term e.base) (k.elections e in_e).base (length e.base) refl some
    where
      go : (l : List Entry) (t : ℕ) → IsBookedLog ring h t l → (n : ℕ) → n ≡ length l → 0 < term_at l n → Agree n l (h.book (term_at l n))
      go l t x zero is some = absurd (omega arith)
      go l t x (suc n) is some = (x.entry (suc n) (omega arith) (omega arith)).in_book

  held_newer : (s p : ℕ) (e b : Election) → Contains h.elections e → Contains h.elections b
      → b.term ≡ last_term e.base → s < b.term → Agree p (h.book s) b.base → Agree p (h.book s) e.base
  held_newer s p e b in_e in_b is later a =
      let vb = k.elections b in_b in
      let in_book : Agree (length e.base) e.base (h.book b.term) = subst (λ (t : ℕ). Agree (length e.base) e.base (h.book t)) (sym is) (base_in_book e in_e (omega arith)) in
      let longer : length b.base < length e.base = elim (cases_lt (length b.base) (length e.base)) [
        | inl lt ↦ lt
        | inr ge ↦
            let t1 : term_at (h.book b.term) (length e.base) ≡ last_term e.base = sym (agree_term (length e.base) (length e.base) e.base (h.book b.term) (omega arith) in_book) in
            let t2 : term_at b.base (length e.base) ≡ term_at (h.book b.term) (length e.base) = agree_term (length e.base) (length b.base) b.base (h.book b.term) ge vb.in_book in
            let t3 = vb.base.rises (length e.base) (length b.base) ge (omega arith) in
            absurd (omega (arith, vb.base_below))
      ] in
      agree_trans p (h.book s) (h.book b.term) e.base
      (agree_trans p (h.book s) b.base (h.book b.term) a (agree_less p (length b.base) b.base (h.book b.term) (omega (arith, a.right)) vb.in_book))
      (agree_sym p e.base (h.book b.term) (agree_less p (length e.base) e.base (h.book b.term) (omega (arith, a.right)) in_book))

  held_above : (n s p : ℕ) (e : Election) → Held n s p → Contains h.elections e → s < last_term e.base → e.term < suc n
      → TermRegion ring h (last_term e.base) (base_region_of ring e) → Agree p (h.book s) e.base
  held_above n s p e ih in_e lt under (At_start z r) = absurd (omega arith)
  held_above n s p e ih in_e lt under (At_led b in_b tb rb) =
      held_newer s p e b in_e in_b tb (omega arith) (ih b in_b (omega arith) (omega (arith, (k.elections e in_e).base_below)))

  held_voted : (n s p : ℕ) (e : Election) (c : Cast) → IsCommitted ring h s p → Held n s p → Contains h.elections e → s < e.term → e.term < suc n
      → last_term e.base ≤ s → (g : Grant) → Contains e.grants g → g.voter ≡ c.voter → c.vote.term ≡ e.term → c.asked ≡ last e.base → VoteKeeps h c s p → Agree p (h.book s) e.base
  held_voted n s p e c m ih in_e later under low g in_g by ct asked (Newer x) = absurd (let q = ap (λ (o : Opid). o.term) asked in omega arith)
  held_voted n s p e c m ih in_e later under low g in_g by ct asked (As_new x y) =
      let q = ap (λ (o : Opid). o.term) asked in
      let r = ap (λ (o : Opid). o.position) asked in
      let same : last_term e.base ≡ s = sym q ∙ x in
      let pos = (k.elections m.election m.led).base_below in
      let in_book : Agree (length e.base) e.base (h.book s) = subst (λ (t : ℕ). Agree (length e.base) e.base (h.book t)) same (base_in_book e in_e (omega (arith, m.of_term))) in
      agree_sym p e.base (h.book s) (agree_less p (length e.base) e.base (h.book s) (omega arith) in_book)
  held_voted n s p e c m ih in_e later under low g in_g by ct asked (Overruled u o x y) =
      elim (cases_lt u.term e.term) [
        | inl less ↦ absurd (o.lacks (ih u o.led o.later (omega arith)))
        | inr ge ↦
            let same : e ≡ u = k.one_leader e u in_e o.led (omega arith) in
            absurd (y (omega arith) g (subst (λ (w : Election). Contains w.grants g) same in_g) by)
      ]

  held_below : (n s p : ℕ) → IsCommitted ring h s p → Held n s p
  held_below zero s p m e in_e later under = absurd (omega arith)
  held_below (suc n) s p m e in_e later under =
      let ih = held_below n s p m in
      let ve = is_election e in_e in
      elim (cases_lt s (last_term e.base)) [
        | inl lt ↦ held_above n s p e ih in_e lt under (base_region e ve)
        | inr ge ↦
            let cover = leaders_covered e m.election ve m.led (omega (arith, m.of_term)) (omega (arith, m.of_term)) in
            let v = commit_meets_cover ring k.valid (region_of ring m.election.node) m.quorum (voters_in e.grants) m.reached cover.1 in
            let g = in_granted e.grants v.0 v.3 in
            let c = ve.grants g.0 g.1 in
            let by : c.cast.voter ≡ v.0 = c.by ∙ g.2 in
            held_voted n s p e c.cast m ih in_e later under ge g.0 g.1 (sym c.by) c.of_term c.asked
            ((k.casts c.cast c.was_cast).keeps s p (subst (λ (w : ℕ). HasAcked h w s p) (sym by) (m.acked v.0 v.2)) (omega (arith, c.of_term)) m.own)
      ]

  -- leader completeness: each later leader's log began with what is committed
  pub committed_held : (s p : ℕ) (e : Election) → IsCommitted ring h s p → Contains h.elections e → s < e.term → Agree p (h.book s) e.base
  committed_held s p e m in_e later = held_below (suc e.term) s p m e in_e later (omega arith)

  -- what is committed in term s stands in the book of each term from s on that has a leader
  pub committed_in_book : (s p t : ℕ) (e : Election) → IsCommitted ring h s p → Contains h.elections e → e.term ≡ t → s ≤ t → Agree p (h.book s) (h.book t)
  committed_in_book s p t e m in_e is le = elim (cases_lt s t) [
    | inl lt ↦
        let a = committed_held s p e m in_e (omega arith) in
        let b = (k.elections e in_e).in_book in
        subst (λ (u : ℕ). Agree p (h.book s) (h.book u)) is (agree_trans p (h.book s) e.base (h.book e.term) a (agree_less p (length e.base) e.base (h.book e.term) a.right b))
    | inr ge ↦
        let same : s ≡ t = omega arith in
        subst (λ (u : ℕ). Agree p (h.book s) (h.book u)) same (record { left = m.inside; right = m.inside; same = refl })
  ]
