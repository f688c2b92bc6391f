-- The computed need is the least closed set with the base's region and the candidate's own: each round that hears something shortens the pool, so as many rounds as reports leave nothing that would be heard.
use Rattle.std.proofs.Common.{◌≡◌, ℕ, zero, suc, ◌+◌, ◌<◌, ◌≤◌, ◌==◌, inl, inr, Bool, true, false, not, ◌&&◌, List, [], ◌∷◌, ◌++◌, length, refl, ap, sym, subst, ◌∙◌, arith}
use Rattle.std.proofs.lemmas.Bool.Decides.{nat_tests}
use Rattle.std.proofs.lemmas.List.Elements.{Contains-append_left, Contains-append_right, Contains-append_cases}
use Rattle.std.specs.List.{Contains, filter, list_any}
use Rattle.ring_types.specs.declared.members.Member.{Member}
use Rattle.ring_types.specs.declared.entries.Vote.{Vote}
use Rattle.ring_types.specs.declared.entries.Grant.{Grant}
use Rattle.ring_types.specs.Rings.{Layout, is_voter}
use Rattle.ring_model.specs.Quorums.{is_listed, covers, zone, InZone}
use Rattle.ring_model.specs.Needs.{Report, lies_between, votes_between, reports_of, reports, is_heard, is_unheard, regions_of, closure, need, IsClosed, NeedIsLeast, voters_in, wins}
use Rattle.ring_model.proofs.Lists.{cons_cases, in_cons, filter_keeps, filter_of, filter_true, any_true, any_of, all_of, map_keeps, map_of, listed_contains, contains_listed}

-- ---- what is once in the set stays
abbrev Keeps : Layout → ℕ → Type 0
Keeps ring n = (regions : List ℕ) (pool : List Report) (x : ℕ) → Contains regions x → Contains (closure ring n regions pool) x

closure_keeps : (ring : Layout) (n : ℕ) → Keeps ring n
closure_keeps ring zero regions pool x c = c
closure_keeps ring (suc n) regions pool x c = go ring n regions pool x c (closure_keeps ring n) (filter (is_heard ring regions) pool) refl
  where
    go : (ring : Layout) (n : ℕ) (regions : List ℕ) (pool : List Report) (x : ℕ) → Contains regions x → Keeps ring n → (hits : List Report) → filter (is_heard ring regions) pool ≡ hits → Contains (closure ring (suc n) regions pool) x
    go ring n regions pool x c ih [] is = rw (is, closure) c
    go ring n regions pool x c ih (p ∷ ps) is = rw (is, closure) (ih (regions_of (p ∷ ps) ++ regions) (filter (is_unheard ring regions) pool) x (Contains-append_right (regions_of (p ∷ ps)) regions x c))

-- ---- what is heard at the end is in the set
filter_parts : {X : Type 0} (p : X → Bool) (xs : List X) → length (filter p xs) + length (filter (λ x. not (p x)) xs) ≡ length xs
filter_parts p [] = refl
filter_parts p (x ∷ xs) = go p x xs (filter_parts p xs) (p x) refl
  where
    go : {X : Type 0} (p : X → Bool) (x : X) (xs : List X) → length (filter p xs) + length (filter (λ y. not (p y)) xs) ≡ length xs → (b : Bool) → p x ≡ b
        → length (filter p (x ∷ xs)) + length (filter (λ y. not (p y)) (x ∷ xs)) ≡ length (x ∷ xs)
    go p x xs ih true is = rw is (omega arith)
    go p x xs ih false is = rw is (omega arith)

in_regions : (ps : List Report) (p : Report) → Contains ps p → Contains (regions_of ps) p.region
in_regions [] p c = absurd (omega (arith, c.1))
in_regions (q ∷ ps) p c = elim (cons_cases q ps p c) [ inl here ↦ (zero, omega arith, ap (λ (w : Report). w.region) here) | inr there ↦ in_cons q.region (regions_of ps) p.region (in_regions ps p there) ]

of_regions : (ps : List Report) (x : ℕ) → Contains (regions_of ps) x → (p : Report) × Contains ps p × (p.region ≡ x)
of_regions [] x c = absurd (omega (arith, c.1))
of_regions (q ∷ ps) x c = elim (cons_cases q.region (regions_of ps) x c) [
  | inl here ↦ (q, (zero, omega arith, refl), here)
  | inr there ↦ let y = of_regions ps x there in (y.0, in_cons q ps y.0 y.1, y.2)
]

abbrev Hears : Layout → ℕ → Type 0
Hears ring n = (regions : List ℕ) (pool : List Report) (p : Report) → length pool ≤ n → Contains pool p → is_heard ring (closure ring n regions pool) p ≡ true → Contains (closure ring n regions pool) p.region

closure_hears : (ring : Layout) (n : ℕ) → Hears ring n
closure_hears ring zero regions [] p le c t = absurd (omega (arith, c.1))
closure_hears ring zero regions (q ∷ qs) p le c t = absurd (omega arith)
closure_hears ring (suc n) regions pool p le c t = go ring n regions pool p le c (closure_hears ring n) (filter (is_heard ring regions) pool) refl t
  where
    go : (ring : Layout) (n : ℕ) (regions : List ℕ) (pool : List Report) (p : Report) → length pool ≤ suc n → Contains pool p → Hears ring n → (hits : List Report) → filter (is_heard ring regions) pool ≡ hits
        → is_heard ring (closure ring (suc n) regions pool) p ≡ true → Contains (closure ring (suc n) regions pool) p.region
    go ring n regions pool p le c ih [] is t =
        let u : is_heard ring regions p ≡ true = (let v = rw (is, closure) at t in v) in
        absurd (let x = filter_keeps (is_heard ring regions) pool p c u in let y = rw is at x in omega (arith, y.1))
    go ring n regions pool p le c ih (q ∷ qs) is t =
        let rest = filter (is_unheard ring regions) pool in
        let more = regions_of (q ∷ qs) ++ regions in
        let short : length rest ≤ n = omega (arith, filter_parts (is_heard ring regions) pool, ap length is) in
        rw (is, closure) (later ring n regions pool p q qs c is (is_heard ring regions p) refl (λ d. ih more rest p short d (let v = rw (is, closure) at t in v)))
      where
        later : (ring : Layout) (n : ℕ) (regions : List ℕ) (pool : List Report) (p q : Report) (qs : List Report) → Contains pool p → filter (is_heard ring regions) pool ≡ q ∷ qs → (b : Bool) → is_heard ring regions p ≡ b
            → (Contains (filter (is_unheard ring regions) pool) p → Contains (closure ring n (regions_of (q ∷ qs) ++ regions) (filter (is_unheard ring regions) pool)) p.region)
            → Contains (closure ring n (regions_of (q ∷ qs) ++ regions) (filter (is_unheard ring regions) pool)) p.region
        later ring n regions pool p q qs c is true h f =
            let x = filter_keeps (is_heard ring regions) pool p c h in
            let y = rw is at x in
            closure_keeps ring n (regions_of (q ∷ qs) ++ regions) (filter (is_unheard ring regions) pool) p.region (Contains-append_left (regions_of (q ∷ qs)) regions p.region (in_regions (q ∷ qs) p y))
        later ring n regions pool p q qs c is false h f = f (filter_keeps (is_unheard ring regions) pool p c (ap not h))

-- ---- reports
pub is_between : (low high : ℕ) (v : Vote) → low < v.term → v.term < high → lies_between low high v ≡ true
is_between low high v a b = grind (arith, nat_tests)

reports_have : (low high : ℕ) (grants : List Grant) (g : Grant) (v : Vote) → Contains grants g → Contains g.votes v → low < v.term → v.term < high → Contains (reports low high grants) (record { voter = g.voter; region = v.region })
reports_have low high [] g v in_g c a b = absurd (omega (arith, in_g.1))
reports_have low high (x ∷ grants) g v in_g c a b = elim (cons_cases x grants g in_g) [
  | inl here ↦ Contains-append_left (reports_of low high x) (reports low high grants) (record { voter = g.voter; region = v.region })
      (rw here (map_keeps (λ (w : Vote). let r : Report = record { voter = g.voter; region = w.region } in r) (votes_between low high g.votes) v (filter_keeps (lies_between low high) g.votes v c (is_between low high v a b))))
  | inr there ↦ Contains-append_right (reports_of low high x) (reports low high grants) (record { voter = g.voter; region = v.region }) (reports_have low high grants g v there c a b)
]

-- a report, with the grant and the vote that it comes from
record Reported (low high : ℕ) (grants : List Grant) (p : Report) : Type 0 where
  grant : Grant
  vote : Vote
  granted : Contains grants grant
  kept : Contains grant.votes vote
  above : low < vote.term
  below : vote.term < high
  voter : grant.voter ≡ p.voter
  region : vote.region ≡ p.region

reports_come : (low high : ℕ) (grants : List Grant) (p : Report) → Contains (reports low high grants) p → Reported low high grants p
reports_come low high [] p c = absurd (omega (arith, c.1))
reports_come low high (g ∷ grants) p c = elim (Contains-append_cases (reports_of low high g) (reports low high grants) p c) [
  | inl here ↦
      let x = map_of (λ (w : Vote). let r : Report = record { voter = g.voter; region = w.region } in r) (votes_between low high g.votes) p here in
      let t = filter_true (lies_between low high) g.votes x.0 x.1 in
      record {
        grant = g;
        vote = x.0;
        granted = (zero, omega arith, refl);
        kept = filter_of (lies_between low high) g.votes x.0 x.1;
        above = grind (arith, nat_tests, t);
        below = grind (arith, nat_tests, t);
        voter = ap (λ (r : Report). r.voter) x.2;
        region = ap (λ (r : Report). r.region) x.2;
      }
  | inr there ↦
      let y = reports_come low high grants p there in
      record { grant = y.grant; vote = y.vote; granted = in_cons g grants y.grant y.granted; kept = y.kept; above = y.above; below = y.below; voter = y.voter; region = y.region }
]

-- ---- hearing
heard_in : (ring : Layout) (regions : List ℕ) (r voter region : ℕ) → Contains regions r → InZone ring r voter → is_heard ring regions (record { voter = voter; region = region }) ≡ true
heard_in ring regions r voter region c (m, in_m, id, votes, zoned) =
    any_true (λ (w : Member). w.id == voter && is_voter w.kind && list_any (λ x. is_listed (zone ring x) w.region) regions) ring.members m in_m
    (let same : (m.id == voter) ≡ true = grind (arith, nat_tests, id) in
    let near = any_true (λ (x : ℕ). is_listed (zone ring x) m.region) regions r c zoned in
    rw (same, votes) near)

hears_in : (ring : Layout) (regions : List ℕ) (p : Report) → is_heard ring regions p ≡ true → (r : ℕ) × Contains regions r × InZone ring r p.voter
hears_in ring regions p t =
    let y = any_of (λ (w : Member). w.id == p.voter && is_voter w.kind && list_any (λ x. is_listed (zone ring x) w.region) regions) ring.members t in
    go y.0 y.1 (y.0.id == p.voter) refl (is_voter y.0.kind) refl y.2
  where
    go : (m : Member) → Contains ring.members m → (a : Bool) → (m.id == p.voter) ≡ a → (b : Bool) → is_voter m.kind ≡ b
        → (m.id == p.voter && is_voter m.kind && list_any (λ x. is_listed (zone ring x) m.region) regions) ≡ true → (r : ℕ) × Contains regions r × InZone ring r p.voter
    go m in_m true x true y u =
        let v = rw (x, y) at u in
        let z = any_of (λ (r : ℕ). is_listed (zone ring r) m.region) regions v in
        (z.0, z.1, (m, in_m, grind (arith, nat_tests, x), y, z.2))
    go m in_m true x false y u = absurd (let v = rw (x, y) at u in let z : false ≡ true = v in cc)
    go m in_m false x b y u = absurd (let v = rw x at u in let z : false ≡ true = v in cc)

-- ---- the least such set
abbrev Bounded : Layout → (ℕ → Bool) → List Report → Type 0
Bounded ring in_set pool = (p : Report) (r : ℕ) → Contains pool p → in_set r ≡ true → InZone ring r p.voter → in_set p.region ≡ true

closure_least : (ring : Layout) (in_set : ℕ → Bool) (n : ℕ) (regions : List ℕ) (pool : List Report) → ((x : ℕ) → Contains regions x → in_set x ≡ true) → Bounded ring in_set pool
    → (x : ℕ) → Contains (closure ring n regions pool) x → in_set x ≡ true
closure_least ring in_set zero regions pool start bound x c = start x c
closure_least ring in_set (suc n) regions pool start bound x c = go (filter (is_heard ring regions) pool) refl c (closure_least ring in_set n)
  where
    go : (hits : List Report) → filter (is_heard ring regions) pool ≡ hits → Contains (closure ring (suc n) regions pool) x
        → ((more : List ℕ) (rest : List Report) → ((y : ℕ) → Contains more y → in_set y ≡ true) → Bounded ring in_set rest → (y : ℕ) → Contains (closure ring n more rest) y → in_set y ≡ true) → in_set x ≡ true
    go [] is c ih = start x (let v = rw (is, closure) at c in v)
    go (p ∷ ps) is c ih =
        ih (regions_of (p ∷ ps) ++ regions) (filter (is_unheard ring regions) pool)
        (λ y in_y. elim (Contains-append_cases (regions_of (p ∷ ps)) regions y in_y) [
          | inl new ↦
              let q = of_regions (p ∷ ps) y new in
              let hit : Contains (filter (is_heard ring regions) pool) q.0 = rw is q.1 in
              let near = hears_in ring regions q.0 (filter_true (is_heard ring regions) pool q.0 hit) in
              ap in_set (sym q.2) ∙ bound q.0 near.0 (filter_of (is_heard ring regions) pool q.0 hit) (start near.0 near.1) near.2
          | inr old ↦ start y old
        ])
        (λ q r in_q is_in near. bound q r (filter_of (is_unheard ring regions) pool q in_q) is_in near) x (let v = rw (is, closure) at c in v)

-- ---- the need
pub need_has_base : (ring : Layout) (base base_region own term : ℕ) (grants : List Grant) → Contains (need ring base base_region own term grants) base_region
unfolding need
need_has_base ring base base_region own term grants = closure_keeps ring (length (reports base term grants)) (base_region ∷ own ∷ []) (reports base term grants) base_region (zero, omega arith, refl)

need_has_own : (ring : Layout) (base base_region own term : ℕ) (grants : List Grant) → Contains (need ring base base_region own term grants) own
unfolding need
need_has_own ring base base_region own term grants = closure_keeps ring (length (reports base term grants)) (base_region ∷ own ∷ []) (reports base term grants) own (suc zero, omega arith, refl)

-- a granted voter in the zone of a needed region reports votes for needed regions alone
pub need_has_vote : (ring : Layout) (base base_region own term r : ℕ) (grants : List Grant) (g : Grant) (v : Vote) → Contains (need ring base base_region own term grants) r → Contains grants g → InZone ring r g.voter
    → Contains g.votes v → base < v.term → v.term < term → Contains (need ring base base_region own term grants) v.region
unfolding need
need_has_vote ring base base_region own term r grants g v c in_g near in_v a b =
    closure_hears ring (length (reports base term grants)) (base_region ∷ own ∷ []) (reports base term grants) (record { voter = g.voter; region = v.region }) (omega arith)
    (reports_have base term grants g v in_g in_v a b) (heard_in ring (closure ring (length (reports base term grants)) (base_region ∷ own ∷ []) (reports base term grants)) r g.voter v.region c near)

need_is_least : (ring : Layout) (base base_region own term : ℕ) (grants : List Grant) (in_set : ℕ → Bool) → in_set base_region ≡ true → in_set own ≡ true → IsClosed ring base term grants in_set
    → (region : ℕ) → Contains (need ring base base_region own term grants) region → in_set region ≡ true
unfolding need
need_is_least ring base base_region own term grants in_set at_base at_own closed region c =
    closure_least ring in_set (length (reports base term grants)) (base_region ∷ own ∷ []) (reports base term grants)
    (λ y in_y. elim (cons_cases base_region (own ∷ []) y in_y) [
      | inl here ↦ ap in_set (sym here) ∙ at_base
      | inr there ↦ elim (cons_cases own [] y there) [ inl here ↦ ap in_set (sym here) ∙ at_own | inr none ↦ absurd (omega (arith, none.1)) ]
    ])
    (λ p r in_p is_in near.
    let y = reports_come base term grants p in_p in
    ap in_set (sym y.region) ∙ closed y.grant y.vote r y.granted y.kept y.above y.below is_in (subst (λ (v : ℕ). InZone ring r v) (sym y.voter) near))
    region c

pub need_is_need : NeedIsLeast
need_is_need ring base base_region own term grants = record {
  has_base = contains_listed (need ring base base_region own term grants) base_region (need_has_base ring base base_region own term grants);
  has_own = contains_listed (need ring base base_region own term grants) own (need_has_own ring base base_region own term grants);
  closed = λ g v region in_g in_v above below is_in near.
      contains_listed (need ring base base_region own term grants) v.region
      (need_has_vote ring base base_region own term region grants g v (listed_contains (need ring base base_region own term grants) region is_in) in_g near in_v above below);
  least = need_is_least ring base base_region own term grants;
}

-- ---- winning
-- where the grants win they cover each needed region
pub win_covers : (ring : Layout) (base base_region own term : ℕ) (grants : List Grant) (r : ℕ) → wins ring base base_region own term grants ≡ true → Contains (need ring base base_region own term grants) r
    → covers ring r (voters_in grants) ≡ true
unfolding wins
win_covers ring base base_region own term grants r won c = all_of (λ (region : ℕ). covers ring region (voters_in grants)) (need ring base base_region own term grants) r won c

pub in_granted : (grants : List Grant) (v : ℕ) → Contains (voters_in grants) v → (g : Grant) × Contains grants g × (g.voter ≡ v)
in_granted [] v c = absurd (omega (arith, c.1))
in_granted (g ∷ grants) v c = elim (cons_cases g.voter (voters_in grants) v c) [
  | inl here ↦ (g, (zero, omega arith, refl), here)
  | inr there ↦ let x = in_granted grants v there in (x.0, in_cons g grants x.0 x.1, x.2)
]
