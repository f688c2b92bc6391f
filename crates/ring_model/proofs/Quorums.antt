-- The two quorum laws: two majorities of a region's voters share a voter, since two counts above half of a list meet in it.
use Rattle.std.proofs.Common.{◌≡◌, ℕ, zero, ◌+◌, ◌/◌, ◌<◌, ◌≤◌, ◌==◌, Bool, true, false, ◌&&◌, List, [], ◌∷◌, length, refl, ap, sym, ◌∙◌, arith, if◌then◌else◌}
use Rattle.std.proofs.lemmas.Bool.Decides.{nat_tests}
use Rattle.std.proofs.lemmas.List.Sums.{sum_by-cons}
use Rattle.std.specs.List.{Contains, count_by}
use Rattle.ring_types.specs.declared.members.Member.{Member}
use Rattle.ring_types.specs.Rings.{Layout, is_voter, voters_of}
use Rattle.ring_model.specs.Quorums.{is_listed, has_majority, InZone, CommitMeetsCover, CoversMeet}
use Rattle.ring_types.proofs.Booleans.{both_true}
use Rattle.ring_model.proofs.Lists.{in_cons, filter_of, filter_true, listed_contains, contains_listed}

count_cons : {X : Type 0} (p : X → Bool) (x : X) (xs : List X) (b : Bool) → p x ≡ b → count_by p (x ∷ xs) ≡ (if b then 1 else 0) + count_by p xs
count_cons p x xs b is = let c = sum_by-cons (λ y. if p y then 1 else 0) x xs in c ∙ ap (λ (a : Bool). (if a then 1 else 0) + count_by p xs) is

-- two counts above the length meet
both_counted : {X : Type 0} (p q : X → Bool) (xs : List X) → length xs < count_by p xs + count_by q xs → (x : X) × Contains xs x × (p x ≡ true) × (q x ≡ true)
both_counted p q [] lt = absurd (omega arith)
both_counted p q (x ∷ xs) lt = go p q x xs lt (both_counted p q xs) (p x) refl (q x) refl
  where
    go : {X : Type 0} (p q : X → Bool) (x : X) (xs : List X) → length (x ∷ xs) < count_by p (x ∷ xs) + count_by q (x ∷ xs)
        → (length xs < count_by p xs + count_by q xs → (y : X) × Contains xs y × (p y ≡ true) × (q y ≡ true))
        → (a : Bool) → p x ≡ a → (b : Bool) → q x ≡ b → (y : X) × Contains (x ∷ xs) y × (p y ≡ true) × (q y ≡ true)
    go p q x xs lt ih true is_p true is_q = (x, (zero, omega arith, refl), is_p, is_q)
    go p q x xs lt ih true is_p false is_q = let y = ih (omega (arith, count_cons p x xs true is_p, count_cons q x xs false is_q)) in (y.0, in_cons x xs y.0 y.1, y.2, y.3)
    go p q x xs lt ih false is_p true is_q = let y = ih (omega (arith, count_cons p x xs false is_p, count_cons q x xs true is_q)) in (y.0, in_cons x xs y.0 y.1, y.2, y.3)
    go p q x xs lt ih false is_p false is_q = let y = ih (omega (arith, count_cons p x xs false is_p, count_cons q x xs false is_q)) in (y.0, in_cons x xs y.0 y.1, y.2, y.3)

majorities_meet : (members : List Member) (s t : List ℕ) → has_majority members s ≡ true → has_majority members t ≡ true → (m : Member) × Contains members m × Contains s m.id × Contains t m.id
majorities_meet members s t a b =
    let x : length members / 2 + 1 ≤ count_by (λ (m : Member). is_listed s m.id) members = grind (arith, nat_tests, a) in
    let y : length members / 2 + 1 ≤ count_by (λ (m : Member). is_listed t m.id) members = grind (arith, nat_tests, b) in
    let m = both_counted (λ (m : Member). is_listed s m.id) (λ (m : Member). is_listed t m.id) members (omega arith) in
    (m.0, m.1, listed_contains s m.0.id m.2, listed_contains t m.0.id m.3)

voter_in_zone : (ring : Layout) (region : ℕ) (m : Member) → Contains (voters_of ring region) m → InZone ring region m.id
voter_in_zone ring region m c =
    let t = both_true (m.region == region) (is_voter m.kind) (filter_true (λ (w : Member). w.region == region && is_voter w.kind) ring.members m c) in
    let same : m.region ≡ region = grind (arith, nat_tests, t.0) in
    (m, filter_of (λ (w : Member). w.region == region && is_voter w.kind) ring.members m c, refl, t.1, contains_listed (region ∷ []) m.region (zero, omega arith, sym same))

pub commit_meets_cover : CommitMeetsCover
commit_meets_cover ring valid region acks votes a b = let m = majorities_meet (voters_of ring region) acks votes a b in (m.0.id, voter_in_zone ring region m.0 m.1, m.2, m.3)

pub covers_meet : CoversMeet
covers_meet ring valid region some others a b = let m = majorities_meet (voters_of ring region) some others a b in (m.0.id, voter_in_zone ring region m.0 m.1, m.2, m.3)
