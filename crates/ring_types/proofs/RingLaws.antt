-- What parts that nothing refuses make is a ring.
use Rattle.std.proofs.Common.{◌≡◌, ℕ, zero, suc, add-one, ◌+◌, ◌<◌, ◌≤◌, ◌==◌, Bool, true, false, not, ◌&&◌, ◌||◌, List, [], ◌∷◌, length, map, find, get_or, position, nat_lt, nat_le, bytes_eq, Some, None, Ok, refl, sym, ap, ◌∙◌, arith}
use Rattle.std.specs.List.{list_any, list_all, position_or_len}
use Rattle.std.specs.Option.{option_map_or}
use Rattle.std.proofs.lemmas.Bool.Decides.{nat_tests}
use Rattle.std.proofs.lemmas.Slice.Eq.{bytes_eq-Decides}
use Rattle.std.proofs.lemmas.List.{length-map}
use Rattle.std.proofs.lemmas.List.Folds.{list_any_at, list_all-map}
use Rattle.ring_types.specs.Names.{has_text_twice, is_name}
use Rattle.ring_types.specs.Rings.{Layout, IsRing, is_voter, is_declared, has_voter, place_of, member_from, layout_of, built, is_in_range, too_many, twice_named, no_region, no_voter, bad_schema, is_schema, schema_fits, proxy_of, part_fits, member_fits, client_fits, address_fits}
use Rattle.ring_types.specs.declared.members.Member.{Member}
use Rattle.ring_types.specs.declared.members.MemberPart.{MemberPart}
use Rattle.ring_types.specs.declared.members.RingParts.{RingParts}
use Rattle.ring_types.proofs.Twice.{any_map}
use Rattle.ring_types.proofs.Booleans.{as_and, both_false, both_true, eq_true, le_true, lt_true, true_from_not}

-- ---- tests
elim_false : false ≡ true → ⊥
elim_false h = cc

any_weaker_at : {X : Type 0} (p q : X → Bool) → ((x : X) → p x ≡ true → q x ≡ true) → (x : X) (xs : List X) (b : Bool) → p x ≡ b → (b || list_any p xs) ≡ true → (list_any p xs ≡ true → list_any q xs ≡ true) → list_any q (x ∷ xs) ≡ true
any_weaker_at p q w x xs true e h more = rw (w x e) refl
any_weaker_at p q w x xs false e h more = grind (arith, more h)

any_weaker : {X : Type 0} (p q : X → Bool) → ((x : X) → p x ≡ true → q x ≡ true) → (xs : List X) → list_any p xs ≡ true → list_any q xs ≡ true
any_weaker p q w [] h = cc
any_weaker p q w (x ∷ xs) h = any_weaker_at p q w x xs (p x) refl h (any_weaker p q w xs)

-- what fails everywhere fails at each place
none_at_go : {X : Type 0} (p : X → Bool) (xs : List X) (k : ℕ) (d : X) (b : Bool) → p (get_or xs k d) ≡ b → list_any p xs ≡ false → k < length xs → p (get_or xs k d) ≡ false
none_at_go p xs k d true e h l = let t = list_any_at p xs k d l e in cc
none_at_go p xs k d false e h l = e

none_at : {X : Type 0} (p : X → Bool) (xs : List X) (k : ℕ) (d : X) → list_any p xs ≡ false → k < length xs → p (get_or xs k d) ≡ false
none_at p xs k d h l = none_at_go p xs k d (p (get_or xs k d)) refl h l

bytes_same : (a b : List ℕ) → bytes_eq a b ≡ true → a ≡ b
bytes_same a b h = (bytes_eq-Decides a b).0 h

bytes_apart_go : (a b : List ℕ) (r : Bool) → bytes_eq b a ≡ r → bytes_eq a b ≡ false → bytes_eq b a ≡ false
bytes_apart_go a b true e h = let t = (bytes_eq-Decides a b).1 (sym (bytes_same b a e)) in cc
bytes_apart_go a b false e h = e

bytes_apart : (a b : List ℕ) → bytes_eq a b ≡ false → bytes_eq b a ≡ false
bytes_apart a b h = bytes_apart_go a b (bytes_eq b a) refl h

-- ---- places
found_go : {X : Type 0} (p : X → Bool) (x : X) (xs : List X) (b : Bool) → p x ≡ b → (b || list_any p xs) ≡ true → (list_any p xs ≡ true → position_or_len p xs < length xs) → position_or_len p (x ∷ xs) < length (x ∷ xs)
found_go p x xs true e h more = rw e (omega arith)
found_go p x xs false e h more = rw e (omega (arith, more h))

found : {X : Type 0} (p : X → Bool) (xs : List X) → list_any p xs ≡ true → position_or_len p xs < length xs
found p [] h = absurd (elim_false h)
found p (x ∷ xs) h = found_go p x xs (p x) refl h (found p xs)

placed : {X : Type 0} (p : X → Bool) (xs : List X) → position_or_len p xs < length xs → option_map_or (λ k. k + 1) (position p xs) 0 ≡ position_or_len p xs + 1
placed p xs h = rw (lt_true _ _ h) refl

declared_place : (regions : List (List ℕ)) (name : List ℕ) → is_declared regions name ≡ true → (1 ≤ place_of regions name) × (place_of regions name ≤ length regions)
declared_place regions name h =
    let f : position_or_len (λ r. bytes_eq r name) regions < length regions = found (λ r. bytes_eq r name) regions h in
    let e = placed (λ r. bytes_eq r name) regions f in
    (rw e (omega arith), rw e (omega arith))

place_at : (xs : List (List ℕ)) (k : ℕ) → has_text_twice xs ≡ false → k < length xs → position_or_len (λ r. bytes_eq r (get_or xs k [])) xs ≡ k
place_at [] k t l = absurd (omega arith)
place_at (x ∷ xs) zero t l = rw ((bytes_eq-Decides x x).1 refl) refl
place_at (x ∷ xs) (suc k) t l =
    let b = both_false (list_any (λ y. bytes_eq y x) xs) (has_text_twice xs) t in
    let l' : k < length xs = omega arith in
    let e = bytes_apart (get_or xs k []) x (none_at (λ y. bytes_eq y x) xs k [] b.0 l') in
    rw e (ap (λ n. 1 + n) (place_at xs k b.1 l') ∙ omega arith)

-- ---- members
in_bounds : (n m : ℕ) → 1 ≤ n → n ≤ m → (nat_le 1 n && nat_le n m) ≡ true
in_bounds n m a b = grind (arith, nat_tests)

all_placed : (regions : List (List ℕ)) (parts : List MemberPart) → list_any (λ (m : MemberPart). not (is_declared regions m.region)) parts ≡ false → list_all (λ (m : MemberPart). nat_le 1 (place_of regions m.region) && nat_le (place_of regions m.region) (length regions)) parts ≡ true
all_placed regions [] h = refl
all_placed regions (m ∷ ms) h =
    let b = both_false _ _ h in
    let d = declared_place regions m.region (true_from_not _ b.0) in
    as_and _ _ (in_bounds _ _ d.0 d.1) (all_placed regions ms b.1)

voter_here : (regions : List (List ℕ)) (k : ℕ) → has_text_twice regions ≡ false → k < length regions → (m : MemberPart) → (bytes_eq m.region (get_or regions k []) && is_voter m.kind) ≡ true → (place_of regions m.region == (k + 1) && is_voter m.kind) ≡ true
voter_here regions k t l m h =
    let b = both_true _ _ h in
    let s : m.region ≡ get_or regions k [] = bytes_same _ _ b.0 in
    let e = place_at regions k t l in
    let p = placed (λ r. bytes_eq r (get_or regions k [])) regions (rw e l) in
    let q : place_of regions m.region ≡ k + 1 = ap (place_of regions) s ∙ p ∙ ap (λ n. n + 1) e in
    as_and _ _ (rw q (eq_true (k + 1))) b.1

voters : (regions : List (List ℕ)) (parts : List MemberPart) → has_text_twice regions ≡ false → list_any (λ r. not (has_voter parts r)) regions ≡ false → (region : ℕ) → 1 ≤ region → region ≤ length regions → list_any (λ (m : Member). m.region == region && is_voter m.kind) (map (member_from regions) parts) ≡ true
voters regions parts t h zero a b = absurd (omega arith)
voters regions parts t h (suc k) a b =
    let l : k < length regions = omega arith in
    let v = true_from_not _ (none_at (λ r. not (has_voter parts r)) regions k [] h l) in
    let w = any_weaker _ (λ (m : MemberPart). place_of regions m.region == (k + 1) && is_voter m.kind) (voter_here regions k t l) parts v in
    any_map (λ (m : Member). m.region == suc k && is_voter m.kind) (member_from regions) parts ∙ rw (← add-one k) w

ids_stay : (regions : List (List ℕ)) (parts : List MemberPart) → map (λ (m : Member). m.id) (map (member_from regions) parts) ≡ map (λ (m : MemberPart). m.id) parts
ids_stay regions [] = refl
ids_stay regions (m ∷ ms) = ap (λ ns. m.id ∷ ns) (ids_stay regions ms)

servers_stay : (regions : List (List ℕ)) (parts : List MemberPart) → map (λ (m : Member). m.server) (map (member_from regions) parts) ≡ map (λ (m : MemberPart). m.server) parts
servers_stay regions [] = refl
servers_stay regions (m ∷ ms) = ap (λ ns. m.server ∷ ns) (servers_stay regions ms)

-- a part in its range makes a member in its range
member_in_range : (a b c d : Bool) → (a && b && c && d) ≡ true → (a && b && d) ≡ true
member_in_range a b c d h =
    let x = both_true (a && b && c) d h in
    let y = both_true (a && b) c x.0 in
    as_and (a && b) d y.0 x.1

members_in_range : (regions : List (List ℕ)) (parts : List MemberPart) → list_all part_fits parts ≡ true → list_all member_fits (map (member_from regions) parts) ≡ true
members_in_range regions [] h = refl
members_in_range regions (m ∷ ms) h =
    let b = both_true (part_fits m) (list_all part_fits ms) h in
    as_and (member_fits (member_from regions m)) (list_all member_fits (map (member_from regions) ms))
    (member_in_range (nat_le 1 m.id) (nat_le m.id 65535) (is_name m.region) (address_fits m.address) b.0) (members_in_range regions ms b.1)

-- each kind of part is in its range
pub record InRange (p : RingParts) : Type 0 where
  pub regions : list_all is_name p.regions ≡ true
  pub members : list_all part_fits p.members ≡ true
  pub clients : list_all client_fits p.clients ≡ true

ranges : (p : RingParts) → is_in_range p ≡ true → InRange p
unfolding is_in_range
ranges p r =
    let a = both_true _ _ r in
    let b = both_true _ _ a.0 in
    let c = both_true _ _ b.0 in
    let d = both_true _ _ c.0 in
    record { regions = d.1; members = c.1; clients = b.1 }

-- ---- the ring
at_most : (n m : ℕ) → nat_lt n m ≡ false → m ≤ n
at_most n m h = grind (arith, nat_tests)

few : (n : ℕ) → nat_lt 256 n ≡ false → n ≤ 256
few n h = grind (arith, nat_tests)

schema_is : (p : RingParts) → is_in_range p ≡ true → nat_lt 256 (length p.schema.tables) ≡ false → bad_schema p.schema ≡ false → is_schema p.schema ≡ true
unfolding is_in_range
schema_is p r m s =
    let f : schema_fits p.schema ≡ true = (both_true _ _ r).1 in
    as_and _ _ (as_and _ _ f (le_true _ _ (few _ m))) (rw s refl)

pub is_ring : (p : RingParts) → is_in_range p ≡ true → too_many p ≡ false → twice_named p ≡ false → no_region p ≡ false → no_voter p ≡ false → bad_schema p.schema ≡ false → IsRing (layout_of p)
unfolding layout_of
is_ring p r m t n v s =
    let m3 = both_false _ _ m in
    let m2 = both_false _ _ m3.0 in
    let m1 = both_false _ _ m2.0 in
    let t3 = both_false _ _ t in
    let t2 = both_false _ _ t3.0 in
    let t1 = both_false _ _ t2.0 in
    let n1 = both_false _ _ n in
    let range = ranges p r in
    record {
      few_members = rw length-map (at_most _ _ m1.0);
      few_regions = at_most _ _ m1.1;
      few_clients = at_most _ _ m2.1;
      members_fit = members_in_range p.regions p.members range.members;
      clients_fit = range.clients;
      regions_are_names = range.regions;
      numbers_once = rw (ids_stay p.regions p.members) t1.0;
      clients_once = t1.1;
      regions_once = t2.1;
      servers_once = rw (servers_stay p.regions p.members) t3.1;
      home_is_declared = declared_place p.regions p.home (true_from_not _ n1.0);
      all_declared = list_all-map _ (member_from p.regions) p.members ∙ all_placed p.regions p.members n1.1;
      all_have_voters = voters p.regions p.members t2.1 v;
      schema = schema_is p r m3.1 s;
    }

pub passed : (p : RingParts) → too_many p ≡ false → twice_named p ≡ false → no_region p ≡ false → no_voter p ≡ false → bad_schema p.schema ≡ false → built p ≡ Ok (layout_of p)
unfolding built
passed p m t n v s = rw (m, t, n, v, s) refl

in_region : (region : ℕ) (m : Member) → (m.region == region && is_voter m.kind) ≡ true → (m.region == region) ≡ true
in_region region m h = (both_true _ _ h).0

no_find_go : {X : Type 0} (p : X → Bool) (x : X) (xs : List X) (b : Bool) → p x ≡ b → (b || list_any p xs) ≡ true → (list_any p xs ≡ true → find p xs ≡ None → ⊥) → find p (x ∷ xs) ≡ None → ⊥
no_find_go p x xs true e h more f = let g : Some x ≡ None = rw e at f in cc
no_find_go p x xs false e h more f = more h (rw e at f)

no_find : {X : Type 0} (p : X → Bool) (xs : List X) → list_any p xs ≡ true → find p xs ≡ None → ⊥
no_find p [] h f = elim_false h
no_find p (x ∷ xs) h f = no_find_go p x xs (p x) refl h (no_find p xs) f

pub has_proxy : (ring : Layout) (region : ℕ) → IsRing ring → 1 ≤ region → region ≤ length ring.regions → proxy_of ring region ≡ None → ⊥
has_proxy ring region r l h e =
    no_find (λ (m : Member). m.region == region) ring.members (any_weaker (λ (m : Member). m.region == region && is_voter m.kind) (λ (m : Member). m.region == region) (in_region region) ring.members (r.all_have_voters region l h)) e
