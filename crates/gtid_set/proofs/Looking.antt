-- What the set tells of a server stands in the intervals at its place: the servers before and behind it are others.
use Rattle.std.proofs.Common.{◌≡◌, ℕ, suc, ◌+◌, ◌-◌, ◌<◌, ◌≤◌, Bool, true, false, cond, ◌||◌, ◌==◌, List, [], ◌∷◌, length, get_or, drop, max, nat_lt, Some, None, refl, sym, ap, ◌∙◌, arith}
use Rattle.std.proofs.lemmas.Bool.Decides.{nat_tests}
use Rattle.ring_types.specs.Gtids.{has}
use Rattle.ring_types.specs.declared.limits.TheConstants.{LAST_GTID}
use Rattle.ring_types.specs.declared.gtid_sets.Interval.{Interval}
use Rattle.ring_types.specs.declared.gtid_sets.ServerSet.{ServerSet}
use Rattle.gtid_set.specs.Canonical.{AreMerged, AreCanonicalFrom}
use Rattle.gtid_set.specs.Next.{tops, greatest_in, next_in}
use Rattle.gtid_set.specs.Ranges.{end_behind}
use Rattle.gtid_set.specs.Servers.{servers_below, first_intervals, intervals_of}
use Rattle.gtid_set.proofs.RangeMembers.{held, between}
use Rattle.gtid_set.proofs.ServerMembers.{none_server}

-- ---- the intervals at the server's place
here_intervals : (server : ℕ) (s : ServerSet) (set : List ServerSet) (t : Bool) → intervals_of server set ≡ intervals_of server set
    → first_intervals server (drop (cond t (suc (servers_below server set)) 0) (s ∷ set)) ≡ cond t (intervals_of server set) (cond (s.server == server) s.intervals [])
here_intervals server s set true e = refl
here_intervals server s set false e = refl

opened : (server : ℕ) (s : ServerSet) (set : List ServerSet) → intervals_of server (s ∷ set) ≡ cond (nat_lt s.server server) (intervals_of server set) (cond (s.server == server) s.intervals [])
opened server s set = here_intervals server s set (nat_lt s.server server) refl

merged_by : (low server : ℕ) (s : ServerSet) (set : List ServerSet) (a b : Bool) → AreCanonicalFrom low (s ∷ set) → AreMerged 0 (intervals_of server set) → AreMerged 0 (cond a (intervals_of server set) (cond b s.intervals []))
merged_by low server s set true b h more = more
merged_by low server s set false true h more = h.3
merged_by low server s set false false h more = tt

pub intervals_of-merged : (low server : ℕ) (set : List ServerSet) → AreCanonicalFrom low set → AreMerged 0 (intervals_of server set)
intervals_of-merged low server [] h = tt
intervals_of-merged low server (s ∷ set) h =
    rw (opened server s set) (merged_by low server s set (nat_lt s.server server) (s.server == server) h (intervals_of-merged (s.server + 1) server set h.4))

has_by : (low server n : ℕ) (s : ServerSet) (set : List ServerSet) (a b : Bool) → nat_lt s.server server ≡ a → (s.server == server) ≡ b → AreCanonicalFrom low (s ∷ set)
    → held n (intervals_of server set) ≡ has set server n → held n (cond a (intervals_of server set) (cond b s.intervals [])) ≡ has (s ∷ set) server n
has_by low server n s set true b p q h more = let other : (s.server == server) ≡ false = grind (arith, nat_tests, p) in rw other more
has_by low server n s set false true p q h more =
    let same : s.server ≡ server = grind (arith, nat_tests, q) in
    let none = none_server (s.server + 1) server n set h.4 (omega arith) in
    rw (q, none) (or_false (held n s.intervals))
  where
    or_false : (x : Bool) → x ≡ (x || false)
    or_false true = refl
    or_false false = refl
has_by low server n s set false false p q h more =
    let above : server < s.server = grind (arith, nat_tests, p, q) in
    rw q (sym (none_server (s.server + 1) server n set h.4 (omega arith)))

pub intervals_of-has : (low server n : ℕ) (set : List ServerSet) → AreCanonicalFrom low set → held n (intervals_of server set) ≡ has set server n
intervals_of-has low server n [] h = refl
intervals_of-has low server n (s ∷ set) h =
    ap (held n) (opened server s set)
    ∙ has_by low server n s set (nat_lt s.server server) (s.server == server) refl refl h (intervals_of-has (s.server + 1) server n set h.4)

-- ---- the greatest number
tops_end : (low top : ℕ) (is : List Interval) → AreMerged low is → top ≤ low → tops top is ≡ end_behind top is
tops_end low top [] h le = refl
tops_end low top (i ∷ is) h le =
    let a : low < i.first = h.0 in
    let b : i.first ≤ i.last = h.1 in
    let last : max top i.last ≡ i.last = omega arith in
    ap (λ (t : ℕ). tops t is) last ∙ tops_end (i.last + 1) i.last is h.3 (omega arith)

greatest_none : (low server top : ℕ) (set : List ServerSet) → AreCanonicalFrom low set → server < low → greatest_in server top set ≡ top
greatest_none low server top [] h lt = refl
greatest_none low server top (s ∷ set) h lt =
    let a : low ≤ s.server = h.0 in
    let other : (s.server == server) ≡ false = grind (arith, nat_tests) in
    let same : max top 0 ≡ top = omega arith in
    rw other (ap (λ (t : ℕ). greatest_in server t set) same ∙ greatest_none (s.server + 1) server top set h.4 (omega arith))

greatest_by : (low server top : ℕ) (s : ServerSet) (set : List ServerSet) (a b : Bool) → nat_lt s.server server ≡ a → (s.server == server) ≡ b → AreCanonicalFrom low (s ∷ set)
    → ((t : ℕ) → greatest_in server t set ≡ max t (tops 0 (intervals_of server set)))
    → greatest_in server (max top (cond b (tops 0 s.intervals) 0)) set ≡ max top (tops 0 (cond a (intervals_of server set) (cond b s.intervals [])))
greatest_by low server top s set true true p q h more = absurd (let e : s.server ≡ server = grind (arith, nat_tests, q) in let l : s.server < server = grind (arith, nat_tests, p) in omega arith)
greatest_by low server top s set true false p q h more = more (max top 0) ∙ (let e : max (max top 0) (tops 0 (intervals_of server set)) ≡ max top (tops 0 (intervals_of server set)) = omega arith in e)
greatest_by low server top s set false true p q h more =
    let same : s.server ≡ server = grind (arith, nat_tests, q) in greatest_none (s.server + 1) server (max top (tops 0 s.intervals)) set h.4 (omega arith)
greatest_by low server top s set false false p q h more =
    let above : server < s.server = grind (arith, nat_tests, p, q) in greatest_none (s.server + 1) server (max top 0) set h.4 (omega arith)

greatest_tops : (low server top : ℕ) (set : List ServerSet) → AreCanonicalFrom low set → greatest_in server top set ≡ max top (tops 0 (intervals_of server set))
greatest_tops low server top [] h = omega arith
greatest_tops low server top (s ∷ set) h =
    greatest_by low server top s set (nat_lt s.server server) (s.server == server) refl refl h (λ t. greatest_tops (s.server + 1) server t set h.4)
    ∙ ap (λ (is : List Interval). max top (tops 0 is)) (sym (opened server s set))

pub greatest_is : (low server : ℕ) (set : List ServerSet) → AreCanonicalFrom low set → greatest_in server 0 set ≡ end_behind 0 (intervals_of server set)
greatest_is low server set h =
    greatest_tops low server 0 set h
    ∙ (let e : max 0 (tops 0 (intervals_of server set)) ≡ tops 0 (intervals_of server set) = omega arith in e)
    ∙ tops_end 0 0 (intervals_of server set) (intervals_of-merged low server set h) (omega arith)

pub next_some : (server g : ℕ) (set : List ServerSet) → g ≡ greatest_in server 0 set → g < LAST_GTID → next_in server set ≡ Some (g + 1)
next_some server g set e lt = let t : nat_lt g LAST_GTID ≡ true = grind (arith, nat_tests) in rw (← e, t) refl

pub next_none : (server g : ℕ) (set : List ServerSet) → g ≡ greatest_in server 0 set → LAST_GTID ≤ g → next_in server set ≡ None
next_none server g set e le = let t : nat_lt g LAST_GTID ≡ false = grind (arith, nat_tests) in rw (← e, t) refl

-- ---- one number is a range
pub one_number : (n m : ℕ) → between n n m ≡ (m == n)
one_number n m = grind (arith, nat_tests)
