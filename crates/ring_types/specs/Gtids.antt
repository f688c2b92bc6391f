-- GTID sets (the MySQL manual): the numbers of each server's transactions, as merged intervals.
use Rattle.std.specs.Prelude.{ℕ, ◌+◌, ◌==◌, Bool, ◌&&◌, List, [], ◌∷◌, map, filter, filter_map, fold, max, nat_lt, nat_le, if◌then◌else◌, Option, Some, None}
use Rattle.std.specs.List.{list_any}
use Rattle.ring_types.specs.declared.limits.TheConstants.{LAST_GTID}
use Rattle.ring_types.specs.declared.values.Gtid.{Gtid}
use Rattle.ring_types.specs.declared.entries.Entry.{Entry}
use Rattle.ring_types.specs.declared.entries.Payload.TheVariants as payload
use Rattle.ring_types.specs.declared.gtid_sets.Interval.{Interval}
use Rattle.ring_types.specs.declared.gtid_sets.ServerSet.{ServerSet}

abbrev pub gtid_of : Entry → Option Gtid
gtid_of e = elim e.payload [ payload.NoOp ↦ None | payload.Rotate ↦ None | payload.Txn t ↦ Some t.gtid ]

-- the GTIDs of a list's transactions, in order
abbrev pub gtids_in : List Entry → List Gtid
gtids_in log = filter_map gtid_of log

-- the interval has the number; the set has the server's number
abbrev pub interval_has : ℕ → Interval → Bool
interval_has n i = nat_le i.first n && nat_le n i.last

abbrev pub has : List ServerSet → ℕ → ℕ → Bool
has set server n = list_any (λ (s : ServerSet). s.server == server && list_any (interval_has n) s.intervals) set

-- a number in its place in an ascending list that has each number once
abbrev pub with_number : ℕ → List ℕ → List ℕ
with_number n [] = n ∷ []
with_number n (x ∷ xs) = if nat_lt n x then n ∷ (x ∷ xs) else (if n == x then x ∷ xs else x ∷ with_number n xs)

-- the numbers of a list, ascending, each once
abbrev pub ascending : List ℕ → List ℕ
ascending numbers = fold (λ (xs : List ℕ) (n : ℕ). with_number n xs) [] numbers

-- a number before these intervals: it lengthens the first, or stands alone
abbrev pub joined : ℕ → List Interval → List Interval
joined n [] = record { first = n; last = n } ∷ []
joined n (i ∷ rest) = if i.first == n + 1 then record { first = n; last = i.last } ∷ rest else record { first = n; last = n } ∷ (i ∷ rest)

-- ascending numbers, put together as intervals
abbrev pub intervals_of : List ℕ → List Interval
intervals_of [] = []
intervals_of (n ∷ numbers) = joined n (intervals_of numbers)

abbrev pub numbers_of : ℕ → List Gtid → List ℕ
numbers_of server gtids = map (λ (g : Gtid). g.number) (filter (λ (g : Gtid). g.server == server) gtids)

abbrev pub server_set : List Gtid → ℕ → ServerSet
server_set gtids server = record { server = server; intervals = intervals_of (ascending (numbers_of server gtids)) }

-- the one canonical set of some GTIDs: servers ascending, each with its intervals
abbrev pub set_of : List Gtid → List ServerSet
set_of gtids = map (server_set gtids) (ascending (map (λ (g : Gtid). g.server) gtids))

-- the set that has exactly the GTIDs of a list's transactions
unfoldable pub gtids : List Entry → List ServerSet
gtids log = set_of (gtids_in log)

-- the server's greatest number in the list, 0 where it has none
abbrev pub greatest_number : ℕ → List Entry → ℕ
greatest_number server log = fold (λ (m : ℕ) (n : ℕ). max m n) 0 (numbers_of server (gtids_in log))

-- the number of a server's next transaction; there is none after the greatest
abbrev pub next_number : ℕ → List Entry → Option ℕ
next_number server log = if nat_lt (greatest_number server log) LAST_GTID then Some (greatest_number server log + 1) else None
