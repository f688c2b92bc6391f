-- What becomes of ascending intervals where a range is put in or a number is taken out. Only contracts of private functions cite these.
use Rattle.std.specs.Prelude.{ℕ, ◌+◌, ◌-◌, ◌==◌, List, [], ◌∷◌, ◌++◌, map, max, min, nat_lt, nat_le, if◌then◌else◌, Option, Some, None}
use Rattle.std.specs.Option.{unwrap_or}
use Rattle.std.specs.Map.{lookup, set_value, remove_entry}
use Rattle.std.specs.BTreeMap.{is_at}
use Rattle.std.specs.Ordering.{nat_cmp}
use Rattle.ring_types.specs.declared.gtid_sets.Interval.{Interval}

-- an interval as a map's entry says it, from its first number to its last
abbrev pub interval_of : ℕ × ℕ → Interval
interval_of e = record { first = e.0; last = e.1 }

abbrev pub intervals : List (ℕ × ℕ) → List Interval
intervals es = map interval_of es

-- the last of the intervals that begin at a number or below it
abbrev pub begun_by : ℕ → List Interval → Option Interval
begun_by n [] = None
begun_by n (i ∷ is) = if nat_le i.first n then Some (unwrap_or (begun_by n is) i) else begun_by n is

-- the first of the intervals that begin above a number
abbrev pub begun_after : ℕ → List Interval → Option Interval
begun_after n [] = None
begun_after n (i ∷ is) = if nat_lt n i.first then Some i else begun_after n is

-- a range, joined with the interval before it if the two touch
abbrev pub joined : Option Interval → Interval → Interval
joined None r = r
joined (Some i) r = if nat_le r.first (i.last + 1) then record { first = i.first; last = max r.last i.last } else r

-- of an interval's last number and the next interval: where that begins, and where both end, if they touch
abbrev pub touch : Option ℕ → Option Interval → Option (ℕ × ℕ)
touch None next = None
touch (Some last) None = None
touch (Some last) (Some i) = if nat_le i.first (last + 1) then Some (i.first, max last i.last) else None

abbrev pub touched : ℕ → List (ℕ × ℕ) → Option (ℕ × ℕ)
touched first es = touch (lookup (is_at (nat_cmp first)) es) (begun_after first (intervals es))

-- a range before intervals that begin above its first number: it takes in those that it touches
abbrev pub swallowed : ℕ → ℕ → List Interval → List Interval
swallowed first last [] = record { first = first; last = last } ∷ []
swallowed first last (i ∷ is) =
    if nat_le i.first (last + 1) then swallowed first (max last i.last) is
    else record { first = first; last = last } ∷ (i ∷ is)

-- the interval that begins at a number takes in those that it touches
abbrev pub grown : ℕ → List Interval → List Interval
grown first [] = []
grown first (i ∷ is) = if i.first == first then swallowed i.first i.last is else i ∷ grown first is

-- a range before intervals of which the first does not end before it
abbrev pub put_first : ℕ → ℕ → List Interval → List Interval
put_first first last [] = record { first = first; last = last } ∷ []
put_first first last (i ∷ is) =
    if nat_le i.first (last + 1) then swallowed (min i.first first) (max last i.last) is
    else record { first = first; last = last } ∷ (i ∷ is)

-- a range among ascending intervals
abbrev pub with_range : ℕ → ℕ → List Interval → List Interval
with_range first last [] = record { first = first; last = last } ∷ []
with_range first last (i ∷ is) = if nat_lt i.last (first - 1) then i ∷ with_range first last is else put_first first last (i ∷ is)

-- the interval that begins at a number ends before another, or goes if nothing of it is left
abbrev pub ended_before : ℕ → ℕ → List (ℕ × ℕ) → List (ℕ × ℕ)
ended_before first n es = if nat_lt first n then set_value (is_at (nat_cmp first)) es (n - 1) else remove_entry (is_at (nat_cmp first)) es

-- what an interval has below a number, and what it has above
abbrev pub part_below : ℕ → Interval → List Interval
part_below n i = if nat_lt i.first n then record { first = i.first; last = n - 1 } ∷ [] else []

abbrev pub part_above : ℕ → Interval → List Interval
part_above n i = if nat_lt n i.last then record { first = n + 1; last = i.last } ∷ [] else []

-- a number taken out of intervals of which the first does not end before it
abbrev pub cut_out : ℕ → List Interval → List Interval
cut_out n [] = []
cut_out n (i ∷ is) = if nat_lt n i.first then i ∷ is else part_below n i ++ (part_above n i ++ is)

-- a number taken out of ascending intervals
abbrev pub without : ℕ → List Interval → List Interval
without n [] = []
without n (i ∷ is) = if nat_lt i.last n then i ∷ without n is else cut_out n (i ∷ is)

-- where intervals behind a number end
abbrev pub end_behind : ℕ → List Interval → ℕ
end_behind n [] = n
end_behind n (i ∷ is) = end_behind i.last is
