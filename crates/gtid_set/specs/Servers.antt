-- What becomes of ascending servers where a range of one is put in or a number taken out. Only contracts of private functions cite these.
use Rattle.std.specs.Prelude.{ℕ, suc, ◌==◌, Bool, false, List, [], ◌∷◌, ◌++◌, drop, nat_lt, if◌then◌else◌, Option, Some, None}
use Rattle.ring_types.specs.declared.gtid_sets.Interval.{Interval}
use Rattle.ring_types.specs.declared.gtid_sets.ServerSet.{ServerSet}
use Rattle.gtid_set.specs.Ranges.{with_range, without}

-- how many servers at the front come before one
abbrev pub servers_below : ℕ → List ServerSet → ℕ
servers_below server [] = 0
servers_below server (s ∷ set) = if nat_lt s.server server then suc (servers_below server set) else 0

-- the first server is this one
abbrev pub begins_with : ℕ → List ServerSet → Bool
begins_with server [] = false
begins_with server (s ∷ set) = s.server == server

-- a server with one range
abbrev pub lone : ℕ → Interval → ServerSet
lone server i = record { server = server; intervals = i ∷ [] }

-- a range of a server before servers that do not come before it
abbrev pub range_here : ℕ → Interval → List ServerSet → List ServerSet
range_here server i [] = lone server i ∷ []
range_here server i (s ∷ set) =
    if s.server == server then record { server = s.server; intervals = with_range i.first i.last s.intervals } ∷ set
    else lone server i ∷ (s ∷ set)

-- a range of a server among ascending servers
abbrev pub range_in : ℕ → Interval → List ServerSet → List ServerSet
range_in server i [] = lone server i ∷ []
range_in server i (s ∷ set) = if nat_lt s.server server then s ∷ range_in server i set else range_here server i (s ∷ set)

-- ranges of a server, one after the other; the ranges of a set
abbrev pub ranges_in : ℕ → List Interval → List ServerSet → List ServerSet
ranges_in server [] set = set
ranges_in server (i ∷ is) set = ranges_in server is (range_in server i set)

abbrev pub sets_in : List ServerSet → List ServerSet → List ServerSet
sets_in [] set = set
sets_in (s ∷ more) set = sets_in more (ranges_in s.server s.intervals set)

-- a server, which goes with its last interval
abbrev pub left : ℕ → List Interval → List ServerSet
left server [] = []
left server (i ∷ is) = record { server = server; intervals = i ∷ is } ∷ []

-- a number of a server taken out of servers that do not come before it
abbrev pub number_here : ℕ → ℕ → List ServerSet → List ServerSet
number_here server n [] = []
number_here server n (s ∷ set) = if s.server == server then left s.server (without n s.intervals) ++ set else s ∷ set

-- a number of a server taken out of ascending servers
abbrev pub number_out : ℕ → ℕ → List ServerSet → List ServerSet
number_out server n [] = []
number_out server n (s ∷ set) = if nat_lt s.server server then s ∷ number_out server n set else number_here server n (s ∷ set)

-- the intervals of a server: none where it does not stand at its place
abbrev pub first_intervals : ℕ → List ServerSet → List Interval
first_intervals server [] = []
first_intervals server (s ∷ set) = if s.server == server then s.intervals else []

abbrev pub intervals_of : ℕ → List ServerSet → List Interval
intervals_of server set = first_intervals server (drop (servers_below server set) set)

abbrev pub intervals_in : Option ServerSet → List Interval
intervals_in None = []
intervals_in (Some s) = s.intervals
