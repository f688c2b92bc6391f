-- The number after the greatest that a set has of a server.
use Rattle.std.specs.Prelude.{◌≡◌, ℕ, ◌+◌, ◌==◌, max, nat_lt, if◌then◌else◌, List, [], ◌∷◌, Option, Some, None}
use Rattle.ring_types.specs.declared.limits.TheConstants.{LAST_GTID}
use Rattle.ring_types.specs.declared.entries.Entry.{Entry}
use Rattle.ring_types.specs.declared.gtid_sets.Interval.{Interval}
use Rattle.ring_types.specs.declared.gtid_sets.ServerSet.{ServerSet}
use Rattle.ring_types.specs.Gtids.{gtids, next_number}

-- the greatest of this number and the ends of the intervals
abbrev pub tops : ℕ → List Interval → ℕ
tops top [] = top
tops top (i ∷ intervals) = tops (max top i.last) intervals

abbrev pub top_in : ℕ → ServerSet → ℕ
top_in server s = if s.server == server then tops 0 s.intervals else 0

abbrev pub greatest_in : ℕ → ℕ → List ServerSet → ℕ
greatest_in server top [] = top
greatest_in server top (s ∷ sets) = greatest_in server (max top (top_in server s)) sets

abbrev pub next_in : ℕ → List ServerSet → Option ℕ
next_in server sets = if nat_lt (greatest_in server 0 sets) (LAST_GTID) then Some (greatest_in server 0 sets + 1) else None

abbrev pub NextIsNext : Type 0
NextIsNext = (server : ℕ) (log : List Entry) → next_in server (gtids log) ≡ next_number server log
