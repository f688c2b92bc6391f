-- What holds of every canonical set: of the set that some GTIDs make, and of two sets with the same members.
use Rattle.std.specs.Prelude.{◌≡◌, ℕ, ◌^◌, ◌<◌, ◌≤◌, ◌==◌, Bool, ◌&&◌, List, [], ◌∷◌, ◌++◌, Some}
use Rattle.std.specs.List.{list_any, AllByRecursion}
use Rattle.ring_types.specs.Gtids.{gtid_of, gtids, gtids_in, has, set_of}
use Rattle.ring_types.specs.declared.limits.TheConstants.{LAST_GTID}
use Rattle.ring_types.specs.declared.values.Gtid.{Gtid}
use Rattle.ring_types.specs.declared.entries.Entry.{Entry}
use Rattle.ring_types.specs.declared.gtid_sets.ServerSet.{ServerSet}
use Rattle.gtid_set.specs.Canonical.{IsCanonical}
use Rattle.gtid_set.specs.Members.{HasAlso}

-- a GTID stands in the list
abbrev pub is_among : ℕ → ℕ → List Gtid → Bool
is_among server n gtids = list_any (λ (g : Gtid). g.server == server && g.number == n) gtids

-- the set of some GTIDs has exactly them
abbrev pub HasExactlyThem : Type 0
HasExactlyThem = (gtids : List Gtid) (server n : ℕ) → has (set_of gtids) server n ≡ is_among server n gtids

-- numbers that a transaction may have, of servers of 128 bits
abbrev pub AreInRange : List Gtid → Type 0
AreInRange gtids = AllByRecursion (λ (g : Gtid). (1 ≤ g.number) × (g.number ≤ LAST_GTID) × (g.server < 2 ^ 128)) gtids

-- the set of some GTIDs in range is canonical
abbrev pub IsCanonicalOfAny : Type 0
IsCanonicalOfAny = (gtids : List Gtid) → AreInRange gtids → IsCanonical (set_of gtids)

-- no two canonical sets have the same GTIDs
abbrev pub OneSetHasThem : Type 0
OneSetHasThem = (a b : List ServerSet) → IsCanonical a → IsCanonical b → ((server n : ℕ) → has a server n ≡ has b server n) → a ≡ b

-- a log's set, with the next transaction's GTID added, is the set of the longer log
abbrev pub GrowsWithLog : Type 0
GrowsWithLog =
    (log : List Entry) (e : Entry) (g : Gtid) (new : List ServerSet) → gtid_of e ≡ Some g → AreInRange (gtids_in (log ++ e ∷ []))
    → IsCanonical new → HasAlso (gtids log) g.server g.number new → new ≡ gtids (log ++ e ∷ [])
