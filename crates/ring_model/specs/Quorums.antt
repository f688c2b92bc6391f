-- Quorums per region: who may commit, and who has to vote (after FlexiRaft).
use Rattle.std.specs.Prelude.{◌≡◌, ℕ, ◌==◌, Bool, true, false, List, [], ◌∷◌, length, count_by, nat_le}
use Rattle.std.specs.List.{list_any, Contains}
use Rattle.ring_types.specs.declared.members.Member.{Member}
use Rattle.ring_types.specs.Rings.{IsRing, Layout, voters_of, majority, is_voter}

-- the number is in the list
abbrev pub is_listed : List ℕ → ℕ → Bool
is_listed ids id = list_any (λ y. y == id) ids

-- a majority of these members is listed
abbrev pub has_majority : List Member → List ℕ → Bool
has_majority members ids = nat_le (majority (length members)) (count_by (λ (m : Member). is_listed ids m.id) members)

-- a leader of the region commits with these acknowledgements: a majority of the region's voters
abbrev pub commits : Layout → ℕ → List ℕ → Bool
commits ring region acks = has_majority (voters_of ring region) acks

-- these votes cover the region: a majority of its voters
abbrev pub covers : Layout → ℕ → List ℕ → Bool
covers ring region votes = has_majority (voters_of ring region) votes

-- the regions in which a commit of the region and a cover of it are sure to meet
abbrev pub zone : Layout → ℕ → List ℕ
zone ring region = region ∷ []

-- the number is that of a voter in the zone of a region
abbrev pub InZone : Layout → ℕ → ℕ → Type 0
InZone ring region id =
    (m : Member) × Contains ring.members m × (m.id ≡ id) × (is_voter m.kind ≡ true) × (is_listed (zone ring region) m.region ≡ true)

-- where acknowledgements commit a region and votes cover it, a voter in its zone is in both
abbrev pub CommitMeetsCover : Type 0
CommitMeetsCover = (ring : Layout) → IsRing ring → (region : ℕ) (acks votes : List ℕ) → commits ring region acks ≡ true → covers ring region votes ≡ true
    → (id : ℕ) × InZone ring region id × Contains acks id × Contains votes id

-- where two lists of votes cover a region, a voter in its zone is in both
abbrev pub CoversMeet : Type 0
CoversMeet = (ring : Layout) → IsRing ring → (region : ℕ) (some others : List ℕ) → covers ring region some ≡ true → covers ring region others ≡ true
    → (id : ℕ) × InZone ring region id × Contains some id × Contains others id
