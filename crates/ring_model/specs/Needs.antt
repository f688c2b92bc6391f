-- The regions that a candidate needs, and when its grants win (after FlexiRaft: the region of the leader that wrote the candidate's last entry, never of one merely heard of, and that of each possible leader since).
use Rattle.std.specs.Prelude.{◌≡◌, ℕ, zero, suc, ◌<◌, ◌==◌, Bool, true, false, not, ◌&&◌, List, [], ◌∷◌, ◌++◌, length, map, filter, flat_map, nat_lt}
use Rattle.std.specs.List.{list_any, list_all, Contains}
use Rattle.ring_types.specs.declared.members.Member.{Member}
use Rattle.ring_types.specs.declared.entries.Vote.{Vote}
use Rattle.ring_types.specs.declared.entries.Grant.{Grant}
use Rattle.ring_types.specs.Rings.{Layout, is_voter}
use Rattle.ring_model.specs.Quorums.{is_listed, covers, zone, InZone}

-- a voter reports a vote for a candidate of this region
pub record Report : Type 0 where
  pub voter : ℕ
  pub region : ℕ

-- the term is strictly between
abbrev pub lies_between : ℕ → ℕ → Vote → Bool
lies_between low high v = nat_lt low v.term && nat_lt v.term high

-- the votes of terms strictly between
abbrev pub votes_between : ℕ → ℕ → List Vote → List Vote
votes_between low high votes = filter (lies_between low high) votes

abbrev pub reports_of : ℕ → ℕ → Grant → List Report
reports_of low high g = map (λ (v : Vote). record { voter = g.voter; region = v.region }) (votes_between low high g.votes)

-- what the granted voters report of terms strictly between
abbrev pub reports : ℕ → ℕ → List Grant → List Report
reports low high [] = []
reports low high (g ∷ grants) = reports_of low high g ++ reports low high grants

-- the number is that of a voter in the zone of one of the regions
abbrev pub stands_in : Layout → List ℕ → ℕ → Bool
stands_in ring regions id = list_any (λ (m : Member). m.id == id && is_voter m.kind && list_any (λ r. is_listed (zone ring r) m.region) regions) ring.members

-- the report counts: its voter is in the zone of one of the regions
abbrev pub is_heard : Layout → List ℕ → Report → Bool
is_heard ring regions p = stands_in ring regions p.voter

abbrev pub is_unheard : Layout → List ℕ → Report → Bool
is_unheard ring regions p = not (is_heard ring regions p)

abbrev pub regions_of : List Report → List ℕ
regions_of [] = []
regions_of (p ∷ rest) = p.region ∷ regions_of rest

-- add the regions of the reports that are heard and take these from the pool, until none is heard; so many rounds are enough
abbrev pub closure : Layout → ℕ → List ℕ → List Report → List ℕ
closure ring zero regions pool = regions
closure ring (suc rounds) regions pool =
    elim (filter (is_heard ring regions) pool) [
      | [] ↦ regions
      | p ∷ heard ↦ closure ring rounds (regions_of (p ∷ heard) ++ regions) (filter (is_unheard ring regions) pool)
    ]

-- the regions needed by a candidate of a term and region whose last entry has this term and region
unfoldable pub need : Layout → ℕ → ℕ → ℕ → ℕ → List Grant → List ℕ
need ring base base_region own term grants = closure ring (length (reports base term grants)) (base_region ∷ own ∷ []) (reports base term grants)

-- a set of regions is closed: a granted voter in the zone of one of them reports no vote for a candidate outside
abbrev pub IsClosed : Layout → ℕ → ℕ → List Grant → (ℕ → Bool) → Type 0
IsClosed ring base term grants in_set = (g : Grant) (v : Vote) (region : ℕ) → Contains grants g → Contains g.votes v → base < v.term → v.term < term
    → in_set region ≡ true → InZone ring region g.voter → in_set v.region ≡ true

-- the least closed set that has the last entry's region and the candidate's own
pub record IsNeed (ring : Layout) (base base_region own term : ℕ) (grants : List Grant) (regions : List ℕ) : Type 0 where
  pub has_base : is_listed regions base_region ≡ true
  pub has_own : is_listed regions own ≡ true
  pub closed : IsClosed ring base term grants (is_listed regions)
  pub least : (in_set : ℕ → Bool) → in_set base_region ≡ true → in_set own ≡ true → IsClosed ring base term grants in_set
      → (region : ℕ) → Contains regions region → in_set region ≡ true

-- the computed list is that set
abbrev pub NeedIsLeast : Type 0
NeedIsLeast = (ring : Layout) (base base_region own term : ℕ) (grants : List Grant) → IsNeed ring base base_region own term grants (need ring base base_region own term grants)

abbrev pub voters_in : List Grant → List ℕ
voters_in [] = []
voters_in (g ∷ grants) = g.voter ∷ voters_in grants

-- the granted voters cover every needed region
unfoldable pub wins : Layout → ℕ → ℕ → ℕ → ℕ → List Grant → Bool
wins ring base base_region own term grants = list_all (λ region. covers ring region (voters_in grants)) (need ring base base_region own term grants)
