-- What three computed values are, without a procedure: the longest batch, the least torn position, the greatest position that passes a test.
use Rattle.std.specs.Prelude.{◌≡◌, ◌≢◌, ◌⊎◌, ℕ, suc, ◌+◌, ◌<◌, ◌≤◌, Bool, true, false, List, [], ◌∷◌, length, take, Option, Some, None, slice_get}
use Rattle.ring_types.specs.declared.entries.Entry.{Entry}
use Rattle.ring_types.specs.declared.schemas.Schema.{Schema}
use Rattle.ring_types.specs.Logs.{term_at}
use Rattle.ring_types.specs.Sizes.{group_size}
use Rattle.ring_model.specs.Replication.{batch_length, first_tear}
use Rattle.ring_model.specs.Steps.{greatest}
use Rattle.ring_model.specs.declared.effects.Tear.{Tear}

-- ---- a batch
-- the sizes of all groups
abbrev pub all_sizes : Schema → List Entry → ℕ
all_sizes schema [] = 0
all_sizes schema (e ∷ entries) = group_size schema e.payload + all_sizes schema entries

-- the first n entries are at most so many, their groups have at most so many bytes, and with one more entry, where there is one, one of the two is exceeded
pub record IsLongest (schema : Schema) (count bytes : ℕ) (entries : List Entry) (n : ℕ) : Type 0 where
  pub inside : n ≤ length entries
  pub few : n ≤ count
  pub fits : all_sizes schema (take n entries) ≤ bytes
  pub longest : n < length entries → n < count → bytes < all_sizes schema (take (suc n) entries)

abbrev pub BatchIsLongest : Type 0
BatchIsLongest = (schema : Schema) (count bytes : ℕ) (entries : List Entry) → IsLongest schema count bytes entries (batch_length schema count bytes entries)

-- ---- a tear
-- of the terms that a message sends from a position on, this one differs from the log's at a position up to the commit count, and none before it does
pub record IsFirstTear (log : List Entry) (commit position : ℕ) (terms : List ℕ) (t : Tear) : Type 0 where
  pub place : ℕ
  pub at : t.position ≡ position + place
  pub committed : t.position ≤ commit
  pub sent : slice_get terms place ≡ Some t.sent_term
  pub kept : t.kept_term ≡ term_at log t.position
  pub differs : t.kept_term ≢ t.sent_term
  pub least : (k sent : ℕ) → k < place → slice_get terms k ≡ Some sent → term_at log (position + k) ≡ sent

-- or none does
abbrev pub TearIs : List Entry → ℕ → ℕ → List ℕ → Option Tear → Type 0
TearIs log commit position terms None = (k sent : ℕ) → position + k ≤ commit → slice_get terms k ≡ Some sent → term_at log (position + k) ≡ sent
TearIs log commit position terms (Some t) = IsFirstTear log commit position terms t

abbrev pub TearIsFirst : Type 0
TearIsFirst = (log : List Entry) (commit position : ℕ) (terms : List ℕ) → TearIs log commit position terms (first_tear log commit position terms)

-- ---- the greatest position that passes
-- it is the floor, or passes above it and up to the top; and none above it up to the top passes
pub record IsGreatest (test : ℕ → Bool) (floor top n : ℕ) : Type 0 where
  pub reached : (n ≡ floor) ⊎ ((floor < n) × (n ≤ top) × (test n ≡ true))
  pub none_above : (k : ℕ) → n < k → k ≤ top → test k ≡ false

abbrev pub GreatestPasses : Type 0
GreatestPasses = (test : ℕ → Bool) (floor top : ℕ) → IsGreatest test floor top (greatest test floor top)
