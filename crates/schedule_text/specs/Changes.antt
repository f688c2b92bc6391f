-- The changes of a write, and the suffix behind them.
use Rattle.std.specs.Prelude.{ℕ, ◌==◌, Bool, ◌||◌, List, [], ◌∷◌, length, bytes_eq, codes, if◌then◌else◌, Option, Some, None}
use Rattle.ring_types.specs.Names.{is_name}
use Rattle.ring_types.specs.declared.entries.Keep.{Keep}
use Rattle.ring_types.specs.declared.entries.Keep.TheVariants as keep
use Rattle.ring_types.specs.declared.values.Value.{Value}
use Rattle.ring_types.specs.declared.values.Change.{Change}
use Rattle.ring_types.specs.declared.values.Change.TheVariants as change
use Rattle.ring_types.specs.declared.entries.CutAt.{CutAt}
use Rattle.ring_types.specs.declared.entries.CutAt.TheVariants as cut
use Rattle.schedule_text.specs.Cutting.{Word, words, first_of}
use Rattle.schedule_text.specs.Numbers.{call_of}
use Rattle.schedule_text.specs.Values.{value_of}
use Rattle.schedule_text.specs.Reading.{◌>>=◌, ended}

-- ---- the suffix that stops or fails a disk call
-- the word with which a suffix begins; no value is written so
abbrev pub begins_suffix : Word → Bool
begins_suffix word = bytes_eq word (codes "stop") || bytes_eq word (codes "fail")

abbrev pub keep_of : Word → Option Keep
keep_of word =
    if bytes_eq word (codes "none") then Some keep.Nothing
    else (if bytes_eq word (codes "half") then Some keep.Half
    else (if bytes_eq word (codes "all") then Some keep.All else None))

-- `fail K`, or `stop K` and how much is kept; `rest` is what stands behind K
unfoldable pub suffix_of : Word → ℕ → List Word → Option CutAt
suffix_of verb call rest =
    if bytes_eq verb (codes "fail") then (ended rest >>= λ none. Some (cut.Fail call))
    else (if bytes_eq verb (codes "stop") then (do
      kept ← first_of rest
      none ← ended kept.1
      keep ← keep_of kept.0
      Some (cut.Stop call keep))
    else None)

-- the words behind a form: none, or a suffix
unfoldable pub cut_of : List Word → Option (Option CutAt)
cut_of [] = Some None
cut_of (verb ∷ ws) = do
  call ← first_of ws
  k ← call_of call.0
  suffix ← suffix_of verb k call.1
  Some (Some suffix)

-- ---- changes
-- the values of a row, up to a suffix or the part's end, and the words behind them
abbrev pub row_of : List Word → Option (List Value × List Word)
row_of [] = Some ([], [])
row_of (w ∷ ws) =
    if begins_suffix w then Some ([], w ∷ ws)
    else (value_of w >>= λ v. row_of ws >>= λ row. Some (v ∷ row.0, row.1))

-- the change that writes a row of at least one value
abbrev pub writing : Word → List ℕ → List Value → Option Change
writing verb table row =
    if length row == 0 then None
    else (if bytes_eq verb (codes "insert") then Some (change.Insert table row)
    else (if bytes_eq verb (codes "update") then Some (change.Update table row) else None))

-- the change whose verb and table are these, and the words behind it
unfoldable pub change_at : Word → List ℕ → List Word → Option (Change × List Word)
change_at verb table ws =
    if bytes_eq verb (codes "delete") then (do
      word ← first_of ws
      key ← value_of word.0
      Some (change.Delete table key, word.1))
    else (do
      row ← row_of ws
      made ← writing verb table row.0
      Some (made, row.1))

-- a word that is a name
abbrev pub named_of : Word → Option (List ℕ)
named_of word = if is_name word then Some word else None

unfoldable pub change_of : List Word → Option (Change × List Word)
change_of ws = do
  verb ← first_of ws
  table ← first_of verb.1
  name ← named_of table.0
  change_at verb.0 name table.1

-- the words of a part that follows another: a space stands first
abbrev pub next_words : List ℕ → Option (List Word)
next_words [] = None
next_words (b ∷ bs) = if b == 32 then Some (words bs) else None

-- a change in these words and one in each further part, and the suffix, which only the last part may have
abbrev pub changes_of : List Word → List (List ℕ) → Option (List Change × Option CutAt)
changes_of ws [] = change_of ws >>= λ first. cut_of first.1 >>= λ suffix. Some (first.0 ∷ [], suffix)
changes_of ws (part ∷ more) =
    change_of ws >>= λ first. ended first.1 >>= λ none. next_words part >>= λ next.
    changes_of next more >>= λ others. Some (first.0 ∷ others.0, others.1)
