-- What the files and the turns of a disk are after the steps that it has recorded.
use Rattle.std.specs.Prelude.{◌⊎◌, ℕ, List, [], ◌∷◌, ◌++◌, drop, map}
use Rattle.std.specs.Option.{unwrap_or}
use Rattle.std.specs.Ordering.{nat_cmp}
use Rattle.std.specs.BTreeMap.{is_at}
use Rattle.std.specs.Map.{lookup}
use Rattle.ring_types.specs.declared.entries.Keep.{Keep}
use Rattle.edge_traits.specs.FileStates.{Contents, Files, Leaves}
use Rattle.edge_traits.specs.Stories.{Turn, number_of}
use Rattle.disk_memory.specs.declared.steps.Step.{Step}
use Rattle.disk_memory.specs.declared.steps.Step.TheVariants as step
use Rattle.disk_memory.specs.declared.meters.Meter.{Meter}
use Rattle.disk_memory.specs.Records.{FileRecord, untouched, reads, all_synced, with_edit, crashed, state_of}

-- the records of files by their numbers; of two under one number the earlier counts
abbrev pub Records : Type 0
Records = List (ℕ × FileRecord)

abbrev pub record_at : ℕ → Records → FileRecord
record_at n records = unwrap_or (lookup (is_at (nat_cmp n)) records) untouched

-- all files as every disk has them
abbrev pub states : Records → Files
states records = λ f. state_of (record_at (number_of f) records)

-- what the files read
abbrev pub contents : Records → Contents
contents records = λ f. reads (record_at (number_of f) records)

-- what the files read, by their numbers
abbrev pub bytes_held : Records → List (ℕ × List ℕ)
bytes_held records = map (λ (e : ℕ × FileRecord). (e.0, reads e.1)) records

-- the files now, the turns that have ended, and the files at each moment before now
pub record Past : Type 0 where
  pub records : Records
  pub turns : List Turn
  pub before : List Records

abbrev pub fresh : Past
fresh = record { records = []; turns = []; before = [] }

-- another moment, with these files
abbrev pub moved : Past → Records → Past
moved p records = record { records = records; turns = p.turns; before = p.before ++ p.records ∷ [] }

abbrev pub put : ℕ → FileRecord → Records → Records
put n r records = (n, r) ∷ records

abbrev pub crash_all : Keep → Records → Records
crash_all k records = map (λ (e : ℕ × FileRecord). (e.0, crashed k e.1)) records

abbrev pub stepped : Past → Step → Past
stepped p (step.Edit f e) = moved p (put (number_of f) (with_edit (record_at (number_of f) p.records) e) p.records)
stepped p (step.Sync f) = moved p (put (number_of f) (all_synced (reads (record_at (number_of f) p.records))) p.records)
stepped p (step.Crash k) = moved p (crash_all k p.records)
stepped p (step.Turn s n) = record {
  records = p.records;
  turns = p.turns ++ record { setting = s; calls = n; end = bytes_held p.records } ∷ [];
  before = p.before;
}

abbrev pub replayed : Past → List Step → Past
replayed p [] = p
replayed p (s ∷ steps) = replayed (stepped p s) steps

abbrev pub past_of : List Step → Past
past_of steps = replayed fresh steps

-- a disk in memory as contracts see it
pub record DiskState : Type 0 where
  pub past : Past
  pub meter : Meter

-- a crash at one of these moments may leave that
abbrev pub LeftAt : List Records → Contents → Type 0
LeftAt [] left = ⊥
LeftAt (r ∷ rs) left = Leaves (states r) left ⊎ LeftAt rs left

-- a crash since moment t might have left that
abbrev pub LeftSince : Past → ℕ → Contents → Type 0
LeftSince p t left = Leaves (states p.records) left ⊎ LeftAt (drop t p.before) left
