-- The log: a list of entries since position 1 (Raft).
use Rattle.std.specs.Prelude.{◌≡◌, ℕ, zero, suc, ◌-◌, ◌<◌, ◌≤◌, ◌==◌, Bool, true, false, ◌&&◌, ◌||◌, List, [], ◌∷◌, length, count_by, nat_lt, nat_le, Option, Some, None, slice_get}
use Rattle.std.specs.List.{list_any}
use Rattle.ring_types.specs.declared.limits.TheConstants.{LAST_FILE, TERM_END}
use Rattle.ring_types.specs.declared.entries.Opid.{Opid}
use Rattle.ring_types.specs.declared.entries.Entry.{Entry}
use Rattle.ring_types.specs.declared.entries.Payload.TheVariants.{NoOp, Rotate, Txn}

-- the entry at a position counted from 1
abbrev pub entry_at : List Entry → ℕ → Option Entry
entry_at log zero = None
entry_at log (suc k) = slice_get log k

-- the term of the entry at a position; 0 at position 0 and past the end
abbrev pub term_at : List Entry → ℕ → ℕ
term_at log zero = 0
term_at [] (suc k) = 0
term_at (e ∷ log) (suc zero) = e.opid.term
term_at (e ∷ log) (suc (suc k)) = term_at log (suc k)

-- the region of the entry at a position; the home region at position 0 and past the end
abbrev pub region_at : ℕ → List Entry → ℕ → ℕ
region_at home log zero = home
region_at home [] (suc k) = home
region_at home (e ∷ log) (suc zero) = e.region
region_at home (e ∷ log) (suc (suc k)) = region_at home log (suc k)

-- the opid of the last entry; an empty log ends at 0:0, before the first entry
abbrev pub last : List Entry → Opid
last log = record { term = term_at log (length log); position = length log }

abbrev pub same_opid : Opid → Opid → Bool
same_opid a b = a.term == b.term && a.position == b.position

-- `a` is as up to date as `b` (Raft): its term is later, or its term is the same and its position no smaller
abbrev pub at_least : Opid → Opid → Bool
at_least a b = nat_lt b.term a.term || (a.term == b.term && nat_le b.position a.position)

-- some entry of the log has this opid
abbrev pub has_opid : List Entry → Opid → Bool
has_opid log o = list_any (λ (e : Entry). same_opid e.opid o) log

abbrev pub is_rotate : Entry → Bool
is_rotate e = elim e.payload [ NoOp ↦ false | Rotate ↦ true | Txn t ↦ false ]

abbrev pub is_txn : Entry → Bool
is_txn e = elim e.payload [ NoOp ↦ false | Rotate ↦ false | Txn t ↦ true ]

-- how many entries end a binary log file
abbrev pub rotates : List Entry → ℕ
rotates log = count_by is_rotate log

-- a log is so: entries stand at their positions, terms never fall, and the limits hold
pub record IsLog (log : List Entry) : Type 0 where
  pub placed : (k : ℕ) (e : Entry) → entry_at log k ≡ Some e → e.opid.position ≡ k
  pub rises : (j k : ℕ) → j ≤ k → k ≤ length log → term_at log j ≤ term_at log k
  pub short : length log < TERM_END
  pub few_files : rotates log ≤ LAST_FILE - 1
