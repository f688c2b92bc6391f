-- What a log keeps where entries are put behind it or only its first ones are left: the first entries, and the count of its Rotates.
use Rattle.std.proofs.Common.{◌≡◌, ℕ, ◌+◌, ◌-◌, ◌≤◌, cond, List, ◌++◌, length, take, drop, ap, ◌∙◌, arith}
use Rattle.std.proofs.Math.Seq.{take-append-add, drop-append_seam}
use Rattle.std.proofs.lemmas.List.{take-append-drop}
use Rattle.std.proofs.lemmas.List.Sums.{sum_by-append}
use Rattle.ring_types.specs.declared.entries.Entry.{Entry}
use Rattle.ring_types.specs.declared.limits.TheConstants.{LAST_FILE}
use Rattle.ring_types.specs.Logs.{is_rotate, rotates}

pub rotates-append : (log entries : List Entry) → rotates (log ++ entries) ≡ rotates log + rotates entries
rotates-append log entries = sum_by-append (λ (e : Entry). cond (is_rotate e) 1 0) log entries

pub rotates-take : (n : ℕ) (log : List Entry) → rotates (take n log) ≤ rotates log
rotates-take n log = omega (arith, rotates-append (take n log) (drop n log), ap rotates (take-append-drop n log))

-- the entries stand behind the log
pub behind : (log entries : List Entry) (kept : ℕ) → kept ≡ length log → drop kept (log ++ entries) ≡ entries
behind log entries kept is = ap (λ (n : ℕ). drop n (log ++ entries)) is ∙ drop-append_seam log entries

-- of the entries behind a log the first are left, which end so many files
pub record IsLeft (log entries left : List Entry) (put files : ℕ) : Type 0 where
  pub log_is : left ≡ log ++ take put entries
  pub count : files ≡ rotates (take put entries)
  pub few : rotates log + files ≤ LAST_FILE - 1

pub first_left : (log entries left more : List Entry) (kept put files : ℕ) → kept ≡ length log → left ≡ take (kept + put) (log ++ entries) → more ≡ drop kept left
    → files ≡ rotates more → rotates (log ++ entries) ≤ LAST_FILE - 1 → IsLeft log entries left put files
first_left log entries left more kept put files is left_is more_is files_is few =
    let log_is : left ≡ log ++ take put entries = left_is ∙ ap (λ (n : ℕ). take (n + put) (log ++ entries)) is ∙ take-append-add log entries put in
    let count : files ≡ rotates (take put entries) = files_is ∙ ap rotates (more_is ∙ ap (drop kept) log_is ∙ behind log (take put entries) kept is) in
    record { log_is = log_is; count = count; few = omega (arith, rotates-append log entries, rotates-take put entries) }
