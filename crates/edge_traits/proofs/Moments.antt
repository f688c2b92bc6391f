-- How what a crash leaves at each moment goes on from call to call.
use Rattle.std.proofs.Common.{inl, inr, ⊎_elim, ℕ, List, ◌∙◌, refl, subst, arith}
use Rattle.edge_traits.specs.DiskCalls.{Same, Elsewhere}
use Rattle.edge_traits.specs.FileStates.{Contents, Files, Leaves, MayLeave}
use Rattle.edge_traits.specs.Moments.{LeavesOnly, Remembers, IsUnmoved, LeavesAt, AtEachMoment}
use Rattle.edge_traits.specs.declared.disks.FileId.{FileId}

pub elsewhere_then : (file : FileId) (old mid new : Files) → Elsewhere file old mid → Elsewhere file mid new → Elsewhere file old new
elsewhere_then file old mid new first second other apart = second other apart ∙ first other apart

pub elsewhere_same : (file : FileId) (old new : Files) → Same old new → Elsewhere file old new
elsewhere_same file old new same other apart = same other

-- what a crash leaves of a file that stayed
pub stays : (file : FileId) (old new : Files) → Same old new → (left : List ℕ) → MayLeave (new file) left → MayLeave (old file) left
stays file old new same left may = subst (λ f. MayLeave f left) (same file) may

-- what is left of the files is left of those from before: here it has Q
leaves_at : (file : FileId) (old new : Files) (Q : List ℕ → Type 0) → Elsewhere file old new → ((left : List ℕ) → MayLeave (new file) left → Q left)
    → (left : Contents) → Leaves new left → LeavesAt file old Q left
leaves_at file old new Q elsewhere here left leaves = record {
  here = here (left file) (leaves file);
  elsewhere = λ other apart. subst (λ f. MayLeave f (left other)) (elsewhere other apart) (leaves other);
}

module _ {D : Type 0} {files : D → Files} {moment : D → ℕ} {left_since : D → ℕ → Contents → Type 0} where
  -- a run of calls that only read; the fact is the law `of_past` of the disk
  pub unmoved_leaves : {old new : D} (P : Contents → Type 0) → IsUnmoved files moment left_since old new → LeavesOnly moment left_since old new P
  unmoved_leaves P run = record { later = omega (arith, run.at_once); each = λ t left le since. inl (run.no_more t left since) }

  pub unmoved_remembers : {old new : D} → IsUnmoved files moment left_since old new → Remembers moment left_since old new
  unmoved_remembers run t left le since = run.no_less t left since

module _ {D : Type 0} {moment : D → ℕ} {left_since : D → ℕ → Contents → Type 0} where
  -- a run of calls, and then another
  pub then : {old mid new : D} {P Q : Contents → Type 0} (R : Contents → Type 0) → LeavesOnly moment left_since old mid P
      → LeavesOnly moment left_since mid new Q
      → ((left : Contents) → P left → R left) → ((left : Contents) → Q left → R left) → LeavesOnly moment left_since old new R
  then R first second of_first of_second = record {
    later = omega (arith, first.later, second.later);
    each = λ t left le since. ⊎_elim (λ before. ⊎_elim (λ past. inl past) (λ p. inr (of_first left p)) (first.each t left le before))
        (λ q. inr (of_second left q)) (second.each t left (omega (arith, le, first.later)) since);
  }

  -- what has P has R
  pub weaken : {old new : D} {P : Contents → Type 0} (R : Contents → Type 0) → LeavesOnly moment left_since old new P → ((left : Contents) → P left → R left)
      → LeavesOnly moment left_since old new R
  weaken R run of_run = record {
    later = run.later;
    each = λ t left le since. ⊎_elim (λ past. inl past) (λ p. inr (of_run left p)) (run.each t left le since);
  }

  -- one call on a file
  pub call_at : {old new : D} {file : FileId} {files : Files} (before : Files) (Q : List ℕ → Type 0) → LeavesOnly moment left_since old new (Leaves files)
      → Elsewhere file before files
      → ((left : List ℕ) → MayLeave (files file) left → Q left) → LeavesOnly moment left_since old new (LeavesAt file before Q)
  call_at {file = file} {files = files} before Q run elsewhere here = weaken (LeavesAt file before Q) run (leaves_at file before files Q elsewhere here)

  -- a run of calls on a file, and then another on it
  pub then_at : {old mid new : D} {file : FileId} {before between : Files} {P Q : List ℕ → Type 0} (R : List ℕ → Type 0)
      → LeavesOnly moment left_since old mid (LeavesAt file before P) → Elsewhere file before between
      → LeavesOnly moment left_since mid new (LeavesAt file between Q) → ((left : List ℕ) → P left → R left) → ((left : List ℕ) → Q left → R left)
      → LeavesOnly moment left_since old new (LeavesAt file before R)
  then_at {file = file} {before = before} R first elsewhere second of_first of_second = then (LeavesAt file before R) first second
      (λ left p. record { here = of_first (left file) p.here; elsewhere = p.elsewhere })
      (λ left q. record {
        here = of_second (left file) q.here;
        elsewhere = λ other apart. subst (λ f. MayLeave f (left other)) (elsewhere other apart)
            (q.elsewhere other apart);
      })

module _ {D : Type 0} {files : D → Files} {moment : D → ℕ} {left_since : D → ℕ → Contents → Type 0} {file : FileId} where
  -- one call on the file
  pub call : {old new : D} (Q : List ℕ → Type 0) → LeavesOnly moment left_since old new (Leaves (files new)) → Elsewhere file (files old) (files new)
      → ((left : List ℕ) → MayLeave (files new file) left → Q left) → AtEachMoment files moment left_since file old new Q
  call {old = old} Q run elsewhere here = record { elsewhere = elsewhere; now = here; moments = call_at (files old) Q run elsewhere here }

  -- no call
  pub still : (disk : D) (Q : List ℕ → Type 0) → ((left : List ℕ) → MayLeave (files disk file) left → Q left)
      → AtEachMoment files moment left_since file disk disk Q
  still disk Q here = record { elsewhere = λ other apart. refl; now = here; moments = record { later = omega arith; each = λ t left le since. inl since } }

  -- a call that only reads
  pub read : {old new : D} (Q : List ℕ → Type 0) → LeavesOnly moment left_since old new (Leaves (files new)) → Same (files old) (files new)
      → ((left : List ℕ) → MayLeave (files old file) left → Q left) → AtEachMoment files moment left_since file old new Q
  read {old = old} {new = new} Q run same here = call Q run (λ other apart. same other) (λ left may. here left (subst (λ f. MayLeave f left) (same file) may))

  -- what has Q has R
  pub eased : {old new : D} {Q : List ℕ → Type 0} (R : List ℕ → Type 0) → AtEachMoment files moment left_since file old new Q
      → ((left : List ℕ) → Q left → R left) → AtEachMoment files moment left_since file old new R
  eased {old = old} {Q = Q} R run of_run = record {
    elsewhere = run.elsewhere;
    now = λ left may. of_run left (run.now left may);
    moments = weaken (LeavesAt file (files old) R) run.moments (λ left q. record { here = of_run (left file) q.here; elsewhere = q.elsewhere });
  }

  -- a run of calls, and then another
  pub after : {old mid new : D} {P Q : List ℕ → Type 0} (R : List ℕ → Type 0) → AtEachMoment files moment left_since file old mid P
      → AtEachMoment files moment left_since file mid new Q
      → ((left : List ℕ) → P left → R left) → ((left : List ℕ) → Q left → R left) → AtEachMoment files moment left_since file old new R
  after {old = old} {mid = mid} R first second of_first of_second = record {
    elsewhere = λ other apart. second.elsewhere other apart ∙ first.elsewhere other apart;
    now = λ left may. of_second left (second.now left may);
    moments = then_at R first.moments first.elsewhere second.moments of_first of_second;
  }
