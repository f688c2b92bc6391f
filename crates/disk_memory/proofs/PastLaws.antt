-- How the past of a disk grows with its steps.
use Rattle.std.proofs.Common.{◌≡◌, ℕ, Bool, true, false, cond, List, [], ◌∷◌, ◌++◌, Option, Some, None, refl, sym, ◌∙◌, ap, ap₂, subst, if◌then◌else◌}
use Rattle.std.specs.Option.{option_map, unwrap_or}
use Rattle.std.specs.Ordering.{nat_cmp}
use Rattle.std.specs.BTreeMap.{is_at}
use Rattle.std.specs.Map.{lookup}
use Rattle.ring_types.specs.declared.entries.Keep.{Keep}
use Rattle.edge_traits.specs.declared.disks.FileId.{FileId}
use Rattle.disk_memory.specs.declared.edits.Edit.{Edit}
use Rattle.ring_types.specs.declared.entries.CutAt.{CutAt}
use Rattle.disk_memory.specs.declared.steps.Step.{Step}
use Rattle.disk_memory.specs.declared.steps.Step.TheVariants as step
use Rattle.disk_memory.specs.Records.{FileRecord, untouched, reads, all_synced, with_edit, crashed}
use Rattle.edge_traits.specs.Stories.{number_of}
use Rattle.disk_memory.specs.Pasts.{Past, Records, record_at, put, crash_all, fresh, stepped, replayed, past_of}
use Rattle.disk_memory.specs.Tables.{SameRecords, IsPut, IsCrashed}
use Rattle.disk_memory.proofs.TableLaws.{lookup-map}

replayed-push : (p : Past) (steps : List Step) (s : Step) → replayed p (steps ++ s ∷ []) ≡ stepped (replayed p steps) s
replayed-push p [] s = refl
replayed-push p (t ∷ steps) s = replayed-push (stepped p t) steps s

pub past_push : (steps : List Step) (s : Step) → past_of (steps ++ s ∷ []) ≡ stepped (past_of steps) s
past_push steps s = replayed-push fresh steps s

cond_at : (b : Bool) (r : FileRecord) (o : Option FileRecord) → unwrap_or (cond b (Some r) o) untouched ≡ (if b then r else unwrap_or o untouched)
cond_at true r o = refl
cond_at false r o = refl

-- what is put is there, and all else as before
pub at_put : (q n : ℕ) (r : FileRecord) (rs : Records) → record_at q (put n r rs) ≡ (if is_at (nat_cmp q) n then r else record_at q rs)
at_put q n r rs = cond_at (is_at (nat_cmp q) n) r (lookup (is_at (nat_cmp q)) rs)

crash_at : (k : Keep) (o : Option FileRecord) → unwrap_or (option_map (crashed k) o) untouched ≡ crashed k (unwrap_or o untouched)
crash_at k None = refl
crash_at k (Some r) = refl

pub at_crash : (q : ℕ) (k : Keep) (rs : Records) → record_at q (crash_all k rs) ≡ crashed k (record_at q rs)
at_crash q k rs = ap (λ (o : Option FileRecord). unwrap_or o untouched) (lookup-map (crashed k) (is_at (nat_cmp q)) rs)
    ∙ crash_at k (lookup (is_at (nat_cmp q)) rs)

-- a table that had the files of the past has those after the step
put_agrees : (n : ℕ) (r r' : FileRecord) (rs table table' : Records) → SameRecords rs table → IsPut n r table table' → r ≡ r' → SameRecords (put n r' rs) table'
put_agrees n r r' rs table table' same changes is q =
    changes q
    ∙ ap₂ (λ (s t : FileRecord). if is_at (nat_cmp q) n then s else t) is (same q)
    ∙ sym (at_put q n r' rs)

module _ (steps : List Step) (table table' : Records) (same : SameRecords (past_of steps).records table) where
  after : (s : Step) → SameRecords (stepped (past_of steps) s).records table' → SameRecords (past_of (steps ++ s ∷ [])).records table'
  after s agrees = subst (λ (p : Past). SameRecords p.records table') (sym (past_push steps s)) agrees

  pub edit_agrees : (f : FileId) (e : Edit) → IsPut (number_of f) (with_edit (record_at (number_of f) table) e) table table'
      → SameRecords (past_of (steps ++ step.Edit f e ∷ [])).records table'
  edit_agrees f e changes = after (step.Edit f e) (put_agrees (number_of f) _ _ (past_of steps).records table table' same changes
      (ap (λ (r : FileRecord). with_edit r e) (same (number_of f))))

  pub sync_agrees : (f : FileId) → IsPut (number_of f) (all_synced (reads (record_at (number_of f) table))) table table'
      → SameRecords (past_of (steps ++ step.Sync f ∷ [])).records table'
  sync_agrees f changes = after (step.Sync f) (put_agrees (number_of f) _ _ (past_of steps).records table table' same changes
      (ap (λ (r : FileRecord). all_synced (reads r)) (same (number_of f))))

  pub crash_agrees : (k : Keep) → IsCrashed k table table' → SameRecords (past_of (steps ++ step.Crash k ∷ [])).records table'
  crash_agrees k crashes = after (step.Crash k) (λ q. crashes q ∙ ap (crashed k) (same q) ∙ sym (at_crash q k (past_of steps).records))

pub turn_agrees : (steps : List Step) (table : Records) → SameRecords (past_of steps).records table → (s : Option CutAt) (n : ℕ)
    → SameRecords (past_of (steps ++ step.Turn s n ∷ [])).records table
turn_agrees steps table same s n = after steps table table same (step.Turn s n) same
