-- A log has one file more than Rotates, and a place counts no more transactions than there are entries; so the numbers of a log stay in range.
use Rattle.std.proofs.Common.{◌≡◌, ℕ, ◌+◌, ◌<◌, ◌≤◌, List, [], ◌∷◌, ◌++◌, length, refl, sym, ap, ap₂, subst, ◌∙◌, arith, append-nil, append_assoc, cond}
use Rattle.std.proofs.lemmas.List.Sums.{sum_by-cons}
use Rattle.ring_types.specs.declared.entries.Entry.{Entry}
use Rattle.ring_types.specs.declared.entries.Payload.{Payload}
use Rattle.ring_types.specs.declared.entries.Payload.TheVariants as payload
use Rattle.ring_types.specs.declared.entries.Place.{Place}
use Rattle.ring_types.specs.declared.schemas.Schema.{Schema}
use Rattle.ring_types.specs.Logs.{is_rotate, rotates}
use Rattle.entry_group.specs.Files.{files, files_from, first_place, head_after, onto, place_behind, placed}
use Rattle.entry_group.specs.Groups.{group}
use Rattle.entry_group.specs.Laws.{AllStand}
use Rattle.binlog_store.specs.Added.{added, continued, end_of, place_from}
use Rattle.binlog_store.proofs.Continuing.{files_go_on, some_file}
use Rattle.binlog_store.proofs.NextPlaces.{some_files}

-- ---- files
rotates_more : (e : Entry) (log : List Entry) → rotates (e ∷ log) ≡ cond (is_rotate e) 1 0 + rotates log
rotates_more e log = sum_by-cons (λ (x : Entry). cond (is_rotate x) 1 0) e log

one_more : (p : Payload) (e : Entry) (text : List ℕ) (before : List Entry) (f : List ℕ) (rest : List (List ℕ)) → e.payload ≡ p
    → length (placed p text before (f ∷ rest)) ≡ cond (is_rotate e) 1 0 + length (f ∷ rest)
one_more payload.NoOp e text before f rest is = rw is (omega arith)
one_more payload.Rotate e text before f rest is = rw is (omega arith)
one_more (payload.Txn t) e text before f rest is = rw is (omega arith)

files_counted : (schema : Schema) (p : Place) (before log : List Entry) → length (files_from schema p before log) ≡ 1 + rotates log
files_counted schema p before [] = refl
files_counted schema p before (e ∷ log) =
    let next = place_behind schema before e p in
    let some = some_file schema next (before ++ e ∷ []) log in
    let rest : length (some.0 ∷ some.1) ≡ 1 + rotates log = ap length (sym some.2) ∙ files_counted schema next (before ++ e ∷ []) log in
    let made : length (placed e.payload (group schema e p) before (some.0 ∷ some.1)) ≡ cond (is_rotate e) 1 0 + length (some.0 ∷ some.1) = one_more e.payload e (group schema e p) before some.0 some.1 refl in
    let whole : length (files_from schema p before (e ∷ log)) ≡ length (placed e.payload (group schema e p) before (some.0 ∷ some.1)) = ap (λ (z : List (List ℕ)). length (placed e.payload (group schema e p) before z)) some.2 in
    omega (arith, whole, made, rest, rotates_more e log)

pub count_files : (schema : Schema) (log : List Entry) → length (files schema log) ≡ 1 + rotates log
unfolding files
count_files schema log =
    let some = some_file schema first_place [] log in
    ap length (ap (onto (head_after [])) some.2) ∙ (ap length (sym some.2) ∙ files_counted schema first_place [] log)

-- the last of the files goes on, and the others are more files
continued_length : (f g : List ℕ) (written more : List (List ℕ)) → length (continued (f ∷ written) (g ∷ more)) ≡ length (f ∷ written) + length more
continued_length f g [] more = omega arith
continued_length f g (x ∷ written) more = omega (arith, continued_length x g written more)

pub count_added : (schema : Schema) (log more : List Entry)
    → length (files schema log) + length (added schema log more) ≡ length (files schema (log ++ more)) + 1
count_added schema log more =
    let old = some_files schema log in
    let new = some_file schema (end_of schema log) log more in
    let whole : length (files schema (log ++ more)) ≡ length (continued (old.0 ∷ old.1) (new.0 ∷ new.1)) = ap length (files_go_on schema log more ∙ ap₂ continued old.2 new.2) in
    omega (arith, whole, continued_length old.0 new.0 old.1 new.1, ap length old.2, ap length new.2)

-- ---- entries that stand behind others
pub stand_behind : (schema : Schema) (p : Place) (before log more : List Entry) → AllStand schema p before (log ++ more)
    → AllStand schema (place_from schema p before log) (before ++ log) more
stand_behind schema p before [] more h = subst (λ (b : List Entry). AllStand schema p b more) (sym (append-nil before)) h
stand_behind schema p before (e ∷ log) more h =
    let next = place_behind schema before e p in
    subst (λ (b : List Entry). AllStand schema (place_from schema next (before ++ e ∷ []) log) b more) (append_assoc before (e ∷ []) log)
    (stand_behind schema next (before ++ e ∷ []) log more h.1)

-- ---- transactions of a file
counts_one : (schema : Schema) (before : List Entry) (e : Entry) (p : Place) (q : Payload) → e.payload ≡ q
    → (place_behind schema before e p).sequence ≤ p.sequence + 1
counts_one schema before e p payload.NoOp is = rw is (omega arith)
counts_one schema before e p payload.Rotate is = rw is (omega arith)
counts_one schema before e p (payload.Txn t) is = rw is (omega arith)

few_from : (schema : Schema) (p : Place) (before log : List Entry) → (place_from schema p before log).sequence ≤ p.sequence + length log
few_from schema p before [] = omega arith
few_from schema p before (e ∷ log) =
    omega (arith, few_from schema (place_behind schema before e p) (before ++ e ∷ []) log, counts_one schema before e p e.payload refl)

pub few_counted : (schema : Schema) (log : List Entry) → (end_of schema log).sequence ≤ 1 + length log
few_counted schema log = few_from schema first_place [] log

pub some_added : (schema : Schema) (log more : List Entry) → 0 < length (added schema log more)
some_added schema log more = let some = some_file schema (end_of schema log) log more in subst (λ (z : List (List ℕ)). 0 < length z) (sym some.2) (omega arith)
