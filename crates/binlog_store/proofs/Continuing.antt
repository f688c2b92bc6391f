-- The files of a longer log are those of the log, and the last of them goes on with what the further entries add.
use Rattle.std.proofs.Common.{◌≡◌, ℕ, List, [], ◌∷◌, ◌++◌, refl, sym, ap, ◌∙◌, append_assoc, append-nil}
use Rattle.ring_types.specs.declared.entries.Entry.{Entry}
use Rattle.ring_types.specs.declared.entries.Payload.{Payload}
use Rattle.ring_types.specs.declared.entries.Payload.TheVariants as payload
use Rattle.ring_types.specs.declared.entries.Place.{Place}
use Rattle.ring_types.specs.declared.schemas.Schema.{Schema}
use Rattle.entry_group.specs.Files.{files, files_from, first_place, head_after, onto, place_behind, placed}
use Rattle.entry_group.specs.Groups.{group}
use Rattle.binlog_store.specs.Added.{FilesGoOn, added, continued, place_from}

-- ---- a text before the first file
onto_nothing : (f : List ℕ) (written : List (List ℕ)) → onto [] (f ∷ written) ≡ f ∷ written
onto_nothing f written = refl

onto_twice : (a b : List ℕ) (written : List (List ℕ)) → onto a (onto b written) ≡ onto (a ++ b) written
onto_twice a b [] = refl
onto_twice a b (f ∷ written) = ap (λ (t : List ℕ). t ∷ written) (sym (append_assoc a b f))

-- a text before the first file stands there still when the last one goes on
onto_continued : (text f : List ℕ) (written more : List (List ℕ)) → continued (onto text (f ∷ written)) more ≡ onto text (continued (f ∷ written) more)
onto_continued text f [] more = sym (onto_twice text f more)
onto_continued text f (g ∷ written) more = refl

-- ---- what entries add is one file at least
placed_some : (p : Payload) (text : List ℕ) (before : List Entry) (f : List ℕ) (rest : List (List ℕ))
    → (g : List ℕ) × (more : List (List ℕ)) × (placed p text before (f ∷ rest) ≡ g ∷ more)
placed_some payload.NoOp text before f rest = (text ++ f, rest, refl)
placed_some payload.Rotate text before f rest = (text, (head_after before ++ f) ∷ rest, refl)
placed_some (payload.Txn t) text before f rest = (text ++ f, rest, refl)

pub some_file : (schema : Schema) (p : Place) (before log : List Entry) → (f : List ℕ) × (rest : List (List ℕ)) × (files_from schema p before log ≡ f ∷ rest)
some_file schema p before [] = ([], [], refl)
some_file schema p before (e ∷ log) =
    let later = some_file schema (place_behind schema before e p) (before ++ e ∷ []) log in
    let first = placed_some e.payload (group schema e p) before later.0 later.1 in
    (first.0, first.1, ap (placed e.payload (group schema e p) before) later.2 ∙ first.2)

-- a group before what follows stands there still when the last file goes on
placed_continued : (p : Payload) (text : List ℕ) (before : List Entry) (f : List ℕ) (rest more : List (List ℕ))
    → continued (placed p text before (f ∷ rest)) more ≡ placed p text before (continued (f ∷ rest) more)
placed_continued payload.NoOp text before f rest more = onto_continued text f rest more
placed_continued payload.Rotate text before f rest more = ap (λ (z : List (List ℕ)). text ∷ z) (onto_continued (head_after before) f rest more)
placed_continued (payload.Txn t) text before f rest more = onto_continued text f rest more

-- ---- from a place on, and from the first
pub from_place : (schema : Schema) (p : Place) (before xs ys : List Entry)
    → files_from schema p before (xs ++ ys) ≡ continued (files_from schema p before xs) (files_from schema (place_from schema p before xs) (before ++ xs) ys)
from_place schema p before [] ys =
    let some = some_file schema p before ys in
    let same : files_from schema p (before ++ []) ys ≡ files_from schema p before ys = ap (λ (b : List Entry). files_from schema p b ys) (append-nil before) in
    sym (ap (onto []) (same ∙ some.2) ∙ (onto_nothing some.0 some.1 ∙ sym some.2))
from_place schema p before (e ∷ xs) ys =
    let next = place_behind schema before e p in
    let text = group schema e p in
    let end = place_from schema next (before ++ e ∷ []) xs in
    let some = some_file schema next (before ++ e ∷ []) xs in
    let more = files_from schema end (before ++ e ∷ xs) ys in
    let longer : files_from schema end ((before ++ e ∷ []) ++ xs) ys ≡ more = ap (λ (b : List Entry). files_from schema end b ys) (append_assoc before (e ∷ []) xs) in
    let later = from_place schema next (before ++ e ∷ []) xs ys ∙ ap (continued (files_from schema next (before ++ e ∷ []) xs)) longer in
    ap (placed e.payload text before) (later ∙ ap (λ (z : List (List ℕ)). continued z more) some.2)
    ∙ (sym (placed_continued e.payload text before some.0 some.1 more)
    ∙ ap (λ (z : List (List ℕ)). continued (placed e.payload text before z) more) (sym some.2))

pub files_go_on : FilesGoOn
unfolding files
files_go_on schema log entries =
    let some = some_file schema first_place [] log in
    ap (onto (head_after [])) (from_place schema first_place [] log entries ∙ ap (λ (z : List (List ℕ)). continued z (added schema log entries)) some.2)
    ∙ (sym (onto_continued (head_after []) some.0 some.1 (added schema log entries))
    ∙ ap (λ (z : List (List ℕ)). continued (onto (head_after []) z) (added schema log entries)) (sym some.2))
