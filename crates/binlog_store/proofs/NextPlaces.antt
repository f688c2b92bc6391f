-- The next entry of a log begins where its files end: in the last of them, behind its bytes.
use Rattle.std.proofs.Common.{◌≡◌, ℕ, suc, ◌+◌, ◌%◌, ◌^◌, ◌≤◌, List, [], ◌∷◌, ◌++◌, length, refl, sym, ap, ap₂, subst, ◌∙◌, arith}
use Rattle.std.proofs.lemmas.List.{length-append}
use Rattle.ring_types.specs.declared.entries.Entry.{Entry}
use Rattle.ring_types.specs.declared.entries.Payload.{Payload}
use Rattle.ring_types.specs.declared.entries.Payload.TheVariants as payload
use Rattle.ring_types.specs.declared.entries.Place.{Place}
use Rattle.ring_types.specs.declared.schemas.Schema.{Schema}
use Rattle.entry_group.specs.Files.{files, files_from, first_place, head_after, onto, place_behind, placed}
use Rattle.entry_group.specs.Groups.{further, group}
use Rattle.binlog_store.specs.Added.{added, continued, end_of, place_from, reach}
use Rattle.binlog_store.specs.Stands.{last_length}
use Rattle.binlog_store.specs.Laws.{NextBeginsAtTheEnd}
use Rattle.binlog_store.proofs.Continuing.{files_go_on, some_file}

onto_reach : (at : ℕ) (text f : List ℕ) (rest : List (List ℕ)) → reach at (onto text (f ∷ rest)) ≡ reach (at + length text) (f ∷ rest)
onto_reach at text f [] = omega (arith, length-append text f)
onto_reach at text f (g ∷ more) = refl

onto_last : (text f : List ℕ) (rest : List (List ℕ)) → last_length (onto text (f ∷ rest)) ≡ reach (length text) (f ∷ rest)
onto_last text f [] = length-append text f
onto_last text f (g ∷ more) = refl

wraps : (a n : ℕ) → (a % 2 ^ 64 + n) % 2 ^ 64 ≡ (a + n) % 2 ^ 64
wraps a n = omega arith

wraps_reach : (a : ℕ) (f : List ℕ) (rest : List (List ℕ)) → reach (a % 2 ^ 64) (f ∷ rest) % 2 ^ 64 ≡ reach a (f ∷ rest) % 2 ^ 64
wraps_reach a f [] = wraps a (length f)
wraps_reach a f (g ∷ more) = refl

-- ---- one entry: the place behind it, with what follows
record Ending (p next end : Place) (made rest : List (List ℕ)) : Type 0 where
  file : suc end.file ≡ next.file + length rest → suc end.file ≡ p.file + length made
  at : end.at % 2 ^ 64 ≡ reach next.at rest % 2 ^ 64 → end.at % 2 ^ 64 ≡ reach p.at made % 2 ^ 64

length_onto : (text f : List ℕ) (rest : List (List ℕ)) → length (onto text (f ∷ rest)) ≡ length (f ∷ rest)
length_onto text f rest = refl

same_file : (p next end : Place) (text f : List ℕ) (rest : List (List ℕ)) → next.file ≡ p.file → next.at ≡ (p.at + length text) % 2 ^ 64
    → Ending p next end (onto text (f ∷ rest)) (f ∷ rest)
same_file p next end text f rest here at = record {
  file = λ h. omega (arith, h, here);
  at = λ h. h ∙ (ap (λ (a : ℕ). reach a (f ∷ rest) % 2 ^ 64) at ∙ (wraps_reach (p.at + length text) f rest ∙ ap (λ (n : ℕ). n % 2 ^ 64) (sym (onto_reach p.at text f rest))));
}

next_file : (p next end : Place) (text head f : List ℕ) (rest : List (List ℕ)) → next.file ≡ p.file + 1 → next.at ≡ length head
    → Ending p next end (text ∷ onto head (f ∷ rest)) (f ∷ rest)
next_file p next end text head f [] here at = record {
  file = λ h. omega (arith, h, here);
  at = λ h. h ∙ (ap (λ (a : ℕ). reach a (f ∷ []) % 2 ^ 64) at ∙ ap (λ (n : ℕ). n % 2 ^ 64) (sym (onto_last head f [])));
}
next_file p next end text head f (g ∷ more) here at = record {
  file = λ h. omega (arith, h, here);
  at = λ h. h ∙ (ap (λ (a : ℕ). reach a (f ∷ (g ∷ more)) % 2 ^ 64) at ∙ ap (λ (n : ℕ). n % 2 ^ 64) (sym (onto_last head f (g ∷ more))));
}

abbrev behind : Payload → ℕ → ℕ → Place → Place
behind q size head p = elim q [
  | payload.NoOp ↦ further size p
  | payload.Rotate ↦ record { file = p.file + 1; at = head; sequence = 1 }
  | payload.Txn t ↦ record (further size p) { sequence = p.sequence + 1 }
]

by_kind : (p end : Place) (before : List Entry) (text f : List ℕ) (rest : List (List ℕ)) (q : Payload)
    → Ending p (behind q (length text) (length (head_after before)) p) end (placed q text before (f ∷ rest)) (f ∷ rest)
by_kind p end before text f rest payload.NoOp = same_file p _ end text f rest refl refl
by_kind p end before text f rest payload.Rotate = next_file p _ end text (head_after before) f rest refl refl
by_kind p end before text f rest (payload.Txn t) = same_file p _ end text f rest refl refl

one_entry : (schema : Schema) (p : Place) (before : List Entry) (e : Entry) (end : Place) (f : List ℕ) (rest : List (List ℕ))
    → Ending p (place_behind schema before e p) end (placed e.payload (group schema e p) before (f ∷ rest)) (f ∷ rest)
one_entry schema p before e end f rest = by_kind p end before (group schema e p) f rest e.payload

-- ---- all of them
record EndsAt (p end : Place) (made : List (List ℕ)) : Type 0 where
  file : suc end.file ≡ p.file + length made
  at : end.at % 2 ^ 64 ≡ reach p.at made % 2 ^ 64

ends_at : (schema : Schema) (p : Place) (before log : List Entry) → EndsAt p (place_from schema p before log) (files_from schema p before log)
ends_at schema p before [] = let none : p.at ≡ p.at + 0 = omega arith in record { file = omega arith; at = ap (λ (n : ℕ). n % 2 ^ 64) none }
ends_at schema p before (e ∷ log) =
    let next = place_behind schema before e p in
    let some = some_file schema next (before ++ e ∷ []) log in
    let later = ends_at schema next (before ++ e ∷ []) log in
    let end = place_from schema next (before ++ e ∷ []) log in
    let one = one_entry schema p before e end some.0 some.1 in
    rw some.2 (record {
      file = one.file (rw some.2 at later.file);
      at = one.at (rw some.2 at later.at);
    })

pub next_begins_at_the_end : NextBeginsAtTheEnd
unfolding files
next_begins_at_the_end schema log =
    let some = some_file schema first_place [] log in
    let all = ends_at schema first_place [] log in
    let made = files_from schema first_place [] log in
    let many : length (onto (head_after []) made) ≡ length made =
    ap (λ (z : List (List ℕ)). length (onto (head_after []) z)) some.2 ∙ ap (λ (z : List (List ℕ)). length z) (sym some.2) in
    let file : suc (end_of schema log).file ≡ 1 + length made = all.file in (
      omega (arith, file, many),
      all.at ∙ (ap (λ (z : List (List ℕ)). reach first_place.at z % 2 ^ 64) some.2
          ∙ (ap (λ (n : ℕ). n % 2 ^ 64) (sym (onto_last (head_after []) some.0 some.1))
          ∙ ap (λ (z : List (List ℕ)). last_length (onto (head_after []) z) % 2 ^ 64) (sym some.2))),
    )

-- ---- where more entries end
last_continued : (f g : List ℕ) (written more : List (List ℕ))
    → last_length (continued (f ∷ written) (g ∷ more)) ≡ reach (last_length (f ∷ written)) (g ∷ more)
last_continued f g [] [] = length-append f g
last_continued f g [] (x ∷ more) = refl
last_continued f g (y ∷ []) more = last_continued y g [] more
last_continued f g (y ∷ (z ∷ written)) more = last_continued y g (z ∷ written) more

pub some_files : (schema : Schema) (log : List Entry) → (f : List ℕ) × (rest : List (List ℕ)) × (files schema log ≡ f ∷ rest)
unfolding files
some_files schema log = let some = some_file schema first_place [] log in (head_after [] ++ some.0, some.1, ap (onto (head_after [])) some.2)

pub last_reached : (schema : Schema) (log more : List Entry)
    → last_length (files schema (log ++ more)) ≡ reach (last_length (files schema log)) (added schema log more)
last_reached schema log more =
    let old = some_files schema log in
    let new = some_file schema (end_of schema log) log more in
    ap last_length (files_go_on schema log more ∙ ap₂ continued old.2 new.2)
    ∙ (last_continued old.0 new.0 old.1 new.1
    ∙ sym (ap₂ (λ (w z : List (List ℕ)). reach (last_length w) z) old.2 new.2))

-- one entry more
pub end_grows : (schema : Schema) (log : List Entry) (e : Entry) (p : Place) (at : ℕ) → p ≡ end_of schema log → p.at ≡ last_length (files schema log)
    → at ≡ reach p.at (files_from schema p log (e ∷ [])) → at ≡ last_length (files schema (log ++ e ∷ []))
end_grows schema log e p at is here next =
    next
    ∙ (ap (λ (n : ℕ). reach n (files_from schema p log (e ∷ []))) here
    ∙ (ap (λ (q : Place). reach (last_length (files schema log)) (files_from schema q log (e ∷ []))) is ∙ sym (last_reached schema log (e ∷ []))))

-- ---- a last file has its head at least
placed_reach : (q : Payload) (text f : List ℕ) (before : List Entry) (rest : List (List ℕ)) (at : ℕ) → 1 ≤ at → ((to : ℕ) → 1 ≤ to → 1 ≤ reach to (f ∷ rest))
    → 1 ≤ reach at (placed q text before (f ∷ rest))
placed_reach payload.NoOp text f before rest at some later = omega (arith, onto_reach at text f rest, later (at + length text) (omega (arith, some)))
placed_reach payload.Rotate text f before rest at some later = omega (arith, onto_last (head_after before) f rest, later (length (head_after before)) (omega arith))
placed_reach (payload.Txn t) text f before rest at some later = omega (arith, onto_reach at text f rest, later (at + length text) (omega (arith, some)))

some_reach : (schema : Schema) (p : Place) (before log : List Entry) (at : ℕ) → 1 ≤ at → 1 ≤ reach at (files_from schema p before log)
some_reach schema p before [] at some = omega (arith, some)
some_reach schema p before (e ∷ log) at some =
    let next = place_behind schema before e p in
    let made = some_file schema next (before ++ e ∷ []) log in
    let later : (to : ℕ) → 1 ≤ to → 1 ≤ reach to (made.0 ∷ made.1) =
    λ to one. subst (λ (z : List (List ℕ)). 1 ≤ reach to z) made.2 (some_reach schema next (before ++ e ∷ []) log to one) in
    subst (λ (z : List (List ℕ)). 1 ≤ reach at (placed e.payload (group schema e p) before z)) (sym made.2)
    (placed_reach e.payload (group schema e p) made.0 before made.1 at some later)

pub last_some : (schema : Schema) (log : List Entry) → 1 ≤ last_length (files schema log)
unfolding files
last_some schema log =
    let made = some_file schema first_place [] log in
    subst (λ (z : List (List ℕ)). 1 ≤ last_length (onto (head_after []) z)) (sym made.2)
    (omega (
      arith,
      onto_last (head_after []) made.0 made.1,
      subst (λ (z : List (List ℕ)). 1 ≤ reach (length (head_after [])) z) made.2 (some_reach schema first_place [] log (length (head_after [])) (omega arith)),
    ))
