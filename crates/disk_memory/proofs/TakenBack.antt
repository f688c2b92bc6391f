-- An edit that was noted can be taken back.
use Rattle.std.proofs.Common.{◌≡◌, ℕ, ◌+◌, ◌≤◌, List, [], ◌∷◌, ◌++◌, length, take, refl, sym, ◌∙◌, ap, arith, get_or}
use Rattle.std.proofs.lemmas.List.{same_lists, places, map_push, take_more}
use Rattle.disk_memory.specs.declared.edits.Edit.{Edit}
use Rattle.disk_memory.specs.declared.edits.Edit.TheVariants as edit
use Rattle.disk_memory.specs.declared.stored_files.Pending.{Pending}
use Rattle.edge_traits.specs.FileStates.{written}
use Rattle.disk_memory.specs.Records.{edited, done, with_edit}
use Rattle.disk_memory.specs.Undone.{unedited, undone, edits_of, file_of}
use Rattle.disk_memory.specs.Noted.{write_of, cut_of}

pub write_undone : (now : List ℕ) (at : ℕ) (bytes : List ℕ) → unedited (write_of now at bytes) (written at bytes now) ≡ now
write_undone now at bytes = same_lists _ _ (grind (arith, places)) (λ k d h. grind (arith, places))

pub cut_undone : (now : List ℕ) (n : ℕ) → unedited (cut_of now n) (take n now) ≡ now
cut_undone now n = same_lists _ _ (grind (arith, places)) (λ k d h. grind (arith, places))

pub done-push : (es : List Edit) (e : Edit) (old : List ℕ) → done (es ++ e ∷ []) old ≡ edited (done es old) e
done-push [] e old = refl
done-push (d ∷ es) e old = done-push es e (edited old d)

pub undone-push : (ps : List Pending) (p : Pending) (now : List ℕ) → undone (ps ++ p ∷ []) now ≡ undone ps (unedited p now)
undone-push [] p now = refl
undone-push (q ∷ ps) p now = ap (unedited q) (undone-push ps p now)

-- the fields of a stored file after an edit was noted and done
abbrev pub StaysWhole : List Pending → List ℕ → Type 0
StaysWhole ps now = done (edits_of ps) (undone ps now) ≡ now

module _ (ps : List Pending) (now : List ℕ) (p : Pending) (next : List ℕ) (back : unedited p next ≡ now) (there : edited now p.edit ≡ next) where
  same_base : undone (ps ++ p ∷ []) next ≡ undone ps now
  same_base = undone-push ps p next ∙ ap (undone ps) back

  same_edits : edits_of (ps ++ p ∷ []) ≡ edits_of ps ++ p.edit ∷ []
  same_edits = map_push (λ (q : Pending). q.edit) ps p

  pub noted_whole : StaysWhole ps now → StaysWhole (ps ++ p ∷ []) next
  noted_whole whole =
      ap (λ (es : List Edit). done es (undone (ps ++ p ∷ []) next)) same_edits
      ∙ ap (done (edits_of ps ++ p.edit ∷ [])) same_base
      ∙ done-push (edits_of ps) p.edit (undone ps now)
      ∙ ap (λ (old : List ℕ). edited old p.edit) whole
      ∙ there

  pub noted_view : file_of (ps ++ p ∷ []) next ≡ with_edit (file_of ps now) p.edit
  noted_view = cc (same_base, same_edits)

module _ (ps : List Pending) (now : List ℕ) where
  pub wrote_whole : (at : ℕ) (bytes : List ℕ) → StaysWhole ps now → StaysWhole (ps ++ write_of now at bytes ∷ []) (written at bytes now)
  wrote_whole at bytes = noted_whole ps now (write_of now at bytes) (written at bytes now) (write_undone now at bytes) refl

  pub wrote_view : (at : ℕ) (bytes : List ℕ) → file_of (ps ++ write_of now at bytes ∷ []) (written at bytes now) ≡ with_edit (file_of ps now)
      (edit.Write at bytes)
  wrote_view at bytes = noted_view ps now (write_of now at bytes) (written at bytes now) (write_undone now at bytes) refl

  pub cut_whole : (n : ℕ) → StaysWhole ps now → StaysWhole (ps ++ cut_of now n ∷ []) (take n now)
  cut_whole n = noted_whole ps now (cut_of now n) (take n now) (cut_undone now n) refl

  pub cut_view : (n : ℕ) → file_of (ps ++ cut_of now n ∷ []) (take n now) ≡ with_edit (file_of ps now) (edit.Cut n)
  cut_view n = noted_view ps now (cut_of now n) (take n now) (cut_undone now n) refl

pub back_step : (ps : List Pending) (i n : ℕ) (p : Pending) (bytes next : List ℕ) → n ≡ i + 1 → n ≤ length ps → p ≡ get_or ps i p → next ≡ unedited p bytes
    → undone (take i ps) next ≡ undone (take n ps) bytes
back_step ps i n p bytes next is within at step =
    ap (undone (take i ps)) step
    ∙ sym (undone-push (take i ps) p bytes)
    ∙ ap (λ (qs : List Pending). undone qs bytes) (ap (λ (q : Pending). take i ps ++ q ∷ []) at ∙ sym (take_more ps i p (omega (arith, within, is)))
    ∙ ap (λ (k : ℕ). take k ps) (sym is))
