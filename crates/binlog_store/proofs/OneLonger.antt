-- Of two logs whose files begin one content one goes on where the other ends: their next groups begin the same bytes, and no group begins another.
use Rattle.std.proofs.Common.{◌≡◌, ◌⊎◌, inl, inr, ℕ, suc, List, [], ◌∷◌, ◌++◌, length, drop, refl, sym, ap, subst, ◌∙◌, append_assoc, append-nil, take-append-drop}
use Rattle.std.proofs.lemmas.List.{drop_at}
use Rattle.ring_types.specs.declared.entries.Entry.{Entry}
use Rattle.ring_types.specs.declared.entries.Payload.{Payload}
use Rattle.ring_types.specs.declared.entries.Payload.TheVariants as payload
use Rattle.ring_types.specs.declared.entries.Place.{Place}
use Rattle.ring_types.specs.declared.schemas.Schema.{Schema}
use Rattle.edge_traits.specs.FileStates.{Contents}
use Rattle.edge_traits.specs.declared.disks.FileId.TheVariants as file
use Rattle.entry_group.specs.Files.{files, files_from, first_place, head_after, onto, place_behind, placed}
use Rattle.entry_group.specs.Groups.{group}
use Rattle.entry_group.specs.Laws.{AllStand}
use Rattle.entry_group.proofs.GroupLaws.{no_group_begins_another}
use Rattle.binlog_store.specs.Longest.{Tells}
use Rattle.binlog_store.specs.Stands.{ReadsFiles}
use Rattle.binlog_store.proofs.Continuing.{some_file}

-- ---- files at the front of a content's
-- file n has these bytes left, and they and the files after it begin with these files
abbrev Fronts : Contents → ℕ → List ℕ → List (List ℕ) → Type 0
Fronts c n left [] = ⊥
Fronts c n left (f ∷ []) = (rest : List ℕ) × (left ≡ f ++ rest)
Fronts c n left (f ∷ (g ∷ more)) = (left ≡ f) × Fronts c (suc n) (c (file.Binlog (suc n))) (g ∷ more)

fronts_read : (c : Contents) (n : ℕ) (written : List (List ℕ)) → ReadsFiles c n written → Fronts c n (c (file.Binlog n)) written
fronts_read c n [] h = h
fronts_read c n (f ∷ []) h =
    let rest = drop (length f) (c (file.Binlog n)) in
    (rest, sym (take-append-drop (length f) (c (file.Binlog n))) ∙ ap (λ (t : List ℕ). t ++ rest) h)
fronts_read c n (f ∷ (g ∷ more)) h = (h.0, fronts_read c (suc n) (g ∷ more) h.1)

-- ---- behind one group
-- what begins with a text and more
begins : (left text f rest : List ℕ) → left ≡ (text ++ f) ++ rest → left ≡ text ++ (f ++ rest)
begins left text f rest is = is ∙ append_assoc text f rest

behind : (left text more : List ℕ) → left ≡ text ++ more → drop (length text) left ≡ more
behind left text more is = ap (drop (length text)) is ∙ drop_at text more (length text) refl

onto_begins : (c : Contents) (n : ℕ) (left text f : List ℕ) (rest : List (List ℕ)) → Fronts c n left (onto text (f ∷ rest))
    → (more : List ℕ) × (left ≡ text ++ more)
onto_begins c n left text f [] h = (f ++ h.0, begins left text f h.0 h.1)
onto_begins c n left text f (g ∷ rest) h = (f, h.0)

onto_behind : (c : Contents) (n : ℕ) (left text f : List ℕ) (rest : List (List ℕ)) → Fronts c n left (onto text (f ∷ rest))
    → Fronts c n (drop (length text) left) (f ∷ rest)
onto_behind c n left text f [] h = (h.0, behind left text (f ++ h.0) (begins left text f h.0 h.1))
onto_behind c n left text f (g ∷ rest) h = (behind left text f h.0, h.1)

placed_begins : (c : Contents) (n : ℕ) (left text : List ℕ) (k : Payload) (before : List Entry) (f : List ℕ) (rest : List (List ℕ))
    → Fronts c n left (placed k text before (f ∷ rest)) → (more : List ℕ) × (left ≡ text ++ more)
placed_begins c n left text payload.NoOp before f rest h = onto_begins c n left text f rest h
placed_begins c n left text payload.Rotate before f rest h = ([], h.0 ∙ sym (append-nil text))
placed_begins c n left text (payload.Txn t) before f rest h = onto_begins c n left text f rest h

-- the file in which the next group stands, and what is left of it
abbrev next_file : Payload → ℕ → ℕ
next_file payload.NoOp n = n
next_file payload.Rotate n = suc n
next_file (payload.Txn t) n = n

abbrev next_left : Payload → Contents → ℕ → List ℕ → List ℕ → List Entry → List ℕ
next_left payload.NoOp c n left text before = drop (length text) left
next_left payload.Rotate c n left text before = drop (length (head_after before)) (c (file.Binlog (suc n)))
next_left (payload.Txn t) c n left text before = drop (length text) left

placed_behind : (c : Contents) (n : ℕ) (left text : List ℕ) (k : Payload) (before : List Entry) (f : List ℕ) (rest : List (List ℕ))
    → Fronts c n left (placed k text before (f ∷ rest)) → Fronts c (next_file k n) (next_left k c n left text before) (f ∷ rest)
placed_behind c n left text payload.NoOp before f rest h = onto_behind c n left text f rest h
placed_behind c n left text payload.Rotate before f rest h = onto_behind c (suc n) (c (file.Binlog (suc n))) (head_after before) f rest h.1
placed_behind c n left text (payload.Txn t) before f rest h = onto_behind c n left text f rest h

-- ---- two logs
abbrev pub OneGoesOn : List Entry → List Entry → Type 0
OneGoesOn a b = ((more : List Entry) × (b ≡ a ++ more)) ⊎ ((more : List Entry) × (a ≡ b ++ more))

goes_on : (e : Entry) (a b : List Entry) → OneGoesOn a b → OneGoesOn (e ∷ a) (e ∷ b)
goes_on e a b (inl h) = inl (h.0, ap (λ (l : List Entry). e ∷ l) h.1)
goes_on e a b (inr h) = inr (h.0, ap (λ (l : List Entry). e ∷ l) h.1)

module _ (schema : Schema) (c : Contents) where
  -- the first group, and what the entries behind it make
  abbrev FrontOf : ℕ → List ℕ → Place → List Entry → Entry → List Entry → Type 0
  FrontOf n left p before e log =
      ((more : List ℕ) × (left ≡ group schema e p ++ more))
      × Fronts c (next_file e.payload n) (next_left e.payload c n left (group schema e p) before)
      (files_from schema (place_behind schema before e p) (before ++ e ∷ []) log)

  front_of : (n : ℕ) (left : List ℕ) (p : Place) (before : List Entry) (e : Entry) (log : List Entry) → Fronts c n left (files_from schema p before (e ∷ log))
      → FrontOf n left p before e log
  front_of n left p before e log h =
      let next = place_behind schema before e p in
      let text = group schema e p in
      let some = some_file schema next (before ++ e ∷ []) log in
      let whole = subst (λ (z : List (List ℕ)). Fronts c n left (placed e.payload text before z)) some.2 h in (
        placed_begins c n left text e.payload before some.0 some.1 whole,
        subst (Fronts c (next_file e.payload n) (next_left e.payload c n left text before)) (sym some.2)
            (placed_behind c n left text e.payload before some.0 some.1 whole),
      )

  one_from : (n : ℕ) (left : List ℕ) (p : Place) (before a b : List Entry) → AllStand schema p before a → AllStand schema p before b
      → Fronts c n left (files_from schema p before a) → Fronts c n left (files_from schema p before b) → OneGoesOn a b
  one_from n left p before [] b sa sb ha hb = inl (b, refl)
  one_from n left p before (e ∷ a) [] sa sb ha hb = inr (e ∷ a, refl)
  one_from n left p before (e ∷ a) (f ∷ b) sa sb ha hb =
      let x = front_of n left p before e a ha in
      let y = front_of n left p before f b hb in
      let same : f ≡ e = (no_group_begins_another schema f e p y.0.0 x.0.0 sb.0 sa.0 (sym y.0.1 ∙ x.0.1)).0 in
      let stand = subst (λ (g : Entry). AllStand schema (place_behind schema before g p) (before ++ g ∷ []) b) same sb.1 in
      let stood = subst (λ (g : Entry). FrontOf n left p before g b) same y in
      subst (λ (g : Entry). OneGoesOn (e ∷ a) (g ∷ b)) (sym same)
      (goes_on e a b
      (one_from (next_file e.payload n) (next_left e.payload c n left (group schema e p) before) (place_behind schema before e p) (before ++ e ∷ []) a b
      sa.1 stand x.1 stood.1))

  first_fronts : (log : List Entry) → ReadsFiles c 1 (files schema log)
      → Fronts c 1 (drop (length (head_after [])) (c (file.Binlog 1))) (files_from schema first_place [] log)
  unfolding files
  first_fronts log read =
      let some = some_file schema first_place [] log in
      let whole = fronts_read c 1 (files schema log) read in
      subst (Fronts c 1 (drop (length (head_after [])) (c (file.Binlog 1)))) (sym some.2)
      (onto_behind c 1 (c (file.Binlog 1)) (head_after []) some.0 some.1
      (subst (λ (z : List (List ℕ)). Fronts c 1 (c (file.Binlog 1)) (onto (head_after []) z)) some.2 whole))

  pub one_goes_on : (a b : List Entry) → Tells schema c a → Tells schema c b → OneGoesOn a b
  one_goes_on a b x y =
      one_from 1 (drop (length (head_after [])) (c (file.Binlog 1))) first_place [] a b x.written.stand y.written.stand
      (first_fronts a x.read) (first_fronts b y.read)
