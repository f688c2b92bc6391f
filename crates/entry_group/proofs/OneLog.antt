-- The first entries of two logs with equal files are equal, since no group begins another; so are what follows. And the files are as long as their heads and groups.
use Rattle.std.proofs.Common.{◌≡◌, ◌≢◌, ℕ, ◌+◌, ◌≤◌, List, [], ◌∷◌, ◌++◌, length, map, refl, sym, ap, ap₂, subst, ◌∙◌, arith, append_assoc, length-append}
use Rattle.std.proofs.lemmas.List.{append-nil}
use Rattle.event_frame.proofs.Written.{event_length}
use Rattle.event_frame.specs.Events.{event}
use Rattle.event_control.specs.Bodies.{format_body}
use Rattle.event_control.proofs.Spellings.{format_length}
use Rattle.event_control.specs.ControlEvents.{head, magic}
use Rattle.event_control.specs.Bodies.{opid_body}
use Rattle.event_control.specs.ControlEvents.{opid_event}
use Rattle.ring_types.specs.Gtids.{gtids}
use Rattle.ring_types.specs.Sizes.{group_bytes}
use Rattle.ring_types.specs.declared.entries.Entry.{Entry}
use Rattle.ring_types.specs.declared.entries.Payload.{Payload}
use Rattle.ring_types.specs.declared.entries.Payload.TheVariants as payload
use Rattle.ring_types.specs.declared.entries.Place.{Place}
use Rattle.ring_types.specs.declared.schemas.Schema.{Schema}
use Rattle.entry_group.specs.Groups.{behind_opid, further, group, kind_of}
use Rattle.entry_group.specs.Files.{file_sizes, files, files_from, first_place, head_after, head_size, onto, place_behind, placed, set_in_head, sized, sizes_from}
use Rattle.entry_group.specs.Laws.{AllStand, FilesHaveTheirSizes, OneLogHasThem, StandsAt}
use Rattle.entry_group.proofs.GroupLaws.{cancel, group_length, no_group_begins_another}

-- ---- one log

-- the first file, where there is one
abbrev first : List (List ℕ) → List ℕ
first [] = []
first (f ∷ files) = f

abbrev others : List (List ℕ) → List (List ℕ)
others [] = []
others (f ∷ files) = files

-- files of which there is at least one
abbrev again : List (List ℕ) → List (List ℕ)
again files = first files ∷ others files

-- what stands behind the group in its file
abbrev tail_of : Payload → List (List ℕ) → List ℕ
tail_of payload.NoOp rest = first rest
tail_of payload.Rotate rest = []
tail_of (payload.Txn t) rest = first rest

first_is : (k : Payload) (g : List ℕ) (before : List Entry) (rest : List (List ℕ)) → first (placed k g before rest) ≡ g ++ tail_of k rest
first_is payload.NoOp g before [] = sym (append-nil g)
first_is payload.NoOp g before (f ∷ rest) = refl
first_is payload.Rotate g before rest = sym (append-nil g)
first_is (payload.Txn t) g before [] = sym (append-nil g)
first_is (payload.Txn t) g before (f ∷ rest) = refl

onto_some : (text : List ℕ) (rest : List (List ℕ)) → again (onto text rest) ≡ onto text rest
onto_some text [] = refl
onto_some text (f ∷ rest) = refl

placed_some : (k : Payload) (g : List ℕ) (before : List Entry) (rest : List (List ℕ)) → again (placed k g before rest) ≡ placed k g before rest
placed_some payload.NoOp g before rest = onto_some g rest
placed_some payload.Rotate g before rest = refl
placed_some (payload.Txn t) g before rest = onto_some g rest

is_some : (schema : Schema) (p : Place) (before log : List Entry) → again (files_from schema p before log) ≡ files_from schema p before log
is_some schema p before [] = refl
is_some schema p before (e ∷ log) = placed_some e.payload (group schema e p) before (files_from schema (place_behind schema before e p) (before ++ e ∷ []) log)

onto_same : (g : List ℕ) (x y : List (List ℕ)) → again x ≡ x → again y ≡ y → onto g x ≡ onto g y → x ≡ y
onto_same g [] y hx hy e = absurd (let h : [] ∷ [] ≡ [] = hx in cc)
onto_same g (f ∷ x) [] hx hy e = absurd (let h : [] ∷ [] ≡ [] = hy in cc)
onto_same g (f ∷ x) (h ∷ y) hx hy e =
    let heads : g ++ f ≡ g ++ h = ap first e in
    let tails : x ≡ y = ap others e in
    ap₂ (λ (u : List ℕ) (v : List (List ℕ)). u ∷ v) (cancel g f h heads) tails

same_rest : (k : Payload) (g : List ℕ) (before : List Entry) (x y : List (List ℕ)) → again x ≡ x → again y ≡ y → placed k g before x ≡ placed k g before y → x ≡ y
same_rest payload.NoOp g before x y hx hy e = onto_same g x y hx hy e
same_rest payload.Rotate g before x y hx hy e = onto_same (head_after before) x y hx hy (ap others e)
same_rest (payload.Txn t) g before x y hx hy e = onto_same g x y hx hy e

-- a group is never empty
long : (schema : Schema) (e : Entry) (p : Place) → 42 ≤ length (group schema e p)
unfolding group
long schema e p =
    let front : List ℕ = opid_event (kind_of e.payload) e.opid e.region p.at in
    let back : List ℕ = behind_opid schema e.opid.position e.payload (further 42 p) in
    omega (arith, length-append front back, event_length 28 128 p.at (opid_body (kind_of e.payload) e.opid e.region))

not_empty : (schema : Schema) (e : Entry) (p : Place) (x : List ℕ) → group schema e p ++ x ≡ [] → ⊥
not_empty schema e p x is =
    let n : length (group schema e p ++ x) ≡ 0 = ap length is in
    omega (arith, length-append (group schema e p) x, long schema e p, n)

one_from : (schema : Schema) (p : Place) (before a b : List Entry) → AllStand schema p before a → AllStand schema p before b → files_from schema p before a ≡ files_from schema p before b → a ≡ b
one_from schema p before [] [] sa sb e = refl
one_from schema p before [] (f ∷ b) sa sb e =
    absurd (not_empty schema f p _ (sym (ap first e ∙ first_is f.payload (group schema f p) before (files_from schema (place_behind schema before f p) (before ++ f ∷ []) b))))
one_from schema p before (f ∷ a) [] sa sb e =
    absurd (not_empty schema f p _ (sym (ap first (sym e) ∙ first_is f.payload (group schema f p) before (files_from schema (place_behind schema before f p) (before ++ f ∷ []) a))))
one_from schema p before (f ∷ a) (g ∷ b) sa sb e =
    let fa : List (List ℕ) = files_from schema (place_behind schema before f p) (before ++ f ∷ []) a in
    let gb : List (List ℕ) = files_from schema (place_behind schema before g p) (before ++ g ∷ []) b in
    let heads : group schema f p ++ tail_of f.payload fa ≡ group schema g p ++ tail_of g.payload gb =
    sym (first_is f.payload (group schema f p) before fa) ∙ ap first e ∙ first_is g.payload (group schema g p) before gb in
    let same : f ≡ g = (no_group_begins_another schema f g p (tail_of f.payload fa) (tail_of g.payload gb) sa.0 sb.0 heads).0 in
    let turned : placed f.payload (group schema f p) before fa ≡ placed f.payload (group schema f p) before (files_from schema (place_behind schema before f p) (before ++ f ∷ []) b) =
    e ∙ ap (λ (h : Entry). files_from schema p before (h ∷ b)) (sym same) in
    let rest = same_rest f.payload (group schema f p) before fa (files_from schema (place_behind schema before f p) (before ++ f ∷ []) b)
    (is_some schema (place_behind schema before f p) (before ++ f ∷ []) a) (is_some schema (place_behind schema before f p) (before ++ f ∷ []) b) turned in
    let stand = subst (λ (h : Entry). AllStand schema (place_behind schema before h p) (before ++ h ∷ []) b) (sym same) sb.1 in
    ap₂ (λ (h : Entry) (l : List Entry). h ∷ l) same (one_from schema (place_behind schema before f p) (before ++ f ∷ []) a b sa.1 stand rest)

pub one_log : OneLogHasThem
unfolding files
one_log schema a b sa sb e =
    one_from schema first_place [] a b sa sb (onto_same (head_after []) _ _ (is_some schema first_place [] a) (is_some schema first_place [] b) e)

-- ---- sizes

head_length : (before : List Entry) → length (head_after before) ≡ head_size before
head_length before =
    let set : List ℕ = set_in_head (gtids before) in
    let one : List ℕ = event 15 0 format_body 4 in
    let two : List ℕ = event 35 128 set 126 in
    omega (arith, length-append (magic ++ one) two, length-append magic one, event_length 15 0 4 format_body, format_length, event_length 35 128 126 set)

-- a text before a group before what is in the first file
onto_onto : (text g : List ℕ) (rest : List (List ℕ)) → onto text (onto g rest) ≡ onto (text ++ g) rest
onto_onto text g [] = refl
onto_onto text g (f ∷ rest) = ap (λ (x : List ℕ). x ∷ rest) (sym (append_assoc text g f))

-- the same sizes, whether the group is put before or counted
placed_sizes : (k : Payload) (text g : List ℕ) (before : List Entry) (rest : List (List ℕ)) (bytes : ℕ) (next : ℕ → List ℕ) → length g ≡ bytes
    → ((t : List ℕ) → map length (onto t rest) ≡ next (length t)) → map length (onto text (placed k g before rest)) ≡ sized k (length text + bytes) (head_size before) next
placed_sizes payload.NoOp text g before rest bytes next size h =
    ap (map length) (onto_onto text g rest) ∙ h (text ++ g) ∙ ap next (length-append text g ∙ ap (λ (n : ℕ). length text + n) size)
placed_sizes payload.Rotate text g before rest bytes next size h =
    ap₂ (λ (n : ℕ) (l : List ℕ). n ∷ l) (length-append text g ∙ ap (λ (n : ℕ). length text + n) size) (h (head_after before) ∙ ap next (head_length before))
placed_sizes (payload.Txn t) text g before rest bytes next size h =
    ap (map length) (onto_onto text g rest) ∙ h (text ++ g) ∙ ap next (length-append text g ∙ ap (λ (n : ℕ). length text + n) size)

sizes_behind : (schema : Schema) (p : Place) (before log : List Entry) (text : List ℕ) → AllStand schema p before log → map length (onto text (files_from schema p before log)) ≡ sizes_from schema (length text) before log
sizes_behind schema p before [] text s = ap (λ (x : List ℕ). length x ∷ []) (append-nil text)
sizes_behind schema p before (e ∷ log) text s =
    placed_sizes e.payload text (group schema e p) before (files_from schema (place_behind schema before e p) (before ++ e ∷ []) log) (group_bytes schema e.payload)
    (λ n. sizes_from schema n (before ++ e ∷ []) log) (group_length schema e p s.0) (λ t. sizes_behind schema (place_behind schema before e p) (before ++ e ∷ []) log t s.1)

pub files_have_sizes : FilesHaveTheirSizes
unfolding files file_sizes
files_have_sizes schema log s = sizes_behind schema first_place [] log (head_after []) s ∙ ap (λ (n : ℕ). sizes_from schema n [] log) (head_length [])
