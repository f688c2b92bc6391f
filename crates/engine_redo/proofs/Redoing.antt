-- Items, one behind another: with one more at the end they are a redo again; and of two lists of items with which the same bytes begin, one goes on where the other ends.
use Rattle.std.proofs.Common.{◌≡◌, ℕ, ◌+◌, ◌⊎◌, inl, inr, List, [], ◌∷◌, ◌++◌, length, refl, sym, ap, subst, ◌∙◌, append_assoc, append-nil, arith}
use Rattle.std.proofs.lemmas.List.{append_cancel_right, length-append}
use Rattle.engine_redo.specs.Items.{IsItem}
use Rattle.engine_redo.specs.Stands.{IsRedo, MayRedo, Redone, empty_engine}
use Rattle.engine_redo.proofs.Items.{item_some, one_item}
use Rattle.prepared_txns.specs.Engines.{EngineState, engine_done}
use Rattle.ring_model.specs.declared.effects.Action.{Action}
use Rattle.ring_types.specs.declared.schemas.Schema.{Schema}

redone_more : (schema : Schema) (e mid : EngineState) (items : List Action) (bytes text : List ℕ) (a : Action) → Redone schema e items bytes mid → IsItem schema text a
    → MayRedo schema mid a → Redone schema e (items ++ a ∷ []) (bytes ++ text) (engine_done schema mid a)
redone_more schema e mid [] bytes text a is item may =
    let here : MayRedo schema e a = subst (λ (d : EngineState). MayRedo schema d a) (sym is.1) may in
    (text, [], item, here, (refl, ap (λ (d : EngineState). engine_done schema d a) is.1), ap (λ (b : List ℕ). b ++ text) is.0 ∙ sym (append-nil text))
redone_more schema e mid (i ∷ items) bytes text a is item may = (
  is.0,
  is.1 ++ text,
  is.2,
  is.3,
  redone_more schema (engine_done schema e i) mid items is.1 text a is.4 item may,
  ap (λ (b : List ℕ). b ++ text) is.5 ∙ append_assoc is.0 is.1 text,
)

pub redo_more : (schema : Schema) (mid : EngineState) (bytes text : List ℕ) (a : Action) → IsRedo schema bytes mid → IsItem schema text a → MayRedo schema mid a
    → IsRedo schema (bytes ++ text) (engine_done schema mid a)
redo_more schema mid bytes text a is item may = record { items = is.items ++ a ∷ []; redone = redone_more schema (empty_engine schema) mid is.items bytes text a is.redone item may }

pub redo_empty : (schema : Schema) → IsRedo schema [] (empty_engine schema)
redo_empty schema = record { items = []; redone = (refl, refl) }

-- ---- two lists of items
-- the bytes go on with an item that is possible
abbrev pub GoesOn : Schema → EngineState → List ℕ → Type 0
GoesOn schema e bytes = (a : Action) × (text : List ℕ) × (rest : List ℕ) × (bytes ≡ text ++ rest) × IsItem schema text a × MayRedo schema e a

-- they are one, or one of them goes on where the other ends
abbrev pub Compared : Schema → List ℕ → List ℕ → EngineState → EngineState → List ℕ → List ℕ → Type 0
Compared schema s t d e x y = ((s ≡ t) × (d ≡ e)) ⊎ (GoesOn schema d x ⊎ GoesOn schema e y)

compare : (schema : Schema) (e d f : EngineState) (xs ys : List Action) (s t x y : List ℕ) → Redone schema e xs s d → Redone schema e ys t f → s ++ x ≡ t ++ y
    → Compared schema s t d f x y
compare schema e d f [] [] s t x y one two same = inl (one.0 ∙ sym two.0, sym one.1 ∙ two.1)
compare schema e d f [] (j ∷ ys) s t x y one two same =
    let bytes : x ≡ two.0 ++ (two.1 ++ y) = ap (λ (b : List ℕ). b ++ x) (sym one.0) ∙ (same ∙ (ap (λ (b : List ℕ). b ++ y) two.5 ∙ append_assoc two.0 two.1 y)) in
    inr (inl (j, two.0, two.1 ++ y, bytes, two.2, subst (λ (g : EngineState). MayRedo schema g j) one.1 two.3))
compare schema e d f (i ∷ xs) [] s t x y one two same =
    let bytes : y ≡ one.0 ++ (one.1 ++ x) = ap (λ (b : List ℕ). b ++ y) (sym two.0) ∙ (sym same ∙ (ap (λ (b : List ℕ). b ++ x) one.5 ∙ append_assoc one.0 one.1 x)) in
    inr (inr (i, one.0, one.1 ++ x, bytes, one.2, subst (λ (g : EngineState). MayRedo schema g i) two.1 one.3))
compare schema e d f (i ∷ xs) (j ∷ ys) s t x y one two same =
    let left : s ++ x ≡ one.0 ++ (one.1 ++ x) = ap (λ (b : List ℕ). b ++ x) one.5 ∙ append_assoc one.0 one.1 x in
    let right : t ++ y ≡ two.0 ++ (two.1 ++ y) = ap (λ (b : List ℕ). b ++ y) two.5 ∙ append_assoc two.0 two.1 y in
    let both : one.0 ++ (one.1 ++ x) ≡ two.0 ++ (two.1 ++ y) = sym left ∙ (same ∙ right) in
    let first = one_item schema one.0 two.0 i j (one.1 ++ x) (two.1 ++ y) one.2 two.2 both in
    let text : one.0 ≡ two.0 = append_cancel_right one.0 two.0 (two.1 ++ y) (ap (λ (b : List ℕ). one.0 ++ b) (sym first.1) ∙ both) in
    let mine : Redone schema (engine_done schema e j) xs one.1 d = subst (λ (a : Action). Redone schema (engine_done schema e a) xs one.1 d) first.0 one.4 in
    behind text (compare schema (engine_done schema e j) d f xs ys one.1 two.1 x y mine two.4 first.1)
  where
    behind : one.0 ≡ two.0 → Compared schema one.1 two.1 d f x y → Compared schema s t d f x y
    behind text (inl same) = inl (one.5 ∙ (ap (λ (b : List ℕ). b ++ one.1) text ∙ (ap (λ (b : List ℕ). two.0 ++ b) same.0 ∙ sym two.5)), same.1)
    behind text (inr on) = inr on

pub compared : (schema : Schema) (d e : EngineState) (s t x y : List ℕ) → IsRedo schema s d → IsRedo schema t e → s ++ x ≡ t ++ y → Compared schema s t d e x y
compared schema d e s t x y one two same = compare schema (empty_engine schema) d e one.items two.items s t x y one.redone two.redone same

-- nothing goes on with an item
pub ends_there : (schema : Schema) (e : EngineState) → GoesOn schema e [] → ⊥
ends_there schema e on = absurd (let some = item_some schema on.1 on.0 on.4 in let none : 0 ≡ length on.1 + length on.2 = ap length on.3 ∙ length-append on.1 on.2 in omega (arith, some, none))

-- one redo makes one engine
pub one_made : (schema : Schema) (d e : EngineState) (bytes : List ℕ) → IsRedo schema bytes d → IsRedo schema bytes e → d ≡ e
one_made schema d e bytes one two = made (compared schema d e bytes bytes [] [] one two refl)
  where
    made : Compared schema bytes bytes d e [] [] → d ≡ e
    made (inl same) = same.1
    made (inr (inl on)) = absurd (ends_there schema d on)
    made (inr (inr on)) = absurd (ends_there schema e on)
