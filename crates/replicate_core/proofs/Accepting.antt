-- The entries that are appended follow those that are kept, so the log after the step is one whose entries stand in their places.
use Rattle.std.proofs.Common.{◌≡◌, ℕ, zero, suc, ◌+◌, ◌<◌, ◌≤◌, List, [], ◌∷◌, length, drop, Option, Some, None, slice_get, refl, sym, ap, ◌∙◌, subst, arith}
use Rattle.std.specs.Prelude.{IfSome}
use Rattle.ring_types.specs.declared.entries.Entry.{Entry}
use Rattle.ring_types.specs.declared.schemas.Schema.{Schema}
use Rattle.ring_model.specs.declared.messages.Append.{Append}
use Rattle.edge_traits.specs.Views.{Sight, IsEntryOf}
use Rattle.commit_pipeline.specs.Placed.{IsPlaced}
use Rattle.commit_pipeline.specs.Planned.{Follow, MayPlan, after}
use Rattle.commit_pipeline.proofs.After.{placed_after}
use Rattle.ring_types.specs.declared.limits.TheConstants.{TERM_END}
use Rattle.ring_model.specs.WellFormed.{EntriesFit}
use Rattle.replicate_core.proofs.Entries.{entries_follow}

-- ---- places
slice_get-drop : (entries : List Entry) (count k : ℕ) → slice_get (drop count entries) k ≡ slice_get entries (count + k)
slice_get-drop entries zero k = let same : k ≡ 0 + k = omega arith in ap (slice_get entries) same
slice_get-drop [] (suc count) k = refl
slice_get-drop (x ∷ xs) (suc count) k =
    slice_get-drop xs count k ∙ (let same : suc (count + k) ≡ suc count + k = omega arith in ap (slice_get (x ∷ xs)) same)

pub follow-drop : (schema : Schema) (position count kept : ℕ) (entries : List Entry) → kept ≡ position + count → Follow schema position entries
    → Follow schema kept (drop count entries)
follow-drop schema position count kept entries at follow = λ k e is.
    (let there = follow (count + k) e (sym (slice_get-drop entries count k) ∙ is) in
    let same : position + 1 + (count + k) ≡ kept + 1 + k = omega arith in
    subst (λ p. IsEntryOf schema p e) same there)

pub places : (told : Option (List Entry)) (schema : Schema) (n kept : ℕ) (added : List Entry) → IfSome told IsPlaced → IfSome told (λ log. length log ≡ n)
    → kept ≤ n → Follow schema kept added
    → IfSome told (λ log. IsPlaced (after kept added log))
places None schema n kept added placed whole inside follow = tt
places (Some log) schema n kept added placed whole inside follow = placed_after schema log added kept placed (omega arith) follow

-- ---- the facts at the call that takes in the rest; the view may have been read since
abbrev Inside : Append → ℕ → ℕ → Type 0
Inside sent count end = (count ≤ length sent.entries) × (sent.prev.position + count ≤ end)

drop-few : (ys : List Entry) (k : ℕ) → length (drop k ys) ≤ length ys
drop-few ys zero = omega arith
drop-few [] (suc k) = omega arith
drop-few (y ∷ ys) (suc k) = let few = drop-few ys k in omega arith

plans_here : (below : Sight) (end count : ℕ) (sent : Append) → end ≡ below.length → end < TERM_END → IfSome below.log (λ log. length log ≡ below.length)
    → EntriesFit below.schema sent → Inside sent count end
    → MayPlan below (sent.prev.position + count) (drop count sent.entries)
plans_here below end count sent at short whole fine inside =
    let few = drop-few sent.entries count in
    let most = fine.few in
    let low = inside.1 in
    record {
      inside = omega arith;
      short = omega arith;
      whole = whole;
      added_follow = follow-drop below.schema sent.prev.position count
          (sent.prev.position + count) sent.entries refl (entries_follow below.schema sent fine);
    }

pub plans : (a b : Sight) (end count : ℕ) (sent : Append) (rest : List Entry) → b ≡ a → rest ≡ drop count sent.entries → end ≡ a.length → end < TERM_END
    → IfSome a.log (λ log. length log ≡ a.length) → EntriesFit a.schema sent → Inside sent count end
    → MayPlan b (sent.prev.position + count) rest
plans a b end count sent rest same is at short whole fine inside =
    subst (λ (s : Sight). MayPlan s (sent.prev.position + count) rest) (sym same)
    (subst (λ (es : List Entry). MayPlan a (sent.prev.position + count) es) (sym is) (plans_here a end count sent at short whole fine inside))

pub places_planned : (a b : Sight) (end count : ℕ) (sent : Append) (rest : List Entry) → b ≡ a → rest ≡ drop count sent.entries → end ≡ a.length
    → IfSome a.log (λ log. length log ≡ a.length) → IfSome a.log IsPlaced → EntriesFit a.schema sent → Inside sent count end
    → IfSome b.log (λ log. IsPlaced (after (sent.prev.position + count) rest log))
places_planned a b end count sent rest same is at whole placed fine inside =
    let low = inside.1 in
    subst (λ (s : Sight). IfSome s.log (λ log. IsPlaced (after (sent.prev.position + count) rest log))) (sym same)
    (subst (λ (es : List Entry). IfSome a.log (λ log. IsPlaced (after (sent.prev.position + count) es log))) (sym is)
    (places a.log a.schema a.length (sent.prev.position + count) (drop count sent.entries) placed whole (omega arith)
    (follow-drop a.schema sent.prev.position count (sent.prev.position + count) sent.entries refl (entries_follow a.schema sent fine))))
