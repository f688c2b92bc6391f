-- one entry after a leader's log
use Rattle.std.proofs.Common.{◌≡◌, ℕ, zero, suc, ◌+◌, ◌-◌, ◌<◌, ◌≤◌, Bool, true, false, nat_le, List, [], ◌∷◌, ◌++◌, length, take, Option, Some, None, slice_get, refl, sym, ap, ap₂, ◌∙◌, subst, arith}
use Rattle.std.specs.Prelude.{IfSome}
use Rattle.std.proofs.lemmas.Bool.Decides.{nat_tests}
use Rattle.ring_types.specs.declared.limits.TheConstants.{LAST_FILE, TERM_END}
use Rattle.ring_types.specs.declared.entries.Entry.{Entry}
use Rattle.ring_types.specs.declared.entries.Pair.{Pair}
use Rattle.ring_types.specs.declared.schemas.Schema.{Schema}
use Rattle.ring_types.specs.Rings.{Layout}
use Rattle.ring_types.specs.Logs.{term_at, rotates}
use Rattle.edge_traits.specs.Views.{IsEntryOf}
use Rattle.ring_types.proofs.Positions.{term_at-found}
use Rattle.commit_pipeline.specs.Heres.{IsLedLog}
use Rattle.ring_model.specs.declared.nodes.Peer.{Peer}
use Rattle.ring_model.specs.declared.nodes.Pending.{Pending}
use Rattle.ring_model.specs.declared.effects.Action.{Action}
use Rattle.ring_model.specs.declared.effects.Action.TheVariants as action
use Rattle.ring_model.specs.declared.effects.Say.{Say}
use Rattle.ring_model.specs.declared.messages.Message.{Message}
use Rattle.commit_pipeline.specs.declared.advances.Advanced.{Advanced}
use Rattle.commit_pipeline.specs.Advances.{advanced, part_after}
use Rattle.commit_pipeline.specs.Placed.{IsPlaced}
use Rattle.commit_pipeline.specs.Planned.{after, Follow}
use Rattle.commit_pipeline.proofs.After.{term_at-front, entry_at-added, placed_after}

pub take-all : {X : Type 0} (xs : List X) (n : ℕ) → n ≡ length xs → take n xs ≡ xs
take-all [] zero h = refl
take-all [] (suc n) h = refl
take-all (x ∷ xs) zero h = absurd (omega arith)
take-all (x ∷ xs) (suc n) h = ap (λ ys. x ∷ ys) (take-all xs n (omega arith))

pub length-after : (log xs : List Entry) (k : ℕ) → k ≤ length log → length (take k log ++ xs) ≡ k + length xs
length-after log xs zero h = omega arith
length-after [] xs (suc k) h = absurd (omega arith)
length-after (e ∷ log) xs (suc k) h = let rest = length-after log xs k (omega arith) in omega arith

pub follow-one : (schema : Schema) (n : ℕ) (e : Entry) → IsEntryOf schema (n + 1) e → Follow schema n (e ∷ [])
follow-one schema n e is zero x h =
    let same : e ≡ x = cc in
    let at : n + 1 ≡ n + 1 + 0 = omega arith in
    subst (λ (p : ℕ). IsEntryOf schema p x) at (subst (λ (y : Entry). IsEntryOf schema (n + 1) y) same is)
follow-one schema n e is (suc k) x h = absurd cc

term-last : (log : List Entry) (e : Entry) (n p : ℕ) → n ≡ length log → p ≡ suc n → term_at (after n (e ∷ []) log) p ≡ e.opid.term
term-last log e n p whole at =
    let inside : n ≤ length log = omega arith in
    let above : n < p = omega arith in
    let none : p - (n + 1) ≡ 0 = omega arith in
    sym (term_at-found (take n log ++ e ∷ []) p e (entry_at-added log (e ∷ []) n p inside above ∙ ap (slice_get (e ∷ [])) none))

led_after : (schema : Schema) (log : List Entry) (term n : ℕ) (e : Entry) → n ≡ length log → IsLedLog term log → e.opid.term ≡ term → IsEntryOf schema (n + 1) e → n + 1 < TERM_END
    → rotates (log ++ e ∷ []) ≤ LAST_FILE - 1 → IsLedLog term (after n (e ∷ []) log)
led_after schema log term n e whole led own is short few = record { is_log = record { placed = places; rises = rises; short = fits; few_files = files }; log_below = below }
  where
    inside : n ≤ length log
    inside = omega arith

    size : length (after n (e ∷ []) log) ≡ n + 1
    size = length-after log (e ∷ []) n inside

    places : IsPlaced (after n (e ∷ []) log)
    places = placed_after schema log (e ∷ []) n led.is_log.placed inside (follow-one schema n e is)

    fits : length (after n (e ∷ []) log) < TERM_END
    fits = let z = size in omega arith

    files : rotates (after n (e ∷ []) log) ≤ LAST_FILE - 1
    files = subst (λ (xs : List Entry). rotates (xs ++ e ∷ []) ≤ LAST_FILE - 1) (sym (take-all log n whole)) few

    top : term_at log n ≤ term
    top = subst (λ (k : ℕ). term_at log k ≤ term) (sym whole) led.log_below

    below : term_at (after n (e ∷ []) log) (length (after n (e ∷ []) log)) ≤ term
    below =
        let at : length (after n (e ∷ []) log) ≡ suc n = (let z = size in omega arith) in
        let is_own = term-last log e n (length (after n (e ∷ []) log)) whole at in
        omega arith

    rises : (j k : ℕ) → j ≤ k → k ≤ length (after n (e ∷ []) log) → term_at (after n (e ∷ []) log) j ≤ term_at (after n (e ∷ []) log) k
    rises j k low high = by (nat_le k n) refl (nat_le j n) refl
      where
        by : (a : Bool) → nat_le k n ≡ a → (b : Bool) → nat_le j n ≡ b → term_at (after n (e ∷ []) log) j ≤ term_at (after n (e ∷ []) log) k
        by true h b i =
            let up : k ≤ n = grind (arith, nat_tests) in
            let one = term_at-front log (e ∷ []) n j (omega arith) inside in
            let other = term_at-front log (e ∷ []) n k up inside in
            let rest = led.is_log.rises j k low (omega arith) in
            omega arith
        by false h true i =
            let up : j ≤ n = grind (arith, nat_tests) in
            let over : n < k = grind (arith, nat_tests) in
            let z = size in
            let one = term_at-front log (e ∷ []) n j up inside in
            let other = term-last log e n k whole (omega arith) in
            let rest = led.is_log.rises j n up inside in
            let most = top in
            omega arith
        by false h false i =
            let over : n < k = grind (arith, nat_tests) in
            let over2 : n < j = grind (arith, nat_tests) in
            let z = size in
            let one = term-last log e n j whole (omega arith) in
            let other = term-last log e n k whole (omega arith) in
            omega arith

pub leds : (told : Option (List Entry)) (schema : Schema) (term n : ℕ) (e : Entry) → IfSome told (λ log. length log ≡ n) → IfSome told (IsLedLog term) → e.opid.term ≡ term → IsEntryOf schema (n + 1) e → n + 1 < TERM_END
    → IfSome told (λ log. rotates (log ++ e ∷ []) ≤ LAST_FILE - 1) → IfSome told (λ log. IsLedLog term (after n (e ∷ []) log))
leds None schema term n e whole led own is short few = tt
leds (Some log) schema term n e whole led own is short few = led_after schema log term n e (sym whole) led own is short few

pub whole_at : (told : Option (List Entry)) (n end : ℕ) → end ≡ n → IfSome told (λ log. length log ≡ n) → IfSome told (λ log. length log ≡ end)
whole_at told n end at whole = subst (λ (k : ℕ). IfSome told (λ log. length log ≡ k)) (sym at) whole

-- what an advance after the entry gives, with the actions that come first
pub joins : (told : Option (List Entry)) (ring : Layout) (me term n applied : ℕ) (pairs : List Pair) (commit : ℕ) (peers : List Peer) (pending : List Pending) (e : Entry) (first actions : List Action) (says : List Say) (slice added : List Entry) (a0 : List Action) (m0 : List Message) (it : Advanced)
    → IfSome told (λ log. length log ≡ n) → slice ≡ e ∷ [] → added ≡ e ∷ [] → a0 ≡ [] → m0 ≡ []
    → IfSome told (λ log. it ≡ advanced ring me (part_after term (after n slice log) applied pairs) commit peers pending (record { actions = a0; messages = m0; says = says }))
    → actions ≡ (first ++ action.Append added ∷ []) ++ it.plan.actions
    → IfSome told (λ log. record { plan = record { actions = actions; messages = it.plan.messages; says = it.plan.says }; commit = it.commit; pending = it.pending }
    ≡ advanced ring me (part_after term (log ++ e ∷ []) applied pairs) commit peers pending (record { actions = first ++ action.Append (e ∷ []) ∷ []; messages = []; says = says }))
joins None ring me term n applied pairs commit peers pending e first actions says slice added a0 m0 it whole one two none none2 made is = tt
joins (Some log) ring me term n applied pairs commit peers pending e first actions says slice added a0 m0 it whole one two none none2 made is =
    let F : List Entry → Advanced = λ xs. advanced ring me (part_after term xs applied pairs) commit peers pending (record { actions = []; messages = []; says = says }) in
    let G : List Action → Advanced → Advanced = λ xs x. record { plan = record { actions = xs; messages = x.plan.messages; says = x.plan.says }; commit = x.commit; pending = x.pending } in
    let H : Advanced → Advanced = λ x. G ((first ++ action.Append (e ∷ []) ∷ []) ++ x.plan.actions) x in
    let start : it ≡ F (after n slice log) = made ∙ ap₂ (λ (xs : List Action) (ms : List Message). advanced ring me (part_after term (after n slice log) applied pairs) commit peers pending (record { actions = xs; messages = ms; says = says })) none none2 in
    let now : it ≡ F (log ++ e ∷ []) = start ∙ (ap (λ (xs : List Entry). F (after n xs log)) one ∙ ap (λ (xs : List Entry). F (xs ++ e ∷ [])) (take-all log n (sym whole))) in
    let acts : actions ≡ (first ++ action.Append (e ∷ []) ∷ []) ++ it.plan.actions = is ∙ ap (λ (xs : List Entry). (first ++ action.Append xs ∷ []) ++ it.plan.actions) two in
    ap (λ (xs : List Action). G xs it) acts ∙ ap H now
