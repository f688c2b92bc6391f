-- the engine follows: which transactions are prepared still
use Rattle.std.proofs.Common.{◌≡◌, ℕ, suc, append-nil, append_assoc, Result, Ok, Err, ◌&&◌, ◌||◌, Bool, true, false, nat_le, List, [], ◌∷◌, ◌++◌, Option, Some, None, refl, sym, ap, ap₂, ◌∙◌, arith}
use Rattle.std.specs.Prelude.{IfSome, IfOk}
use Rattle.std.proofs.lemmas.Bool.Decides.{nat_tests}
use Rattle.ring_types.specs.declared.entries.Opid.{Opid}
use Rattle.ring_types.specs.declared.entries.Pair.{Pair}
use Rattle.ring_types.specs.declared.entries.Entry.{Entry}
use Rattle.ring_types.specs.Logs.{entry_at, term_at, same_opid}
use Rattle.ring_model.specs.Actions.{is_prepared}
use Rattle.ring_model.specs.Steps.{prepare_entry, engine_actions}
use Rattle.ring_types.specs.declared.entries.Payload.{Payload}
use Rattle.ring_types.specs.declared.entries.Payload.TheVariants as payload
use Rattle.ring_model.specs.declared.effects.Action.{Action}
use Rattle.ring_model.specs.declared.effects.Action.TheVariants as action
use Rattle.ring_model.specs.declared.faults.CoreFault.{CoreFault}
use Rattle.ring_types.proofs.Positions.{term_at-found}
use Rattle.commit_pipeline.specs.Advances.{kept_pairs, pairs_after, named_pair, is_made}
use Rattle.commit_pipeline.specs.Placed.{IsPlaced}

-- an opid above the floor is not that of a pair up to it
dropped : (p : Pair) (o : Opid) (upto : ℕ) → nat_le p.opid.position upto ≡ false → same_opid p.opid o ≡ true → nat_le o.position upto ≡ false
dropped p o upto h same = grind (arith, nat_tests)

kept : (p : Pair) (o : Opid) (upto : ℕ) → nat_le p.opid.position upto ≡ true → same_opid p.opid o ≡ true → nat_le o.position upto ≡ true
kept p o upto h same = grind (arith, nat_tests)

step : (p : Pair) (pairs : List Pair) (o : Opid) (upto : ℕ) (low same : Bool) → nat_le p.opid.position upto ≡ low → same_opid p.opid o ≡ same
    → is_prepared (kept_pairs (Some upto) pairs) o ≡ (nat_le o.position upto && is_prepared pairs o)
    → is_prepared (kept_pairs (Some upto) (p ∷ pairs)) o ≡ (nat_le o.position upto && is_prepared (p ∷ pairs) o)
step p pairs o upto true true h k before = let up = kept p o upto h k in grind (arith, nat_tests)
step p pairs o upto true false h k before = grind (arith, nat_tests)
step p pairs o upto false true h k before = let up = dropped p o upto h k in grind (arith, nat_tests)
step p pairs o upto false false h k before = grind (arith, nat_tests)

pub kept_prepared : (pairs : List Pair) (upto : ℕ) (o : Opid) → is_prepared (kept_pairs (Some upto) pairs) o ≡ (nat_le o.position upto && is_prepared pairs o)
kept_prepared [] upto o = grind (arith, nat_tests)
kept_prepared (p ∷ pairs) upto o = step p pairs o upto (nat_le p.opid.position upto) (same_opid p.opid o) refl refl (kept_prepared pairs upto o)

-- ---- and the pair that the plan itself prepares
or_false : (b : Bool) → b ≡ (b || false)
or_false true = refl
or_false false = refl

or_assoc : (a b c : Bool) → (a || (b || c)) ≡ ((a || b) || c)
or_assoc true b c = refl
or_assoc false b c = refl

pub added_prepared : (pairs : List Pair) (q : Pair) (o : Opid) → is_prepared (pairs ++ q ∷ []) o ≡ (is_prepared pairs o || same_opid q.opid o)
added_prepared [] q o = sym (or_false (same_opid q.opid o))
added_prepared (p ∷ pairs) q o = ap (λ (b : Bool). same_opid p.opid o || b) (added_prepared pairs q o) ∙ or_assoc (same_opid p.opid o) (is_prepared pairs o) (same_opid q.opid o)

pub made_prepared : (pairs : List Pair) (upto : Option ℕ) (made : Option Opid) (o : Opid) → is_prepared (pairs_after upto made pairs) o ≡ (is_prepared (kept_pairs upto pairs) o || is_made made o)
made_prepared pairs upto None o = or_false (is_prepared (kept_pairs upto pairs) o)
made_prepared pairs upto (Some m) o = added_prepared (kept_pairs upto pairs) (named_pair m) o

-- ---- an entry is not read where a transaction of its opid is prepared
prepared_none : (pairs : List Pair) (e : Entry) → is_prepared pairs e.opid ≡ true → prepare_entry pairs (Some e) ≡ []
prepared_none pairs e h = go e.payload refl
  where
    go : (p : Payload) → e.payload ≡ p → prepare_entry pairs (Some e) ≡ []
    go payload.NoOp is = cc
    go payload.Rotate is = cc
    go (payload.Txn t) is = cc

unprepared : (pairs : List Pair) (e : Entry) → is_prepared pairs e.opid ≡ false → prepare_entry [] (Some e) ≡ prepare_entry pairs (Some e)
unprepared pairs e h = go e.payload refl
  where
    go : (p : Payload) → e.payload ≡ p → prepare_entry [] (Some e) ≡ prepare_entry pairs (Some e)
    go payload.NoOp is = cc
    go payload.Rotate is = cc
    go (payload.Txn t) is = cc

abbrev made_of : ℕ → ℕ → Opid
made_of t q = record { term = t; position = q }

named : (log : List Entry) (p : ℕ) (e : Entry) → IsPlaced log → entry_at log p ≡ Some e → record { term = term_at log p; position = p } ≡ e.opid
named log p e is_log h =
    let at : e.opid.position ≡ p = is_log p e h in
    let of : e.opid.term ≡ term_at log p = term_at-found log p e h in
    ap₂ made_of (sym of) (sym at)

none_there : (pairs : List Pair) (log : List Entry) (p : ℕ) (o : Option Entry) → IsPlaced log → entry_at log p ≡ o → is_prepared pairs (record { term = term_at log p; position = p }) ≡ true → [] ≡ prepare_entry pairs o
none_there pairs log p None is_log is h = refl
none_there pairs log p (Some e) is_log is h =
    sym (prepared_none pairs e (ap (is_prepared pairs) (sym (named log p e is_log is)) ∙ h))

pub stays : (told : Option (List Entry)) (pairs : List Pair) (p term : ℕ) (actions : List Action) → IfSome told (λ log. IsPlaced log) → IfSome told (λ log. term ≡ term_at log p)
    → is_prepared pairs (record { term = term; position = p }) ≡ true → IfSome told (λ log. actions ≡ actions ++ prepare_entry pairs (entry_at log p))
stays None pairs p term actions is_log is h = tt
stays (Some log) pairs p term actions is_log is h =
    let h2 : is_prepared pairs (record { term = term_at log p; position = p }) ≡ true = ap (λ (n : ℕ). is_prepared pairs (record { term = n; position = p })) (sym is) ∙ h in
    sym (append-nil actions) ∙ ap (λ (xs : List Action). actions ++ xs) (none_there pairs log p (entry_at log p) is_log refl h2)

pub comes : (told : Option (List Entry)) (pairs : List Pair) (p term : ℕ) (e : Entry) (actions : List Action) (result : Result (List Action) CoreFault)
    → IfSome told (λ log. IsPlaced log) → IfSome told (λ log. term ≡ term_at log p)
    → is_prepared pairs (record { term = term; position = p }) ≡ false → IfSome told (λ log. entry_at log p ≡ Some e)
    → IfOk result (λ it. it ≡ actions ++ prepare_entry [] (Some e)) → IfSome told (λ log. IfOk result (λ it. it ≡ actions ++ prepare_entry pairs (entry_at log p)))
comes None pairs p term e actions result is_log is h there made = tt
comes (Some log) pairs p term e actions (Err f) is_log is h there made = tt
comes (Some log) pairs p term e actions (Ok it) is_log is h there made =
    let name = named log p e is_log there in
    let h2 : is_prepared pairs e.opid ≡ false = ap (is_prepared pairs) (sym name) ∙ (ap (λ (n : ℕ). is_prepared pairs (record { term = n; position = p })) (sym is) ∙ h) in
    made ∙ ap (λ (xs : List Action). actions ++ xs) (unprepared pairs e h2 ∙ ap (prepare_entry pairs) (sym there))

-- ---- one position after the other
regrouped : (a b c d : List Action) → ((a ++ b) ++ c) ++ d ≡ a ++ (b ++ (c ++ d))
regrouped a b c d = simp append_assoc

more : (log : List Entry) (pairs : List Pair) (p q n m : ℕ) → n ≡ suc m → q ≡ suc p
    → engine_actions log pairs p n ≡ prepare_entry pairs (entry_at log q) ++ (action.Commit q ∷ engine_actions log pairs q m)
more log pairs p q n m e f = rw (e, f) refl

pub follows : (told : Option (List Entry)) (pairs : List Pair) (p q n m applied count : ℕ) (actions front next all : List Action) → n ≡ suc m → q ≡ suc p
    → IfSome told (λ log. next ≡ front ++ prepare_entry pairs (entry_at log q)) → all ≡ next ++ action.Commit q ∷ []
    → IfSome told (λ log. front ++ engine_actions log pairs p n ≡ actions ++ engine_actions log pairs applied count)
    → IfSome told (λ log. all ++ engine_actions log pairs q m ≡ actions ++ engine_actions log pairs applied count)
follows None pairs p q n m applied count actions front next all e f made pushed before = tt
follows (Some log) pairs p q n m applied count actions front next all e f made pushed before =
    let rest = engine_actions log pairs q m in
    let prepared = prepare_entry pairs (entry_at log q) in
    ap (λ (xs : List Action). xs ++ rest) (pushed ∙ ap (λ (xs : List Action). xs ++ action.Commit q ∷ []) made)
    ∙ (regrouped front prepared (action.Commit q ∷ []) rest
    ∙ (ap (λ (xs : List Action). front ++ xs) (sym (more log pairs p q n m e f)) ∙ before))
