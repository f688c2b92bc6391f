-- The front pair is the transaction of the log's next entry, at its place, so an engine that applies the front pair needs no log.
use Rattle.std.proofs.Common.{◌≡◌, ℕ, zero, suc, ◌≤◌, ◌==◌, Bool, true, false, List, [], ◌∷◌, ◌++◌, length, take, drop, Option, Some, None, refl, sym, ◌∙◌, ap, arith}
use Rattle.std.proofs.lemmas.Bool.Decides.{nat_tests}
use Rattle.std.proofs.lemmas.List.{take-append-le, take-take}
use Rattle.std.specs.Prelude.{slice_get, if◌then◌else◌}
use Rattle.ring_types.specs.declared.entries.Entry.{Entry}
use Rattle.ring_types.specs.declared.entries.Pair.{Pair}
use Rattle.ring_types.specs.declared.entries.Opid.{Opid}
use Rattle.ring_types.specs.declared.entries.Payload.{Payload}
use Rattle.ring_types.specs.declared.entries.Payload.TheVariants as payload
use Rattle.ring_types.specs.declared.schemas.Schema.{Schema}
use Rattle.ring_types.specs.Logs.{IsLog, entry_at, is_txn}
use Rattle.ring_types.specs.Rows.{Tables, rows, rows_from, after_payload, empty_tables, applied}
use Rattle.ring_model.specs.Actions.{done, pair_of, IsPossible, MayCommitEntry, FrontIs, FrontIsNot}
use Rattle.ring_model.specs.declared.nodes.Durable.{Durable}
use Rattle.ring_model.specs.declared.effects.Action.{Action}
use Rattle.ring_model.specs.declared.effects.Action.TheVariants as action
use Rattle.prepared_txns.specs.Engines.{EngineState, committed, engine_done, engine_of}

rows_from-push : (schema : Schema) (tables : Tables) (xs : List Entry) (e : Entry)
    → rows_from schema tables (xs ++ e ∷ []) ≡ after_payload schema (rows_from schema tables xs) e.payload
rows_from-push schema tables [] e = refl
rows_from-push schema tables (x ∷ xs) e = rows_from-push schema (after_payload schema tables x.payload) xs e

take_one_more : {X : Type 0} (xs : List X) (k : ℕ) (x : X) → slice_get xs k ≡ Some x → take (suc k) xs ≡ take k xs ++ x ∷ []
take_one_more [] k x is = absurd cc
take_one_more (y ∷ ys) zero x is = let e : y ≡ x = cc in cc
take_one_more (y ∷ ys) (suc k) x is = ap (λ zs. y ∷ zs) (take_one_more ys k x is)

rows_next : (schema : Schema) (log : List Entry) (a : ℕ) (e : Entry) → slice_get log a ≡ Some e
    → rows schema (take (suc a) log) ≡ after_payload schema (rows schema (take a log)) e.payload
unfolding rows
rows_next schema log a e at = rw (take_one_more log a e at) (rows_from-push schema (empty_tables schema) (take a log) e)

-- ---- a commit
same_engine : (a b : EngineState) → a.applied ≡ b.applied → a.prepared ≡ b.prepared → a.rows ≡ b.rows → a ≡ b
same_engine a b x y z =
    let f : ℕ → List Pair → Tables → EngineState = λ p q r. record { applied = p; prepared = q; rows = r } in
    ap (λ (p : ℕ). f p a.prepared a.rows) x ∙ (ap (λ (q : List Pair). f b.applied q a.rows) y ∙ ap (λ (r : Tables). f b.applied b.prepared r) z)

-- the entry of a front pair is its transaction, at its place
front_payload : (e : Entry) (p : Pair) → pair_of e ≡ Some p → (e.payload ≡ payload.Txn p.txn) × (e.opid ≡ p.opid)
front_payload e p is = go e.payload refl
  where
    go : (x : Payload) → e.payload ≡ x → (e.payload ≡ payload.Txn p.txn) × (e.opid ≡ p.opid)
    go payload.NoOp at = absurd (let z : pair_of e ≡ None = rw at refl in let w = sym z ∙ is in cc)
    go payload.Rotate at = absurd (let z : pair_of e ≡ None = rw at refl in let w = sym z ∙ is in cc)
    go (payload.Txn t) at =
        let z : pair_of e ≡ Some (record { opid = e.opid; txn = t }) = rw at refl in
        let w : record { opid = e.opid; txn = t } ≡ p = let v = sym z ∙ is in cc in
        (at ∙ ap (λ (q : Pair). payload.Txn q.txn) w, ap (λ (q : Pair). q.opid) w)

-- an entry that is no transaction leaves the tables
not_txn : (schema : Schema) (t : Tables) (e : Entry) → is_txn e ≡ false → after_payload schema t e.payload ≡ t
not_txn schema t e is = go e.payload refl
  where
    go : (x : Payload) → e.payload ≡ x → after_payload schema t e.payload ≡ t
    go payload.NoOp at = rw at refl
    go payload.Rotate at = rw at refl
    go (payload.Txn u) at = absurd (let z : is_txn e ≡ true = rw at refl in let w = sym z ∙ is in cc)

txn_rows : (schema : Schema) (t : Tables) (e : Entry) (p : Pair) → pair_of e ≡ Some p → after_payload schema t e.payload ≡ applied schema t p.txn.changes
txn_rows schema t e p is = ap (after_payload schema t) (front_payload e p is).0

abbrev engine : ℕ → List Pair → Tables → EngineState
engine a p t = record { applied = a; prepared = p; rows = t }

commit_txn : (schema : Schema) (a : ℕ) (t : Tables) (pairs : List Pair) (e : Entry) → e.opid.position ≡ suc a → FrontIs pairs e
    → committed schema (engine a pairs t) (suc a) pairs ≡ engine (suc a) (drop 1 pairs) (after_payload schema t e.payload)
commit_txn schema a t [] e at front = absurd front
commit_txn schema a t (p ∷ pairs) e at front =
    let here : (p.opid.position == suc a) ≡ true = let o = ap (λ (o : Opid). o.position) (front_payload e p front).1 in grind (arith, nat_tests) in
    rw here (rw (txn_rows schema t e p front) refl)

commit_other : (schema : Schema) (a : ℕ) (t : Tables) (pairs : List Pair) (e : Entry) → is_txn e ≡ false → FrontIsNot pairs (suc a)
    → committed schema (engine a pairs t) (suc a) pairs ≡ engine (suc a) pairs (after_payload schema t e.payload)
commit_other schema a t [] e is front = rw (not_txn schema t e is) refl
commit_other schema a t (p ∷ pairs) e is front = rw front (rw (not_txn schema t e is) refl)

commit_case : (schema : Schema) (a : ℕ) (t : Tables) (pairs : List Pair) (e : Entry) → e.opid.position ≡ suc a → MayCommitEntry pairs (suc a) (Some e)
    → committed schema (engine a pairs t) (suc a) pairs ≡ engine (suc a) (if is_txn e then drop 1 pairs else pairs) (after_payload schema t e.payload)
commit_case schema a t pairs e at may = go (is_txn e) refl
  where
    go : (b : Bool) → is_txn e ≡ b → committed schema (engine a pairs t) (suc a) pairs
        ≡ engine (suc a) (if is_txn e then drop 1 pairs else pairs) (after_payload schema t e.payload)
    go true is = let m = rw (is, MayCommitEntry) at may in rw is (commit_txn schema a t pairs e at m)
    go false is = let m = rw (is, MayCommitEntry) at may in rw is (commit_other schema a t pairs e is m)

commit_at : (schema : Schema) (d : Durable) → IsLog d.log → (o : Option Entry) → slice_get d.log d.applied ≡ o → MayCommitEntry d.prepared (suc d.applied) o
    → committed schema (engine_of schema d) (suc d.applied) d.prepared ≡ engine_of schema (done d (action.Commit (suc d.applied)))
commit_at schema d is_log None at may = absurd may
commit_at schema d is_log (Some e) at may =
    let place : e.opid.position ≡ suc d.applied = is_log.placed (suc d.applied) e at in
    let next = rows_next schema d.log d.applied e at in
    let made = commit_case schema d.applied (rows schema (take d.applied d.log)) d.prepared e place may in
    made ∙ same_engine _ (engine_of schema (done d (action.Commit (suc d.applied)))) refl (rw at refl) (sym next)

pub engine_follows : (schema : Schema) (d : Durable) (a : Action) → IsLog d.log → d.applied ≤ length d.log → IsPossible schema d a
    → engine_done schema (engine_of schema d) a ≡ engine_of schema (done d a)
engine_follows schema d (action.SetTerm t) is_log inside may = refl
engine_follows schema d (action.Vote v f) is_log inside may = refl
engine_follows schema d (action.Append es) is_log inside may = same_engine _ _ refl refl (ap (rows schema) (sym (take-append-le d.applied d.log es inside)))
engine_follows schema d (action.Truncate p) is_log inside may = same_engine _ _ refl refl (ap (rows schema) (sym (take-take d.applied p d.log may.0)))
engine_follows schema d (action.Prepare pair) is_log inside may = refl
engine_follows schema d (action.Commit position) is_log inside may = go position (may.0 ∙ omega arith) may.2
  where
    go : (p : ℕ) → p ≡ suc d.applied → MayCommitEntry d.prepared p (entry_at d.log p)
        → engine_done schema (engine_of schema d) (action.Commit p) ≡ engine_of schema (done d (action.Commit p))
    go p is m = let m' = rw is at m in rw is (commit_at schema d is_log (slice_get d.log d.applied) refl m')
engine_follows schema d (action.RollBackAfter p) is_log inside may = refl
engine_follows schema d (action.DropPairs os) is_log inside may = refl
