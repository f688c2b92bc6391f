-- The engine: when the prepared pairs are those of a stretch above the applied count, and how the engine's own actions keep them so.
use Rattle.std.proofs.Common.{◌≡◌, ℕ, ◌+◌, ◌<◌, ◌≤◌, ◌==◌, [], ◌∷◌, ◌++◌, ◌∙◌, if◌then◌else◌, Bool, List, Option, Some, ap, arith, drop, false, inl, inr, length, refl, subst, suc, sym, true, zero}
use Rattle.std.proofs.lemmas.Bool.{cases_lt}
use Rattle.std.proofs.lemmas.Bool.Decides.{nat_tests}
use Rattle.std.specs.Prelude.{filter, nat_lt, slice_get}
use Rattle.std.specs.List.{Contains, list_any}
use Rattle.ring_types.specs.declared.entries.Entry.{Entry}
use Rattle.ring_types.specs.declared.entries.Pair.{Pair}
use Rattle.ring_types.specs.declared.entries.Payload.{Payload}
use Rattle.ring_types.specs.declared.entries.Payload.TheVariants as payload
use Rattle.ring_types.specs.Logs.{entry_at, has_opid, is_txn}
use Rattle.ring_model.specs.declared.effects.Action.{Action}
use Rattle.ring_model.specs.declared.effects.Action.TheVariants as action
use Rattle.ring_model.specs.declared.nodes.Durable.{Durable}
use Rattle.ring_model.specs.Actions.{FrontIs, FrontIsNot, MayCommitEntry, all_done, done, entries_between, is_held, is_prepared, is_txn_at, pair_of, pairs_in}
use Rattle.ring_model.specs.Nodes.{ArePairsAbove, kept_pairs}
use Rattle.ring_model.specs.Steps.{engine_actions, prepare_entry}
use Rattle.ring_lawful.proofs.Along.{Along, Allowed}
use Rattle.ring_model.proofs.Lists.{in_cons}
use Rattle.ring_types.specs.declared.values.Change.{Change}
use Rattle.ring_lawful.proofs.Pairs.{Placed, at_contains, between_at, filter_on, in_between, next_between, none_between, opid_in, prepared_in, prepared_out, within_some}

-- of the prepared pairs, those whose entry is in the log are those of a stretch above the applied count
abbrev pub HasPairs : Durable → Type 0
HasPairs d = ArePairsAbove d.log d.applied (kept_pairs d)

-- the prepared pairs are those of the stretch up to k
pub record Clean (d : Durable) (k : ℕ) : Type 0 where
  pub placed : Placed d.log
  pub applied : d.applied ≤ length d.log
  pub inside : k ≤ length d.log
  pub prepared : d.prepared ≡ pairs_in (entries_between d.log d.applied k)

pub kept_all : (log : List Entry) (a k : ℕ) → Placed log → filter (λ (p : Pair). has_opid log p.opid) (pairs_in (entries_between log a k)) ≡ pairs_in (entries_between log a k)
kept_all log a k placed = filter_on (has_opid log) (entries_between log a k) (λ e c. opid_in log e (at_contains log e.opid.position e (in_between log a k e placed c).0))

pub above : (log : List Entry) (a k : ℕ) → a ≤ length log → k ≤ length log → ArePairsAbove log a (pairs_in (entries_between log a k))
above log a k in_a in_k = elim (cases_lt k a) [
  | inl lt ↦ (a, omega arith, in_a, ap pairs_in (none_between log a k (omega arith) ∙ sym (none_between log a a (omega arith))))
  | inr ge ↦ (k, ge, in_k, refl)
]

pub clean_kept : (d : Durable) (k : ℕ) → Clean d k → kept_pairs d ≡ d.prepared
clean_kept d k c = ap (filter (λ (p : Pair). has_opid d.log p.opid)) c.prepared ∙ (kept_all d.log d.applied k c.placed ∙ sym c.prepared)

pub clean_above : (d : Durable) (k : ℕ) → Clean d k → ArePairsAbove d.log d.applied d.prepared
clean_above d k c = subst (ArePairsAbove d.log d.applied) (sym c.prepared) (above d.log d.applied k c.applied c.inside)

pub clean_has : (d : Durable) (k : ℕ) → Clean d k → HasPairs d
clean_has d k c = subst (ArePairsAbove d.log d.applied) (sym (clean_kept d k c)) (clean_above d k c)

-- when the engine may prepare and commit
abbrev pub Can : Durable → Action → Type 0
Can d (action.SetTerm term) = Unit {0}
Can d (action.Vote vote floor) = Unit {0}
Can d (action.Append entries) = Unit {0}
Can d (action.Truncate position) = Unit {0}
Can d (action.Prepare pair) = list_any (is_held d.prepared) pair.txn.changes ≡ false
Can d (action.Commit position) = (position ≡ d.applied + 1) × (position ≤ length d.log) × MayCommitEntry d.prepared position (entry_at d.log position)
Can d (action.RollBackAfter position) = Unit {0}
Can d (action.DropPairs opids) = Unit {0}

none_held : (changes : List Change) → list_any (is_held []) changes ≡ false
none_held [] = refl
none_held (c ∷ changes) = none_held changes

front_not : (xs : List Entry) (position : ℕ) → ((x : Entry) → Contains xs x → position < x.opid.position) → FrontIsNot (pairs_in xs) position
front_not [] position each = tt
front_not (x ∷ xs) position each = go x.payload refl (front_not xs position (λ y c. each y (in_cons x xs y c))) (each x (zero, omega arith, refl))
  where
    go : (b : Payload) → x.payload ≡ b → FrontIsNot (pairs_in xs) position → position < x.opid.position → FrontIsNot (pairs_in (x ∷ xs)) position
    go payload.NoOp y rest lt = rw y rest
    go payload.Rotate y rest lt = rw y rest
    go (payload.Txn t) y rest lt = rw y (grind (arith, nat_tests, lt))

entry_may : (pairs : List Pair) (position : ℕ) (e : Entry) (b : Bool) → is_txn e ≡ b → (b ≡ true → FrontIs pairs e) → (b ≡ false → FrontIsNot pairs position) → MayCommitEntry pairs position (Some e)
entry_may pairs position e true is front other = rw (is, MayCommitEntry) (front refl)
entry_may pairs position e false is front other = rw (is, MayCommitEntry) (other refl)

can_commit : (log : List Entry) (a : ℕ) (d : Durable) (e : Entry) → d.log ≡ log → d.applied ≡ a → a < length log → slice_get log a ≡ Some e → MayCommitEntry d.prepared (suc a) (Some e) → Can d (action.Commit (suc a))
can_commit log a d e l ap_is lt at may = (
  omega (arith, ap_is),
  subst (λ (w : List Entry). suc a ≤ length w) (sym l) (omega (arith, lt)),
  subst (λ (w : List Entry). MayCommitEntry d.prepared (suc a) (entry_at w (suc a))) (sym l) (subst (λ (o : Option Entry). MayCommitEntry d.prepared (suc a) o) (sym at) may),
)

-- what the engine's actions come to
pub record Follows (log : List Entry) (k c : ℕ) (d : Durable) (actions : List Action) : Type 0 where
  pub along : Along HasPairs d actions
  pub can : Allowed Can d actions
  pub same : (all_done d actions).log ≡ log
  pub applied : (all_done d actions).applied ≡ c
  pub prepared : (all_done d actions).prepared ≡ pairs_in (entries_between log c k)
  pub term : (all_done d actions).term ≡ d.term

committed_pairs : (log : List Entry) (a : ℕ) (d : Durable) (e : Entry) (b : Bool) → d.log ≡ log → slice_get log a ≡ Some e → is_txn e ≡ b → (done d (action.Commit (suc a))).prepared ≡ (if b then drop 1 d.prepared else d.prepared)
committed_pairs log a d e b l at t =
    let y : is_txn_at log (suc a) ≡ b = rw at t in
    let z : is_txn_at d.log (suc a) ≡ b = ap (λ (w : List Entry). is_txn_at w (suc a)) l ∙ y in rw z refl

plain_actions : (log : List Entry) (pairs : List Pair) (a n : ℕ) (e : Entry) → slice_get log a ≡ Some e → prepare_entry pairs (Some e) ≡ [] → engine_actions log pairs a (suc n) ≡ action.Commit (suc a) ∷ engine_actions log pairs (suc a) n
plain_actions log pairs a n e at none =
    ap (λ (o : Option Entry). prepare_entry pairs o ++ (action.Commit (suc a) ∷ engine_actions log pairs (suc a) n)) at ∙ ap (λ (s : List Action). s ++ (action.Commit (suc a) ∷ engine_actions log pairs (suc a) n)) none

preparing_actions : (log : List Entry) (pairs : List Pair) (a n : ℕ) (e : Entry) (p : Pair) → slice_get log a ≡ Some e → prepare_entry pairs (Some e) ≡ action.Prepare p ∷ []
    → engine_actions log pairs a (suc n) ≡ action.Prepare p ∷ action.Commit (suc a) ∷ engine_actions log pairs (suc a) n
preparing_actions log pairs a n e p at one =
    ap (λ (o : Option Entry). prepare_entry pairs o ++ (action.Commit (suc a) ∷ engine_actions log pairs (suc a) n)) at ∙ ap (λ (s : List Action). s ++ (action.Commit (suc a) ∷ engine_actions log pairs (suc a) n)) one

module _ (log : List Entry) (placed : Placed log) (low k : ℕ) (in_k : k ≤ length log) where
  -- a transaction's pair is prepared just where its place is up to k
  test_is : (a : ℕ) (e : Entry) (p : Pair) → low ≤ a → slice_get log a ≡ Some e → pair_of e ≡ Some p → is_prepared (pairs_in (entries_between log low k)) e.opid ≡ nat_lt a k
  test_is a e p le at is = elim (cases_lt a k) [
    | inl lt ↦ prepared_in (entries_between log low k) e p (between_at log low k a e le lt at) is ∙ (let z : nat_lt a k ≡ true = grind (arith, nat_tests) in sym z)
    | inr ge ↦ prepared_out (entries_between log low k) e.opid (λ x c.
        let y = in_between log low k x placed c in
        let q : e.opid.position ≡ suc a = placed (suc a) e at in
        (let differs : (x.opid.position == e.opid.position) ≡ false = grind (arith, nat_tests, y.2, q, ge) in grind (arith, nat_tests, differs))) ∙ (let z : nat_lt a k ≡ false = grind (arith, nat_tests) in sym z)
  ]

  clean_at : (a : ℕ) (d : Durable) → a ≤ length log → d.log ≡ log → d.applied ≡ a → d.prepared ≡ pairs_in (entries_between log a k) → Clean d k
  clean_at a d in_a l ap_is p = record {
    placed = subst Placed (sym l) placed;
    applied = subst (λ (w : List Entry). d.applied ≤ length w) (sym l) (omega (arith, ap_is));
    inside = subst (λ (w : List Entry). k ≤ length w) (sym l) in_k;
    prepared = p ∙ (ap (λ (w : List Entry). pairs_in (entries_between w a k)) (sym l) ∙ ap (λ (w : ℕ). pairs_in (entries_between d.log w k)) (sym ap_is));
  }

  -- what is left of the pairs once the entry at the next place is applied
  one_on : (a : ℕ) (d : Durable) (e : Entry) (b : Bool) → d.log ≡ log → slice_get log a ≡ Some e → is_txn e ≡ b → d.prepared ≡ pairs_in (entries_between log a k) → (b ≡ true → a < k)
      → (done d (action.Commit (suc a))).prepared ≡ pairs_in (entries_between log (suc a) k)
  one_on a d e true l at t p must =
      let lt : a < k = must refl in
      let s : pairs_in (entries_between log a k) ≡ pairs_in (e ∷ entries_between log (suc a) k) = ap pairs_in (next_between log a k e lt at) in
      committed_pairs log a d e true l at t ∙ (ap (drop 1) (p ∙ s) ∙ dropped e.payload refl t)
    where
      dropped : (b : Payload) → e.payload ≡ b → is_txn e ≡ true → drop 1 (pairs_in (e ∷ entries_between log (suc a) k)) ≡ pairs_in (entries_between log (suc a) k)
      dropped payload.NoOp y t = absurd (let z : is_txn e ≡ false = rw y refl in cc)
      dropped payload.Rotate y t = absurd (let z : is_txn e ≡ false = rw y refl in cc)
      dropped (payload.Txn x) y t = rw y refl
  one_on a d e false l at t p must = committed_pairs log a d e false l at t ∙ (p ∙ elim (cases_lt a k) [
    | inl lt ↦ ap pairs_in (next_between log a k e lt at) ∙ same e.payload refl t
    | inr ge ↦ ap pairs_in (none_between log a k ge ∙ sym (none_between log (suc a) k (omega arith)))
  ])
    where
      same : (b : Payload) → e.payload ≡ b → is_txn e ≡ false → pairs_in (e ∷ entries_between log (suc a) k) ≡ pairs_in (entries_between log (suc a) k)
      same payload.NoOp y t = rw y refl
      same payload.Rotate y t = rw y refl
      same (payload.Txn x) y t = absurd (let z : is_txn e ≡ true = rw y refl in cc)

  may_plain : (a : ℕ) (d : Durable) (e : Entry) (b : Bool) → slice_get log a ≡ Some e → is_txn e ≡ b → d.prepared ≡ pairs_in (entries_between log a k) → (b ≡ true → a < k) → MayCommitEntry d.prepared (suc a) (Some e)
  may_plain a d e true at t p must =
      let lt : a < k = must refl in
      let q : d.prepared ≡ pairs_in (e ∷ entries_between log (suc a) k) = p ∙ ap pairs_in (next_between log a k e lt at) in
      entry_may d.prepared (suc a) e true t (λ z. subst (λ (ps : List Pair). FrontIs ps e) (sym q) (first e.payload refl t)) (λ bad. absurd cc)
    where
      first : (b : Payload) → e.payload ≡ b → is_txn e ≡ true → FrontIs (pairs_in (e ∷ entries_between log (suc a) k)) e
      first payload.NoOp y t = absurd (let z : is_txn e ≡ false = rw y refl in cc)
      first payload.Rotate y t = absurd (let z : is_txn e ≡ false = rw y refl in cc)
      first (payload.Txn x) y t = rw y refl
  may_plain a d e false at t p must =
      let q : d.prepared ≡ pairs_in (entries_between log (suc a) k) = sym (one_prepared a d e at t) ∙ one_on a (record d { log = log }) e false refl at t p (λ bad. absurd cc) in
      entry_may d.prepared (suc a) e false t (λ bad. absurd cc) (λ z. subst (λ (ps : List Pair). FrontIsNot ps (suc a)) (sym q) (front_not (entries_between log (suc a) k) (suc a) (λ x c. (in_between log (suc a) k x placed c).1)))
    where
      one_prepared : (a : ℕ) (d : Durable) (e : Entry) → slice_get log a ≡ Some e → is_txn e ≡ false → (done (record d { log = log }) (action.Commit (suc a))).prepared ≡ d.prepared
      one_prepared a d e at t = committed_pairs log a (record d { log = log }) e false refl at t

  -- one place more, where the rest is known for what comes after it
  follow_one : (n a : ℕ) (d : Durable) (e : Entry) → slice_get log a ≡ Some e → low ≤ a → a + suc n ≤ length log → d.log ≡ log → d.applied ≡ a → d.prepared ≡ pairs_in (entries_between log a k)
      → ((done d (action.Commit (suc a))).prepared ≡ pairs_in (entries_between log (suc a) k) → Follows log k (suc a + n) (done d (action.Commit (suc a))) (engine_actions log (pairs_in (entries_between log low k)) (suc a) n))
      → ((x : Pair) → (done (done d (action.Prepare x)) (action.Commit (suc a))).prepared ≡ pairs_in (entries_between log (suc a) k)
      → Follows log k (suc a + n) (done (done d (action.Prepare x)) (action.Commit (suc a))) (engine_actions log (pairs_in (entries_between log low k)) (suc a) n))
      → Follows log k (a + suc n) d (engine_actions log (pairs_in (entries_between log low k)) a (suc n))
  follow_one n a d e at le in_n l ap_is p = go e.payload refl
    where
      here : HasPairs d
      here = clean_has d k (clean_at a d (omega (arith, in_n)) l ap_is p)

      sum : suc a + n ≡ a + suc n
      sum = omega arith

      plain : (b : Bool) → is_txn e ≡ b → (b ≡ true → a < k) → prepare_entry (pairs_in (entries_between log low k)) (Some e) ≡ []
          → ((done d (action.Commit (suc a))).prepared ≡ pairs_in (entries_between log (suc a) k) → Follows log k (suc a + n) (done d (action.Commit (suc a))) (engine_actions log (pairs_in (entries_between log low k)) (suc a) n))
          → Follows log k (a + suc n) d (engine_actions log (pairs_in (entries_between log low k)) a (suc n))
      plain b t must none rest =
          let x = rest (one_on a d e b l at t p must) in
          subst (λ (s : List Action). Follows log k (a + suc n) d s) (sym (plain_actions log (pairs_in (entries_between log low k)) a n e at none))
          (subst (λ (c : ℕ). Follows log k c d (action.Commit (suc a) ∷ engine_actions log (pairs_in (entries_between log low k)) (suc a) n)) sum
          (record { along = (here, x.along); can = (can_commit log a d e l ap_is (omega (arith, in_n)) at (may_plain a d e b at t p must), x.can); same = x.same; applied = x.applied; prepared = x.prepared; term = x.term }))

      go : (b : Payload) → e.payload ≡ b
          → ((done d (action.Commit (suc a))).prepared ≡ pairs_in (entries_between log (suc a) k) → Follows log k (suc a + n) (done d (action.Commit (suc a))) (engine_actions log (pairs_in (entries_between log low k)) (suc a) n))
          → ((x : Pair) → (done (done d (action.Prepare x)) (action.Commit (suc a))).prepared ≡ pairs_in (entries_between log (suc a) k)
          → Follows log k (suc a + n) (done (done d (action.Prepare x)) (action.Commit (suc a))) (engine_actions log (pairs_in (entries_between log low k)) (suc a) n))
          → Follows log k (a + suc n) d (engine_actions log (pairs_in (entries_between log low k)) a (suc n))
      go payload.NoOp y rest more = plain false (rw y refl) (λ bad. absurd cc) (rw y refl) rest
      go payload.Rotate y rest more = plain false (rw y refl) (λ bad. absurd cc) (rw y refl) rest
      go (payload.Txn t) y rest more = held (nat_lt a k) refl
        where
          pair_is : pair_of e ≡ Some (record { opid = e.opid; txn = t })
          pair_is = rw y refl

          test : is_prepared (pairs_in (entries_between log low k)) e.opid ≡ nat_lt a k
          test = test_is a e (record { opid = e.opid; txn = t }) le at pair_is

          held : (b : Bool) → nat_lt a k ≡ b → Follows log k (a + suc n) d (engine_actions log (pairs_in (entries_between log low k)) a (suc n))
          held true z = plain true (rw y refl) (λ same. grind (arith, nat_tests, z)) (let w : is_prepared (pairs_in (entries_between log low k)) e.opid ≡ true = test ∙ z in rw (y, w) refl) rest
          held false z =
              let ge : k ≤ a = grind (arith, nat_tests, z) in
              let one : prepare_entry (pairs_in (entries_between log low k)) (Some e) ≡ action.Prepare (record { opid = e.opid; txn = t }) ∷ [] = (let w : is_prepared (pairs_in (entries_between log low k)) e.opid ≡ false = test ∙ z in rw (y, w) refl) in
              let empty : d.prepared ≡ [] = p ∙ ap pairs_in (none_between log a k ge) in
              let m : Durable = done d (action.Prepare (record { opid = e.opid; txn = t })) in
              let single : m.prepared ≡ pairs_in (e ∷ []) = ap (λ (ps : List Pair). ps ++ (record { opid = e.opid; txn = t }) ∷ []) empty ∙ (rw y refl) in
              let stretch : entries_between log a (suc a) ≡ e ∷ [] = next_between log a (suc a) e (omega arith) at ∙ ap (λ (xs : List Entry). e ∷ xs) (none_between log (suc a) (suc a) (omega arith)) in
              let mid : Clean m (suc a) = record {
                placed = subst Placed (sym l) placed;
                applied = subst (λ (w : List Entry). d.applied ≤ length w) (sym l) (omega (arith, ap_is, in_n));
                inside = subst (λ (w : List Entry). suc a ≤ length w) (sym l) (omega (arith, in_n));
                prepared = single ∙ (ap pairs_in (sym stretch) ∙ (ap (λ (w : List Entry). pairs_in (entries_between w a (suc a))) (sym l) ∙ ap (λ (w : ℕ). pairs_in (entries_between d.log w (suc a))) (sym ap_is)));
              } in
              let after : (done m (action.Commit (suc a))).prepared ≡ pairs_in (entries_between log (suc a) k) =
              committed_pairs log a m e true l at (rw y refl) ∙ (ap (drop 1) single ∙ ((rw y refl) ∙ ap pairs_in (sym (none_between log (suc a) k (omega (arith, ge)))))) in
              let r = more (record { opid = e.opid; txn = t }) after in
              let held_none : list_any (is_held d.prepared) t.changes ≡ false = subst (λ (ps : List Pair). list_any (is_held ps) t.changes ≡ false) (sym empty) (none_held t.changes) in
              let alone : m.prepared ≡ (record { opid = e.opid; txn = t }) ∷ [] = ap (λ (ps : List Pair). ps ++ (record { opid = e.opid; txn = t }) ∷ []) empty in
              let front : FrontIs m.prepared e = subst (λ (ps : List Pair). FrontIs ps e) (sym alone) pair_is in
              subst (λ (s : List Action). Follows log k (a + suc n) d s) (sym (preparing_actions log (pairs_in (entries_between log low k)) a n e (record { opid = e.opid; txn = t }) at one))
              (subst (λ (c : ℕ). Follows log k c d (action.Prepare (record { opid = e.opid; txn = t }) ∷ action.Commit (suc a) ∷ engine_actions log (pairs_in (entries_between log low k)) (suc a) n)) sum
              (record { along = (here, (clean_has m (suc a) mid, r.along)); can = (held_none, (can_commit log a m e l ap_is (omega (arith, in_n)) at (entry_may m.prepared (suc a) e true (rw y refl) (λ z. front) (λ bad. absurd cc)), r.can)); same = r.same; applied = r.applied; prepared = r.prepared; term = r.term }))

  pub follows : (n a : ℕ) (d : Durable) → low ≤ a → a + n ≤ length log → d.log ≡ log → d.applied ≡ a → d.prepared ≡ pairs_in (entries_between log a k)
      → Follows log k (a + n) d (engine_actions log (pairs_in (entries_between log low k)) a n)
  follows zero a d le in_n l ap_is p =
      let z : a + 0 ≡ a = omega arith in
      subst (λ (c : ℕ). Follows log k c d []) (sym z) (record { along = clean_has d k (clean_at a d (omega (arith, in_n)) l ap_is p); can = tt; same = l; applied = ap_is; prepared = p; term = refl })
  follows (suc n) a d le in_n l ap_is p =
      let found = within_some log a (omega (arith, in_n)) in
      follow_one n a d found.0 found.1 le in_n l ap_is p (follows n (suc a) (done d (action.Commit (suc a))) (omega (arith, le)) (omega (arith, in_n)) l refl)
      (λ b q. follows n (suc a) (done (done d (action.Prepare b)) (action.Commit (suc a))) (omega (arith, le)) (omega (arith, in_n)) l refl q)
