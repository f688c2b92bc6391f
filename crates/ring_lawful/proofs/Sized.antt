-- Sizes and votes: terms, positions and groups stay within their limits, and kept votes rise; what allows each action keeps them so.
use Rattle.std.proofs.lemmas.List.{length_push}
use Rattle.std.proofs.Common.{◌≡◌, ℕ, ◌+◌, ◌-◌, ◌<◌, ◌≤◌, ◌==◌, ◌&&◌, [], ◌∷◌, ◌++◌, ◌∙◌, if◌then◌else◌, Bool, List, None, Option, Some, ap, arith, drop, false, length, refl, subst, suc, sym, take, true, zero}
use Rattle.std.proofs.lemmas.Bool.Decides.{nat_tests}
use Rattle.std.proofs.lemmas.List.Recursion.{is_count_by}
use Rattle.std.specs.Prelude.{filter, map, nat_le, nat_lt}
use Rattle.std.specs.List.{list_all}
use Rattle.std.specs.List.Sorted.{IsStrictlyIncreasing}
use Rattle.ring_types.specs.declared.limits.TheConstants.{LAST_FILE, TERM_END}
use Rattle.ring_types.specs.declared.entries.Entry.{Entry}
use Rattle.ring_types.specs.declared.entries.Pair.{Pair}
use Rattle.ring_types.specs.declared.entries.Vote.{Vote}
use Rattle.ring_types.specs.Rings.{Layout, runs_engine}
use Rattle.ring_types.specs.Logs.{entry_at, is_rotate, rotates}
use Rattle.ring_types.specs.Sizes.{group_bytes, group_limit}
use Rattle.ring_model.specs.declared.effects.Action.{Action}
use Rattle.ring_model.specs.declared.effects.Action.TheVariants as action
use Rattle.ring_model.specs.declared.messages.Body.{Body}
use Rattle.ring_model.specs.declared.messages.Body.TheVariants as body
use Rattle.ring_model.specs.declared.messages.Message.{Message}
use Rattle.ring_model.specs.declared.nodes.Durable.{Durable}
use Rattle.ring_model.specs.Actions.{all_done, done, has_room, is_prepared, pair_of, vote_in, votes_above}
use Rattle.ring_model.specs.Steps.{engine_actions, follow_actions, prepare_entry}
use Rattle.ring_types.proofs.Booleans.{both_true}
use Rattle.ring_model.proofs.Lists.{all_of}
use Rattle.ring_lawful.proofs.Along.{Allowed, allowed_join}
use Rattle.ring_lawful.proofs.Pairs.{at_contains}
use Rattle.ring_types.specs.declared.entries.Payload.{Payload}
use Rattle.ring_types.specs.declared.entries.Payload.TheVariants as payload
use Rattle.ring_types.specs.declared.values.Txn.{Txn}
use Rattle.ring_types.specs.Rows.{payload_fits}

abbrev pub entry_fits : Layout → Entry → Bool
entry_fits ring e = nat_le (group_bytes ring.schema e.payload) group_limit && nat_lt e.opid.position TERM_END && payload_fits ring.schema e.payload

-- how many entries end a file, from the first on
abbrev pub turns : List Entry → ℕ
turns [] = 0
turns (e ∷ log) = if is_rotate e then 1 + turns log else turns log

pub rotates_is : (log : List Entry) → rotates log ≡ turns log
rotates_is log = sym (is_count_by turns is_rotate refl (λ x xs. refl) log)

-- each vote is of a term below all later ones
abbrev pub Rising : List Vote → Type 0
Rising [] = Unit {0}
Rising (v ∷ votes) = (list_all (λ (w : Vote). nat_lt v.term w.term) votes ≡ true) × Rising votes

pub record Sized (ring : Layout) (d : Durable) : Type 0 where
  pub term : d.term < TERM_END
  pub entries : list_all (entry_fits ring) d.log ≡ true
  pub files : turns d.log ≤ LAST_FILE - 1
  pub few : length d.votes ≤ 1024
  pub rise : Rising d.votes
  pub below : list_all (λ (v : Vote). nat_le v.term d.term) d.votes ≡ true

-- what allows an action
abbrev pub May : Layout → Durable → Action → Type 0
May ring d (action.SetTerm t) = (d.term < t) × (t < TERM_END)
May ring d (action.Vote v floor) = (has_room floor d.votes ≡ true) × (v.term ≡ d.term) × (vote_in d.votes d.term ≡ None)
May ring d (action.Append es) = (list_all (entry_fits ring) es ≡ true) × (turns d.log + turns es ≤ LAST_FILE - 1)
May ring d (action.Truncate p) = p ≤ length d.log
May ring d (action.Prepare p) = (payload_fits ring.schema (payload.Txn p.txn) ≡ true) × (group_bytes ring.schema (payload.Txn p.txn) ≤ group_limit)
May ring d (action.Commit p) = Unit {0}
May ring d (action.RollBackAfter p) = Unit {0}
May ring d (action.DropPairs opids) = Unit {0}

-- ---- lists
pub all_weaker : {X : Type 0} (p q : X → Bool) (xs : List X) → ((x : X) → p x ≡ true → q x ≡ true) → list_all p xs ≡ true → list_all q xs ≡ true
all_weaker p q [] weaker t = refl
all_weaker p q (x ∷ xs) weaker t = let z = both_true (p x) (list_all p xs) t in let y = weaker x z.0 in rw y (all_weaker p q xs weaker z.1)

pub all_take : {X : Type 0} (p : X → Bool) (n : ℕ) (xs : List X) → list_all p xs ≡ true → list_all p (take n xs) ≡ true
all_take p zero xs t = refl
all_take p (suc n) [] t = refl
all_take p (suc n) (x ∷ xs) t = let z = both_true (p x) (list_all p xs) t in let y = z.0 in rw y (all_take p n xs z.1)

pub all_drop : {X : Type 0} (p : X → Bool) (n : ℕ) (xs : List X) → list_all p xs ≡ true → list_all p (drop n xs) ≡ true
all_drop p zero xs t = t
all_drop p (suc n) [] t = refl
all_drop p (suc n) (x ∷ xs) t = all_drop p n xs (both_true (p x) (list_all p xs) t).1

pub all_join : {X : Type 0} (p : X → Bool) (xs ys : List X) → list_all p xs ≡ true → list_all p ys ≡ true → list_all p (xs ++ ys) ≡ true
all_join p [] ys a b = b
all_join p (x ∷ xs) ys a b = let z = both_true (p x) (list_all p xs) a in let y = z.0 in rw y (all_join p xs ys z.1 b)

pub all_filter : {X : Type 0} (p q : X → Bool) (xs : List X) → list_all p xs ≡ true → list_all p (filter q xs) ≡ true
all_filter p q [] t = refl
all_filter p q (x ∷ xs) t = go (q x) refl (both_true (p x) (list_all p xs) t).0 (all_filter p q xs (both_true (p x) (list_all p xs) t).1)
  where
    go : (b : Bool) → q x ≡ b → p x ≡ true → list_all p (filter q xs) ≡ true → list_all p (filter q (x ∷ xs)) ≡ true
    go true is here rest = rw (is, here) rest
    go false is here rest = rw is rest

pub turns_join : (xs ys : List Entry) → turns (xs ++ ys) ≡ turns xs + turns ys
turns_join [] ys = omega arith
turns_join (x ∷ xs) ys = go (is_rotate x) refl (turns_join xs ys)
  where
    go : (b : Bool) → is_rotate x ≡ b → turns (xs ++ ys) ≡ turns xs + turns ys → turns (x ∷ (xs ++ ys)) ≡ turns (x ∷ xs) + turns ys
    go true is rest = rw is (omega (arith, rest))
    go false is rest = rw is rest

pub turns_take : (n : ℕ) (xs : List Entry) → turns (take n xs) ≤ turns xs
turns_take zero xs = omega arith
turns_take (suc n) [] = omega arith
turns_take (suc n) (x ∷ xs) = go (is_rotate x) refl (turns_take n xs)
  where
    go : (b : Bool) → is_rotate x ≡ b → turns (take n xs) ≤ turns xs → turns (x ∷ take n xs) ≤ turns (x ∷ xs)
    go true is rest = rw is (omega (arith, rest))
    go false is rest = rw is rest

-- ---- votes
rising_filter : (q : Vote → Bool) (votes : List Vote) → Rising votes → Rising (filter q votes)
rising_filter q [] r = tt
rising_filter q (v ∷ votes) r = go (q v) refl (rising_filter q votes r.1) (all_filter (λ (w : Vote). nat_lt v.term w.term) q votes r.0)
  where
    go : (b : Bool) → q v ≡ b → Rising (filter q votes) → list_all (λ (w : Vote). nat_lt v.term w.term) (filter q votes) ≡ true → Rising (filter q (v ∷ votes))
    go true is rest above = rw is (above, rest)
    go false is rest above = rw is rest

rising_push : (votes : List Vote) (v : Vote) → Rising votes → list_all (λ (w : Vote). nat_lt w.term v.term) votes ≡ true → Rising (votes ++ v ∷ [])
rising_push [] v r low = (refl, tt)
rising_push (w ∷ votes) v r low =
    let z = both_true (nat_lt w.term v.term) (list_all (λ (w : Vote). nat_lt w.term v.term) votes) low in
    let here = z.0 in
    (all_join (λ (u : Vote). nat_lt w.term u.term) votes (v ∷ []) r.0 (rw here refl), rising_push votes v r.1 z.1)

none_in : (votes : List Vote) (t : ℕ) → vote_in votes t ≡ None → list_all (λ (w : Vote). nat_le w.term t) votes ≡ true
    → list_all (λ (w : Vote). nat_lt w.term t) votes ≡ true
none_in [] t is low = refl
none_in (w ∷ votes) t is low = go (w.term == t) refl is (both_true (nat_le w.term t) (list_all (λ (w : Vote). nat_le w.term t) votes) low)
    (λ rest. none_in votes t rest (both_true (nat_le w.term t) (list_all (λ (w : Vote). nat_le w.term t) votes) low).1)
  where
    go : (b : Bool) → (w.term == t) ≡ b → vote_in (w ∷ votes) t ≡ None → (nat_le w.term t ≡ true) × (list_all (λ (w : Vote). nat_le w.term t) votes ≡ true)
        → (vote_in votes t ≡ None → list_all (λ (w : Vote). nat_lt w.term t) votes ≡ true) → list_all (λ (w : Vote). nat_lt w.term t) (w ∷ votes) ≡ true
    go true x is low more = absurd (let u = rw x at is in cc)
    go false x is low more = let here : nat_lt w.term t ≡ true = grind (arith, nat_tests, x, low.0) in rw here (more (let u = rw x at is in u))

-- no vote is of a later term
pub none_later : (votes : List Vote) (t u : ℕ) → t < u → list_all (λ (w : Vote). nat_le w.term t) votes ≡ true → vote_in votes u ≡ None
none_later [] t u lt low = refl
none_later (w ∷ votes) t u lt low =
    let z = both_true (nat_le w.term t) (list_all (λ (w : Vote). nat_le w.term t) votes) low in
    let differs : (w.term == u) ≡ false = grind (arith, nat_tests, z.0, lt) in
    rw differs (none_later votes t u lt z.1)

pub increasing : (votes : List Vote) → Rising votes → IsStrictlyIncreasing (map (λ (v : Vote). v.term) votes)
increasing [] r k lt = absurd (omega arith)
increasing (v ∷ []) r k lt = absurd (omega arith)
increasing (v ∷ w ∷ votes) r zero lt =
    let z = both_true (nat_lt v.term w.term) (list_all (λ (w : Vote). nat_lt v.term w.term) votes) r.0 in grind (arith, nat_tests, z.0)
increasing (v ∷ w ∷ votes) r (suc k) lt = let z : suc k + 1 ≡ suc (k + 1) = omega arith in let y = increasing (w ∷ votes) r.1 k (omega (arith, lt)) in rw z y

-- ---- each action
pub sized_at : (ring : Layout) (d e : Durable) → e.term ≡ d.term → e.votes ≡ d.votes → e.log ≡ d.log → Sized ring d → Sized ring e
sized_at ring d e t v l x = record {
  term = subst (λ (n : ℕ). n < TERM_END) (sym t) x.term;
  entries = ap (list_all (entry_fits ring)) l ∙ x.entries;
  files = subst (λ (w : List Entry). turns w ≤ LAST_FILE - 1) (sym l) x.files;
  few = subst (λ (w : List Vote). length w ≤ 1024) (sym v) x.few;
  rise = subst Rising (sym v) x.rise;
  below = subst (λ (n : ℕ). list_all (λ (w : Vote). nat_le w.term n) e.votes ≡ true) (sym t)
      (subst (λ (ws : List Vote). list_all (λ (w : Vote). nat_le w.term d.term) ws ≡ true) (sym v) x.below);
}

pub sized_one : (ring : Layout) (d : Durable) (a : Action) → May ring d a → Sized ring d → Sized ring (done d a)
sized_one ring d (action.SetTerm t) m x = record {
  term = m.1;
  entries = x.entries;
  files = x.files;
  few = x.few;
  rise = x.rise;
  below = all_weaker (λ (w : Vote). nat_le w.term d.term) (λ (w : Vote). nat_le w.term t) d.votes
      (λ w is. let lt = m.0 in grind (arith, nat_tests, is, lt)) x.below;
}
sized_one ring d (action.Vote v floor) m x =
    let low = none_in d.votes d.term m.2 x.below in
    let is = m.1 in
    let high : list_all (λ (w : Vote). nat_lt w.term v.term) (votes_above floor d.votes) ≡ true =
    all_filter (λ (w : Vote). nat_lt w.term v.term) (λ (w : Vote). nat_lt floor w.term) d.votes
    (subst (λ (t : ℕ). list_all (λ (w : Vote). nat_lt w.term t) d.votes ≡ true) (sym is) low) in
    let one : list_all (λ (w : Vote). nat_le w.term d.term) (v ∷ []) ≡ true =
    (let z : nat_le v.term d.term ≡ true = grind (arith, nat_tests, is) in rw z refl) in
    record {
      term = x.term;
      entries = x.entries;
      files = x.files;
      few = (let n = length_push (votes_above floor d.votes) v in let room : length (votes_above floor d.votes) < 1024 = (let r = m.0 in grind (arith, nat_tests, r)) in omega (arith, n, room));
      rise = rising_push (votes_above floor d.votes) v (rising_filter (λ (w : Vote). nat_lt floor w.term) d.votes x.rise) high;
      below = all_join (λ (w : Vote). nat_le w.term d.term) (votes_above floor d.votes) (v ∷ [])
          (all_filter (λ (w : Vote). nat_le w.term d.term) (λ (w : Vote). nat_lt floor w.term) d.votes x.below) one;
    }
sized_one ring d (action.Append es) m x = record {
  term = x.term;
  entries = all_join (entry_fits ring) d.log es x.entries m.0;
  files = (let j = turns_join d.log es in let n = m.1 in omega (arith, j, n));
  few = x.few;
  rise = x.rise;
  below = x.below;
}
sized_one ring d (action.Truncate p) m x = record {
  term = x.term;
  entries = all_take (entry_fits ring) p d.log x.entries;
  files = (let j = turns_take p d.log in let n = x.files in omega (arith, j, n));
  few = x.few;
  rise = x.rise;
  below = x.below;
}
sized_one ring d (action.Prepare p) m x = sized_at ring d (done d (action.Prepare p)) refl refl refl x
sized_one ring d (action.Commit p) m x = sized_at ring d (done d (action.Commit p)) refl refl refl x
sized_one ring d (action.RollBackAfter p) m x = sized_at ring d (done d (action.RollBackAfter p)) refl refl refl x
sized_one ring d (action.DropPairs opids) m x = sized_at ring d (done d (action.DropPairs opids)) refl refl refl x

-- ---- the engine's actions are allowed where the log's entries fit
pub fit_parts : (ring : Layout) (e : Entry) → entry_fits ring e ≡ true
    → (nat_le (group_bytes ring.schema e.payload) group_limit ≡ true) × (nat_lt e.opid.position TERM_END ≡ true) × (payload_fits ring.schema e.payload ≡ true)
fit_parts ring e fit =
    let a = both_true (nat_le (group_bytes ring.schema e.payload) group_limit && nat_lt e.opid.position TERM_END) (payload_fits ring.schema e.payload) fit in
    let b = both_true (nat_le (group_bytes ring.schema e.payload) group_limit) (nat_lt e.opid.position TERM_END) a.0 in
    (b.0, b.1, a.1)

pair_fits : (ring : Layout) (e : Entry) (p : Pair) → entry_fits ring e ≡ true → pair_of e ≡ Some p
    → (payload_fits ring.schema (payload.Txn p.txn) ≡ true) × (group_bytes ring.schema (payload.Txn p.txn) ≤ group_limit)
pair_fits ring e p fit has = go e.payload refl has
  where
    low : (n : ℕ) → nat_le n group_limit ≡ true → n ≤ group_limit
    low n x = grind (arith, nat_tests, x)

    one : (t : Txn) → e.payload ≡ payload.Txn t → (payload_fits ring.schema (payload.Txn t) ≡ true) × (group_bytes ring.schema (payload.Txn t) ≤ group_limit)
    one t is =
        let parts = fit_parts ring e fit in (
          subst (λ (p : Payload). payload_fits ring.schema p ≡ true) is parts.2,
          low (group_bytes ring.schema (payload.Txn t)) (subst (λ (p : Payload). nat_le (group_bytes ring.schema p) group_limit ≡ true) is parts.0),
        )

    go : (b : Payload) → e.payload ≡ b → pair_of e ≡ Some p
        → (payload_fits ring.schema (payload.Txn p.txn) ≡ true) × (group_bytes ring.schema (payload.Txn p.txn) ≤ group_limit)
    go payload.NoOp is has = absurd (let z : pair_of e ≡ None = rw is refl in cc)
    go payload.Rotate is has = absurd (let z : pair_of e ≡ None = rw is refl in cc)
    go (payload.Txn t) is has =
        let z : pair_of e ≡ Some (record { opid = e.opid; txn = t }) = rw is refl in
        let same : record { opid = e.opid; txn = t } ≡ p = (let w : Some (record { opid = e.opid; txn = t }) ≡ Some p = sym z ∙ has in cc) in
        subst (λ (q : Pair). (payload_fits ring.schema (payload.Txn q.txn) ≡ true) × (group_bytes ring.schema (payload.Txn q.txn) ≤ group_limit)) same
        (one t is)

prepare_fits : (ring : Layout) (d : Durable) (pairs : List Pair) (e : Entry) → entry_fits ring e ≡ true → Allowed (May ring) d (prepare_entry pairs (Some e))
prepare_fits ring d pairs e fit = go (pair_of e) refl (is_prepared pairs e.opid)
  where
    go : (a : Option Pair) → pair_of e ≡ a → (c : Bool) → Allowed (May ring) d (elim a [ None ↦ [] | Some p ↦ if c then [] else action.Prepare p ∷ [] ])
    go None is c = tt
    go (Some p) is true = tt
    go (Some p) is false = (pair_fits ring e p fit is, tt)

prepare_may : (ring : Layout) (d : Durable) (pairs : List Pair) (l : List Entry) (k : ℕ) → list_all (entry_fits ring) l ≡ true
    → Allowed (May ring) d (prepare_entry pairs (entry_at l k))
prepare_may ring d pairs l k fit = go (entry_at l k) refl
  where
    go : (o : Option Entry) → entry_at l k ≡ o → Allowed (May ring) d (prepare_entry pairs o)
    go None is = tt
    go (Some e) is = prepare_fits ring d pairs e (all_of (entry_fits ring) l e fit (at_contains l k e is))

engine_may : (ring : Layout) (n a : ℕ) (d : Durable) (l : List Entry) (pairs : List Pair) → list_all (entry_fits ring) l ≡ true
    → Allowed (May ring) d (engine_actions l pairs a n)
engine_may ring zero a d l pairs fit = tt
engine_may ring (suc n) a d l pairs fit =
    allowed_join (May ring) d (prepare_entry pairs (entry_at l (suc a))) (action.Commit (suc a) ∷ engine_actions l pairs (suc a) n)
    (prepare_may ring d pairs l (suc a) fit)
    (tt, engine_may ring n (suc a) (done (all_done d (prepare_entry pairs (entry_at l (suc a)))) (action.Commit (suc a))) l pairs fit)

pub follow_may : (ring : Layout) (me : ℕ) (d : Durable) (c : ℕ) → list_all (entry_fits ring) d.log ≡ true → Allowed (May ring) d (follow_actions ring me d c)
follow_may ring me d c fit = go (runs_engine ring me)
  where
    go : (b : Bool) → Allowed (May ring) d (if b then engine_actions d.log d.prepared d.applied (c - d.applied) else [])
    go true = engine_may ring (c - d.applied) d.applied d d.log d.prepared fit
    go false = tt

-- what is left after allowed actions
pub sized_after : (ring : Layout) (d : Durable) (actions : List Action) → Allowed (May ring) d actions → Sized ring d → Sized ring (all_done d actions)
sized_after ring d [] a x = x
sized_after ring d (s ∷ actions) a x = sized_after ring (done d s) actions a.1 (sized_one ring d s a.0 x)

-- ---- messages
abbrev pub BodyFits : Layout → Body → Type 0
BodyFits ring (body.RequestVote asked) = asked.term < TERM_END
BodyFits ring (body.VoteReply reply) = reply.term < TERM_END
BodyFits ring (body.Append sent) = (sent.term < TERM_END) × (list_all (entry_fits ring) sent.entries ≡ true)
BodyFits ring (body.AppendReply answer) = answer.term < TERM_END
BodyFits ring (body.ProxyAppend sent) = sent.term < TERM_END
BodyFits ring (body.ClientWrite changes) = nat_lt 0 (length changes) ≡ true
BodyFits ring _ = Unit {0}

abbrev pub AllFit : Layout → List Message → Type 0
AllFit ring [] = Unit {0}
AllFit ring (m ∷ ms) = BodyFits ring m.body × AllFit ring ms

pub fit_join : (ring : Layout) (a b : List Message) → AllFit ring a → AllFit ring b → AllFit ring (a ++ b)
fit_join ring [] b x y = y
fit_join ring (m ∷ a) b x y = (x.0, fit_join ring a b x.1 y)
