-- A stretch without a message to a node may be left out of a search: whatever is found lies behind it.
use Rattle.std.proofs.Common.{◌≡◌, ℕ, zero, suc, ◌+◌, ◌<◌, ◌≤◌, Bool, true, false, List, [], ◌∷◌, ◌++◌, length, take, drop, Option, None, Some, refl, ap, subst, sym, ◌∙◌, arith, length-append}
use Rattle.std.specs.Prelude.{nat_lt, ◌==◌, ◌&&◌, if◌then◌else◌, Result, OnOk, OnErr, Ok, Err}
use Rattle.std.specs.List.{All}
use Rattle.std.proofs.lemmas.Bool.Decides.{nat_tests}
use Rattle.std.proofs.lemmas.List.{take-append-le, take_all}
use Rattle.std.proofs.lemmas.List.Elements.{All-weaker}
use Rattle.ring_model.specs.declared.messages.Message.{Message}
use Rattle.ring_model.specs.Worlds.{next_from}
use Rattle.ring_replay.specs.declared.sent.Passed.{Passed}
use Rattle.ring_replay.specs.Stretches.{IsRight}
use Rattle.ring_replay.proofs.Queues.{next_from_cursor}

-- ---- a search that begins behind a stretch
-- from two cursors below the list the same is found
past : (sent : List Message) (id number a b : ℕ) → a < number → b < number → next_from number sent id a ≡ next_from number sent id b
past [] id number a b x y = refl
past (m ∷ sent) id number a b x y =
    let over : nat_lt a number ≡ true = grind (arith, nat_tests) in
    let other : nat_lt b number ≡ true = grind (arith, nat_tests) in
    rw (over, other) (ap (λ (o : Option ℕ). if m.to == id then Some number else o) (past sent id (suc number) a b (omega arith) (omega arith)))

not_here : (here : Bool) (number : ℕ) (rest : Option ℕ) → (if here then Some number else rest) ≡ None → (here ≡ false) × (rest ≡ None)
not_here true number rest none = absurd cc
not_here false number rest none = (refl, none)

-- a message that is not found from a cursor is not found from a later one
nor_later : (from cursor number : ℕ) (to : Bool) → from ≤ cursor → (nat_lt from number && to) ≡ false → (nat_lt cursor number && to) ≡ false
nor_later from cursor number to up not = go (nat_lt from number) (nat_lt cursor number) refl refl not
  where
    go : (a b : Bool) → nat_lt from number ≡ a → nat_lt cursor number ≡ b → (a && to) ≡ false → (b && to) ≡ false
    go a false x y h = refl
    go true true x y h = h
    go false true x y h = absurd (grind (arith, nat_tests))

-- with none in a stretch, the same is found from its end as from a cursor within it
skips_some : (sent : List Message) (id number from cursor upto count : ℕ) → from ≤ cursor → cursor ≤ upto → upto + 1 ≡ number + count
    → next_from number (take count sent) id from ≡ None → next_from number sent id upto ≡ next_from number sent id cursor
skips_some sent id number from cursor upto zero up on is none = past sent id number upto cursor (omega arith) (omega arith)
skips_some [] id number from cursor upto (suc count) up on is none = refl
skips_some (m ∷ sent) id number from cursor upto (suc count) up on is none =
    let p = not_here _ number _ none in
    let here = nor_later from cursor number (m.to == id) up p.0 in
    let below : nat_lt upto number ≡ false = grind (arith, nat_tests) in
    rw (below, here) (skips_some sent id (suc number) from cursor upto count up on (omega arith) p.1)

pub skips : (sent : List Message) (p : Passed) (node cursor : ℕ) → IsRight sent p → p.node ≡ node → p.from ≤ cursor → cursor < p.upto
    → next_from 1 sent node p.upto ≡ next_from 1 sent node cursor
skips sent p node cursor right is up on =
    subst (λ (id : ℕ). next_from 1 sent id p.upto ≡ next_from 1 sent id cursor) is
    (skips_some sent p.node 1 p.from cursor p.upto p.upto up (omega arith) (omega arith) right.none)

-- ---- what stays right, and what is right
grows : (sent more : List Message) (p : Passed) → IsRight sent p → IsRight (sent ++ more) p
grows sent more p right = record { within = omega (arith, length-append sent more); none = go right.within }
  where
    go : p.upto ≤ length sent → next_from 1 (take p.upto (sent ++ more)) p.node p.from ≡ None
    go within = rw take-append-le right.none

-- stretches stay right where messages come at the end
pub appended : {E : Type 0} (r : Result (Unit {0}) E) (old new more : List Message) (passed : List Passed) → OnOk r (new ≡ old ++ more) → OnErr r (new ≡ old)
    → All (IsRight old) passed → All (IsRight new) passed
appended (Ok done) old new more passed ok err right =
    subst (λ (sent : List Message). All (IsRight sent) passed) (sym ok) (All-weaker (IsRight old) (IsRight (old ++ more)) (grows old more) passed right)
appended (Err refused) old new more passed ok err right = subst (λ (sent : List Message). All (IsRight sent) passed) (sym err) right

-- a search in vain leaves a stretch over the whole list
pub searched : (sent behind : List Message) (start : ℕ) (p : Passed) → next_from 1 sent p.node start ≡ next_from 1 sent p.node p.from → behind ≡ drop start sent
    → None ≡ next_from (start + 1) behind p.node start → p.upto ≡ length sent → IsRight sent p
searched sent behind start p begins is none all =
    let found : next_from 1 sent p.node p.from ≡ None =
    sym begins ∙ (next_from_cursor sent p.node start ∙ (ap (λ (messages : List Message). next_from (start + 1) messages p.node start) (sym is) ∙ sym none)) in
    record { within = omega arith; none = rw (all, take_all (length sent) sent (omega arith)) found }
