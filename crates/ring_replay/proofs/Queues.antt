-- The first message to a node above its cursor is looked for from the cursor on.
use Rattle.std.proofs.Common.{◌≡◌, ℕ, zero, suc, add-one, ◌+◌, false, List, [], ◌∷◌, drop, refl, arith}
use Rattle.std.specs.Prelude.{nat_lt}
use Rattle.std.proofs.lemmas.Bool.Decides.{nat_tests}
use Rattle.ring_model.specs.declared.messages.Message.{Message}
use Rattle.ring_model.specs.Worlds.{next_from}

from_cursor : (messages : List Message) (id k n c : ℕ) → k ≡ n + c → next_from (suc n) messages id k ≡ next_from (suc k) (drop c messages) id k
from_cursor messages id k n zero is = let e : k ≡ n = omega arith in rw e refl
from_cursor [] id k n (suc c) is = refl
from_cursor (m ∷ messages) id k n (suc c) is =
    let later : nat_lt k (suc n) ≡ false = grind (arith, nat_tests) in
    rw later (from_cursor messages id k (suc n) c (omega arith))

pub next_from_cursor : (messages : List Message) (id cursor : ℕ) → next_from 1 messages id cursor ≡ next_from (cursor + 1) (drop cursor messages) id cursor
next_from_cursor messages id cursor = rw (add-one) (from_cursor messages id cursor 0 cursor (omega arith))
