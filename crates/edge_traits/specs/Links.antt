-- What a link tells, and what its answers say of it.
use Rattle.std.specs.Prelude.{ℕ, ◌+◌, zero, suc, List, [], ◌∷◌, ◌++◌, Option, option_map, Result, Ok, Err, slice_get}
use Rattle.std.specs.Option.{unwrap_or}
use Rattle.edge_traits.specs.Calls.{Calls}
use Rattle.edge_traits.specs.Counts.{Rose}
use Rattle.edge_traits.specs.declared.links.Got.{Got}
use Rattle.edge_traits.specs.declared.links.Got.TheVariants as got
use Rattle.edge_traits.specs.declared.links.LinkFault.{LinkFault}
use Rattle.edge_traits.specs.declared.links.LinkFault.TheVariants as fault
use Rattle.edge_traits.specs.declared.links.Sent.{Sent}

-- what was received and what was sent so far, each in order
pub record Traffic : Type 0 where
  pub received : List Got
  pub sent : List Sent

-- after this answer of `receive`: what it gave stands at the end, a Quiet too
abbrev pub after_receive : {E : Type 0} → Result Got E → Traffic → Traffic
after_receive (Ok came) t = record t { received = t.received ++ came ∷ [] }
after_receive (Err _) t = t

-- after this answer of `send`
abbrev pub after_send : {E : Type 0} → Sent → Result (Unit {0}) E → Traffic → Traffic
after_send message (Ok _) t = record t { sent = t.sent ++ message ∷ [] }
after_send message (Err _) t = t

-- a fault of the link comes only if the count of faults rose
abbrev pub LinkFails : {T : Type 0} → ℕ → ℕ → Result T LinkFault → Type 0
LinkFails before now (Err fault.Failed) = Rose before now
LinkFails before now _ = Unit {0}

-- what a link in memory is to give, how many answers it gave, and what was sent
pub record Exchange : Type 0 where
  pub gots : List Got
  pub given : ℕ
  pub sent : List Sent

-- the answer after the first n: past the end of the list, Quiet
abbrev pub got_at : List Got → ℕ → Got
got_at gots n = unwrap_or (slice_get gots n) got.Quiet

-- the first n answers
abbrev pub first_gots : List Got → ℕ → List Got
first_gots gots zero = []
first_gots gots (suc n) = first_gots gots n ++ got_at gots n ∷ []

-- what a link in memory tells
abbrev pub traffic_of : Exchange → Traffic
traffic_of e = record { received = first_gots e.gots e.given; sent = e.sent }

-- before the first call
abbrev pub no_traffic : List Got → Exchange
no_traffic gots = record { gots = gots; given = 0; sent = [] }

-- one answer more was given
abbrev pub gave : Exchange → Exchange
gave e = record e { given = e.given + 1 }

-- a link in memory, and its calls of `join` and `receive`
pub record LinkState : Type 0 where
  pub exchange : Exchange
  pub calls : Calls
