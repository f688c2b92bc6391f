-- Actions that keep order, limits and pairs are possible, each where its turn comes.
use Rattle.std.proofs.Common.{◌≡◌, ℕ, ◌≤◌, [], ◌∷◌, List, arith, length, suc, take, true}
use Rattle.ring_types.specs.declared.entries.Entry.{Entry}
use Rattle.ring_types.specs.declared.entries.Opid.{Opid}
use Rattle.ring_types.specs.Logs.{IsLog}
use Rattle.ring_types.specs.Rings.{Layout}
use Rattle.ring_types.specs.Rows.{payload_fits, payloads_fit}
use Rattle.ring_model.specs.declared.effects.Action.{Action}
use Rattle.ring_model.specs.declared.effects.Action.TheVariants as action
use Rattle.ring_model.specs.declared.nodes.Durable.{Durable}
use Rattle.ring_model.specs.Actions.{ArePossible, IsPossible, all_done, done}
use Rattle.ring_model.specs.Nodes.{stray_opids}
use Rattle.ring_model.specs.Worlds.{restart_actions}
use Rattle.ring_lawful.proofs.Keeps.{KeepsOrder}
use Rattle.ring_lawful.proofs.Along.{Allowed, Along}
use Rattle.ring_lawful.proofs.Engine.{Can}
use Rattle.ring_lawful.proofs.EngineBoth.{AllTail, IsTail}
use Rattle.ring_lawful.proofs.Pairs.{take_short}
use Rattle.ring_lawful.proofs.Sized.{May, Sized, all_weaker, entry_fits, fit_parts, rotates_is}
use Rattle.ring_lawful.proofs.Sound.{short_log}

-- what holds before and after each action
pub record Good (ring : Layout) (d : Durable) : Type 0 where
  pub log : IsLog d.log
  pub payloads : payloads_fit ring.schema d.log ≡ true
  pub applied : d.applied ≤ length d.log

pub good : (ring : Layout) (d : Durable) → KeepsOrder d → Sized ring d → Good ring d
good ring d o x =
    let f = x.files in
    let q = rotates_is d.log in
    record {
      log = record { placed = o.placed; rises = o.rises; short = short_log ring d.log o.placed x.entries; few_files = omega (arith, f, q) };
      payloads = all_weaker (entry_fits ring) (λ (e : Entry). payload_fits ring.schema e.payload) d.log (λ e is. (fit_parts ring e is).2) x.entries;
      applied = o.applied_inside;
    }

pub along_from : (P : Durable → Type 0) (d : Durable) (actions : List Action) → ((n : ℕ) → P (all_done d (take n actions))) → Along P d actions
along_from P d [] each = each 0
along_from P d (a ∷ actions) each = (each 0, along_from P (done d a) actions (λ n. each (suc n)))

along_here : (P : Durable → Type 0) (d : Durable) (actions : List Action) → Along P d actions → P d
along_here P d [] x = x
along_here P d (a ∷ actions) x = x.0

possible_one : (ring : Layout) (d : Durable) (a : Action) → Good ring d → Good ring (done d a) → May ring d a → Can d a → IsPossible ring.schema d a
possible_one ring d (action.SetTerm t) x y m c = m.0
possible_one ring d (action.Vote v floor) x y m c = m
possible_one ring d (action.Append es) x y m c = (y.log, y.payloads)
possible_one ring d (action.Truncate p) x y m c = (let a = y.applied in let b = take_short p d.log in omega (arith, a, b), m)
possible_one ring d (action.Prepare p) x y m c = (c, m.0, m.1)
possible_one ring d (action.Commit p) x y m c = c
possible_one ring d (action.RollBackAfter p) x y m c = tt
possible_one ring d (action.DropPairs opids) x y m c = tt

pub possible_all : (ring : Layout) (d : Durable) (actions : List Action) → Along (Good ring) d actions → Allowed (May ring) d actions → Allowed Can d actions
    → ArePossible ring.schema d actions
possible_all ring d [] g m c = tt
possible_all ring d (a ∷ actions) g m c =
    (possible_one ring d a g.0 (along_here (Good ring) (done d a) actions g.1) m.0 c.0, possible_all ring (done d a) actions g.1 m.1 c.1)

tail_one : (d : Durable) (a : Action) → IsTail a → Can d a
tail_one d (action.SetTerm term) t = tt
tail_one d (action.Vote vote floor) t = tt
tail_one d (action.Append entries) t = tt
tail_one d (action.Truncate position) t = tt
tail_one d (action.Prepare pair) t = absurd t
tail_one d (action.Commit position) t = absurd t
tail_one d (action.RollBackAfter position) t = absurd t
tail_one d (action.DropPairs opids) t = absurd t

pub tail_can : (d : Durable) (actions : List Action) → AllTail actions → Allowed Can d actions
tail_can d [] t = tt
tail_can d (a ∷ actions) t = (tail_one d a t.0, tail_can (done d a) actions t.1)

pub restart_possible : (ring : Layout) (d : Durable) → ArePossible ring.schema d (restart_actions d)
restart_possible ring d = go (stray_opids d)
  where
    go : (o : List Opid) → ArePossible ring.schema d (elim o [ [] ↦ [] | o ∷ opids ↦ action.DropPairs (o ∷ opids) ∷ [] ])
    go [] = tt
    go (o ∷ opids) = (tt, tt)
