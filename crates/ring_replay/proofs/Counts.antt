-- Every line counts one event, since what it makes of a shown world is the turn of a node or nothing, and both count it.
use Rattle.std.proofs.Common.{◌≡◌, ℕ, suc, Option, None, Some, refl, ap, ◌∙◌}
use Rattle.std.specs.Prelude.{slice_get}
use Rattle.ring_types.specs.Rings.{Layout}
use Rattle.ring_model.specs.Worlds.{Task, Handle, GoDown, ComeUp, Rest, message_at}
use Rattle.ring_model.specs.declared.nodes.Soft.{Soft}
use Rattle.ring_model.specs.declared.messages.Message.{Message}
use Rattle.ring_model.specs.declared.messages.Input.{Input}
use Rattle.ring_model.specs.declared.messages.Input.TheVariants as input
use Rattle.ring_model.specs.declared.worlds.Shown.{Shown}
use Rattle.ring_model.specs.declared.worlds.World.{World}
use Rattle.ring_model.specs.declared.worlds.Line.{Line}
use Rattle.ring_model.specs.declared.worlds.Line.TheVariants as line
use Rattle.ring_replay.specs.Steps.{place_of, shown_turned, shown_handled, shown_turn, turn_of, turn_at, shown_given, shown_next_to, shown_cursor, moved_at, shown_moved, shown_next_given, shown_skipped, shown_at_node, shown_step}

handled_counts : (ring : Layout) (v : World) (place : ℕ) (s : Shown) (i : Input) (o : Option Soft) → (shown_handled ring v place s i o).events ≡ suc v.events
unfolding shown_turned
handled_counts ring v place s i None = refl
handled_counts ring v place s i (Some f) = refl

turn_counts : (ring : Layout) (v : World) (place : ℕ) (s : Shown) (task : Task) → (shown_turn ring v place s task).events ≡ suc v.events
unfolding shown_turned
turn_counts ring v place s (Handle i) = handled_counts ring v place s i s.soft
turn_counts ring v place s GoDown = refl
turn_counts ring v place s ComeUp = refl
turn_counts ring v place s Rest = refl

place_counts : (ring : Layout) (v : World) (place : ℕ) (task : Task) (o : Option Shown) → (turn_of ring v place task o).events ≡ suc v.events
place_counts ring v place task None = refl
place_counts ring v place task (Some s) = turn_counts ring v place s task

member_counts : (ring : Layout) (v : World) (task : Task) (o : Option ℕ) → (turn_at ring v task o).events ≡ suc v.events
member_counts ring v task None = refl
member_counts ring v task (Some place) = place_counts ring v place task (slice_get v.nodes place)

given_counts : (ring : Layout) (v : World) (o : Option Message) → (shown_given ring v o).events ≡ suc v.events
given_counts ring v None = refl
given_counts ring v (Some m) = member_counts ring v (Handle (input.Deliver m)) (place_of ring m.to)

-- a moved cursor is no event
moved_counts : (v : World) (number : ℕ) (o : Option ℕ) → (moved_at v number o).events ≡ v.events
moved_counts v number None = refl
moved_counts v number (Some place) = refl

next_counts : (ring : Layout) (v : World) (id : ℕ) (o : Option ℕ) → (shown_next_given ring v id o).events ≡ suc v.events
next_counts ring v id None = refl
next_counts ring v id (Some number) =
    given_counts ring (shown_moved ring v id number) (message_at v.messages number) ∙ ap suc (moved_counts v number (place_of ring id))

skipped_counts : (ring : Layout) (v : World) (id : ℕ) (o : Option ℕ) → (shown_skipped ring v id o).events ≡ suc v.events
skipped_counts ring v id None = refl
skipped_counts ring v id (Some number) = ap suc (moved_counts v number (place_of ring id))

at_counts : (ring : Layout) (v : World) (id : ℕ) (i : Input) → (shown_at_node ring v id i).events ≡ suc v.events
at_counts ring v id (input.Deliver m) = refl
at_counts ring v id i = member_counts ring v (Handle i) (place_of ring id)

pub line_counts : (ring : Layout) (v : World) (l : Line) → (shown_step ring v l).events ≡ suc v.events
unfolding shown_step
line_counts ring v (line.At node i) = at_counts ring v node i
line_counts ring v (line.Give number) = given_counts ring v (message_at v.messages number)
line_counts ring v (line.Next node) = next_counts ring v node (shown_next_to ring v node)
line_counts ring v (line.Skip node) = skipped_counts ring v node (shown_next_to ring v node)
line_counts ring v (line.Again node) = given_counts ring v (message_at v.messages (shown_cursor ring v node))
line_counts ring v (line.Crash node) = member_counts ring v GoDown (place_of ring node)
line_counts ring v (line.Restart node) = member_counts ring v ComeUp (place_of ring node)
