-- The step of the shown world is the model's: what a line makes of the world as it is shown is what it makes of the world, shown.
use Rattle.std.proofs.Common.{◌≡◌, ℕ, ◌==◌, if◌then◌else◌, Bool, true, false, List, [], map, Option, Some, None, refl, ap, sym, ◌∙◌, arith, option_map, append-nil}
use Rattle.std.specs.Prelude.{slice_get, slice_set}
use Rattle.std.proofs.lemmas.Bool.Decides.{nat_tests}
use Rattle.std.proofs.lemmas.Option.{slice_get-map}
use Rattle.ring_types.specs.declared.members.Member.{Member}
use Rattle.ring_types.specs.Names.{has_twice}
use Rattle.ring_types.specs.Rings.{Layout, is_member}
use Rattle.ring_model.specs.Actions.{all_done}
use Rattle.ring_model.specs.Nodes.{Node, recover, fresh_soft}
use Rattle.ring_model.specs.Dispatch.{step}
use Rattle.ring_model.specs.Worlds.{WorldState, Whole, Task, Handle, GoDown, ComeUp, Rest, passed, given_to, world_step, shown, shown_node, turned, turn, handled, member_turn, given, moved, next_given, next_to, skipped, at_node, line_step, message_at, next_from}
use Rattle.ring_model.specs.Runs.{is_known}
use Rattle.ring_model.specs.declared.nodes.Durable.{Durable}
use Rattle.ring_model.specs.declared.nodes.Soft.{Soft}
use Rattle.ring_model.specs.declared.effects.Say.{Say}
use Rattle.ring_model.specs.declared.messages.Message.{Message}
use Rattle.ring_model.specs.declared.messages.Input.{Input}
use Rattle.ring_model.specs.declared.messages.Input.TheVariants as input
use Rattle.ring_model.specs.declared.worlds.Shown.{Shown}
use Rattle.ring_model.specs.declared.worlds.World.{World}
use Rattle.ring_model.specs.declared.worlds.Event.{Event}
use Rattle.ring_model.specs.declared.worlds.Line.{Line}
use Rattle.ring_model.specs.declared.worlds.Line.TheVariants as line
use Rattle.ring_replay.specs.Steps.{place_of, cursor_at, shown_passed, shown_cursor, shown_turned, shown_handled, shown_turn, turn_of, turn_at, shown_member_turn, shown_given, shown_next_to, shown_moved, moved_at, shown_next_given, shown_skipped, shown_at_node, shown_step, known_among}
use Rattle.ring_replay.proofs.Places.{IsOnly, only_place, none_found, only_found, only_any, map_apart, map_set_only}

-- each number stands once
abbrev pub IsOnce : Layout → Type 0
IsOnce ring = has_twice (map (λ (m : Member). m.id) ring.members) ≡ false

abbrev has_id : ℕ → Member → Bool
has_id id m = m.id == id

abbrev shown_here : ℕ → Node → Shown
shown_here id n = record { node = id; durable = n.durable; soft = n.soft }

-- ---- one turn of a node
turned_nodes : (ring : Layout) (w : WorldState) (id place : ℕ) (n : Node) (messages : List Message) (says : List Say) → IsOnly (has_id id) ring.members place
    → slice_set (map (shown_node w) ring.members) place (shown_here id n) ≡ map (shown_node (turned w id n messages says [])) ring.members
turned_nodes ring w id place n messages says only =
    map_set_only (has_id id) (shown_node w) (shown_node (turned w id n messages says [])) (shown_here id n) ring.members place
    (λ x t. let e : x.id ≡ id = grind (arith, nat_tests) in rw t (rw e refl))
    (λ x f. rw f refl)
    only

turned_is : (ring : Layout) (w : WorldState) (id place : ℕ) (n : Node) (messages : List Message) (says : List Say) → IsOnly (has_id id) ring.members place
    → shown_turned (shown ring w) place (shown_here id n) messages says ≡ shown ring (turned w id n messages says [])
unfolding shown shown_turned
turned_is ring w id place n messages says only =
    let nodes = turned_nodes ring w id place n messages says only in
    let kept = append-nil w.kept in
    cc

handled_is : (ring : Layout) (w : WorldState) (id place : ℕ) (i : Input) (d : Durable) (o : Option Soft) → IsOnly (has_id id) ring.members place
    → shown_handled ring (shown ring w) place (shown_here id (record { durable = d; soft = o })) i o ≡ shown ring (handled ring w id i Whole d o)
unfolding shown
handled_is ring w id place i d None only = refl
handled_is ring w id place i d (Some s) only =
    let st = step ring id d s i in
    turned_is ring w id place (record { durable = all_done d st.plan.actions; soft = Some st.soft }) st.plan.messages st.plan.says only

rest_is : (ring : Layout) (w : WorldState) → shown_passed (shown ring w) ≡ shown ring (passed w)
unfolding shown
rest_is ring w = refl

turn_is : (ring : Layout) (w : WorldState) (id place : ℕ) (task : Task) → IsOnly (has_id id) ring.members place
    → shown_turn ring (shown ring w) place (shown_here id (w.nodes id)) task ≡ shown ring (turn ring w id task Whole)
turn_is ring w id place (Handle i) only = handled_is ring w id place i (w.nodes id).durable (w.nodes id).soft only
turn_is ring w id place GoDown only = turned_is ring w id place (record { durable = (w.nodes id).durable; soft = None }) [] [] only
turn_is ring w id place ComeUp only =
    turned_is ring w id place (record { durable = recover (w.nodes id).durable; soft = Some (fresh_soft (w.nodes id).durable) }) [] [] only
turn_is ring w id place Rest only = rest_is ring w

-- ---- only members act
node_at : (ring : Layout) (w : WorldState) (id place : ℕ) → IsOnly (has_id id) ring.members place
    → slice_get (map (shown_node w) ring.members) place ≡ Some (shown_here id (w.nodes id))
node_at ring w id place only =
    let m = only_found (has_id id) ring.members place only in
    let e : m.0.id ≡ id = let t = m.2 in grind (arith, nat_tests) in
    slice_get-map (shown_node w) ring.members place ∙ (ap (option_map (shown_node w)) m.1 ∙ ap (λ (n : ℕ). Some (shown_here n (w.nodes n))) e)

member_turn_at : (ring : Layout) (w : WorldState) (id : ℕ) (task : Task) (o : Option ℕ) → place_of ring id ≡ o → IsOnce ring
    → turn_at ring (shown ring w) task o ≡ shown ring (member_turn ring w id task Whole)
unfolding shown
member_turn_at ring w id task None is once = rw (none_found (has_id id) ring.members is) refl
member_turn_at ring w id task (Some place) is once =
    let only = only_place id ring.members place is once in
    rw (only_any (has_id id) ring.members place only)
    (ap (turn_of ring (shown ring w) place task) (node_at ring w id place only) ∙ turn_is ring w id place task only)

member_turn_is : (ring : Layout) (w : WorldState) (id : ℕ) (task : Task) → IsOnce ring
    → shown_member_turn ring (shown ring w) id task ≡ shown ring (member_turn ring w id task Whole)
member_turn_is ring w id task once = member_turn_at ring w id task (place_of ring id) refl once

-- where nothing is due the event passes, at a member and at a number that is none
rests : (ring : Layout) (w : WorldState) (id : ℕ) → member_turn ring w id Rest Whole ≡ passed w
rests ring w id = go (is_member ring id)
  where
    go : (b : Bool) → (if b then passed w else passed w) ≡ passed w
    go true = refl
    go false = refl

rested_is : (ring : Layout) (w : WorldState) (id : ℕ) → shown_passed (shown ring w) ≡ shown ring (member_turn ring w id Rest Whole)
rested_is ring w id = rest_is ring w ∙ ap (shown ring) (sym (rests ring w id))

given_is : (ring : Layout) (w : WorldState) (o : Option Message) → IsOnce ring → shown_given ring (shown ring w) o ≡ shown ring (given ring w Whole o)
unfolding shown
given_is ring w None once = refl
given_is ring w (Some m) once = member_turn_is ring w m.to (Handle (input.Deliver m)) once

given_to_is : (ring : Layout) (w : WorldState) (id : ℕ) (o : Option Message) → IsOnce ring → shown_given ring (shown ring w) o ≡ shown ring (given_to ring w id Whole o)
given_to_is ring w id None once = rested_is ring w id
given_to_is ring w id (Some m) once = member_turn_is ring w m.to (Handle (input.Deliver m)) once

at_node_is : (ring : Layout) (w : WorldState) (id : ℕ) (i : Input) → IsOnce ring → shown_at_node ring (shown ring w) id i ≡ shown ring (at_node ring w id i Whole)
at_node_is ring w id (input.Deliver m) once = rested_is ring w id
at_node_is ring w id i once = member_turn_is ring w id (Handle i) once

-- ---- cursors
cursor_place : (ring : Layout) (w : WorldState) (id : ℕ) (o : Option ℕ) → place_of ring id ≡ o → IsOnce ring → is_member ring id ≡ true
    → cursor_at (map (λ (m : Member). w.cursors m.id) ring.members) o ≡ w.cursors id
cursor_place ring w id None is once known = absurd (let z : true ≡ false = sym known ∙ none_found (has_id id) ring.members is in cc)
cursor_place ring w id (Some place) is once known =
    let m = only_found (has_id id) ring.members place (only_place id ring.members place is once) in
    let e : m.0.id ≡ id = let t = m.2 in grind (arith, nat_tests) in
    let at : slice_get (map (λ (m : Member). w.cursors m.id) ring.members) place ≡ Some (w.cursors id) =
    slice_get-map (λ (m : Member). w.cursors m.id) ring.members place ∙ (ap (option_map (λ (m : Member). w.cursors m.id)) m.1 ∙ ap (λ (n : ℕ). Some (w.cursors n)) e) in
    rw at refl

cursor_is : (ring : Layout) (w : WorldState) (id : ℕ) → IsOnce ring → is_member ring id ≡ true → shown_cursor ring (shown ring w) id ≡ w.cursors id
unfolding shown
cursor_is ring w id once known = cursor_place ring w id (place_of ring id) refl once known

next_to_is : (ring : Layout) (w : WorldState) (id : ℕ) → IsOnce ring → is_member ring id ≡ true → shown_next_to ring (shown ring w) id ≡ next_to w id
unfolding shown
next_to_is ring w id once known = ap (next_from 1 w.messages id) (cursor_is ring w id once known)

moved_cursors : (ring : Layout) (w : WorldState) (id number : ℕ) (o : Option ℕ) → place_of ring id ≡ o → IsOnce ring
    → moved_at (shown ring w) number o ≡ shown ring (moved w id number)
unfolding shown
moved_cursors ring w id number None is once =
    let c = map_apart (has_id id) (λ (m : Member). w.cursors m.id) (λ (m : Member). (moved w id number).cursors m.id) ring.members (λ x f. rw f refl) (none_found (has_id id) ring.members is) in
    cc
moved_cursors ring w id number (Some place) is once =
    let c = map_set_only (has_id id) (λ (m : Member). w.cursors m.id) (λ (m : Member). (moved w id number).cursors m.id) number ring.members place (λ x t. rw t refl) (λ x f. rw f refl) (only_place id ring.members place is once) in
    cc

moved_is : (ring : Layout) (w : WorldState) (id number : ℕ) → IsOnce ring → shown_moved ring (shown ring w) id number ≡ shown ring (moved w id number)
moved_is ring w id number once = moved_cursors ring w id number (place_of ring id) refl once

next_given_is : (ring : Layout) (w : WorldState) (id : ℕ) (o : Option ℕ) → IsOnce ring → shown_next_given ring (shown ring w) id o ≡ shown ring (next_given ring w id Whole o)
unfolding shown
next_given_is ring w id None once = rested_is ring w id
next_given_is ring w id (Some number) once =
    ap (λ (v : World). shown_given ring v (message_at w.messages number)) (moved_is ring w id number once) ∙ given_to_is ring (moved w id number) id (message_at w.messages number) once

skipped_is : (ring : Layout) (w : WorldState) (id : ℕ) (o : Option ℕ) → IsOnce ring → shown_skipped ring (shown ring w) id o ≡ shown ring (skipped ring w id Whole o)
skipped_is ring w id None once = rested_is ring w id
skipped_is ring w id (Some number) once = ap shown_passed (moved_is ring w id number once) ∙ rested_is ring (moved w id number) id

-- ---- a line, and an event
line_is : (ring : Layout) (w : WorldState) (l : Line) → IsOnce ring → is_known ring w l ≡ true → shown_step ring (shown ring w) l ≡ shown ring (line_step ring w Whole l)
unfolding shown_step shown
line_is ring w (line.At node i) once known = at_node_is ring w node i once
line_is ring w (line.Give number) once known = given_is ring w (message_at w.messages number) once
line_is ring w (line.Next node) once known =
    ap (shown_next_given ring (shown ring w) node) (next_to_is ring w node once known) ∙ next_given_is ring w node (next_to w node) once
line_is ring w (line.Skip node) once known =
    ap (shown_skipped ring (shown ring w) node) (next_to_is ring w node once known) ∙ skipped_is ring w node (next_to w node) once
line_is ring w (line.Again node) once known =
    ap (λ (cursor : ℕ). shown_given ring (shown ring w) (message_at w.messages cursor)) (cursor_is ring w node once known)
    ∙ given_to_is ring w node (message_at w.messages (w.cursors node)) once
line_is ring w (line.Crash node) once known = member_turn_is ring w node GoDown once
line_is ring w (line.Restart node) once known = member_turn_is ring w node ComeUp once

-- what an event that is known makes of a shown world
pub step_is : (ring : Layout) (w : WorldState) (e : Event) → IsOnce ring → is_known ring w e.what ≡ true → shown_step ring (shown ring w) e.what ≡ shown ring (world_step ring w e Whole)
unfolding world_step
step_is ring w e once known = line_is ring w e.what once known

known_is : (ring : Layout) (w : WorldState) (l : Line) → known_among ring (shown ring w).messages l ≡ is_known ring w l
unfolding shown
known_is ring w (line.At node i) = refl
known_is ring w (line.Give number) = refl
known_is ring w _ = refl

-- whether a line is known is seen from the shown world
pub known_as : (ring : Layout) (v : World) (w : WorldState) (l : Line) (b : Bool) → v ≡ shown ring w → b ≡ known_among ring v.messages l → is_known ring w l ≡ b
known_as ring v w l b is known = sym (known_is ring w l) ∙ (ap (λ (x : World). known_among ring x.messages l) (sym is) ∙ sym known)
