-- Each event keeps the invariant and holds just the elections that the definition finds: it makes one node act, which owes nothing, or moves a cursor.
use Rattle.std.proofs.Common.{◌≡◌, inl, inr, ℕ, [], ◌∷◌, ◌∙◌, if◌then◌else◌, Bool, List, None, Option, Some, ap, arith, false, refl, subst, suc, sym, take, true, zero}
use Rattle.std.specs.List.{Contains}
use Rattle.ring_types.specs.declared.entries.Entry.{Entry}
use Rattle.ring_types.specs.Rings.{Layout, is_member}
use Rattle.ring_model.specs.declared.effects.Action.{Action}
use Rattle.ring_model.specs.Worlds.{ComeUp, Completion, Cut, GoDown, Handle, Rest, Task, Whole, WorldState, at_node, ended, given, given_to, handled, line_step, member_turn, message_at, moved, next_given, next_to, passed, restart_actions, skipped, turn, world_step}
use Rattle.ring_model.specs.declared.nodes.Durable.{Durable}
use Rattle.ring_model.specs.Runs.{Election, Move, acted_elections, acted_tear, acting, acts_at, acts_next, acts_on, acts_to, event_elections, held_at, held_by, tear_at}
use Rattle.ring_model.specs.declared.messages.Input.{Input}
use Rattle.ring_model.specs.declared.worlds.Line.{Line}
use Rattle.ring_model.specs.declared.messages.Message.{Message}
use Rattle.ring_model.specs.Nodes.{fresh_soft, recover}
use Rattle.ring_model.specs.declared.nodes.Soft.{Soft}
use Rattle.ring_model.specs.Actions.{all_done}
use Rattle.ring_model.specs.Dispatch.{step}
use Rattle.ring_model.specs.declared.messages.Input.TheVariants as input
use Rattle.ring_model.specs.declared.worlds.Line.TheVariants as line
use Rattle.ring_model.proofs.Invariant.{History}
use Rattle.ring_model.proofs.Moves.{SameLog}
use Rattle.ring_model.proofs.Turns.{IsWorld}
use Rattle.ring_model.proofs.Stepping.{cut_keeps, down_keeps, restart_keeps, whole_keeps}
use Rattle.ring_model.proofs.Dispatch.{IsGiven, step_row, step_whole}
use Rattle.ring_model.proofs.Telling.{step_tells}
use Rattle.ring_model.proofs.Told.{same_told, told_by_silence, told_by_step}
use Rattle.ring_model.proofs.Carried.{Carried, OnWay, by_turn, no_way, passed_over, same_world, take_twice}
use Rattle.ring_model.proofs.Restarts.{partly}

-- ---- what a task does
restart_cut : (d : Durable) (count : ℕ) → SameLog d (all_done d (take count (restart_actions d)))
restart_cut d =
    partly (SameLog d) d (record { term = refl; votes = refl; log = refl; applied = refl })
    (λ opids is. record { term = refl; votes = refl; log = refl; applied = refl })

handled_over : (ring : Layout) (w : WorldState) (h : History) (id : ℕ) (i : Input) (completion : Completion) (o : Option Soft) → (w.nodes id).soft ≡ o
    → IsWorld ring w h → IsGiven w.messages id i
    → Carried ring w (handled ring w id i completion (w.nodes id).durable o) h (held_at ring id (w.nodes id).durable o (Handle i) completion) (Some (id, Handle i))
handled_over ring w h id i completion None up k given = passed_over ring w h (Some (id, Handle i)) k
handled_over ring w h id i Whole (Some s) up k given =
    let d = (w.nodes id).durable in
    let st = step ring id d s i in
    let x = whole_keeps ring w h id s st k (step_row ring h id d s i k.history (k.nodes id) (k.running id s up) (subst (λ (ms : List Message). IsGiven ms id i) (sym k.messages) given)) in
    by_turn ring w (ended w id d st Whole) h id (Handle i) (held_by id d s st Whole) st.plan.actions x
    (λ t. told_by_step ring w h id st (held_by id d s st Whole) st.plan.actions x (step_tells ring id d s i (t.pending id s up)) t)
    (λ l n is. (s, up, given, (n, is)))
handled_over ring w h id i (Cut count) (Some s) up k given =
    let d = (w.nodes id).durable in
    let st = step ring id d s i in
    let x = cut_keeps ring w h id count s st k (step_row ring h id d s i k.history (k.nodes id) (k.running id s up) (subst (λ (ms : List Message). IsGiven ms id i) (sym k.messages) given)) in
    by_turn ring w (ended w id d st (Cut count)) h id (Handle i) (held_by id d s st (Cut count)) (take count st.plan.actions) x
    (told_by_silence ring w h id (record { durable = all_done d (take count st.plan.actions); soft = None }) (count ∷ []) (held_by id d s st (Cut count)) (take count st.plan.actions) x (λ o so. absurd cc))
    (λ l n is. let y = take_twice n count st.plan.actions in (s, up, given, (y.0, is ∙ ap (λ (actions : List Action). (all_done d actions).log) y.1)))

-- a message that a task gives was sent, and to this node
abbrev pub MayTake : List Message → ℕ → Task → Type 0
MayTake messages id (Handle i) = IsGiven messages id i
MayTake messages id GoDown = Unit {0}
MayTake messages id ComeUp = Unit {0}
MayTake messages id Rest = Unit {0}

down_holds_none : (ring : Layout) (id : ℕ) (d : Durable) (o : Option Soft) (completion : Completion) → held_at ring id d o GoDown completion ≡ []
down_holds_none ring id d None completion = refl
down_holds_none ring id d (Some s) completion = refl

up_holds_none : (ring : Layout) (id : ℕ) (d : Durable) (o : Option Soft) (completion : Completion) → held_at ring id d o ComeUp completion ≡ []
up_holds_none ring id d None completion = refl
up_holds_none ring id d (Some s) completion = refl

rest_holds_none : (ring : Layout) (id : ℕ) (d : Durable) (o : Option Soft) (completion : Completion) → held_at ring id d o Rest completion ≡ []
rest_holds_none ring id d None completion = refl
rest_holds_none ring id d (Some s) completion = refl

turn_over : (ring : Layout) (w : WorldState) (h : History) (id : ℕ) (task : Task) (completion : Completion) → IsWorld ring w h → MayTake w.messages id task
    → Carried ring w (turn ring w id task completion) h (held_at ring id (w.nodes id).durable (w.nodes id).soft task completion) (Some (id, task))
turn_over ring w h id (Handle i) completion k given = handled_over ring w h id i completion (w.nodes id).soft refl k given
turn_over ring w h id GoDown completion k given =
    let x = down_keeps ring w h id (w.nodes id).durable [] (record { term = refl; votes = refl; log = refl; applied = refl }) k in
    subst (λ (e : List Election). Carried ring w (turn ring w id GoDown completion) h e (Some (id, GoDown)))
    (sym (down_holds_none ring id (w.nodes id).durable (w.nodes id).soft completion))
    (by_turn ring w (turn ring w id GoDown completion) h id GoDown [] [] x (told_by_silence ring w h id (record { durable = (w.nodes id).durable; soft = None }) [] [] [] x (λ o so. absurd cc)) (no_way (w.nodes id).durable))
turn_over ring w h id ComeUp Whole k given =
    let x = restart_keeps ring w h id k in
    subst (λ (e : List Election). Carried ring w (turn ring w id ComeUp Whole) h e (Some (id, ComeUp)))
    (sym (up_holds_none ring id (w.nodes id).durable (w.nodes id).soft Whole))
    (by_turn ring w (turn ring w id ComeUp Whole) h id ComeUp [] [] x
    (told_by_silence ring w h id (record { durable = recover (w.nodes id).durable; soft = Some (fresh_soft (w.nodes id).durable) }) [] [] [] x
    (λ o so. let is : fresh_soft (w.nodes id).durable ≡ o = cc in ap (λ (s : Soft). s.pending) (sym is))) (no_way (w.nodes id).durable))
turn_over ring w h id ComeUp (Cut count) k given =
    let e : Durable = all_done (w.nodes id).durable (take count (restart_actions (w.nodes id).durable)) in
    let x = down_keeps ring w h id e (count ∷ []) (restart_cut (w.nodes id).durable count) k in
    subst (λ (e : List Election). Carried ring w (turn ring w id ComeUp (Cut count)) h e (Some (id, ComeUp)))
    (sym (up_holds_none ring id (w.nodes id).durable (w.nodes id).soft (Cut count)))
    (by_turn ring w (turn ring w id ComeUp (Cut count)) h id ComeUp [] [] x (told_by_silence ring w h id (record { durable = e; soft = None }) (count ∷ []) [] [] x (λ o so. absurd cc)) (no_way (w.nodes id).durable))
turn_over ring w h id Rest Whole k given =
    subst (λ (e : List Election). Carried ring w (passed w) h e (Some (id, Rest)))
    (sym (rest_holds_none ring id (w.nodes id).durable (w.nodes id).soft Whole)) (passed_over ring w h (Some (id, Rest)) k)
turn_over ring w h id Rest (Cut count) k given =
    let x = down_keeps ring w h id (w.nodes id).durable (count ∷ []) (record { term = refl; votes = refl; log = refl; applied = refl }) k in
    subst (λ (e : List Election). Carried ring w (turn ring w id Rest (Cut count)) h e (Some (id, Rest)))
    (sym (rest_holds_none ring id (w.nodes id).durable (w.nodes id).soft (Cut count)))
    (by_turn ring w (turn ring w id Rest (Cut count)) h id Rest [] [] x (told_by_silence ring w h id (record { durable = (w.nodes id).durable; soft = None }) (count ∷ []) [] [] x (λ o so. absurd cc)) (no_way (w.nodes id).durable))

-- only members act
member_over : (ring : Layout) (w : WorldState) (h : History) (id : ℕ) (task : Task) (completion : Completion) → IsWorld ring w h → MayTake w.messages id task
    → Carried ring w (member_turn ring w id task completion) h (acted_elections ring w completion (Some (id, task))) (Some (id, task))
member_over ring w h id task completion k given = go (is_member ring id)
  where
    go : (b : Bool) → Carried ring w (if b then turn ring w id task completion else passed w) h (if b then held_at ring id (w.nodes id).durable (w.nodes id).soft task completion else []) (Some (id, task))
    go true = turn_over ring w h id task completion k given
    go false = passed_over ring w h (Some (id, task)) k

-- ---- a line
pub in_number : (ms : List Message) (k : ℕ) (m : Message) → message_at ms k ≡ Some m → Contains ms m
in_number ms zero m is = absurd cc
in_number [] (suc k) m is = absurd cc
in_number (x ∷ ms) (suc zero) m is = (zero, omega arith, cc)
in_number (x ∷ ms) (suc (suc k)) m is = let y = in_number ms (suc k) m is in (suc y.0, omega (arith, y.1), y.2)

given_over : (ring : Layout) (w : WorldState) (h : History) (completion : Completion) (number : ℕ) (o : Option Message) → message_at w.messages number ≡ o
    → IsWorld ring w h
    → Carried ring w (given ring w completion o) h (acted_elections ring w completion (acts_on o)) (acts_on o)
given_over ring w h completion number None is k = passed_over ring w h None k
given_over ring w h completion number (Some m) is k = member_over ring w h m.to (Handle (input.Deliver m)) completion k (in_number w.messages number m is, refl)

given_to_over : (ring : Layout) (w : WorldState) (h : History) (id : ℕ) (completion : Completion) (number : ℕ) (o : Option Message)
    → message_at w.messages number ≡ o → IsWorld ring w h
    → Carried ring w (given_to ring w id completion o) h (acted_elections ring w completion (acts_to id o)) (acts_to id o)
given_to_over ring w h id completion number None is k = member_over ring w h id Rest completion k tt
given_to_over ring w h id completion number (Some m) is k =
    member_over ring w h m.to (Handle (input.Deliver m)) completion k (in_number w.messages number m is, refl)

moved_way : (ring : Layout) (w : WorldState) (id number : ℕ) (acted : Option (ℕ × Task)) (l : List Entry) → OnWay ring (moved w id number) acted l
    → OnWay ring w acted l
moved_way ring w id number None l x = x
moved_way ring w id number (Some (j, Handle i)) l x = x
moved_way ring w id number (Some (j, GoDown)) l x = x
moved_way ring w id number (Some (j, ComeUp)) l x = x
moved_way ring w id number (Some (j, Rest)) l x = x

-- a moved cursor changes nothing that is said of a world
from_moved : (ring : Layout) (w z : WorldState) (h : History) (id number : ℕ) (held : List Election) (acted : Option (ℕ × Task))
    → Carried ring (moved w id number) z h held acted → Carried ring w z h held acted
from_moved ring w z h id number held acted x = record {
  joined = record {
    after = x.joined.after;
    world = x.joined.world;
    chosen = x.joined.chosen;
    led = x.joined.led;
    sealed = x.joined.sealed;
    elections = x.joined.elections;
    told = λ t. x.joined.told (same_told ring w (moved w id number) h refl refl t);
  };
  grew = x.grew;
  books = λ e in_e. elim (x.books e in_e) [ inl old ↦ inl old | inr new ↦ inr (moved_way ring w id number acted (x.joined.after.book e.term) new) ];
}

acts_same : (ring : Layout) (w : WorldState) (id number : ℕ) (completion : Completion) (o : Option (ℕ × Task))
    → acted_elections ring (moved w id number) completion o ≡ acted_elections ring w completion o
acts_same ring w id number completion None = refl
acts_same ring w id number completion (Some a) = refl

-- an event on the world with the cursor moved, as one on the world before
over_moved : (ring : Layout) (w z : WorldState) (h : History) (id number : ℕ) (completion : Completion) (acted : Option (ℕ × Task))
    → Carried ring (moved w id number) z h (acted_elections ring (moved w id number) completion acted) acted
    → Carried ring w z h (acted_elections ring w completion acted) acted
over_moved ring w z h id number completion acted x =
    from_moved ring w z h id number (acted_elections ring w completion acted) acted
    (subst (λ (e : List Election). Carried ring (moved w id number) z h e acted) (acts_same ring w id number completion acted) x)

moved_world : (ring : Layout) (w : WorldState) (h : History) (id number : ℕ) → IsWorld ring w h → IsWorld ring (moved w id number) h
moved_world ring w h id number k = same_world ring w (moved w id number) h refl refl refl k

next_over : (ring : Layout) (w : WorldState) (h : History) (id : ℕ) (completion : Completion) (o : Option ℕ) → IsWorld ring w h
    → Carried ring w (next_given ring w id completion o) h (acted_elections ring w completion (acts_next w id o)) (acts_next w id o)
next_over ring w h id completion None k = member_over ring w h id Rest completion k tt
next_over ring w h id completion (Some number) k =
    over_moved ring w (next_given ring w id completion (Some number)) h id number completion (acts_next w id (Some number))
    (given_to_over ring (moved w id number) h id completion number (message_at w.messages number) refl (moved_world ring w h id number k))

skipped_over : (ring : Layout) (w : WorldState) (h : History) (id : ℕ) (completion : Completion) (o : Option ℕ) → IsWorld ring w h
    → Carried ring w (skipped ring w id completion o) h (acted_elections ring w completion (Some (id, Rest))) (Some (id, Rest))
skipped_over ring w h id completion None k = member_over ring w h id Rest completion k tt
skipped_over ring w h id completion (Some number) k =
    over_moved ring w (skipped ring w id completion (Some number)) h id number completion (Some (id, Rest))
    (member_over ring (moved w id number) h id Rest completion (moved_world ring w h id number k) tt)

at_over : (ring : Layout) (w : WorldState) (h : History) (id : ℕ) (i : Input) (completion : Completion) → IsWorld ring w h
    → Carried ring w (at_node ring w id i completion) h (acted_elections ring w completion (acts_at id i)) (acts_at id i)
at_over ring w h id (input.Deliver m) completion k = member_over ring w h id Rest completion k tt
at_over ring w h id input.Elect completion k = member_over ring w h id (Handle input.Elect) completion k tt
at_over ring w h id input.Beat completion k = member_over ring w h id (Handle input.Beat) completion k tt
at_over ring w h id (input.Write client changes) completion k = member_over ring w h id (Handle (input.Write client changes)) completion k tt
at_over ring w h id (input.Rotate client) completion k = member_over ring w h id (Handle (input.Rotate client)) completion k tt
at_over ring w h id (input.Transfer client target) completion k = member_over ring w h id (Handle (input.Transfer client target)) completion k tt
at_over ring w h id (input.Cancel client) completion k = member_over ring w h id (Handle (input.Cancel client)) completion k tt

line_over : (ring : Layout) (w : WorldState) (h : History) (completion : Completion) (l : Line) → IsWorld ring w h
    → Carried ring w (line_step ring w completion l) h (acted_elections ring w completion (acting w l)) (acting w l)
line_over ring w h completion (line.At node i) k = at_over ring w h node i completion k
line_over ring w h completion (line.Give number) k = given_over ring w h completion number (message_at w.messages number) refl k
line_over ring w h completion (line.Next node) k = next_over ring w h node completion (next_to w node) k
line_over ring w h completion (line.Skip node) k = skipped_over ring w h node completion (next_to w node) k
line_over ring w h completion (line.Again node) k = given_to_over ring w h node completion (w.cursors node) (message_at w.messages (w.cursors node)) refl k
line_over ring w h completion (line.Crash node) k = member_over ring w h node GoDown completion k tt
line_over ring w h completion (line.Restart node) k = member_over ring w h node ComeUp completion k tt

pub event_over : (ring : Layout) (w : WorldState) (h : History) (m : Move) → IsWorld ring w h
    → Carried ring w (world_step ring w m.event m.completion) h (event_elections ring w m) (acting w m.event.what)
unfolding world_step
event_over ring w h m k = line_over ring w h m.completion m.event.what k

-- ---- no event is torn
task_whole : (ring : Layout) (w : WorldState) (h : History) (id : ℕ) (task : Task) (o : Option Soft) → (w.nodes id).soft ≡ o → IsWorld ring w h
    → MayTake w.messages id task → tear_at ring id (w.nodes id).durable o task ≡ None
task_whole ring w h id (Handle i) None up k given = refl
task_whole ring w h id (Handle i) (Some s) up k given =
    step_whole ring h id (w.nodes id).durable s i k.history (k.nodes id) (k.running id s up)
    (subst (λ (ms : List Message). IsGiven ms id i) (sym k.messages) given)
task_whole ring w h id GoDown None up k given = refl
task_whole ring w h id GoDown (Some s) up k given = refl
task_whole ring w h id ComeUp None up k given = refl
task_whole ring w h id ComeUp (Some s) up k given = refl
task_whole ring w h id Rest None up k given = refl
task_whole ring w h id Rest (Some s) up k given = refl

member_whole : (ring : Layout) (w : WorldState) (h : History) (id : ℕ) (task : Task) → IsWorld ring w h → MayTake w.messages id task
    → acted_tear ring w (Some (id, task)) ≡ None
member_whole ring w h id task k given = go (is_member ring id)
  where
    go : (b : Bool) → (if b then tear_at ring id (w.nodes id).durable (w.nodes id).soft task else None) ≡ None
    go true = task_whole ring w h id task (w.nodes id).soft refl k given
    go false = refl

given_whole : (ring : Layout) (w : WorldState) (h : History) (number : ℕ) (o : Option Message) → message_at w.messages number ≡ o → IsWorld ring w h
    → acted_tear ring w (acts_on o) ≡ None
given_whole ring w h number None is k = refl
given_whole ring w h number (Some m) is k = member_whole ring w h m.to (Handle (input.Deliver m)) k (in_number w.messages number m is, refl)

given_to_whole : (ring : Layout) (w : WorldState) (h : History) (id number : ℕ) (o : Option Message) → message_at w.messages number ≡ o → IsWorld ring w h
    → acted_tear ring w (acts_to id o) ≡ None
given_to_whole ring w h id number None is k = member_whole ring w h id Rest k tt
given_to_whole ring w h id number (Some m) is k = member_whole ring w h m.to (Handle (input.Deliver m)) k (in_number w.messages number m is, refl)

next_whole : (ring : Layout) (w : WorldState) (h : History) (id : ℕ) (o : Option ℕ) → IsWorld ring w h → acted_tear ring w (acts_next w id o) ≡ None
next_whole ring w h id None k = member_whole ring w h id Rest k tt
next_whole ring w h id (Some number) k = given_to_whole ring w h id number (message_at w.messages number) refl k

at_whole : (ring : Layout) (w : WorldState) (h : History) (id : ℕ) (i : Input) → IsWorld ring w h → acted_tear ring w (acts_at id i) ≡ None
at_whole ring w h id (input.Deliver m) k = member_whole ring w h id Rest k tt
at_whole ring w h id input.Elect k = member_whole ring w h id (Handle input.Elect) k tt
at_whole ring w h id input.Beat k = member_whole ring w h id (Handle input.Beat) k tt
at_whole ring w h id (input.Write client changes) k = member_whole ring w h id (Handle (input.Write client changes)) k tt
at_whole ring w h id (input.Rotate client) k = member_whole ring w h id (Handle (input.Rotate client)) k tt
at_whole ring w h id (input.Transfer client target) k = member_whole ring w h id (Handle (input.Transfer client target)) k tt
at_whole ring w h id (input.Cancel client) k = member_whole ring w h id (Handle (input.Cancel client)) k tt

pub line_whole : (ring : Layout) (w : WorldState) (h : History) (l : Line) → IsWorld ring w h → acted_tear ring w (acting w l) ≡ None
line_whole ring w h (line.At node i) k = at_whole ring w h node i k
line_whole ring w h (line.Give number) k = given_whole ring w h number (message_at w.messages number) refl k
line_whole ring w h (line.Next node) k = next_whole ring w h node (next_to w node) k
line_whole ring w h (line.Skip node) k = member_whole ring w h node Rest k tt
line_whole ring w h (line.Again node) k = given_to_whole ring w h node (w.cursors node) (message_at w.messages (w.cursors node)) refl k
line_whole ring w h (line.Crash node) k = member_whole ring w h node GoDown k tt
line_whole ring w h (line.Restart node) k = member_whole ring w h node ComeUp k tt
