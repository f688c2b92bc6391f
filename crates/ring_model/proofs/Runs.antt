-- Every run of every ring is safe, and each leader's region is covered by the later elections: the invariant holds in the first world and each event keeps it.
use Rattle.std.specs.Prelude.{slice_get}
use Rattle.std.proofs.Common.{◌≡◌, ℕ, ◌<◌, [], ◌∷◌, ◌++◌, ◌∙◌, List, Some, ap, append_assoc, arith, length, refl, subst, sym}
use Rattle.std.proofs.lemmas.List.{append-nil}
use Rattle.std.specs.List.{Contains}
use Rattle.ring_types.specs.declared.entries.Entry.{Entry}
use Rattle.ring_types.specs.Rings.{IsRing, Layout, region_of}
use Rattle.ring_model.specs.Safety.{Agree, AppliedPrefix, ChosenByLeader, ChosenGrows, ChosenOnlyGrows, EveryRunCoversLeaders, LeadersHave, LogsMatch, NeverTorn, OneLeaderATerm, ToldStands, needed_by}
use Rattle.ring_model.specs.declared.nodes.Durable.{Durable}
use Rattle.ring_model.specs.Runs.{Election, Move, acting, elections, elections_from, event_elections, world, world_from}
use Rattle.ring_model.specs.Worlds.{WorldState, first_world, world_step}
use Rattle.ring_model.proofs.Lists.{contains_listed}
use Rattle.ring_model.proofs.Invariant.{History, IsSealed}
use Rattle.ring_model.proofs.Cover.{is_election, leaders_covered}
use Rattle.ring_model.proofs.Following.{agree_same, log_match}
use Rattle.ring_model.proofs.Turns.{IsWorld, in_chosen}
use Rattle.ring_model.proofs.Told.{leader_in, sealed_in_book, told_stands}
use Rattle.ring_model.proofs.Carried.{Joined, carried_join}
use Rattle.ring_model.proofs.Events.{event_over, line_whole}
use Rattle.ring_model.proofs.FirstWorld.{first_history, first_holds, first_told}

pub run_over : (ring : Layout) (w : WorldState) (h : History) (run : List Move) → IsWorld ring w h
    → Joined ring w (world_from ring w run) h (elections_from ring w run)
run_over ring w h [] k = record {
  after = h;
  world = k;
  chosen = agree_same (length w.chosen) w.chosen (omega arith);
  led = λ e in_e. in_e;
  sealed = λ u c l x. x;
  elections = sym (append-nil h.elections);
  told = λ t. t;
}
run_over ring w h (m ∷ run) k =
    let x = event_over ring w h m k in
    carried_join ring w (world_step ring w m.event m.completion) (world_from ring (world_step ring w m.event m.completion) run) h (event_elections ring w m)
    (elections_from ring (world_step ring w m.event m.completion) run) (acting w m.event.what) x
    (run_over ring (world_step ring w m.event m.completion) x.joined.after run x.joined.world)

world_join : (ring : Layout) (w : WorldState) (before after : List Move)
    → world_from ring w (before ++ after) ≡ world_from ring (world_from ring w before) after
world_join ring w [] after = refl
world_join ring w (m ∷ before) after = world_join ring (world_step ring w m.event m.completion) before after

-- the world after a run, with its history
pub record Reached (ring : Layout) (run : List Move) : Type 0 where
  pub history : History
  pub world : IsWorld ring (world ring run) history
  pub elections : history.elections ≡ elections ring run

pub reached : (ring : Layout) (run : List Move) → IsRing ring → Reached ring run
unfolding world elections
reached ring run valid =
    let x = run_over ring first_world first_history run (first_holds ring valid) in record { history = x.after; world = x.world; elections = x.elections }

-- two worlds of one run, the second the later
record TwoWorlds (ring : Layout) (before run : List Move) : Type 0 where
  old : History
  old_world : IsWorld ring (world ring before) old
  new : History
  new_world : IsWorld ring (world ring run) new
  chosen : Agree (length (world ring before).chosen) (world ring before).chosen (world ring run).chosen
  sealed : (u c : ℕ) (l : List Entry) → IsSealed ring old u c l → IsSealed ring new u c l

two_worlds : (ring : Layout) (before after run : List Move) → IsRing ring → run ≡ before ++ after → TwoWorlds ring before run
unfolding world
two_worlds ring before after run valid is =
    let x = run_over ring first_world first_history before (first_holds ring valid) in
    let y = run_over ring (world_from ring first_world before) x.after after x.world in
    let same : world_from ring (world_from ring first_world before) after ≡ world_from ring first_world run =
    sym (world_join ring first_world before after) ∙ ap (world_from ring first_world) (sym is) in
    record {
      old = x.after;
      old_world = x.world;
      new = y.after;
      new_world = subst (λ (v : WorldState). IsWorld ring v y.after) same y.world;
      chosen = subst (λ (v : WorldState). Agree (length (world_from ring first_world before).chosen) (world_from ring first_world before).chosen v.chosen) same y.chosen;
      sealed = y.sealed;
    }

-- ---- the facts of a safe run
applied_prefix : (ring : Layout) (run : List Move) → IsRing ring → AppliedPrefix (world ring run)
applied_prefix ring run valid =
    let x = reached ring run valid in
    let k = x.world in
    record {
      applied = λ id. subst (λ (l : List Entry). Agree ((world ring run).nodes id).durable.applied ((world ring run).nodes id).durable.log l) k.chosen
          (in_chosen ring x.history ((world ring run).nodes id).durable.term ((world ring run).nodes id).durable.applied ((world ring run).nodes id).durable.log k.history (k.nodes id).applied (k.applied id));
      committed = λ id s up. let r = k.running id s up in
          subst (λ (l : List Entry). Agree s.commit ((world ring run).nodes id).durable.log l) k.chosen
          (in_chosen ring x.history ((world ring run).nodes id).durable.term s.commit ((world ring run).nodes id).durable.log k.history r.sealed r.chosen);
    }

one_leader_a_term : (ring : Layout) (run : List Move) → IsRing ring → OneLeaderATerm (world ring run) (elections ring run)
one_leader_a_term ring run valid =
    let x = reached ring run valid in
    record {
      once = λ j k e f at_j at_k same. x.world.history.terms_once j k e f
          (subst (λ (l : List Election). slice_get l j ≡ Some e) (sym x.elections) at_j)
          (subst (λ (l : List Election). slice_get l k ≡ Some f) (sym x.elections) at_k) same;
      elected = λ id s leads. let l = leader_in ring (world ring run) x.history id s x.world leads in
          (l.election, subst (λ (es : List Election). Contains es l.election) x.elections l.led, l.by, l.of_term);
    }

told_stand : (ring : Layout) (run : List Move) → IsRing ring → ToldStands (world ring run)
unfolding world
told_stand ring run valid =
    let x = run_over ring first_world first_history run (first_holds ring valid) in
    told_stands ring (world_from ring first_world run) x.after x.world (x.told (first_told ring))

logs_match : (ring : Layout) (run : List Move) → IsRing ring → LogsMatch (world ring run)
logs_match ring run valid i j position some in_i in_j same =
    let x = reached ring run valid in
    log_match ring x.history ((world ring run).nodes i).durable.term ((world ring run).nodes j).durable.term position ((world ring run).nodes i).durable.log
    ((world ring run).nodes j).durable.log
    (x.world.nodes i).log (x.world.nodes j).log some in_i in_j same

chosen_grows : (ring : Layout) (run : List Move) → IsRing ring → ChosenOnlyGrows ring run
chosen_grows ring run valid before after is = (two_worlds ring before after run valid is).chosen

elections_join : (ring : Layout) (w : WorldState) (before after : List Move)
    → elections_from ring w (before ++ after) ≡ elections_from ring w before ++ elections_from ring (world_from ring w before) after
elections_join ring w [] after = refl
elections_join ring w (m ∷ before) after =
    ap (λ (e : List Election). event_elections ring w m ++ e) (elections_join ring (world_step ring w m.event m.completion) before after)
    ∙ sym (append_assoc (event_elections ring w m) (elections_from ring (world_step ring w m.event m.completion) before) (elections_from ring (world_from ring (world_step ring w m.event m.completion) before) after))

-- only a node that led the term makes the chosen sequence grow
chosen_by_leader : (ring : Layout) (run : List Move) → IsRing ring → ChosenByLeader ring run
unfolding world elections
chosen_by_leader ring run valid before m is more id task acts =
    let w : WorldState = world_from ring first_world before in
    let v : WorldState = world_step ring w m.event m.completion in
    let x = run_over ring first_world first_history before (first_holds ring valid) in
    let y = event_over ring w x.after m x.world in
    let at : world_from ring first_world run ≡ v = ap (world_from ring first_world) is ∙ world_join ring first_world before (m ∷ []) in
    let led = y.grew (subst (λ (z : WorldState). length w.chosen < length z.chosen) at more) id task acts in
    let held : y.joined.after.elections ≡ elections_from ring first_world run =
    y.joined.elections
    ∙ (ap (λ (e : List Election). e ++ event_elections ring w m) x.elections
    ∙ (ap (λ (e : List Election). elections_from ring first_world before ++ e) (sym (append-nil (event_elections ring w m)))
    ∙ (sym (elections_join ring first_world before (m ∷ [])) ∙ ap (elections_from ring first_world) (sym is)))) in
    (led.0, subst (λ (l : List Election). Contains l led.0) held led.1, led.2, led.3 ∙ ap (λ (z : WorldState). (z.nodes id).durable.term) (sym at))

never_torn_event : (ring : Layout) (run : List Move) → IsRing ring → NeverTorn ring run
never_torn_event ring run valid before after m is = let x = reached ring before valid in line_whole ring (world ring before) x.history m.event.what x.world

leaders_have : (ring : Layout) (run : List Move) → IsRing ring → LeadersHave ring run
leaders_have ring run valid before after i j s o is up leads le =
    let t = two_worlds ring before after run valid is in
    let d : Durable = ((world ring before).nodes i).durable in
    let e : Durable = ((world ring run).nodes j).durable in
    let y = leader_in ring (world ring run) t.new j o t.new_world leads in
    let book : e.log ≡ t.new.book e.term = (t.new_world.nodes j).led_log y.election y.led y.by y.of_term ∙ ap t.new.book y.of_term in
    subst (λ (b : List Entry). Agree s.commit d.log b) (sym book)
    (sealed_in_book ring t.new d.term s.commit e.term d.log y.election t.new_world.history y.led y.of_term le (t.sealed d.term s.commit d.log (t.old_world.running i s up).sealed))

-- the facts that need nothing of rows and prepared pairs
pub record SafeLogs (ring : Layout) (run : List Move) : Type 0 where
  pub applied_prefix : AppliedPrefix (world ring run)
  pub told_stands : ToldStands (world ring run)
  pub one_leader_a_term : OneLeaderATerm (world ring run) (elections ring run)
  pub logs_match : LogsMatch (world ring run)
  pub chosen_grows : ChosenGrows ring run
  pub leaders_have : LeadersHave ring run

pub safe_logs : (ring : Layout) (run : List Move) → IsRing ring → SafeLogs ring run
safe_logs ring run valid = record {
  applied_prefix = applied_prefix ring run valid;
  told_stands = told_stand ring run valid;
  one_leader_a_term = one_leader_a_term ring run valid;
  logs_match = logs_match ring run valid;
  chosen_grows = record { grows = chosen_grows ring run valid; by_leader = chosen_by_leader ring run valid; never_torn = never_torn_event ring run valid };
  leaders_have = leaders_have ring run valid;
}

-- ---- the cover of earlier leaders
pub every_run_covers_leaders : EveryRunCoversLeaders
every_run_covers_leaders ring run valid lawful e f in_e in_f low high =
    let x = reached ring run valid in
    let k = x.world.history in
    let led_e : Contains x.history.elections e = subst (λ (l : List Election). Contains l e) (sym x.elections) in_e in
    let led_f : Contains x.history.elections f = subst (λ (l : List Election). Contains l f) (sym x.elections) in_f in
    let y = leaders_covered ring x.history k f e (is_election ring x.history k f led_f) led_e low high in
    (contains_listed (needed_by ring f) (region_of ring e.node) y.0, y.1)
