-- What a member takes from an Append fits, for the message is well formed and one that outgrows the files is passed over.
use Rattle.std.proofs.Common.{◌≡◌, ℕ, ◌+◌, ◌-◌, ◌<◌, ◌≤◌, ◌==◌, ◌&&◌, [], ◌∷◌, ◌++◌, ◌∙◌, if◌then◌else◌, Bool, List, None, Option, Some, ap, arith, drop, false, length, map, refl, suc, sym, take, true}
use Rattle.std.proofs.lemmas.Bool.Decides.{nat_tests}
use Rattle.std.specs.Prelude.{nat_lt}
use Rattle.std.specs.List.{list_all}
use Rattle.ring_types.specs.declared.limits.TheConstants.{LAST_FILE, TERM_END}
use Rattle.ring_types.specs.declared.entries.Entry.{Entry}
use Rattle.ring_types.specs.declared.entries.Opid.{Opid}
use Rattle.ring_types.specs.Rings.{Layout, runs_engine}
use Rattle.ring_types.specs.Logs.{entry_at, is_rotate, rotates, same_opid, term_at}
use Rattle.ring_model.specs.declared.effects.Action.{Action}
use Rattle.ring_model.specs.declared.effects.Action.TheVariants as action
use Rattle.ring_model.specs.declared.effects.Say.{Say}
use Rattle.ring_model.specs.declared.effects.Tear.{Tear}
use Rattle.ring_model.specs.declared.messages.Append.{Append}
use Rattle.ring_model.specs.declared.messages.ProxyAppend.{ProxyAppend}
use Rattle.ring_model.specs.declared.nodes.Durable.{Durable}
use Rattle.ring_model.specs.declared.nodes.Peer.{Peer}
use Rattle.ring_model.specs.declared.nodes.Role.{Role}
use Rattle.ring_model.specs.declared.nodes.Role.TheVariants.{Candidate, Follower, Leader}
use Rattle.ring_model.specs.declared.nodes.Soft.{Soft}
use Rattle.ring_model.specs.Actions.{all_done}
use Rattle.ring_model.specs.Nodes.{is_leader}
use Rattle.ring_model.specs.Replication.{accept, batch_of, beat, beat_to, file_limit, follow_append, found, is_proxied, kept_position, leads_it, match_append, on_append, opid_before, outgrows, proxy_id, quieter, relay, reply, send_direct, send_proxied, take_in, tear_in, unmatched}
use Rattle.ring_model.specs.Steps.{demoted, idle, stepped, unknowns}
use Rattle.ring_types.proofs.Booleans.{both_true}
use Rattle.ring_model.proofs.Lists.{all_of}
use Rattle.ring_lawful.proofs.Along.{Allowed, allowed_join}
use Rattle.ring_lawful.proofs.Pairs.{at_contains}
use Rattle.ring_lawful.proofs.Sized.{AllFit, BodyFits, May, Sized, all_drop, all_take, entry_fits, follow_may, rotates_is, sized_after, turns, turns_take}
use Rattle.ring_lawful.proofs.SizedSteps.{IsShort, Keeps, idle_keeps, quiet_keeps}

-- ---- what a member does with an Append
rest_fits : (ring : Layout) (log : List Entry) (q : ℕ) (es : List Entry) → list_all (entry_fits ring) es ≡ true
    → (list_all (entry_fits ring) (unmatched log q es) ≡ true) × (turns (unmatched log q es) ≤ turns es)
rest_fits ring log q [] fit = (refl, omega arith)
rest_fits ring log q (e ∷ es) fit = go (nat_lt q (length log) && term_at log (suc q) == e.opid.term) refl (rest_fits ring log (suc q) es (both_true (entry_fits ring e) (list_all (entry_fits ring) es) fit).1)
  where
    more : turns es ≤ turns (e ∷ es)
    more = turn (is_rotate e) refl
      where
        turn : (b : Bool) → is_rotate e ≡ b → turns es ≤ turns (e ∷ es)
        turn true is = rw is (omega arith)
        turn false is = rw is (omega arith)

    go : (b : Bool) → (nat_lt q (length log) && term_at log (suc q) == e.opid.term) ≡ b
        → (list_all (entry_fits ring) (unmatched log (suc q) es) ≡ true) × (turns (unmatched log (suc q) es) ≤ turns es)
        → (list_all (entry_fits ring) (unmatched log q (e ∷ es)) ≡ true) × (turns (unmatched log q (e ∷ es)) ≤ turns (e ∷ es))
    go true is rest = rw is (rest.0, (let a = rest.1 in omega (arith, a, more)))
    go false is rest = rw is (fit, omega arith)

taken_may : (ring : Layout) (me kept : ℕ) (d e : Durable) (rest : List Entry) → e.log ≡ d.log → list_all (entry_fits ring) rest ≡ true
    → turns d.log + turns rest ≤ LAST_FILE - 1 → Allowed (May ring) e (take_in ring me d kept rest)
taken_may ring me kept d e [] l fit few = tt
taken_may ring me kept d e (x ∷ rest) l fit few = go (nat_lt kept (length d.log)) refl (runs_engine ring me)
  where
    cut : turns (take kept e.log) + turns (x ∷ rest) ≤ LAST_FILE - 1
    cut = let a = turns_take kept e.log in let b : turns e.log ≡ turns d.log = ap turns l in omega (arith, a, b, few)

    all : turns e.log + turns (x ∷ rest) ≤ LAST_FILE - 1
    all = let b : turns e.log ≡ turns d.log = ap turns l in omega (arith, b, few)

    high : nat_lt kept (length d.log) ≡ true → kept ≤ length e.log
    high is = let n : length e.log ≡ length d.log = ap length l in grind (arith, nat_tests, is, n)

    go : (b : Bool) → nat_lt kept (length d.log) ≡ b → (c : Bool)
        → Allowed (May ring) e (if b then action.Truncate kept ∷ ((if c then action.RollBackAfter kept ∷ [] else []) ++ (action.Append (x ∷ rest) ∷ [])) else action.Append (x ∷ rest) ∷ [])
    go true is true = (high is, (tt, ((fit, cut), tt)))
    go true is false = (high is, ((fit, cut), tt))
    go false is c = ((fit, all), tt)

module _ (ring : Layout) (me : ℕ) (d : Durable) (s : Soft) (first : List Action) (says : List Say) (sent : Append) (x : Sized ring d)
    (a : Allowed (May ring) d first) (l : (all_done d first).log ≡ d.log) (role : s.role ≡ Follower)
    (fits : sent.term < TERM_END) (fit : list_all (entry_fits ring) sent.entries ≡ true) (few : turns d.log + turns sent.entries ≤ LAST_FILE - 1) where
  accept_keeps : Keeps ring d (accept ring me d s first says sent)
  accept_keeps =
      let rest = unmatched d.log sent.prev.position sent.entries in
      let kept = kept_position sent.prev sent.entries rest in
      let r = rest_fits ring d.log sent.prev.position sent.entries fit in
      let acts : List Action = take_in ring me d kept rest in
      let n = r.1 in
      record {
        allowed =
            allowed_join (May ring) d first _ a
            (allowed_join (May ring) (all_done d first) acts _ (taken_may ring me kept d (all_done d first) rest l r.0 (omega (arith, n, few)))
            (follow_may ring me (all_done (all_done d first) acts) _ (sized_after ring (all_done d first) acts (taken_may ring me kept d (all_done d first) rest l r.0 (omega (arith, n, few))) (sized_after ring d first a x)).entries));
        short = λ bad. absurd (let z : Follower ≡ Candidate = sym role ∙ bad in cc);
        sent = (fits, tt);
      }

  refusing_keeps : (p : ℕ) → Keeps ring d (stepped first (reply me sent.leader sent.term false p ∷ []) says s)
  refusing_keeps p = record { allowed = a; short = λ bad. absurd (let z : Follower ≡ Candidate = sym role ∙ bad in cc); sent = (fits, tt) }

  match_keeps : Keeps ring d (match_append ring me d s first says sent)
  match_keeps = go (nat_lt (length d.log) sent.prev.position) (term_at d.log sent.prev.position == sent.prev.term)
    where
      go : (b c : Bool) → Keeps ring d (if b then stepped first (reply me sent.leader sent.term false (length d.log) ∷ []) says s
          else (if c then accept ring me d s first says sent else stepped first (reply me sent.leader sent.term false (sent.prev.position - 1) ∷ []) says s))
      go true c = refusing_keeps (length d.log)
      go false true = accept_keeps
      go false false = refusing_keeps (sent.prev.position - 1)

follow_keeps : (ring : Layout) (me : ℕ) (d : Durable) (s : Soft) (sent : Append) → Sized ring d → IsShort d s → sent.term < TERM_END
    → list_all (entry_fits ring) sent.entries ≡ true → turns d.log + turns sent.entries ≤ LAST_FILE - 1 → Keeps ring d (follow_append ring me d s sent)
follow_keeps ring me d s sent x short fits fit few = go (nat_lt d.term sent.term) refl s.role refl
  where
    go : (b : Bool) → nat_lt d.term sent.term ≡ b → (o : Role) → s.role ≡ o
        → Keeps ring d (if b then match_append ring me d (demoted s) (action.SetTerm sent.term ∷ []) (unknowns s) sent
        else elim o [ Follower ↦ match_append ring me d s [] [] sent | Candidate ↦ match_append ring me d (demoted s) [] (unknowns s) sent | Leader ↦ idle s ])
    go true y o z =
        match_keeps ring me d (demoted s) (action.SetTerm sent.term ∷ []) (unknowns s) sent x ((grind (arith, nat_tests, y), fits), tt) refl refl fits fit few
    go false y Follower z = match_keeps ring me d s [] [] sent x tt refl z fits fit few
    go false y Candidate z = match_keeps ring me d (demoted s) [] (unknowns s) sent x tt refl refl fits fit few
    go false y Leader z = idle_keeps ring d s short

files_are : (a b : ℕ) → nat_lt file_limit (suc a + b) ≡ false → a + b ≤ LAST_FILE - 1
files_are a b is = grind (arith, nat_tests, is)

pub append_keeps : (ring : Layout) (me : ℕ) (sent : Append) (d : Durable) (s : Soft) → Sized ring d → IsShort d s → sent.term < TERM_END
    → list_all (entry_fits ring) sent.entries ≡ true → Keeps ring d (on_append ring me d s sent)
unfolding on_append
append_keeps ring me sent d s x short fits fit = go (outgrows d sent) refl (nat_lt sent.term d.term) (leads_it d s sent) (tear_in d s sent)
  where
    go : (a : Bool) → outgrows d sent ≡ a → (b c : Bool) (t : Option Tear)
        → Keeps ring d (if a then idle s else (if b then stepped [] (reply me sent.leader d.term false 0 ∷ []) [] s else (if c then idle s else elim t [ Some t ↦ idle s | None ↦ follow_append ring me d s sent ])))
    go true y b c t = idle_keeps ring d s short
    go false y true c t = quiet_keeps ring d s s (reply me sent.leader d.term false 0 ∷ []) [] short refl (x.term, tt)
    go false y false true t = idle_keeps ring d s short
    go false y false false (Some t) = idle_keeps ring d s short
    go false y false false None =
        let n = files_are (rotates d.log) (rotates sent.entries) y in
        let p = rotates_is d.log in
        let q = rotates_is sent.entries in
        follow_keeps ring me d s sent x short fits fit (omega (arith, n, p, q))

-- ---- what a leader sends, and its proxy
sends_fit : (ring : Layout) (me : ℕ) (d : Durable) (s : Soft) (peers : List Peer) → Sized ring d → AllFit ring (map (beat_to ring me d s) peers)
sends_fit ring me d s [] x = tt
sends_fit ring me d s (p ∷ peers) x = (one (is_proxied ring me s.peers p.node), sends_fit ring me d s peers x)
  where
    one : (b : Bool) → BodyFits ring (if b then send_proxied me (proxy_id ring p.node) d s p.node (opid_before d.log p.next) (batch_of ring.schema (drop (p.next - 1) d.log))
        else send_direct me d s p.node (opid_before d.log p.next) (batch_of ring.schema (drop (p.next - 1) d.log))).body
    one true = x.term
    one false = (x.term, all_take (entry_fits ring) _ (drop (p.next - 1) d.log) (all_drop (entry_fits ring) (p.next - 1) d.log x.entries))

pub beat_keeps : (ring : Layout) (me : ℕ) (d : Durable) (s : Soft) → Sized ring d → IsShort d s → Keeps ring d (beat ring me d s)
unfolding beat
beat_keeps ring me d s x short = go (is_leader s.role)
  where
    go : (b : Bool) → Keeps ring d (if b then stepped [] (map (beat_to ring me d s) s.peers) [] (record s { peers = map quieter s.peers }) else idle s)
    go true =
        quiet_keeps ring d s (record s { peers = map quieter s.peers }) (map (beat_to ring me d s) s.peers) [] short refl (sends_fit ring me d s s.peers x)
    go false = idle_keeps ring d s short

at_fits : (ring : Layout) (log : List Entry) (k : ℕ) (e : Entry) → list_all (entry_fits ring) log ≡ true → entry_at log k ≡ Some e → entry_fits ring e ≡ true
at_fits ring log k e fit is = all_of (entry_fits ring) log e fit (at_contains log k e is)

pub found_fits : (ring : Layout) (log : List Entry) (os : List Opid) → list_all (entry_fits ring) log ≡ true → list_all (entry_fits ring) (found log os) ≡ true
found_fits ring log [] fit = refl
found_fits ring log (o ∷ os) fit = go (entry_at log o.position) refl (found_fits ring log os fit)
  where
    go : (r : Option Entry) → entry_at log o.position ≡ r → list_all (entry_fits ring) (found log os) ≡ true
        → list_all (entry_fits ring) (elim r [ None ↦ [] | Some e ↦ if same_opid e.opid o then e ∷ found log os else [] ]) ≡ true
    go None is rest = refl
    go (Some e) is rest = pick (same_opid e.opid o)
      where
        pick : (b : Bool) → list_all (entry_fits ring) (if b then e ∷ found log os else []) ≡ true
        pick true = let here = at_fits ring log o.position e fit is in rw here rest
        pick false = refl

pub relay_keeps : (ring : Layout) (me from : ℕ) (sent : ProxyAppend) (d : Durable) (s : Soft) → Sized ring d → IsShort d s → sent.term < TERM_END
    → Keeps ring d (relay me d s from sent)
unfolding relay
relay_keeps ring me from sent d s x short fits = quiet_keeps ring d s s _ [] short refl ((fits, found_fits ring d.log sent.opids x.entries), tt)
