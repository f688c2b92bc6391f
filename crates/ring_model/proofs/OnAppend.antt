-- A member that takes a leader's Append owes nothing: it refuses and leaves its log, or takes in what follows the leader's book.
use Rattle.std.proofs.Common.{◌≡◌, ℕ, ◌+◌, ◌-◌, ◌<◌, ◌≤◌, ◌==◌, ◌⊎◌, [], ◌∷◌, ◌++◌, ◌∙◌, if◌then◌else◌, Bool, List, None, Option, Some, ap, arith, drop, false, inl, inr, length, refl, subst, sym, take, true}
use Rattle.std.proofs.lemmas.Bool.Decides.{nat_tests}
use Rattle.std.specs.Prelude.{nat_lt}
use Rattle.ring_types.specs.declared.entries.Entry.{Entry}
use Rattle.ring_types.specs.Rings.{Layout}
use Rattle.ring_types.specs.Logs.{term_at}
use Rattle.ring_model.specs.declared.effects.Action.{Action}
use Rattle.ring_model.specs.Safety.{Agree}
use Rattle.ring_model.specs.declared.messages.Append.{Append}
use Rattle.ring_model.specs.declared.messages.Body.{Body}
use Rattle.ring_model.specs.declared.nodes.Role.TheVariants.{Candidate, Follower, Leader}
use Rattle.ring_model.specs.declared.nodes.Durable.{Durable}
use Rattle.ring_model.specs.declared.messages.Message.{Message}
use Rattle.ring_model.specs.declared.nodes.Role.{Role}
use Rattle.ring_model.specs.declared.effects.Say.{Say}
use Rattle.ring_model.specs.declared.nodes.Soft.{Soft}
use Rattle.ring_model.specs.declared.effects.Tear.{Tear}
use Rattle.ring_model.specs.Replication.{accept, follow_append, kept_position, leads_it, match_append, on_append, outgrows, reply, take_in, tear_in, unmatched}
use Rattle.ring_model.specs.Actions.{all_done}
use Rattle.ring_model.specs.Steps.{demoted, follow_actions, greater_of, idle, smaller_of, stepped, unknowns}
use Rattle.ring_model.specs.Nodes.{is_leader}
use Rattle.ring_model.specs.declared.effects.Action.TheVariants as action
use Rattle.ring_model.specs.declared.messages.Body.TheVariants as body
use Rattle.ring_model.proofs.Invariant.{HasRole, History, IsHistory, IsNode, IsRunning, IsSealed, IsSent, IsStretch}
use Rattle.ring_model.proofs.Growth.{agree_sym}
use Rattle.ring_model.proofs.Casting.{raise_keeps}
use Rattle.ring_model.proofs.Sending.{with_message}
use Rattle.ring_model.proofs.Moves.{Raises}
use Rattle.ring_model.proofs.Paths.{Ends, Goes_on, Path, elected}
use Rattle.ring_model.proofs.HeldElections.{IsBefore, before_quiet, done_join, path_join, quiet_join}
use Rattle.ring_model.proofs.Matching.{commit_new, prev_agrees}
use Rattle.ring_model.proofs.Turns.{IsRow, Leads_not, Led_before, Sends, Sends_on, Sent_all}
use Rattle.ring_model.proofs.Advance.{follow_path, seal_raise}
use Rattle.ring_model.proofs.Plain.{idle_row, role_sent, sealed_sent}
use Rattle.ring_model.proofs.GreaterOf.{greater_both, greater_by, smaller_low}
use Rattle.ring_model.proofs.TakingIn.{TakenIn, take_in_same, taken_in}

refusal_sent : (ring : Layout) (h : History) (id to t p : ℕ) (d : Durable)
    → Sends ring id d h (reply id to t false p ∷ []) (with_message h (reply id to t false p))
refusal_sent ring h id to t p d = Sends_on {m = reply id to t false p} (λ bad. absurd (let z : false ≡ true = bad in cc)) (record { from = refl; answers = λ u v bad. absurd (let z : false ≡ true = ap is_ok bad in cc) }) Sent_all
  where
    is_ok : Body → Bool
    is_ok (body.AppendReply answer) = answer.ok
    is_ok b = true

refusing_row : (ring : Layout) (h : History) (id to t p : ℕ) (d : Durable) (o s : Soft) (first : List Action) (says : List Say)
    (q : Path ring id h d first h) → IsBefore ring id h h d first q → (is_leader o.role ≡ true) ⊎ (is_leader s.role ≡ false)
    → HasRole h id (all_done d first) s s.role → IsSealed ring h (all_done d first).term s.commit (all_done d first).log
    → (all_done d first).applied ≤ s.commit → s.commit ≤ length h.chosen
    → IsRow ring h id d o (stepped first (reply id to t false p ∷ []) says s)
refusing_row ring h id to t p d o s first says q before standing role sealed applied low = record {
  acted = h;
  path = q;
  sent = with_message h (reply id to t false p);
  sends = refusal_sent ring h id to t p (all_done d first);
  role = role_sent ring h (reply id to t false p) id (all_done d first) s s.role role;
  sealed = sealed_sent ring h (reply id to t false p) (all_done d first).term s.commit (all_done d first).log sealed;
  applied = applied;
  reaches = inl low;
  holding = elim standing [
    | inl led ↦ Led_before led (before_quiet ring id h h d first q before)
    | inr not_led ↦ Leads_not not_led (before_quiet ring id h h d first q before)
  ];
}

-- an Append whose previous opid the log has
accept_row : (ring : Layout) (h : History) (id : ℕ) (sent : Append) (d : Durable) (o s : Soft) (first : List Action) (says : List Say) → IsHistory ring h
    → (p : Path ring id h d first h) → IsBefore ring id h h d first p → IsNode ring h id (all_done d first)
    → (all_done d first).term ≡ sent.term → (all_done d first).log ≡ d.log → s.role ≡ Follower
    → IsSealed ring h (all_done d first).term s.commit (all_done d first).log → (all_done d first).applied ≤ s.commit → s.commit ≤ length h.chosen
    → IsStretch ring h (all_done d first).term sent.leader sent.prev sent.commit (length sent.entries)
    → take (length sent.entries) (drop sent.prev.position (h.book (all_done d first).term)) ≡ sent.entries → (sent.leader ≡ id → ⊥)
    → Agree sent.prev.position (all_done d first).log (h.book (all_done d first).term) → IsRow ring h id d o (accept ring id d s first says sent)
accept_row ring h id sent d o s first says k p before n is_t same_log role sealed applied low_chosen stretch win foreign a =
    let e : Durable = all_done d first in
    let rest = unmatched d.log sent.prev.position sent.entries in
    let kept = kept_position sent.prev sent.entries rest in
    let acts = take_in ring id d kept rest in
    let m = sent.prev.position + length sent.entries in
    let c = greater_of s.commit (smaller_of sent.commit m) in
    let x : TakenIn ring id h e acts m s.commit = subst (λ (w : List Action). TakenIn ring id h e w m s.commit) (take_in_same ring id kept d e rest same_log)
    (taken_in ring h id e k n sent.leader sent.prev sent.commit sent.entries stretch win foreign a s.commit sealed rest (ap (λ (l : List Entry). unmatched l sent.prev.position sent.entries) (sym same_log))) in
    let f : Durable = all_done e acts in
    let low = smaller_low sent.commit m in
    let new : IsSealed ring h f.term c f.log =
    subst (λ (u : ℕ). IsSealed ring h u c f.log) (sym x.term)
    (greater_by (λ (b : ℕ). IsSealed ring h e.term b f.log) s.commit (smaller_of sent.commit m) x.sealed
    (commit_new ring h id e k n sent.leader sent.prev sent.commit sent.entries stretch win foreign a (smaller_of sent.commit m) f.log low.0 low.1 x.agrees)) in
    let within : c ≤ length h.chosen =
    greater_by (λ (b : ℕ). b ≤ length h.chosen) s.commit (smaller_of sent.commit m) low_chosen (omega (arith, low.0, stretch.chosen)) in
    let y = follow_path ring id id h f c (omega (arith, x.applied, (greater_both s.commit (smaller_of sent.commit m)).0)) new (inl within) in
    let g : Durable = all_done f (follow_actions ring id f c) in
    let j : all_done d (first ++ (acts ++ follow_actions ring id f c)) ≡ g =
    done_join d first (acts ++ follow_actions ring id f c) ∙ done_join e acts (follow_actions ring id f c) in
    let tail : Path ring id h e (acts ++ follow_actions ring id f c) h = path_join ring id h h h e acts (follow_actions ring id f c) x.path y.path in
    let path : Path ring id h d (first ++ (acts ++ follow_actions ring id f c)) h =
    path_join ring id h h h d first (acts ++ follow_actions ring id f c) p tail in
    let quiet : elected ring id h h d (first ++ (acts ++ follow_actions ring id f c)) path ≡ [] =
    quiet_join ring id h h h d first (acts ++ follow_actions ring id f c) p tail (before_quiet ring id h h d first p before)
    (quiet_join ring id h h h e acts (follow_actions ring id f c) x.path y.path x.quiet y.quiet) in
    let ok : Message = reply id sent.leader sent.term true m in
    let g_term : g.term ≡ e.term = y.after.term ∙ x.term in
    let sends : Sends ring id g h (ok ∷ []) (with_message h ok) = Sends_on {m = ok}
    (λ yes'. (subst (λ (u : ℕ). m ≤ length (h.book u)) is_t stretch.fits, (stretch.election, stretch.led, stretch.of_term ∙ is_t)))
    (record {
      from = refl;
      answers = λ u v same.
          let q : sent.term ≡ u = ap term_in same in
          let r : m ≡ v = ap place_in same in (
            sym q ∙ (sym is_t ∙ sym g_term),
            subst (λ (w : ℕ). Agree v (h.book w) g.log) (is_t ∙ q) (subst (λ (w : ℕ). Agree w (h.book e.term) g.log) r
                (agree_sym m g.log (h.book e.term) (subst (λ (l : List Entry). Agree m l (h.book e.term)) (sym y.after.log) x.agrees))),
          );
    }) Sent_all in
    record {
      acted = h;
      path = path;
      sent = with_message h ok;
      sends = subst (λ (w : Durable). Sends ring id w h (ok ∷ []) (with_message h ok)) (sym j) sends;
      role = subst (λ (r : Role). HasRole (with_message h ok) id (all_done d (first ++ (acts ++ follow_actions ring id f c))) (record s { commit = c }) r)
          (sym role) tt;
      sealed =
          sealed_sent ring h ok (all_done d (first ++ (acts ++ follow_actions ring id f c))).term c
          (all_done d (first ++ (acts ++ follow_actions ring id f c))).log
          (subst (λ (w : Durable). IsSealed ring h w.term c w.log) (sym j)
          (subst (λ (u : ℕ). IsSealed ring h u c g.log) (sym y.after.term) (subst (λ (l : List Entry). IsSealed ring h f.term c l) (sym y.after.log) new)));
      applied = subst (λ (w : Durable). w.applied ≤ c) (sym j) y.after.applied;
      reaches = inl within;
      holding = Leads_not (ap is_leader role) quiet;
    }
  where
    term_in : Body → ℕ
    term_in (body.AppendReply answer) = answer.term
    term_in b = 0

    place_in : Body → ℕ
    place_in (body.AppendReply answer) = answer.position
    place_in b = 0

-- an Append once the node has its term
match_row : (ring : Layout) (h : History) (id : ℕ) (sent : Append) (d : Durable) (o s : Soft) (first : List Action) (says : List Say) → IsHistory ring h
    → (p : Path ring id h d first h) → IsBefore ring id h h d first p → IsNode ring h id (all_done d first)
    → (all_done d first).term ≡ sent.term → (all_done d first).log ≡ d.log → s.role ≡ Follower
    → IsSealed ring h (all_done d first).term s.commit (all_done d first).log → (all_done d first).applied ≤ s.commit → s.commit ≤ length h.chosen
    → IsSent ring h sent.leader id (body.Append sent) → (sent.leader ≡ id → ⊥) → IsRow ring h id d o (match_append ring id d s first says sent)
match_row ring h id sent d o s first says k p before n is_t same role sealed applied low told foreign =
    go (nat_lt (length d.log) sent.prev.position) refl (term_at d.log sent.prev.position == sent.prev.term) refl
  where
    follower : HasRole h id (all_done d first) s s.role
    follower = subst (λ (r : Role). HasRole h id (all_done d first) s r) (sym role) tt

    go : (a : Bool) → nat_lt (length d.log) sent.prev.position ≡ a → (b : Bool) → (term_at d.log sent.prev.position == sent.prev.term) ≡ b
        → IsRow ring h id d o (if a then stepped first (reply id sent.leader sent.term false (length d.log) ∷ []) says s
        else (if b then accept ring id d s first says sent else stepped first (reply id sent.leader sent.term false (sent.prev.position - 1) ∷ []) says s))
    go true x b y = refusing_row ring h id sent.leader sent.term (length d.log) d o s first says p before (inr (ap is_leader role)) follower sealed applied low
    go false x false y =
        refusing_row ring h id sent.leader sent.term (sent.prev.position - 1) d o s first says p before (inr (ap is_leader role)) follower sealed applied low
    go false x true y =
        let stretch : IsStretch ring h (all_done d first).term sent.leader sent.prev sent.commit (length sent.entries) =
        subst (λ (u : ℕ). IsStretch ring h u sent.leader sent.prev sent.commit (length sent.entries)) (sym is_t) told.0 in
        let win : take (length sent.entries) (drop sent.prev.position (h.book (all_done d first).term)) ≡ sent.entries =
        subst (λ (u : ℕ). take (length sent.entries) (drop sent.prev.position (h.book u)) ≡ sent.entries) (sym is_t) told.1 in
        let le : sent.prev.position ≤ length (all_done d first).log =
        (let z : sent.prev.position ≤ length d.log = grind (arith, nat_tests, x) in omega (arith, ap length same)) in
        let at : term_at (all_done d first).log sent.prev.position ≡ sent.prev.term =
        ap (λ (l : List Entry). term_at l sent.prev.position) same ∙ grind (arith, nat_tests, y) in
        let a = prev_agrees ring h id (all_done d first) k n sent.leader sent.prev sent.commit sent.entries stretch win foreign sent.prev.position refl le at in
        accept_row ring h id sent d o s first says k p before n is_t same role sealed applied low stretch win foreign a

follow_row : (ring : Layout) (h : History) (id : ℕ) (sent : Append) (d : Durable) (s : Soft) → nat_lt sent.term d.term ≡ false → IsHistory ring h
    → IsNode ring h id d → IsRunning ring h id d s
    → IsSent ring h sent.leader id (body.Append sent) → (sent.leader ≡ id → ⊥) → IsRow ring h id d s (follow_append ring id d s sent)
follow_row ring h id sent d s x k n r told foreign = go (nat_lt d.term sent.term) refl s.role refl
  where
    go : (b : Bool) → nat_lt d.term sent.term ≡ b → (o : Role) → s.role ≡ o
        → IsRow ring h id d s (if b then match_append ring id d (demoted s) (action.SetTerm sent.term ∷ []) (unknowns s) sent
        else elim o [ Follower ↦ match_append ring id d s [] [] sent | Candidate ↦ match_append ring id d (demoted s) [] (unknowns s) sent | Leader ↦ idle s ])
    go true y o z =
        let up : d.term < sent.term = grind (arith, nat_tests, y) in
        match_row ring h id sent d s (demoted s) (action.SetTerm sent.term ∷ []) (unknowns s) k
        (Goes_on (Raises sent.term refl up (omega (arith, r.applied, r.chosen)) refl) Ends) tt (raise_keeps ring h id sent.term d up n) refl refl refl
        (seal_raise ring h d.term sent.term s.commit d.log (omega arith) r.sealed) r.applied r.chosen told foreign
    go false y Follower z =
        let is : d.term ≡ sent.term = grind (arith, nat_tests, x, y) in
        match_row ring h id sent d s s [] [] k Ends tt n is refl z r.sealed r.applied r.chosen told foreign
    go false y Candidate z =
        let is : d.term ≡ sent.term = grind (arith, nat_tests, x, y) in
        match_row ring h id sent d s (demoted s) [] (unknowns s) k Ends tt n is refl refl r.sealed r.applied r.chosen told foreign
    go false y Leader z = idle_row ring h id d s r

leader_or_not : (s : Soft) → (is_leader s.role ≡ true) ⊎ (is_leader s.role ≡ false)
leader_or_not s = pick (is_leader s.role) refl
  where
    pick : (b : Bool) → is_leader s.role ≡ b → (is_leader s.role ≡ true) ⊎ (is_leader s.role ≡ false)
    pick true is = inl is
    pick false is = inr is

pub append_row : (ring : Layout) (h : History) (id : ℕ) (sent : Append) (d : Durable) (s : Soft) → IsHistory ring h → IsNode ring h id d
    → IsRunning ring h id d s
    → IsSent ring h sent.leader id (body.Append sent) → (sent.leader ≡ id → ⊥) → IsRow ring h id d s (on_append ring id d s sent)
unfolding on_append
append_row ring h id sent d s k n r told foreign = go (outgrows d sent) (nat_lt sent.term d.term) refl (leads_it d s sent) (tear_in d s sent)
  where
    go : (a b : Bool) → nat_lt sent.term d.term ≡ b → (c : Bool) (t : Option Tear)
        → IsRow ring h id d s (if a then idle s else (if b then stepped [] (reply id sent.leader d.term false 0 ∷ []) [] s else (if c then idle s else elim t [ Some t ↦ idle s | None ↦ follow_append ring id d s sent ])))
    go true b x c t = idle_row ring h id d s r
    go false true x c t = refusing_row ring h id sent.leader d.term 0 d s s [] [] Ends tt (leader_or_not s) r.role r.sealed r.applied r.chosen
    go false false x true t = idle_row ring h id d s r
    go false false x false (Some t) = idle_row ring h id d s r
    go false false x false None = follow_row ring h id sent d s x k n r told foreign
