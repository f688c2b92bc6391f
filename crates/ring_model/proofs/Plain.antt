-- Steps without actions: a node's role and what is sealed stay through the messages that it sends.
use Rattle.std.proofs.Common.{inl, ◌≡◌, ℕ, ◌<◌, [], ◌∷◌, ◌++◌, ◌∙◌, Bool, List, ap, arith, false, refl, subst, sym, true, zero}
use Rattle.std.proofs.lemmas.List.Elements.{Contains-append_left}
use Rattle.std.specs.List.{Contains}
use Rattle.ring_types.specs.declared.entries.Entry.{Entry}
use Rattle.ring_types.specs.declared.entries.Grant.{Grant}
use Rattle.ring_types.specs.Rings.{Layout}
use Rattle.ring_model.specs.declared.nodes.Role.TheVariants.{Candidate, Follower, Leader}
use Rattle.ring_model.specs.declared.nodes.Durable.{Durable}
use Rattle.ring_model.specs.declared.messages.Message.{Message}
use Rattle.ring_model.specs.declared.nodes.Role.{Role}
use Rattle.ring_model.specs.declared.effects.Say.{Say}
use Rattle.ring_model.specs.declared.nodes.Soft.{Soft}
use Rattle.ring_model.specs.Steps.{demoted, idle, stepped, unknowns}
use Rattle.ring_model.specs.Nodes.{is_leader}
use Rattle.ring_model.specs.declared.effects.Action.TheVariants as action
use Rattle.ring_model.proofs.Lists.{in_cons}
use Rattle.ring_model.proofs.Invariant.{As_leader, By_reply, HasRole, History, IsCandidate, IsHistory, IsNode, IsRunning, IsSealed, IsSent, Nothing_yet, Sealed_at, ok_reply}
use Rattle.ring_model.proofs.Growth.{sent_stays}
use Rattle.ring_model.proofs.Sending.{MayAnswer, sent_grows, sent_history, sent_node, with_message}
use Rattle.ring_model.proofs.Moves.{Raises}
use Rattle.ring_model.proofs.Paths.{Ends, Goes_on}
use Rattle.ring_model.proofs.Turns.{Holding, IsRow, Leads_not, Led_before, Sends, Sends_on, Sent_all}
use Rattle.ring_model.proofs.Advance.{leader_at, seal_raise}

pub candidate_sent : (h : History) (m : Message) (id : ℕ) (d : Durable) (grants : List Grant) → IsCandidate h id d grants
    → IsCandidate (with_message h m) id d grants
candidate_sent h m id d grants x = record {
  self = x.self;
  below = x.below;
  not_led = x.not_led;
  grants = λ g in_g. let y = x.grants g in_g in record { cast = y.cast; was_cast = y.was_cast; by = y.by; of_term = y.of_term; for = y.for; asked = y.asked; report = y.report };
}

pub sealed_sent : (ring : Layout) (h : History) (m : Message) (u c : ℕ) (l : List Entry) → IsSealed ring h u c l → IsSealed ring (with_message h m) u c l
sealed_sent ring h m u c l (Nothing_yet z) = Nothing_yet z
sealed_sent ring h m u c l (Sealed_at s p a b x y) = Sealed_at s p a b (record {
  election = x.election;
  led = x.led;
  of_term = x.of_term;
  own = x.own;
  inside = x.inside;
  quorum = x.quorum;
  reached = x.reached;
  acked = λ v in_v. elim (x.acked v in_v) [ As_leader e in_e t by le ↦ As_leader e in_e t by le | By_reply w q in_w by body le ↦ By_reply w q (Contains-append_left h.messages (m ∷ []) w in_w) by body le ];
}) y

pub role_sent : (ring : Layout) (h : History) (m : Message) (id : ℕ) (d : Durable) (s : Soft) (r : Role) → HasRole h id d s r
    → HasRole (with_message h m) id d s r
role_sent ring h m id d s Follower x = tt
role_sent ring h m id d s Candidate x = candidate_sent h m id d s.grants x
role_sent ring h m id d s Leader x = record {
  election = x.election;
  led = x.led;
  by = x.by;
  of_term = x.of_term;
  matched = λ p in_p some. elim (x.matched p in_p some) [ As_leader e in_e t by le ↦ As_leader e in_e t by le | By_reply w q in_w by body le ↦ By_reply w q (Contains-append_left h.messages (m ∷ []) w in_w) by body le ];
  next = x.next;
}

pub role_sends : (ring : Layout) (id : ℕ) (e : Durable) (h g : History) (ms : List Message) (d : Durable) (s : Soft) (r : Role) → Sends ring id e h ms g
    → HasRole h id d s r → HasRole g id d s r
role_sends ring id e h g [] d s r Sent_all x = x
role_sends ring id e h g (m ∷ ms) d s r (Sends_on is may rest) x = role_sends ring id e (with_message h m) g ms d s r rest (role_sent ring h m id d s r x)

pub sealed_sends : (ring : Layout) (id : ℕ) (e : Durable) (h g : History) (ms : List Message) (u c : ℕ) (l : List Entry) → Sends ring id e h ms g
    → IsSealed ring h u c l → IsSealed ring g u c l
sealed_sends ring id e h g [] u c l Sent_all x = x
sealed_sends ring id e h g (m ∷ ms) u c l (Sends_on is may rest) x = sealed_sends ring id e (with_message h m) g ms u c l rest (sealed_sent ring h m u c l x)

-- one more message
pub sends_more : (ring : Layout) (id : ℕ) (e : Durable) (h g : History) (ms : List Message) (m : Message) → Sends ring id e h ms g
    → IsSent ring g m.from m.to m.body → MayAnswer g id e m → Sends ring id e h (ms ++ m ∷ []) (with_message g m)
sends_more ring id e h g [] m Sent_all is may = Sends_on {m = m} is may Sent_all
sends_more ring id e h g (x ∷ ms) m (Sends_on a b rest) is may = Sends_on {m = x} a b (sends_more ring id e (with_message h x) g ms m rest is may)

-- the parts of a soft part that a role speaks of
pub same_role : (h : History) (id : ℕ) (d : Durable) (s o : Soft) (r : Role) → o.grants ≡ s.grants → o.peers ≡ s.peers → HasRole h id d s r → HasRole h id d o r
same_role h id d s o Follower a b x = tt
same_role h id d s o Candidate a b x = subst (λ (g : List Grant). IsCandidate h id d g) (sym a) x
same_role h id d s o Leader a b x = leader_at h id d d s o refl (omega arith) b x

-- where the role stays no election is held
pub stays_holding : (ring : Layout) (id : ℕ) (h : History) (d : Durable) (s o : Soft) → o.role ≡ s.role → Holding ring id h h d s o [] Ends
stays_holding ring id h d s o same = go (is_leader s.role) refl
  where
    go : (b : Bool) → is_leader s.role ≡ b → Holding ring id h h d s o [] Ends
    go true is = Led_before is refl
    go false is = Leads_not (ap is_leader same ∙ is) refl

-- ---- messages that are all true before the first is sent
pub record IsSayable (ring : Layout) (h : History) (id : ℕ) (m : Message) : Type 0 where
  pub sent : IsSent ring h m.from m.to m.body
  pub from : m.from ≡ id
  pub never : (s q : ℕ) → m.body ≡ ok_reply s q → ⊥

pub sends_all : (ring : Layout) (id : ℕ) (d : Durable) (h : History) (ms : List Message) → IsHistory ring h → IsNode ring h id d
    → ((m : Message) → Contains ms m → IsSayable ring h id m)
    → (g : History) × Sends ring id d h ms g
sends_all ring id d h [] k n each = (h, Sent_all)
sends_all ring id d h (m ∷ ms) k n each =
    let x = each m (zero, omega arith, refl) in
    let may : MayAnswer h id d m = record { from = x.from; answers = λ s q is. absurd (x.never s q is) } in
    let grows = sent_grows ring h id d m k n x.sent may in
    let rest = sends_all ring id d (with_message h m) ms (sent_history ring h id d m k n x.sent may) (sent_node ring h id d m k n x.sent may)
    (λ w in_w. let y = each w (in_cons m ms w in_w) in record { sent = sent_stays ring id h (with_message h m) grows w.from w.to w.body y.sent; from = y.from; never = y.never }) in
    (rest.0, Sends_on {m = m} x.sent may rest.1)

-- ---- rows
-- a step that only tells
pub said_row : (ring : Layout) (h : History) (id : ℕ) (d : Durable) (s : Soft) (says : List Say) → IsRunning ring h id d s → IsRow ring h id d s (stepped [] [] says s)
said_row ring h id d s says r = record {
  acted = h;
  path = Ends;
  sent = h;
  sends = Sent_all;
  role = r.role;
  sealed = r.sealed;
  applied = r.applied;
  reaches = inl r.chosen;
  holding = stays_holding ring id h d s s refl;
}

pub idle_row : (ring : Layout) (h : History) (id : ℕ) (d : Durable) (s : Soft) → IsRunning ring h id d s → IsRow ring h id d s (idle s)
idle_row ring h id d s r = said_row ring h id d s [] r

-- a step without actions that keeps role and commit count
pub plain_row : (ring : Layout) (h : History) (id : ℕ) (d : Durable) (s o : Soft) (ms : List Message) (says : List Say) → IsHistory ring h
    → IsNode ring h id d → IsRunning ring h id d s
    → o.role ≡ s.role → o.commit ≡ s.commit → HasRole h id d o s.role → ((m : Message) → Contains ms m → IsSayable ring h id m)
    → IsRow ring h id d s (stepped [] ms says o)
plain_row ring h id d s o ms says k n r same count role each =
    let x = sends_all ring id d h ms k n each in
    record {
      acted = h;
      path = Ends;
      sent = x.0;
      sends = x.1;
      role = role_sends ring id d h x.0 ms d o o.role x.1 (subst (λ (a : Role). HasRole h id d o a) (sym same) role);
      sealed = sealed_sends ring id d h x.0 ms d.term o.commit d.log x.1 (subst (λ (c : ℕ). IsSealed ring h d.term c d.log) (sym count) r.sealed);
      applied = omega (arith, r.applied, count);
      reaches = inl (omega (arith, r.chosen, count));
      holding = stays_holding ring id h d s o same;
    }

-- a greater term: the node takes it and follows
pub raise_row : (ring : Layout) (h : History) (id t : ℕ) (d : Durable) (s : Soft) → d.term < t → IsRunning ring h id d s
    → IsRow ring h id d s (stepped (action.SetTerm t ∷ []) [] (unknowns s) (demoted s))
raise_row ring h id t d s up r = record {
  acted = h;
  path = Goes_on (Raises t refl up (omega (arith, r.applied, r.chosen)) refl) Ends;
  sent = h;
  sends = Sent_all;
  role = tt;
  sealed = seal_raise ring h d.term t s.commit d.log (omega arith) r.sealed;
  applied = r.applied;
  reaches = inl r.chosen;
  holding = Leads_not refl refl;
}
