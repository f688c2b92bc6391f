-- What a leader's beat sends is a stretch of its log cut to a batch, and a reply to an Append names the message's term and a position of it or of the log.
use Rattle.std.proofs.Common.{◌≡◌, ℕ, ◌+◌, ◌-◌, ◌^◌, ◌<◌, ◌≤◌, ◌==◌, [], ◌∷◌, if◌then◌else◌, Bool, List, None, Option, Some, arith, drop, false, length, map, refl, subst, suc, sym, take, true, zero}
use Rattle.std.proofs.lemmas.Bool.Decides.{nat_tests}
use Rattle.std.specs.Prelude.{min, nat_le, nat_lt}
use Rattle.std.specs.List.{list_all}
use Rattle.ring_types.specs.declared.limits.TheConstants.{TERM_END}
use Rattle.ring_types.specs.declared.entries.Entry.{Entry}
use Rattle.ring_types.specs.declared.entries.Opid.{Opid}
use Rattle.ring_types.specs.declared.schemas.Schema.{Schema}
use Rattle.ring_types.specs.Logs.{term_at}
use Rattle.ring_types.specs.Rings.{Layout}
use Rattle.ring_types.specs.Rows.{payload_fits, payloads_fit}
use Rattle.ring_types.specs.Sizes.{group_bytes, group_limit, group_size}
use Rattle.ring_model.specs.declared.effects.Action.TheVariants as action
use Rattle.ring_model.specs.declared.effects.Say.{Say}
use Rattle.ring_model.specs.declared.effects.Tear.{Tear}
use Rattle.ring_model.specs.declared.effects.Action.{Action}
use Rattle.ring_model.specs.declared.messages.Append.{Append}
use Rattle.ring_model.specs.declared.nodes.Durable.{Durable}
use Rattle.ring_model.specs.declared.nodes.Peer.{Peer}
use Rattle.ring_model.specs.declared.nodes.Role.{Role}
use Rattle.ring_model.specs.declared.nodes.Role.TheVariants.{Candidate, Follower, Leader}
use Rattle.ring_model.specs.declared.nodes.Soft.{Soft}
use Rattle.ring_model.specs.Nodes.{is_leader}
use Rattle.ring_model.specs.Replication.{accept, batch_length, batch_limit, batch_of, beat, beat_to, follow_append, is_proxied, leads_it, match_append, on_append, opid_before, opids_of, outgrows, proxy_id, quieter, reply, send_direct, send_proxied, tear_in}
use Rattle.ring_model.specs.Steps.{demoted, idle, stepped, unknowns}
use Rattle.ring_model.specs.WellFormed.{EntriesFit, IsWellFormed, all_bytes, opid_fits, opids_follow}
use Rattle.ring_types.proofs.Booleans.{both_true}
use Rattle.ring_lawful.proofs.Chains.{Chain, end, end_take}
use Rattle.ring_lawful.proofs.Pairs.{take_short}
use Rattle.ring_lawful.proofs.Sized.{all_drop, all_take, all_weaker, entry_fits, fit_parts}
use Rattle.ring_lawful.proofs.Steady.{Near}
use Rattle.ring_lawful.proofs.Sends.{AllWell, Tells, opid_is, opid_parts, term_low}
use Rattle.ring_model.proofs.Beat.{opids_length}

-- ---- what a leader's beat sends
chain_drop : (n t p : ℕ) (xs : List Entry) → n ≤ length xs → Chain t p xs → Chain (end t (take n xs)) (p + n) (drop n xs)
chain_drop zero t p xs le c = let z : p + 0 ≡ p = omega arith in subst (λ (m : ℕ). Chain t m xs) (sym z) c
chain_drop (suc n) t p [] le c = absurd (omega (arith, le))
chain_drop (suc n) t p (x ∷ xs) le c =
    let z : suc p + n ≡ p + suc n = omega arith in
    subst (λ (m : ℕ). Chain (end x.opid.term (take n xs)) m (drop n xs)) z (chain_drop n x.opid.term (suc p) xs (omega (arith, le)) c.2)

follow_of : (top : ℕ) (before : Opid) (es : List Entry) → Chain before.term before.position es → list_all (λ (e : Entry). nat_le e.opid.term top) es ≡ true
    → opids_follow top before (opids_of es) ≡ true
follow_of top before [] c all = refl
follow_of top before (e ∷ es) c all =
    let z = both_true (nat_le e.opid.term top) (list_all (λ (e : Entry). nat_le e.opid.term top) es) all in
    let at = c.0 in
    let low = c.1 in
    let x : (e.opid.position == suc before.position) ≡ true = grind (arith, nat_tests, at) in
    let y : nat_le before.term e.opid.term ≡ true = grind (arith, nat_tests, low) in
    let w = z.0 in
    rw (x, y, w) (follow_of top e.opid es (subst (λ (m : ℕ). Chain e.opid.term m es) (sym at) c.2) z.1)

opids_fit : (ring : Layout) (top : ℕ) (es : List Entry) → top < TERM_END → list_all (λ (e : Entry). nat_le e.opid.term top) es ≡ true
    → list_all (entry_fits ring) es ≡ true → list_all opid_fits (opids_of es) ≡ true
opids_fit ring top [] lt all fit = refl
opids_fit ring top (e ∷ es) lt all fit =
    let z = both_true (nat_le e.opid.term top) (list_all (λ (e : Entry). nat_le e.opid.term top) es) all in
    let f = both_true (entry_fits ring e) (list_all (entry_fits ring) es) fit in
    let h = (fit_parts ring e f.0).1 in
    let w = z.0 in
    let here = opid_is e.opid (grind (arith, nat_tests, w, lt)) (grind (arith, nat_tests, h)) in
    rw here (opids_fit ring top es lt z.1 f.1)

pub groups_of : (ring : Layout) (es : List Entry) → list_all (entry_fits ring) es ≡ true
    → list_all (λ (e : Entry). nat_le (group_bytes ring.schema e.payload) group_limit) es ≡ true
groups_of ring es fit = all_weaker (entry_fits ring) (λ (e : Entry). nat_le (group_bytes ring.schema e.payload) group_limit) es
    (λ e is. (fit_parts ring e is).0) fit

pub payloads_of : (ring : Layout) (es : List Entry) → list_all (entry_fits ring) es ≡ true → payloads_fit ring.schema es ≡ true
payloads_of ring es fit = all_weaker (entry_fits ring) (λ (e : Entry). payload_fits ring.schema e.payload) es
    (λ e is. (fit_parts ring e is).2) fit

batch_short : (schema : Schema) (count bytes : ℕ) (es : List Entry) → batch_length schema count bytes es ≤ count
batch_short schema zero bytes es = omega arith
batch_short schema (suc count) bytes [] = omega arith
batch_short schema (suc count) bytes (e ∷ es) = go (nat_le (group_size schema e.payload) bytes) refl (batch_short schema count (bytes - group_size schema e.payload) es)
  where
    go : (b : Bool) → nat_le (group_size schema e.payload) bytes ≡ b → batch_length schema count (bytes - group_size schema e.payload) es ≤ count
        → batch_length schema (suc count) bytes (e ∷ es) ≤ suc count
    go true is rest = rw is (omega (arith, rest))
    go false is rest = rw is (omega arith)

size_is : (n : ℕ) → nat_le n group_limit ≡ true → min n (2 ^ 64 - 1) ≡ n
size_is n is = grind (arith, nat_tests, is)

batch_bytes : (schema : Schema) (count bytes : ℕ) (es : List Entry) → list_all (λ (e : Entry). nat_le (group_bytes schema e.payload) group_limit) es ≡ true
    → all_bytes schema (take (batch_length schema count bytes es) es) ≤ bytes
batch_bytes schema zero bytes es fit = omega arith
batch_bytes schema (suc count) bytes [] fit = omega arith
batch_bytes schema (suc count) bytes (e ∷ es) fit = go (nat_le (group_size schema e.payload) bytes) refl (batch_bytes schema count (bytes - group_size schema e.payload) es f.1)
  where
    f : (nat_le (group_bytes schema e.payload) group_limit ≡ true) × (list_all (λ (e : Entry). nat_le (group_bytes schema e.payload) group_limit) es ≡ true)
    f = both_true (nat_le (group_bytes schema e.payload) group_limit) (list_all (λ (e : Entry). nat_le (group_bytes schema e.payload) group_limit) es) fit

    low : (n m b rest : ℕ) → n ≡ m → nat_le n b ≡ true → rest ≤ b - n → m + rest ≤ b
    low n m b rest same le x = grind (arith, nat_tests, same, le, x)

    go : (b : Bool) → nat_le (group_size schema e.payload) bytes ≡ b
        → all_bytes schema (take (batch_length schema count (bytes - group_size schema e.payload) es) es) ≤ bytes - group_size schema e.payload
        → all_bytes schema (take (batch_length schema (suc count) bytes (e ∷ es)) (e ∷ es)) ≤ bytes
    go true is rest = rw is (low (group_size schema e.payload) (group_bytes schema e.payload) bytes _ (size_is (group_bytes schema e.payload) f.0) is rest)
    go false is rest = rw is (omega arith)

module _ (ring : Layout) (me : ℕ) (d : Durable) (s : Soft) (x : Tells ring d s) where
  batch_well : (next : ℕ) → next ≤ length d.log + 1
      → EntriesFit ring.schema (record { term = d.term; leader = me; prev = opid_before d.log next; commit = s.commit; entries = batch_of ring.schema (drop (next - 1) d.log) })
      × (all_bytes ring.schema (batch_of ring.schema (drop (next - 1) d.log)) ≤ group_limit)
  batch_well next high =
      let k = next - 1 in
      let rest : List Entry = drop k d.log in
      let n = batch_length ring.schema batch_limit group_limit rest in
      let in_k : k ≤ length d.log = omega (arith, high) in
      let term = x.sized.term in
      let short = x.short in
      let inside = x.inside in
      let low = term_low d.log d.term k x.ordered.low in
      let all = all_take (λ (e : Entry). nat_le e.opid.term d.term) n rest (all_drop (λ (e : Entry). nat_le e.opid.term d.term) k d.log x.ordered.low) in
      let fit = all_take (entry_fits ring) n rest (all_drop (entry_fits ring) k d.log x.sized.entries) in
      let dropped : Chain (term_at d.log k) k rest =
      subst (λ (t : ℕ). Chain t k rest) (end_take k d.log in_k)
      (let z : 0 + k ≡ k = omega arith in subst (λ (m : ℕ). Chain (end 0 (take k d.log)) m rest) z (chain_drop k 0 0 d.log in_k x.ordered.chain)) in
      let count = take_short n rest in
      let few = batch_short ring.schema batch_limit group_limit rest in (
        record {
          term = term;
          prev = opid_is (opid_before d.log next) (omega (arith, low, term)) (omega (arith, in_k, short));
          commit = omega (arith, inside, short);
          few = omega (arith, count, few);
          follow = follow_of d.term (opid_before d.log next) (take n rest) (chain_cut n (term_at d.log k) k rest dropped) all;
          opids = opids_fit ring d.term (take n rest) term all fit;
          groups = groups_of ring (take n rest) fit;
          payloads = payloads_of ring (take n rest) fit;
        },
        batch_bytes ring.schema batch_limit group_limit rest (groups_of ring rest (all_drop (entry_fits ring) k d.log x.sized.entries)),
      )
    where
      chain_cut : (n t p : ℕ) (xs : List Entry) → Chain t p xs → Chain t p (take n xs)
      chain_cut zero t p xs c = tt
      chain_cut (suc n) t p [] c = tt
      chain_cut (suc n) t p (x ∷ xs) c = (c.0, c.1, chain_cut n x.opid.term (suc p) xs c.2)

  beats_well : (peers : List Peer) → Near (length d.log) peers → AllWell ring.schema (map (beat_to ring me d s) peers)
  beats_well [] n = tt
  beats_well (p ∷ peers) n = (one (is_proxied ring me s.peers p.node), beats_well peers n.1)
    where
      b : EntriesFit ring.schema (record { term = d.term; leader = me; prev = opid_before d.log p.next; commit = s.commit; entries = batch_of ring.schema (drop (p.next - 1) d.log) })
          × (all_bytes ring.schema (batch_of ring.schema (drop (p.next - 1) d.log)) ≤ group_limit)
      b = batch_well p.next n.0.1

      one : (c : Bool) → IsWellFormed ring.schema (if c then send_proxied me (proxy_id ring p.node) d s p.node (opid_before d.log p.next) (batch_of ring.schema (drop (p.next - 1) d.log))
          else send_direct me d s p.node (opid_before d.log p.next) (batch_of ring.schema (drop (p.next - 1) d.log)))
      one true =
          let f = b.0 in
          let l = opids_length (batch_of ring.schema (drop (p.next - 1) d.log)) in
          let w = f.few in
          (record { term = f.term; prev = f.prev; commit = f.commit; few = omega (arith, l, w); follow = f.follow; opids = f.opids }, tt)
      one false = b

  pub beat_well : (is_leader s.role ≡ true → Near (length d.log) s.peers) → AllWell ring.schema (beat ring me d s).plan.messages
  unfolding beat
  beat_well near = go (is_leader s.role) refl
    where
      go : (b : Bool) → is_leader s.role ≡ b
          → AllWell ring.schema (if b then stepped [] (map (beat_to ring me d s) s.peers) [] (record s { peers = map quieter s.peers }) else idle s).plan.messages
      go true is = beats_well s.peers (near is)
      go false is = tt

-- ---- answers to an Append
pub chain_short : (t p : ℕ) (es : List Entry) → Chain t p es → p < TERM_END → list_all opid_fits (opids_of es) ≡ true → p + length es < TERM_END
chain_short t p [] c lt fit = omega (arith, lt)
chain_short t p (e ∷ es) c lt fit =
    let z = both_true (opid_fits e.opid) (list_all opid_fits (opids_of es)) fit in
    let o = (opid_parts e.opid z.0).1 in
    let at = c.0 in
    let rest = chain_short e.opid.term (suc p) es c.2 (omega (arith, o, at)) z.1 in
    omega (arith, rest)

module _ (ring : Layout) (me : ℕ) (d : Durable) (s : Soft) (sent : Append) (term : d.term < TERM_END) (short : length d.log < TERM_END)
    (fits : sent.term < TERM_END) (prev : sent.prev.position < TERM_END) (more : sent.prev.position + length sent.entries < TERM_END) where
  match_well : (o : Soft) (first : List Action) (says : List Say) → AllWell ring.schema (match_append ring me d o first says sent).plan.messages
  match_well o first says = go (nat_lt (length d.log) sent.prev.position) (term_at d.log sent.prev.position == sent.prev.term)
    where
      go : (b c : Bool) → AllWell ring.schema (if b then stepped first (reply me sent.leader sent.term false (length d.log) ∷ []) says o
          else (if c then accept ring me d o first says sent else stepped first (reply me sent.leader sent.term false (sent.prev.position - 1) ∷ []) says o)).plan.messages
      go true c = (((fits, short), tt), tt)
      go false true = (((fits, more), tt), tt)
      go false false = (((fits, omega (arith, prev)), tt), tt)

  follow_well : AllWell ring.schema (follow_append ring me d s sent).plan.messages
  follow_well = go (nat_lt d.term sent.term) s.role
    where
      go : (b : Bool) (o : Role)
          → AllWell ring.schema (if b then match_append ring me d (demoted s) (action.SetTerm sent.term ∷ []) (unknowns s) sent
          else elim o [ Follower ↦ match_append ring me d s [] [] sent | Candidate ↦ match_append ring me d (demoted s) [] (unknowns s) sent | Leader ↦ idle s ]).plan.messages
      go true o = match_well (demoted s) (action.SetTerm sent.term ∷ []) (unknowns s)
      go false Follower = match_well s [] []
      go false Candidate = match_well (demoted s) [] (unknowns s)
      go false Leader = tt

  pub append_well : AllWell ring.schema (on_append ring me d s sent).plan.messages
  unfolding on_append
  append_well = go (outgrows d sent) (nat_lt sent.term d.term) (leads_it d s sent) (tear_in d s sent)
    where
      go : (a b p : Bool) (t : Option Tear)
          → AllWell ring.schema (if a then idle s else (if b then stepped [] (reply me sent.leader d.term false 0 ∷ []) [] s else (if p then idle s else elim t [ Some t ↦ idle s | None ↦ follow_append ring me d s sent ]))).plan.messages
      go true b p t = tt
      go false true p t = (((term, omega arith), tt), tt)
      go false false true t = tt
      go false false false (Some t) = tt
      go false false false None = follow_well
