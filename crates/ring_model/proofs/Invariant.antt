-- What holds in each world of a run: of the history that the proof remembers, of each message, of each node's durable part and of each running node.
use Rattle.std.specs.Prelude.{slice_get}
use Rattle.std.proofs.Common.{◌≡◌, ℕ, ◌+◌, ◌<◌, ◌≤◌, ◌⊎◌, List, Some, drop, length, suc, take, true}
use Rattle.std.specs.List.{Contains}
use Rattle.ring_types.specs.declared.entries.Entry.{Entry}
use Rattle.ring_types.specs.declared.entries.Grant.{Grant}
use Rattle.ring_types.specs.Rings.{IsRing, Layout, region_of}
use Rattle.ring_types.specs.declared.entries.Opid.{Opid}
use Rattle.ring_types.specs.declared.entries.Vote.{Vote}
use Rattle.ring_types.specs.Logs.{entry_at, last, region_at, term_at}
use Rattle.ring_model.specs.Safety.{Agree}
use Rattle.ring_model.specs.declared.messages.Body.{Body}
use Rattle.ring_model.specs.declared.nodes.Role.TheVariants.{Candidate, Follower, Leader}
use Rattle.ring_model.specs.declared.nodes.Durable.{Durable}
use Rattle.ring_model.specs.Runs.{Election}
use Rattle.ring_model.specs.declared.messages.Message.{Message}
use Rattle.ring_model.specs.declared.nodes.Peer.{Peer}
use Rattle.ring_model.specs.declared.nodes.Role.{Role}
use Rattle.ring_model.specs.declared.nodes.Soft.{Soft}
use Rattle.ring_model.specs.Quorums.{commits}
use Rattle.ring_model.specs.Replication.{opids_of, reply}
use Rattle.ring_model.specs.Needs.{wins}
use Rattle.ring_model.specs.declared.messages.Body.TheVariants as body

-- a vote that was cast, with the last opid of the log for which it was asked
pub record Cast : Type 0 where
  pub voter : ℕ
  pub vote : Vote
  pub asked : Opid

-- what a run leaves behind for the proof
pub record History : Type 0 where
  pub elections : List Election
  pub casts : List Cast
  pub book : ℕ → List Entry
  pub messages : List Message
  pub chosen : List Entry

-- ---- logs
-- the entry at a place was added by the leader of its term, and the log up to it is in that term's book
pub record IsEntryOf (ring : Layout) (h : History) (l : List Entry) (k : ℕ) : Type 0 where
  pub election : Election
  pub led : Contains h.elections election
  pub of_term : election.term ≡ term_at l k
  pub of_region : region_at ring.home l k ≡ region_of ring election.node
  pub in_book : Agree k l (h.book (term_at l k))
  pub place : (e : Entry) → entry_at l k ≡ Some e → e.opid.position ≡ k

pub record IsBookedLog (ring : Layout) (h : History) (t : ℕ) (l : List Entry) : Type 0 where
  pub entry : (k : ℕ) → 0 < k → k ≤ length l → IsEntryOf ring h l k
  pub rises : (j k : ℕ) → j ≤ k → k ≤ length l → term_at l j ≤ term_at l k
  pub below : (last l).term ≤ t

-- ---- acknowledgements and what is committed
-- the answer that takes entries up to a position
abbrev pub ok_reply : ℕ → ℕ → Body
ok_reply term position = body.AppendReply (record { term = term; ok = true; position = position })

pub data HasAcked (h : History) (v s p : ℕ) : Type 0 where
  As_leader : (e : Election) → Contains h.elections e → e.term ≡ s → e.node ≡ v → p ≤ length (h.book s) → HasAcked h v s p
  By_reply : (m : Message) (q : ℕ) → Contains h.messages m → m.from ≡ v → m.body ≡ ok_reply s q → p ≤ q → HasAcked h v s p

pub record IsCommitted (ring : Layout) (h : History) (s p : ℕ) : Type 0 where
  pub election : Election
  pub led : Contains h.elections election
  pub of_term : election.term ≡ s
  pub own : term_at (h.book s) p ≡ s
  pub inside : p ≤ length (h.book s)
  pub quorum : List ℕ
  pub reached : commits ring (region_of ring election.node) quorum ≡ true
  pub acked : (v : ℕ) → Contains quorum v → HasAcked h v s p

pub data IsSealed (ring : Layout) (h : History) (u c : ℕ) (l : List Entry) : Type 0 where
  Nothing_yet : c ≡ 0 → IsSealed ring h u c l
  Sealed_at : (s p : ℕ) → s ≤ u → c ≤ p → IsCommitted ring h s p → Agree c l (h.book s) → IsSealed ring h u c l

-- ---- votes and elections
pub record IsGrant (h : History) (x t : ℕ) (q : Opid) (g : Grant) : Type 0 where
  pub cast : Cast
  pub was_cast : Contains h.casts cast
  pub by : cast.voter ≡ g.voter
  pub of_term : cast.vote.term ≡ t
  pub for : cast.vote.candidate ≡ x
  pub asked : cast.asked ≡ q
  pub report : (c : Cast) → Contains h.casts c → c.voter ≡ g.voter → q.term < c.vote.term → c.vote.term < t → Contains g.votes c.vote

pub record IsWon (ring : Layout) (h : History) (e : Election) : Type 0 where
  pub won : wins ring (last e.base).term (region_at ring.home e.base (length e.base)) (region_of ring e.node) e.term e.grants ≡ true
  pub base : IsBookedLog ring h (last e.base).term e.base
  pub base_below : (last e.base).term < e.term
  pub grants : (g : Grant) → Contains e.grants g → IsGrant h e.node e.term (last e.base) g
  pub in_book : Agree (length e.base) e.base (h.book e.term)
  pub longer : length e.base < length (h.book e.term)
  pub own : (k : ℕ) → length e.base < k → k ≤ length (h.book e.term) → term_at (h.book e.term) k ≡ e.term
  pub book : IsBookedLog ring h e.term (h.book e.term)

pub record Overrules (h : History) (u : Election) (s p : ℕ) : Type 0 where
  pub led : Contains h.elections u
  pub later : s < u.term
  pub lacks : Agree p (h.book s) u.base → ⊥

pub data VoteKeeps (h : History) (c : Cast) (s p : ℕ) : Type 0 where
  Newer : s < c.asked.term → VoteKeeps h c s p
  As_new : c.asked.term ≡ s → p ≤ c.asked.position → VoteKeeps h c s p
  Overruled : (u : Election) → Overrules h u s p → u.term ≤ c.vote.term → (u.term ≡ c.vote.term → (g : Grant) → Contains u.grants g → g.voter ≡ c.voter → ⊥) → VoteKeeps h c s p

pub record IsCast (ring : Layout) (h : History) (c : Cast) : Type 0 where
  pub of_region : c.vote.region ≡ region_of ring c.vote.candidate
  pub self : (d : Cast) × Contains h.casts d × (d.voter ≡ c.vote.candidate) × (d.vote ≡ c.vote) × (d.asked ≡ c.asked)
  pub keeps : (s p : ℕ) → HasAcked h c.voter s p → s < c.vote.term → term_at (h.book s) p ≡ s → VoteKeeps h c s p

-- ---- messages
pub record IsStretch (ring : Layout) (h : History) (t leader : ℕ) (prev : Opid) (commit n : ℕ) : Type 0 where
  pub election : Election
  pub led : Contains h.elections election
  pub of_term : election.term ≡ t
  pub by : election.node ≡ leader
  pub fits : prev.position + n ≤ length (h.book t)
  pub prev_term : term_at (h.book t) prev.position ≡ prev.term
  pub sealed : IsSealed ring h t commit (h.book t)
  pub chosen : commit ≤ length h.chosen

abbrev pub IsSent : Layout → History → ℕ → ℕ → Body → Type 0
IsSent ring h from to (body.RequestVote asked) =
    (c : Cast) × Contains h.casts c × (c.voter ≡ from) × (c.vote.candidate ≡ from) × (c.vote.term ≡ asked.term) × (c.asked ≡ asked.last)
IsSent ring h from to (body.VoteReply reply) = reply.granted ≡ true → (q : Opid) × IsGrant h to reply.term q (record { voter = from; votes = reply.votes })
IsSent ring h from to (body.Append sent) =
    IsStretch ring h sent.term sent.leader sent.prev sent.commit (length sent.entries)
    × (take (length sent.entries) (drop sent.prev.position (h.book sent.term)) ≡ sent.entries)
IsSent ring h from to (body.AppendReply answer) = answer.ok ≡ true → (answer.position ≤ length (h.book answer.term)) × ((e : Election) × Contains h.elections e × (e.term ≡ answer.term))
IsSent ring h from to (body.ProxyAppend sent) =
    IsStretch ring h sent.term from sent.prev sent.commit (length sent.opids)
    × (opids_of (take (length sent.opids) (drop sent.prev.position (h.book sent.term))) ≡ sent.opids)
IsSent ring h from to _ = Unit {0}

-- ---- the history as a whole
pub record IsHistory (ring : Layout) (h : History) : Type 0 where
  pub valid : IsRing ring
  pub elections : (e : Election) → Contains h.elections e → IsWon ring h e
  pub one_leader : (e f : Election) → Contains h.elections e → Contains h.elections f → e.term ≡ f.term → e ≡ f
  pub terms_once : (j k : ℕ) (e f : Election) → slice_get h.elections j ≡ Some e → slice_get h.elections k ≡ Some f → e.term ≡ f.term → j ≡ k
  pub casts : (c : Cast) → Contains h.casts c → IsCast ring h c
  pub one_vote : (c d : Cast) → Contains h.casts c → Contains h.casts d → c.voter ≡ d.voter → c.vote.term ≡ d.vote.term → c ≡ d
  pub sent : (m : Message) → Contains h.messages m → IsSent ring h m.from m.to m.body
  pub chosen : (u : ℕ) × IsSealed ring h u (length h.chosen) h.chosen

-- ---- a node's durable part
pub data KeepsAcked (h : History) (d : Durable) (s p : ℕ) : Type 0 where
  Kept : Agree p (h.book s) d.log → KeepsAcked h d s p
  Cut_by : (u : Election) → Overrules h u s p → u.term ≤ d.term → KeepsAcked h d s p

-- a vote no longer kept: the log has a committed entry of at least its term
pub record IsDropped (ring : Layout) (h : History) (d : Durable) (t : ℕ) : Type 0 where
  pub at : ℕ
  pub sealed : IsSealed ring h d.term at d.log
  pub above : t ≤ term_at d.log at

pub record IsNode (ring : Layout) (h : History) (id : ℕ) (d : Durable) : Type 0 where
  pub log : IsBookedLog ring h d.term d.log
  pub led_below : (e : Election) → Contains h.elections e → e.node ≡ id → e.term ≤ d.term
  pub led_log : (e : Election) → Contains h.elections e → e.node ≡ id → e.term ≡ d.term → d.log ≡ h.book e.term
  pub cast_below : (c : Cast) → Contains h.casts c → c.voter ≡ id → c.vote.term ≤ d.term
  pub cast_kept : (c : Cast) → Contains h.casts c → c.voter ≡ id → c.vote.term ≡ d.term → Contains d.votes c.vote
  pub votes_cast : (w : Vote) → Contains d.votes w → (c : Cast) × Contains h.casts c × (c.voter ≡ id) × (c.vote ≡ w)
  pub dropped : (c : Cast) → Contains h.casts c → c.voter ≡ id → Contains d.votes c.vote ⊎ IsDropped ring h d c.vote.term
  pub between : (c e : Cast) → Contains h.casts c → Contains h.casts e → c.voter ≡ id → e.voter ≡ id → c.vote.term ≡ d.term
      → c.asked.term < e.vote.term → e.vote.term < c.vote.term → Contains d.votes e.vote
  pub acked_below : (s p : ℕ) → HasAcked h id s p → s ≤ d.term
  pub acked : (s p : ℕ) → HasAcked h id s p → KeepsAcked h d s p
  pub applied : IsSealed ring h d.term d.applied d.log

-- ---- a running node's volatile part
pub record IsCandidate (h : History) (id : ℕ) (d : Durable) (gs : List Grant) : Type 0 where
  pub self : (c : Cast) × Contains h.casts c × (c.voter ≡ id) × (c.vote.candidate ≡ id) × (c.vote.term ≡ d.term) × (c.asked ≡ last d.log)
  pub below : (last d.log).term < d.term
  pub not_led : (e : Election) → Contains h.elections e → e.node ≡ id → e.term ≡ d.term → ⊥
  pub grants : (g : Grant) → Contains gs g → IsGrant h id d.term (last d.log) g

pub record IsLeader (h : History) (id : ℕ) (d : Durable) (s : Soft) : Type 0 where
  pub election : Election
  pub led : Contains h.elections election
  pub by : election.node ≡ id
  pub of_term : election.term ≡ d.term
  pub matched : (p : Peer) → Contains s.peers p → 0 < p.matched → HasAcked h p.node d.term p.matched
  pub next : (p : Peer) → Contains s.peers p → (p.matched < p.next) × (p.next ≤ suc (length d.log))

abbrev pub HasRole : History → ℕ → Durable → Soft → Role → Type 0
HasRole h id d s Follower = Unit {0}
HasRole h id d s Candidate = IsCandidate h id d s.grants
HasRole h id d s Leader = IsLeader h id d s

pub record IsRunning (ring : Layout) (h : History) (id : ℕ) (d : Durable) (s : Soft) : Type 0 where
  pub sealed : IsSealed ring h d.term s.commit d.log
  pub chosen : s.commit ≤ length h.chosen
  pub applied : d.applied ≤ s.commit
  pub role : HasRole h id d s s.role
