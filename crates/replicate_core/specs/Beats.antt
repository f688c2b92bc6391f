-- What a leader sends at a beat, from what its functions are handed of it.
use Rattle.std.specs.Prelude.{ℕ, List, [], take}
use Rattle.ring_types.specs.declared.entries.Entry.{Entry}
use Rattle.ring_types.specs.declared.entries.Opid.{Opid}
use Rattle.ring_types.specs.declared.schemas.Schema.{Schema}
use Rattle.ring_model.specs.declared.messages.Message.{Message}
use Rattle.ring_model.specs.declared.nodes.Durable.{Durable}
use Rattle.ring_model.specs.declared.nodes.Mock.TheVariants as mock
use Rattle.ring_model.specs.declared.nodes.Peer.{Peer}
use Rattle.ring_model.specs.declared.nodes.Role.TheVariants.{Leader}
use Rattle.ring_model.specs.declared.nodes.Soft.{Soft}
use Rattle.ring_model.specs.declared.nodes.Transfer.TheVariants as transfer
use Rattle.ring_model.specs.Replication.{batch_length, beat_to, send_direct, send_proxied}
use Rattle.commit_pipeline.specs.Advances.{part_after}
use Rattle.replicate_core.specs.declared.beats.Sender.{Sender}

-- of so many entries and bytes at most, what one message takes
abbrev pub batch_left : Schema → ℕ → ℕ → List Entry → List Entry
batch_left schema count bytes entries = take (batch_length schema count bytes entries) entries

-- a leader of this term and log, as far as a beat asks
abbrev pub sends_of : ℕ → List Entry → Durable
sends_of term log = part_after term log 0 []

abbrev pub knows_of : ℕ → List Peer → Soft
knows_of commit peers =
    record { role = Leader; commit = commit; ready_at = 0; rounds = 0; grants = []; peers = peers; pending = []; transfer = transfer.Off; mock = mock.Off }

-- ---- of a sender as it is handed in
abbrev pub direct : Sender → ℕ → Opid → List Entry → Message
direct x to prev entries = send_direct x.me (sends_of x.term []) (knows_of x.commit x.peers.now) to prev entries

abbrev pub proxied : Sender → ℕ → ℕ → Opid → List Entry → Message
proxied x proxy target prev entries = send_proxied x.me proxy (sends_of x.term []) (knows_of x.commit x.peers.now) target prev entries

abbrev pub message_to : Sender → List Entry → Peer → Message
message_to x log p = beat_to x.ring.now x.me (sends_of x.term log) (knows_of x.commit x.peers.now) p
