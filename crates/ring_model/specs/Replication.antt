-- Replication: a leader's beat, what a member does with entries, the answers, and the proxy (Raft; MyRaft's proxied replication).
use Rattle.std.specs.Prelude.{◌≡◌, ℕ, zero, suc, ◌+◌, ◌-◌, ◌==◌, nat_lt, nat_le, if◌then◌else◌, Bool, true, false, not, ◌&&◌, ◌||◌, List, [], ◌∷◌, ◌++◌, length, map, take, drop, Option, Some, None}
use Rattle.std.specs.Option.{option_map_or}
use Rattle.ring_types.specs.declared.limits.TheConstants.{BATCH_BYTES, BATCH_ENTRIES, LAST_FILE, SILENT_BEATS}
use Rattle.ring_types.specs.declared.members.Member.{Member}
use Rattle.ring_types.specs.declared.entries.Opid.{Opid}
use Rattle.ring_types.specs.declared.entries.Entry.{Entry}
use Rattle.ring_types.specs.declared.schemas.Schema.{Schema}
use Rattle.ring_types.specs.Rings.{Layout, region_of, proxy_of, runs_engine}
use Rattle.ring_types.specs.Logs.{entry_at, term_at, last, same_opid, rotates}
use Rattle.ring_types.specs.Sizes.{group_size, group_limit}
use Rattle.ring_model.specs.Actions.{all_done}
use Rattle.ring_model.specs.Nodes.{is_leader}
use Rattle.ring_model.specs.Steps.{stepped, idle, message, demoted, unknowns, advance, follow_actions, greater_of, smaller_of}
use Rattle.ring_model.specs.declared.nodes.Durable.{Durable}
use Rattle.ring_model.specs.declared.nodes.Soft.{Soft}
use Rattle.ring_model.specs.declared.nodes.Role.TheVariants.{Follower, Candidate, Leader}
use Rattle.ring_model.specs.declared.nodes.Peer.{Peer}
use Rattle.ring_model.specs.declared.effects.Action.{Action}
use Rattle.ring_model.specs.declared.effects.Action.TheVariants as action
use Rattle.ring_model.specs.declared.effects.Step.{Step}
use Rattle.ring_model.specs.declared.effects.Say.{Say}
use Rattle.ring_model.specs.declared.effects.Tear.{Tear}
use Rattle.ring_model.specs.declared.messages.Message.{Message}
use Rattle.ring_model.specs.declared.messages.Body.TheVariants as body
use Rattle.ring_model.specs.declared.messages.Append.{Append}
use Rattle.ring_model.specs.declared.messages.AppendReply.{AppendReply}
use Rattle.ring_model.specs.declared.messages.ProxyAppend.{ProxyAppend}

-- ---- a beat: to each other member its entries, or their opids to its region's proxy
-- how many of these entries one message takes: so many at most, and so many bytes of groups
abbrev pub batch_length : Schema → ℕ → ℕ → List Entry → ℕ
batch_length schema zero bytes entries = 0
batch_length schema (suc count) bytes [] = 0
batch_length schema (suc count) bytes (e ∷ entries) =
    if nat_le (group_size schema e.payload) bytes then suc (batch_length schema count (bytes - group_size schema e.payload) entries) else 0

abbrev pub batch_limit : ℕ
batch_limit = BATCH_ENTRIES

abbrev pub batch_of : Schema → List Entry → List Entry
batch_of schema entries = take (batch_length schema batch_limit BATCH_BYTES entries) entries

abbrev pub opids_of : List Entry → List Opid
opids_of [] = []
opids_of (e ∷ entries) = e.opid ∷ opids_of entries

-- the count of beats since a member's last reply
abbrev pub silent_of : List Peer → ℕ → ℕ
silent_of [] id = 0
silent_of (p ∷ peers) id = if p.node == id then p.silent else silent_of peers id

-- the first member declared in the region of a member
abbrev pub proxy_id : Layout → ℕ → ℕ
proxy_id ring id = option_map_or (λ (m : Member). m.id) (proxy_of ring (region_of ring id)) id

-- the member is in another region, is not its region's proxy, and the proxy was not silent for three beats
abbrev pub is_proxied : Layout → ℕ → List Peer → ℕ → Bool
is_proxied ring me peers id =
    not (region_of ring id == region_of ring me) && not (proxy_id ring id == id) && nat_lt (silent_of peers (proxy_id ring id)) SILENT_BEATS

-- the opid at the position before
abbrev pub opid_before : List Entry → ℕ → Opid
opid_before log next = record { term = term_at log (next - 1); position = next - 1 }

abbrev pub send_direct : ℕ → Durable → Soft → ℕ → Opid → List Entry → Message
send_direct me d s to prev entries = message me to (body.Append (record { term = d.term; leader = me; prev = prev; commit = s.commit; entries = entries }))

abbrev pub send_proxied : ℕ → ℕ → Durable → Soft → ℕ → Opid → List Entry → Message
send_proxied me proxy d s target prev entries = message me proxy (body.ProxyAppend (record { term = d.term; target = target; prev = prev; commit = s.commit; opids = opids_of entries }))

abbrev pub beat_to : Layout → ℕ → Durable → Soft → Peer → Message
beat_to ring me d s p =
    if is_proxied ring me s.peers p.node
    then send_proxied me (proxy_id ring p.node) d s p.node (opid_before d.log p.next) (batch_of ring.schema (drop (p.next - 1) d.log))
    else send_direct me d s p.node (opid_before d.log p.next) (batch_of ring.schema (drop (p.next - 1) d.log))

-- each silent count rises, to at most three
abbrev pub quieter : Peer → Peer
quieter p = record p { silent = smaller_of (suc p.silent) SILENT_BEATS }

unfoldable pub beat : Layout → ℕ → Durable → Soft → Step
beat ring me d s =
    if is_leader s.role then stepped [] (map (beat_to ring me d s) s.peers) [] (record s { peers = map quieter s.peers })
    else idle s

-- ---- what a member does with an Append
-- the current binary log file's number
abbrev pub file_number : List Entry → ℕ
file_number log = suc (rotates log)

abbrev pub file_limit : ℕ
file_limit = LAST_FILE

-- an opid or an entry that differs in term from a committed one: the least such position
abbrev pub first_tear : List Entry → ℕ → ℕ → List ℕ → Option Tear
first_tear log commit position [] = None
first_tear log commit position (sent ∷ terms) =
    if nat_le position commit
    then (if term_at log position == sent then first_tear log commit (suc position) terms
    else Some (record { position = position; kept_term = term_at log position; sent_term = sent }))
    else None

abbrev pub terms_of : List Entry → List ℕ
terms_of entries = map (λ (e : Entry). e.opid.term) entries

abbrev pub tear_in : Durable → Soft → Append → Option Tear
tear_in d s sent = first_tear d.log s.commit sent.prev.position (sent.prev.term ∷ terms_of sent.entries)

abbrev pub reply : ℕ → ℕ → ℕ → Bool → ℕ → Message
reply me to term ok position = message me to (body.AppendReply (record { term = term; ok = ok; position = position }))

-- the entries from the first on that the log does not hold after a position
abbrev pub unmatched : List Entry → ℕ → List Entry → List Entry
unmatched log position [] = []
unmatched log position (e ∷ entries) =
    if nat_lt position (length log) && term_at log (suc position) == e.opid.term then unmatched log (suc position) entries else e ∷ entries

abbrev pub roll_back : Layout → ℕ → ℕ → List Action
roll_back ring me position = if runs_engine ring me then action.RollBackAfter position ∷ [] else []

-- entries not kept are added, after a cut where something else stands there
abbrev pub take_in : Layout → ℕ → Durable → ℕ → List Entry → List Action
take_in ring me d kept [] = []
take_in ring me d kept (e ∷ rest) =
    if nat_lt kept (length d.log) then action.Truncate kept ∷ (roll_back ring me kept ++ (action.Append (e ∷ rest) ∷ [])) else action.Append (e ∷ rest) ∷ []

-- the last position up to which the log holds the message's entries
abbrev pub kept_position : Opid → List Entry → List Entry → ℕ
kept_position prev entries rest = prev.position + (length entries - length rest)

abbrev pub accept_with : Layout → ℕ → Durable → Soft → List Action → List Say → Append → List Action → Step
accept_with ring me d s first says sent taken =
    let last_matched = sent.prev.position + length sent.entries in
    let commit = greater_of s.commit (smaller_of sent.commit last_matched) in
    stepped (first ++ (taken ++ follow_actions ring me (all_done (all_done d first) taken) commit))
    (reply me sent.leader sent.term true last_matched ∷ []) says (record s { commit = commit })

abbrev pub accept : Layout → ℕ → Durable → Soft → List Action → List Say → Append → Step
accept ring me d s first says sent =
    let rest = unmatched d.log sent.prev.position sent.entries in
    accept_with ring me d s first says sent (take_in ring me d (kept_position sent.prev sent.entries rest) rest)

-- the previous opid has to be in the log; else the leader is told where to try
abbrev pub match_append : Layout → ℕ → Durable → Soft → List Action → List Say → Append → Step
match_append ring me d s first says sent =
    if nat_lt (length d.log) sent.prev.position then stepped first (reply me sent.leader sent.term false (length d.log) ∷ []) says s
    else (if term_at d.log sent.prev.position == sent.prev.term then accept ring me d s first says sent
    else stepped first (reply me sent.leader sent.term false (sent.prev.position - 1) ∷ []) says s)

-- of a term that is not below the node's, and not torn
abbrev pub follow_append : Layout → ℕ → Durable → Soft → Append → Step
follow_append ring me d s sent =
    if nat_lt d.term sent.term then match_append ring me d (demoted s) (action.SetTerm sent.term ∷ []) (unknowns s) sent
    else elim s.role [
      | Follower ↦ match_append ring me d s [] [] sent
      | Candidate ↦ match_append ring me d (demoted s) [] (unknowns s) sent
      | Leader ↦ idle s
    ]

-- the files would be too many
abbrev pub outgrows : Durable → Append → Bool
outgrows d sent = nat_lt file_limit (file_number d.log + rotates sent.entries)

-- no other node may lead the leader's own term, so what claims to is left aside
abbrev pub leads_it : Durable → Soft → Append → Bool
leads_it d s sent = is_leader s.role && sent.term == d.term

unfoldable pub on_append : Layout → ℕ → Durable → Soft → Append → Step
on_append ring me d s sent =
    if outgrows d sent then idle s
    else (if nat_lt sent.term d.term then stepped [] (reply me sent.leader d.term false 0 ∷ []) [] s
    else (if leads_it d s sent then idle s
    else elim (tear_in d s sent) [ Some t ↦ idle s | None ↦ follow_append ring me d s sent ]))

-- where the step is torn: it has no action, no message and no saying
abbrev pub append_tear : Durable → Soft → Append → Option Tear
append_tear d s sent =
    if outgrows d sent || nat_lt sent.term d.term || leads_it d s sent then None else tear_in d s sent

-- ---- what a leader does with the answer
abbrev pub heard_from : Peer → Bool → ℕ → Peer
heard_from p true position = record p { silent = 0; matched = greater_of p.matched position; next = greater_of p.next (suc position) }
heard_from p false position = record p { silent = 0; next = greater_of (suc p.matched) (smaller_of p.next (suc position)) }

abbrev pub heard_among : List Peer → ℕ → Bool → ℕ → List Peer
heard_among [] from ok position = []
heard_among (p ∷ peers) from ok position = if p.node == from then heard_from p ok position ∷ heard_among peers from ok position else p ∷ heard_among peers from ok position

-- a reply of the leader's own term with a position within its log
abbrev pub counts : Durable → Soft → AppendReply → Bool
counts d s answer = is_leader s.role && answer.term == d.term && nat_le answer.position (length d.log)

abbrev pub leader_hears : Layout → ℕ → Durable → Soft → ℕ → AppendReply → Step
leader_hears ring me d s from answer = advance ring me d (record s { peers = heard_among s.peers from answer.ok answer.position }) [] []

-- the rule but for a transfer under way
unfoldable pub on_ack : Layout → ℕ → Durable → Soft → ℕ → AppendReply → Step
on_ack ring me d s from answer =
    if nat_lt d.term answer.term then stepped (action.SetTerm answer.term ∷ []) [] (unknowns s) (demoted s)
    else (if counts d s answer then leader_hears ring me d s from answer else idle s)

-- ---- the proxy sends what it holds, in the leader's name
abbrev pub found : List Entry → List Opid → List Entry
found log [] = []
found log (o ∷ opids) = elim (entry_at log o.position) [ None ↦ [] | Some e ↦ if same_opid e.opid o then e ∷ found log opids else [] ]

unfoldable pub relay : ℕ → Durable → Soft → ℕ → ProxyAppend → Step
relay me d s from sent =
    stepped [] (message me sent.target (body.Append (record { term = sent.term; leader = from; prev = sent.prev; commit = sent.commit; entries = found d.log sent.opids })) ∷ []) [] s
