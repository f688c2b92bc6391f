-- When a message is well formed: the limits of what it says beyond the widths of its numbers, with the order of the opids that it lists (Raft's AppendEntries; MyRaft's proxied replication).
use Rattle.std.specs.Prelude.{◌≡◌, ℕ, suc, ◌+◌, ◌-◌, ◌^◌, ◌<◌, ◌≤◌, ◌==◌, nat_lt, nat_le, Bool, true, false, ◌&&◌, List, [], ◌∷◌, length}
use Rattle.std.specs.List.{list_all}
use Rattle.ring_types.specs.declared.limits.TheConstants.{BATCH_BYTES, CHANGES_IN_MESSAGE, TABLE_NAME_BYTES, TERM_END, TEXT_BYTES, VALUES_IN_CHANGE}
use Rattle.ring_types.specs.declared.entries.Opid.{Opid}
use Rattle.ring_types.specs.declared.entries.Vote.{Vote}
use Rattle.ring_types.specs.declared.entries.Entry.{Entry}
use Rattle.ring_types.specs.declared.schemas.Schema.{Schema}
use Rattle.ring_types.specs.declared.values.Change.{Change}
use Rattle.ring_types.specs.declared.values.Change.TheVariants.{Insert, Update, Delete}
use Rattle.ring_types.specs.declared.values.Value.{Value}
use Rattle.ring_types.specs.declared.values.Value.TheVariants as value
use Rattle.ring_types.specs.Rows.{is_number, payloads_fit}
use Rattle.ring_types.specs.Sizes.{group_bytes, group_limit}
use Rattle.ring_model.specs.Actions.{vote_limit}
use Rattle.ring_model.specs.Replication.{batch_limit, opids_of}
use Rattle.ring_model.specs.declared.effects.Cause.{Cause}
use Rattle.ring_model.specs.declared.effects.Cause.TheVariants as cause
use Rattle.ring_model.specs.declared.effects.What.{What}
use Rattle.ring_model.specs.declared.effects.What.TheVariants as what
use Rattle.ring_model.specs.declared.messages.Append.{Append}
use Rattle.ring_model.specs.declared.messages.Body.{Body}
use Rattle.ring_model.specs.declared.messages.Body.TheVariants as body
use Rattle.ring_model.specs.declared.messages.Message.{Message}
use Rattle.ring_model.specs.declared.messages.ProxyAppend.{ProxyAppend}
use Rattle.ring_model.specs.declared.messages.VoteReply.{VoteReply}

-- ---- opids
abbrev pub opid_fits : Opid → Bool
opid_fits o = nat_lt o.term TERM_END && nat_lt o.position TERM_END

-- each opid is at the next position, of a term that is not below the one before and at most the message's
abbrev pub opids_follow : ℕ → Opid → List Opid → Bool
opids_follow term before [] = true
opids_follow term before (o ∷ opids) = o.position == suc before.position && nat_le before.term o.term && nat_le o.term term && opids_follow term o opids

-- ---- what node says to node
pub record VotesFit (reply : VoteReply) : Type 0 where
  pub term : reply.term < TERM_END
  pub few : length reply.votes ≤ vote_limit
  pub terms : list_all (λ (v : Vote). nat_lt v.term TERM_END) reply.votes ≡ true
  pub refused : reply.granted ≡ false → reply.votes ≡ []

-- the bytes of all groups
abbrev pub all_bytes : Schema → List Entry → ℕ
all_bytes schema [] = 0
all_bytes schema (e ∷ entries) = group_bytes schema e.payload + all_bytes schema entries

-- all but the sum of bytes
pub record EntriesFit (schema : Schema) (sent : Append) : Type 0 where
  pub term : sent.term < TERM_END
  pub prev : opid_fits sent.prev ≡ true
  pub commit : sent.commit < TERM_END
  pub few : length sent.entries ≤ batch_limit
  pub follow : opids_follow sent.term sent.prev (opids_of sent.entries) ≡ true
  pub opids : list_all opid_fits (opids_of sent.entries) ≡ true
  pub groups : list_all (λ (e : Entry). nat_le (group_bytes schema e.payload) group_limit) sent.entries ≡ true
  pub payloads : payloads_fit schema sent.entries ≡ true

pub record OpidsFit (sent : ProxyAppend) : Type 0 where
  pub term : sent.term < TERM_END
  pub prev : opid_fits sent.prev ≡ true
  pub commit : sent.commit < TERM_END
  pub few : length sent.opids ≤ batch_limit
  pub follow : opids_follow sent.term sent.prev sent.opids ≡ true
  pub opids : list_all opid_fits sent.opids ≡ true

-- ---- what a client says and is told
abbrev pub text_limit : ℕ
text_limit = TEXT_BYTES

abbrev pub value_is_short : Value → Bool
value_is_short value.Null = true
value_is_short (value.Int n) = true
value_is_short (value.Text t) = nat_le (length t) text_limit

abbrev pub row_is_short : List ℕ → List Value → Bool
row_is_short table row = nat_le (length table) TABLE_NAME_BYTES && nat_le (length row) VALUES_IN_CHANGE && list_all value_is_short row

abbrev pub change_is_short : Change → Bool
change_is_short (Insert table row) = row_is_short table row
change_is_short (Update table row) = row_is_short table row
change_is_short (Delete table key) = row_is_short table (key ∷ [])

abbrev pub ChangesFit : List Change → Type 0
ChangesFit changes = (1 ≤ length changes) × (length changes ≤ CHANGES_IN_MESSAGE) × (list_all change_is_short changes ≡ true)

abbrev pub cause_fits : Cause → Bool
cause_fits (cause.Locked table key holder) = row_is_short table (key ∷ []) && opid_fits holder
cause_fits _ = true

abbrev pub what_fits : What → Bool
what_fits (what.Committed gtid opid term) = is_number gtid.number && opid_fits opid && nat_lt term TERM_END
what_fits (what.Unknown gtid opid) = is_number gtid.number && opid_fits opid
what_fits (what.Refused c) = cause_fits c
what_fits (what.Rotated opid) = opid_fits opid
what_fits (what.Moving node) = true
what_fits (what.MoveFailed node) = true
what_fits what.Cancelled = true

-- ---- a message
-- well formed, but for the sum of bytes of an Append: what a proxy builds may have more
abbrev pub BodyIsNear : Schema → Body → Type 0
BodyIsNear schema (body.RequestVote asked) = (asked.term < TERM_END) × (opid_fits asked.last ≡ true)
BodyIsNear schema (body.VoteReply reply) = VotesFit reply
BodyIsNear schema (body.Append sent) = EntriesFit schema sent
BodyIsNear schema (body.AppendReply answer) = (answer.term < TERM_END) × (answer.position < TERM_END)
BodyIsNear schema (body.ProxyAppend sent) = OpidsFit sent
BodyIsNear schema (body.MockStart sent) = (sent.term < TERM_END) × (opid_fits sent.last ≡ true)
BodyIsNear schema (body.MockRequest sent) = (sent.term < TERM_END) × (opid_fits sent.last ≡ true)
BodyIsNear schema (body.MockReply sent) = sent.term < TERM_END
BodyIsNear schema (body.MockResult sent) = sent.term < TERM_END
BodyIsNear schema (body.TimeoutNow term) = term < TERM_END
BodyIsNear schema (body.ClientWrite changes) = ChangesFit changes
BodyIsNear schema body.ClientRotate = Unit {0}
BodyIsNear schema (body.ClientTransfer target) = Unit {0}
BodyIsNear schema body.ClientCancel = Unit {0}
BodyIsNear schema (body.ClientReply what) = what_fits what ≡ true

-- the groups of an Append have so many bytes in sum
abbrev pub BytesFit : Schema → Body → Type 0
BytesFit schema (body.Append sent) = all_bytes schema sent.entries ≤ BATCH_BYTES
BytesFit schema _ = Unit {0}

abbrev pub IsNearlyWellFormed : Schema → Message → Type 0
IsNearlyWellFormed schema m = BodyIsNear schema m.body

abbrev pub IsWellFormed : Schema → Message → Type 0
IsWellFormed schema m = BodyIsNear schema m.body × BytesFit schema m.body
