-- The durable part of a node and the eight actions on it: what each makes of it, and when it is possible (Raft's persistent state; XA prepare, commit and rollback of the MySQL manual).
use Rattle.std.specs.Prelude.{◌≡◌, ℕ, zero, suc, ◌+◌, ◌-◌, ◌^◌, ◌<◌, ◌≤◌, ◌==◌, Bool, true, false, not, ◌&&◌, List, [], ◌∷◌, ◌++◌, length, take, drop, filter, filter_map, find, nat_lt, nat_le, bytes_eq, if◌then◌else◌, Option, Some, None}
use Rattle.std.specs.List.{list_any, list_all, Contains}
use Rattle.std.specs.Option.{option_map_or}
use Rattle.ring_types.specs.declared.limits.TheConstants.{MOST_VOTES}
use Rattle.ring_types.specs.declared.entries.Opid.{Opid}
use Rattle.ring_types.specs.declared.entries.Vote.{Vote}
use Rattle.ring_types.specs.declared.entries.Entry.{Entry}
use Rattle.ring_types.specs.declared.entries.Pair.{Pair}
use Rattle.ring_types.specs.declared.entries.Payload.{Payload}
use Rattle.ring_types.specs.declared.entries.Payload.TheVariants as payload
use Rattle.ring_types.specs.declared.values.Change.{Change}
use Rattle.ring_types.specs.declared.values.Value.{Value}
use Rattle.ring_types.specs.declared.values.Txn.{Txn}
use Rattle.ring_types.specs.declared.schemas.Schema.{Schema}
use Rattle.ring_types.specs.Logs.{IsLog, entry_at, is_txn, same_opid, has_opid}
use Rattle.ring_types.specs.Rows.{table_name, change_key, same_value, payload_fits, payloads_fit}
use Rattle.ring_types.specs.Sizes.{group_bytes, group_limit}
use Rattle.ring_model.specs.declared.nodes.Durable.{Durable}
use Rattle.ring_model.specs.declared.effects.Action.{Action}
use Rattle.ring_model.specs.declared.effects.Action.TheVariants as action

-- ---- votes
-- the votes of terms above the floor
abbrev pub votes_above : ℕ → List Vote → List Vote
votes_above floor votes = filter (λ (v : Vote). nat_lt floor v.term) votes

-- the vote kept for a term
abbrev pub vote_in : List Vote → ℕ → Option Vote
vote_in votes term = find (λ (v : Vote). v.term == term) votes

-- a history keeps so many votes
abbrev pub vote_limit : ℕ
vote_limit = MOST_VOTES

-- one more vote has room once those up to the floor are dropped
abbrev pub has_room : ℕ → List Vote → Bool
has_room floor votes = nat_lt (length (votes_above floor votes)) vote_limit

-- ---- prepared pairs
-- the pair of an entry that is a transaction
abbrev pub pair_of : Entry → Option Pair
pair_of e = elim e.payload [ payload.NoOp ↦ None | payload.Rotate ↦ None | payload.Txn t ↦ Some (record { opid = e.opid; txn = t }) ]

-- the pairs of a list's transactions, in order
abbrev pub pairs_in : List Entry → List Pair
pairs_in entries = filter_map pair_of entries

-- the entries at positions above a and up to k
abbrev pub entries_between : List Entry → ℕ → ℕ → List Entry
entries_between log a k = take (k - a) (drop a log)

abbrev pub is_prepared : List Pair → Opid → Bool
is_prepared pairs o = list_any (λ (p : Pair). same_opid p.opid o) pairs

-- both changes write one key of one table
abbrev pub same_key : Change → Change → Bool
same_key a b = bytes_eq (table_name a) (table_name b) && same_value (change_key a) (change_key b)

-- the transaction writes the key that the change names
abbrev pub writes_key : Change → Pair → Bool
writes_key c p = list_any (same_key c) p.txn.changes

-- the first pair that writes the key of the change
abbrev pub holder_of : List Pair → Change → Option Pair
holder_of pairs c = find (writes_key c) pairs

abbrev pub is_held : List Pair → Change → Bool
is_held pairs c = list_any (writes_key c) pairs

-- ---- what an action makes of a durable part
abbrev pub is_txn_at : List Entry → ℕ → Bool
is_txn_at log position = option_map_or is_txn (entry_at log position) false

abbrev pub done : Durable → Action → Durable
done d (action.SetTerm term) = record d { term = term }
done d (action.Vote vote floor) = record d { votes = votes_above floor d.votes ++ vote ∷ [] }
done d (action.Append entries) = record d { log = d.log ++ entries }
done d (action.Truncate position) = record d { log = take position d.log }
done d (action.Prepare pair) = record d { prepared = d.prepared ++ pair ∷ [] }
done d (action.Commit position) = record d { applied = position; prepared = if is_txn_at d.log position then drop 1 d.prepared else d.prepared }
done d (action.RollBackAfter position) = record d { prepared = filter (λ (p : Pair). nat_le p.opid.position position) d.prepared }
done d (action.DropPairs opids) = record d { prepared = filter (λ (p : Pair). not (list_any (same_opid p.opid) opids)) d.prepared }

-- a list of actions, in order
abbrev pub all_done : Durable → List Action → Durable
all_done d [] = d
all_done d (a ∷ actions) = all_done (done d a) actions

-- ---- when an action is possible
-- the front pair is the entry's: its opid and its transaction
abbrev pub FrontIs : List Pair → Entry → Type 0
FrontIs [] e = ⊥
FrontIs (p ∷ pairs) e = pair_of e ≡ Some p

abbrev pub FrontIsNot : List Pair → ℕ → Type 0
FrontIsNot [] position = Unit {0}
FrontIsNot (p ∷ pairs) position = (p.opid.position == position) ≡ false

-- a transaction at the position is the front pair; for another entry the front pair is of another position
abbrev pub MayCommitEntry : List Pair → ℕ → Option Entry → Type 0
MayCommitEntry pairs position None = ⊥
MayCommitEntry pairs position (Some e) = elim (is_txn e) [ true ↦ FrontIs pairs e | false ↦ FrontIsNot pairs position ]

abbrev pub IsPossible : Schema → Durable → Action → Type 0
IsPossible schema d (action.SetTerm term) = d.term < term
IsPossible schema d (action.Vote vote floor) = (has_room floor d.votes ≡ true) × (vote.term ≡ d.term) × (vote_in d.votes d.term ≡ None)
IsPossible schema d (action.Append entries) = IsLog (d.log ++ entries) × (payloads_fit schema (d.log ++ entries) ≡ true)
IsPossible schema d (action.Truncate position) = (d.applied ≤ position) × (position ≤ length d.log)
IsPossible schema d (action.Prepare pair) =
    (list_any (is_held d.prepared) pair.txn.changes ≡ false) × (payload_fits schema (payload.Txn pair.txn) ≡ true)
    × (group_bytes schema (payload.Txn pair.txn) ≤ group_limit)
IsPossible schema d (action.Commit position) = (position ≡ d.applied + 1) × (position ≤ length d.log) × MayCommitEntry d.prepared position (entry_at d.log position)
IsPossible schema d (action.RollBackAfter position) = Unit {0}
IsPossible schema d (action.DropPairs opids) = Unit {0}

-- each action of a list is possible where its turn comes
abbrev pub ArePossible : Schema → Durable → List Action → Type 0
ArePossible schema d [] = Unit {0}
ArePossible schema d (a ∷ actions) = IsPossible schema d a × ArePossible schema (done d a) actions
