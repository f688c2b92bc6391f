-- The bytes of an item, and which actions have some. Only private contracts cite this.
use Rattle.std.specs.Prelude.{ℕ, ◌+◌, ◌^◌, ◌<◌, ◌≤◌, List, [], ◌∷◌, ◌++◌, length}
use Rattle.std.specs.Int.{w32, w64, to_le_bytes}
use Rattle.event_txn.specs.Laws.{IsTxn}
use Rattle.event_txn.specs.Txns.{txn_events}
use Rattle.engine_redo.specs.Items.{front_place}
use Rattle.ring_model.specs.declared.effects.Action.{Action}
use Rattle.ring_model.specs.declared.effects.Action.TheVariants as action
use Rattle.ring_types.specs.Sizes.{group_bytes, group_limit}
use Rattle.ring_types.specs.declared.entries.Opid.{Opid}
use Rattle.ring_types.specs.declared.entries.Pair.{Pair}
use Rattle.ring_types.specs.declared.entries.Payload.TheVariants as payload
use Rattle.ring_types.specs.declared.schemas.Schema.{Schema}

abbrev pub opid_text : Opid → List ℕ
opid_text o = to_le_bytes w64 o.term ++ to_le_bytes w64 o.position

abbrev pub opids_text : List Opid → List ℕ
opids_text [] = []
opids_text (o ∷ opids) = opid_text o ++ opids_text opids

abbrev pub events_of : Schema → Pair → List ℕ
events_of schema p = txn_events schema p.txn p.opid.position front_place

abbrev pub item_text : Schema → Action → List ℕ
item_text schema (action.Prepare p) = 1 ∷ opid_text p.opid ++ to_le_bytes w32 (length (events_of schema p)) ++ events_of schema p
item_text schema (action.Commit position) = 2 ∷ to_le_bytes w64 position
item_text schema (action.RollBackAfter position) = 3 ∷ to_le_bytes w64 position
item_text schema (action.DropPairs opids) = 4 ∷ to_le_bytes w64 (length opids) ++ opids_text opids
item_text schema _ = []

-- the action is one of the engine's; the transaction that it prepares has numbers that fit their fields, and no too large a group
abbrev pub MayBeItem : Schema → Action → Type 0
MayBeItem schema (action.Prepare p) = IsTxn schema p.txn × (group_bytes schema (payload.Txn p.txn) ≤ group_limit)
MayBeItem schema (action.Commit position) = Unit {0}
MayBeItem schema (action.RollBackAfter position) = Unit {0}
MayBeItem schema (action.DropPairs opids) = Unit {0}
MayBeItem schema _ = ⊥

abbrev pub FitsOpid : Opid → Type 0
FitsOpid o = (o.term < 2 ^ 64) × (o.position < 2 ^ 64)

abbrev pub FitOpids : List Opid → Type 0
FitOpids [] = Unit {0}
FitOpids (o ∷ opids) = FitsOpid o × FitOpids opids

-- its numbers fit their fields
abbrev pub FitsItem : Schema → Action → Type 0
FitsItem schema (action.Prepare p) = FitsOpid p.opid × IsTxn schema p.txn × (length (events_of schema p) + 42 ≤ group_limit)
FitsItem schema (action.Commit position) = position < 2 ^ 64
FitsItem schema (action.RollBackAfter position) = position < 2 ^ 64
FitsItem schema (action.DropPairs opids) = (length opids < 2 ^ 64) × FitOpids opids
FitsItem schema _ = ⊥
