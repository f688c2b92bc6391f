-- The plan of a write, from the parts that the core is handed.
use Rattle.std.specs.Prelude.{ℕ, ◌+◌, List, [], ◌∷◌, ◌++◌, Option, Some, None}
use Rattle.ring_types.specs.declared.entries.Opid.{Opid}
use Rattle.ring_types.specs.declared.entries.Entry.{Entry}
use Rattle.ring_types.specs.declared.entries.Pair.{Pair}
use Rattle.ring_types.specs.declared.entries.Payload.{Payload}
use Rattle.ring_types.specs.declared.entries.Payload.TheVariants as payload
use Rattle.ring_types.specs.declared.values.Change.{Change}
use Rattle.ring_types.specs.declared.values.Txn.{Txn}
use Rattle.ring_types.specs.Rings.{Layout, region_of}
use Rattle.ring_model.specs.declared.nodes.Peer.{Peer}
use Rattle.ring_model.specs.declared.nodes.Pending.{Pending}
use Rattle.ring_model.specs.declared.effects.Action.TheVariants as action
use Rattle.ring_model.specs.declared.effects.Cause.{Cause}
use Rattle.ring_model.specs.declared.effects.Plan.{Plan}
use Rattle.ring_model.specs.declared.effects.What.TheVariants as what
use Rattle.commit_pipeline.specs.declared.advances.Advanced.{Advanced}
use Rattle.commit_pipeline.specs.declared.writes.ClientWrite.{ClientWrite}
use Rattle.commit_pipeline.specs.Advances.{advanced, pairs_after, part_after}
use Rattle.commit_pipeline.specs.Refusals.{txn_of}

abbrev pub refused_plan : ℕ → Cause → Plan
refused_plan client c = record { actions = []; messages = []; says = record { client = client; what = what.Refused c } ∷ [] }

-- a client's write of these changes
abbrev pub client_write : ℕ → Option ℕ → ℕ → List Change → ClientWrite
client_write server next client changes = record { client = client; txn = txn_of server next changes; payload = payload.Txn (txn_of server next changes) }

-- the opid after a log of this length, and the entry there
abbrev pub opid_after : ℕ → ℕ → Opid
opid_after term end = record { term = term; position = end + 1 }

abbrev pub entry_after : Layout → ℕ → ℕ → ℕ → Payload → Entry
entry_after ring me term end p = record { opid = opid_after term end; region = region_of ring me; payload = p }

abbrev pub write_by : Layout → ℕ → ℕ → List Entry → ℕ → List Pair → ℕ → List Peer → List Pending → ℕ → Txn → ℕ → Advanced
write_by ring me term log applied pairs commit peers pending client t end =
    advanced ring me (part_after term (log ++ entry_after ring me term end (payload.Txn t) ∷ []) applied (pairs_after None (Some (opid_after term end)) pairs)) commit peers
    (pending ++ record { client = client; gtid = t.gtid; opid = opid_after term end } ∷ [])
    (record { actions = (action.Prepare (record { opid = opid_after term end; txn = t }) ∷ []) ++ action.Append (entry_after ring me term end (payload.Txn t) ∷ []) ∷ []; messages = []; says = [] })

abbrev pub rotate_by : Layout → ℕ → ℕ → List Entry → ℕ → List Pair → ℕ → List Peer → List Pending → ℕ → ℕ → Advanced
rotate_by ring me term log applied pairs commit peers pending client end =
    advanced ring me (part_after term (log ++ entry_after ring me term end payload.Rotate ∷ []) applied pairs) commit peers pending
    (record { actions = action.Append (entry_after ring me term end payload.Rotate ∷ []) ∷ []; messages = []; says = record { client = client; what = what.Rotated (opid_after term end) } ∷ [] })
