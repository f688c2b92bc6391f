-- A client's write and rotate: the refusals in order, and the entry that a ready leader adds (the MySQL manual's binary log and GTIDs, Raft's client commands).
use Rattle.std.specs.Prelude.{◌≡◌, ℕ, zero, suc, ◌+◌, ◌-◌, ◌^◌, ◌==◌, nat_lt, nat_le, if◌then◌else◌, Bool, true, false, not, ◌&&◌, ◌||◌, List, [], ◌∷◌, ◌++◌, length, take, is_none, unwrap_or, Option, Some, None}
use Rattle.ring_types.specs.declared.limits.TheConstants.{TERM_END}
use Rattle.ring_types.specs.declared.entries.Opid.{Opid}
use Rattle.ring_types.specs.declared.entries.Entry.{Entry}
use Rattle.ring_types.specs.declared.entries.Pair.{Pair}
use Rattle.ring_types.specs.declared.entries.Payload.{Payload}
use Rattle.ring_types.specs.declared.entries.Payload.TheVariants as payload
use Rattle.ring_types.specs.declared.values.Gtid.{Gtid}
use Rattle.ring_types.specs.declared.values.Txn.{Txn}
use Rattle.ring_types.specs.declared.values.Change.{Change}
use Rattle.ring_types.specs.Rings.{Layout, runs_engine, server_of}
use Rattle.ring_types.specs.Logs.{last}
use Rattle.ring_types.specs.Rows.{Tables, rows, check, table_name, change_key}
use Rattle.ring_types.specs.Sizes.{group_size, group_limit}
use Rattle.ring_types.specs.Gtids.{next_number}
use Rattle.ring_model.specs.Actions.{holder_of}
use Rattle.ring_model.specs.Nodes.{is_leader, is_ready}
use Rattle.ring_model.specs.Steps.{stepped, advance, own_entry}
use Rattle.ring_model.specs.Replication.{file_number, file_limit}
use Rattle.ring_model.specs.declared.nodes.Durable.{Durable}
use Rattle.ring_model.specs.declared.nodes.Soft.{Soft}
use Rattle.ring_model.specs.declared.nodes.Pending.{Pending}
use Rattle.ring_model.specs.declared.nodes.Transfer.{Transfer}
use Rattle.ring_model.specs.declared.nodes.Transfer.TheVariants as transfer
use Rattle.ring_model.specs.declared.effects.Action.TheVariants as action
use Rattle.ring_model.specs.declared.effects.Step.{Step}
use Rattle.ring_model.specs.declared.effects.Say.{Say}
use Rattle.ring_model.specs.declared.effects.What.TheVariants as what
use Rattle.ring_model.specs.declared.effects.Cause.{Cause}
use Rattle.ring_model.specs.declared.effects.Cause.TheVariants as cause

-- one refusal is said, and nothing else happens
abbrev pub refused : Soft → ℕ → Cause → Step
refused s client c = stepped [] [] (record { client = client; what = what.Refused c } ∷ []) s

abbrev pub is_handing : Transfer → Bool
is_handing transfer.Off = false
is_handing (transfer.Mock target round client) = false
is_handing (transfer.Handing target client) = true

-- the first change whose key a prepared transaction writes
abbrev pub lock_of : List Pair → List Change → Option Cause
lock_of pairs [] = None
lock_of pairs (c ∷ changes) =
    elim (holder_of pairs c) [ Some p ↦ Some (cause.Locked (table_name c) (change_key c) p.opid) | None ↦ lock_of pairs changes ]

abbrev pub length_limit : ℕ
length_limit = TERM_END - 1

-- the node's server has no next number, or the log has no next position
abbrev pub is_exhausted : Layout → ℕ → Durable → Bool
is_exhausted ring me d = is_none (next_number (server_of ring me) d.log) || nat_le length_limit (length d.log)

-- ---- write
-- the rows that the engine has applied
abbrev pub committed_rows : Layout → Durable → Tables
committed_rows ring d = rows ring.schema (take d.applied d.log)

abbrev pub next_gtid : Layout → ℕ → Durable → Gtid
next_gtid ring me d = record { server = server_of ring me; number = unwrap_or (next_number (server_of ring me) d.log) 0 }

abbrev pub write_txn : Layout → ℕ → Durable → List Change → Txn
write_txn ring me d changes = record { gtid = next_gtid ring me d; changes = changes }

abbrev pub write_entry : Layout → ℕ → Durable → List Change → Entry
write_entry ring me d changes = own_entry ring me d (payload.Txn (write_txn ring me d changes))

-- too large, or exhausted
abbrev pub size_refusal : Layout → ℕ → Durable → List Change → Option Cause
size_refusal ring me d changes =
    if nat_lt group_limit (group_size ring.schema (payload.Txn (write_txn ring me d changes)))
    then Some (cause.TooLarge (group_size ring.schema (payload.Txn (write_txn ring me d changes))))
    else (if is_exhausted ring me d then Some cause.Exhausted else None)

-- locked, and what follows
abbrev pub lock_refusal : Layout → ℕ → Durable → List Change → Option Cause
lock_refusal ring me d changes = elim (lock_of d.prepared changes) [ Some c ↦ Some c | None ↦ size_refusal ring me d changes ]

-- invalid by the rows that the engine has applied, and what follows
abbrev pub change_refusal : Layout → ℕ → Durable → List Change → Option Cause
change_refusal ring me d changes =
    elim (check ring.schema (committed_rows ring d) changes) [ Some r ↦ Some (cause.Invalid r) | None ↦ lock_refusal ring me d changes ]

-- why a write is refused: the first cause that holds
unfoldable pub write_refusal : Layout → ℕ → Durable → Soft → List Change → Option Cause
write_refusal ring me d s changes =
    if not (is_leader s.role) then Some cause.NotLeader
    else (if not (is_ready s) then Some cause.NotReady
    else (if not (runs_engine ring me) then Some cause.NoEngine
    else (if is_handing s.transfer then Some cause.Transferring
    else change_refusal ring me d changes)))

abbrev pub awaits : Soft → ℕ → Entry → Gtid → Soft
awaits s client e gtid = record s { pending = s.pending ++ record { client = client; gtid = gtid; opid = e.opid } ∷ [] }

-- the transaction is prepared and its entry added; the client waits for its commit
abbrev pub write_entry_step : Layout → ℕ → Durable → Soft → ℕ → Txn → Entry → Step
write_entry_step ring me d s client t e =
    advance ring me d (awaits s client e t.gtid) (action.Prepare (record { opid = e.opid; txn = t }) ∷ action.Append (e ∷ []) ∷ []) []

unfoldable pub write : Layout → ℕ → Durable → Soft → ℕ → List Change → Step
write ring me d s client changes =
    elim (write_refusal ring me d s changes) [
      | Some c ↦ refused s client c
      | None ↦ write_entry_step ring me d s client (write_txn ring me d changes) (write_entry ring me d changes)
    ]

-- ---- rotate
unfoldable pub rotate_refusal : Layout → ℕ → Durable → Soft → Option Cause
rotate_refusal ring me d s =
    if not (is_leader s.role) then Some cause.NotLeader
    else (if not (is_ready s) then Some cause.NotReady
    else (if is_handing s.transfer then Some cause.Transferring
    else (if is_exhausted ring me d then Some cause.Exhausted
    else (if nat_le file_limit (file_number d.log) then Some cause.LastFile
    else None))))

abbrev pub rotate_step : Layout → ℕ → Durable → Soft → ℕ → Entry → Step
rotate_step ring me d s client e = advance ring me d s (action.Append (e ∷ []) ∷ []) (record { client = client; what = what.Rotated e.opid } ∷ [])

unfoldable pub rotate : Layout → ℕ → Durable → Soft → ℕ → Step
rotate ring me d s client =
    elim (rotate_refusal ring me d s) [ Some c ↦ refused s client c | None ↦ rotate_step ring me d s client (own_entry ring me d payload.Rotate) ]
