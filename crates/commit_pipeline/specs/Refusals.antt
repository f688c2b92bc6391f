-- Why a write and a rotate are refused, from what the stores keep beside the log: the tables, the prepared pairs, the server's next number, and the log's length.
use Rattle.std.specs.Prelude.{ℕ, Bool, not, ◌||◌, nat_lt, nat_le, if◌then◌else◌, List, is_none, unwrap_or, Option, Some, None}
use Rattle.ring_types.specs.declared.entries.Pair.{Pair}
use Rattle.ring_types.specs.declared.entries.Payload.{Payload}
use Rattle.ring_types.specs.declared.schemas.Schema.{Schema}
use Rattle.ring_types.specs.declared.values.Change.{Change}
use Rattle.ring_types.specs.declared.values.Txn.{Txn}
use Rattle.ring_types.specs.Rows.{check}
use Rattle.ring_types.specs.Sizes.{group_size, group_limit}
use Rattle.row_engine.specs.Filled.{Filled}
use Rattle.ring_model.specs.Nodes.{is_leader, is_ready}
use Rattle.ring_model.specs.Replication.{file_limit}
use Rattle.ring_model.specs.Writes.{is_handing, lock_of, length_limit}
use Rattle.ring_model.specs.declared.nodes.Soft.{Soft}
use Rattle.ring_model.specs.declared.effects.Cause.{Cause}
use Rattle.ring_model.specs.declared.effects.Cause.TheVariants as cause

-- the transaction of these changes with the server's next number
abbrev pub txn_of : ℕ → Option ℕ → List Change → Txn
txn_of server next changes = record { gtid = record { server = server; number = unwrap_or next 0 }; changes = changes }

abbrev pub is_full : Option ℕ → ℕ → Bool
is_full next length = is_none next || nat_le length_limit length

abbrev pub size_cause : Schema → Option ℕ → ℕ → Payload → Option Cause
size_cause schema next length p =
    if nat_lt group_limit (group_size schema p) then Some (cause.TooLarge (group_size schema p)) else (if is_full next length then Some cause.Exhausted else None)

abbrev pub lock_cause : Schema → Option ℕ → ℕ → Payload → List Pair → List Change → Option Cause
lock_cause schema next length p pairs changes = elim (lock_of pairs changes) [ Some c ↦ Some c | None ↦ size_cause schema next length p ]

abbrev pub change_cause : Filled → Schema → Option ℕ → ℕ → Payload → List Pair → List Change → Option Cause
change_cause t schema next length p pairs changes =
    elim (check t.schema t.rows changes) [ Some r ↦ Some (cause.Invalid r) | None ↦ lock_cause schema next length p pairs changes ]

abbrev pub table_cause : Soft → Option Filled → Schema → Option ℕ → ℕ → Payload → List Pair → List Change → Option Cause
table_cause s None schema next length p pairs changes = Some cause.NoEngine
table_cause s (Some t) schema next length p pairs changes = if is_handing s.transfer then Some cause.Transferring else change_cause t schema next length p pairs changes

abbrev pub write_cause : Soft → Option Filled → Schema → Option ℕ → ℕ → Payload → List Pair → List Change → Option Cause
write_cause s tables schema next length p pairs changes =
    if not (is_leader s.role) then Some cause.NotLeader
    else (if not (is_ready s) then Some cause.NotReady
    else table_cause s tables schema next length p pairs changes)

abbrev pub rotate_cause : Soft → Option ℕ → ℕ → ℕ → Option Cause
rotate_cause s next length file =
    if not (is_leader s.role) then Some cause.NotLeader
    else (if not (is_ready s) then Some cause.NotReady
    else (if is_handing s.transfer then Some cause.Transferring
    else (if is_full next length then Some cause.Exhausted
    else (if nat_le file_limit file then Some cause.LastFile
    else None))))
