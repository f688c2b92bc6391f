-- What is said to clients, in words.
use Rattle.std.specs.Prelude.{ℕ, List, ◌++◌, codes}
use Rattle.ring_types.specs.declared.entries.Opid.{Opid}
use Rattle.ring_types.specs.declared.values.Gtid.{Gtid}
use Rattle.ring_types.specs.declared.values.Value.{Value}
use Rattle.ring_types.specs.declared.values.RowRefusal.{RowRefusal}
use Rattle.ring_types.specs.declared.values.RowRefusal.TheVariants as refusal
use Rattle.ring_model.specs.declared.effects.Cause.{Cause}
use Rattle.ring_model.specs.declared.effects.Cause.TheVariants as cause
use Rattle.ring_model.specs.declared.effects.What.{What}
use Rattle.ring_model.specs.declared.effects.What.TheVariants as what
use Rattle.report_text.specs.Words.{field, gtid_text, opid_text, value_text}

abbrev pub refusal_words : RowRefusal → List ℕ
refusal_words refusal.NoTable = codes "no-table"
refusal_words refusal.KeyExists = codes "key-exists"
refusal_words refusal.NoKey = codes "no-key"
refusal_words refusal.BadRow = codes "bad-row"

-- the table, the key and the opid of the transaction that holds it
abbrev pub locked_words : List ℕ → Value → Opid → List ℕ
locked_words table key holder = codes "locked " ++ table ++ codes " " ++ value_text key ++ codes " " ++ opid_text holder

abbrev pub cause_words : Cause → List ℕ
cause_words cause.NotLeader = codes "not-leader"
cause_words cause.NotReady = codes "not-ready"
cause_words cause.NoEngine = codes "no-engine"
cause_words cause.Transferring = codes "transferring"
cause_words (cause.Invalid r) = codes "invalid " ++ refusal_words r
cause_words (cause.Locked table key holder) = locked_words table key holder
cause_words (cause.TooLarge bytes) = field (codes "too-large ") bytes
cause_words cause.Exhausted = codes "exhausted"
cause_words cause.LastFile = codes "last-file"
cause_words cause.BadTarget = codes "bad-target"

-- the word for what became of a write, its GTID and its opid
abbrev pub fate_words : List ℕ → Gtid → Opid → List ℕ
fate_words word gtid opid = word ++ gtid_text gtid ++ codes " " ++ opid_text opid

abbrev pub saying_words : What → List ℕ
saying_words (what.Committed gtid opid term) = fate_words (codes "committed ") gtid opid
saying_words (what.Unknown gtid opid) = fate_words (codes "unknown ") gtid opid
saying_words (what.Refused c) = codes "refused " ++ cause_words c
saying_words (what.Rotated opid) = codes "rotated " ++ opid_text opid
saying_words (what.Moving target) = field (codes "moving ") target
saying_words (what.MoveFailed target) = field (codes "move-failed ") target
saying_words what.Cancelled = codes "cancelled"
