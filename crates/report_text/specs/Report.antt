-- The report of a world: its lines, each ended by a line feed.
use Rattle.std.specs.Prelude.{ℕ, ◌+◌, Bool, true, false, not, ◌||◌, List, [], ◌∷◌, ◌++◌, length, map, take, count_by, if◌then◌else◌, None, Some, codes}
use Rattle.std.specs.List.{flat_map}
use Rattle.event_control.specs.Bodies.{six_digits}
use Rattle.entry_group.specs.Files.{file_sizes, told_size}
use Rattle.ring_types.specs.Gtids.{gtids}
use Rattle.ring_types.specs.Rings.{Layout, runs_engine}
use Rattle.ring_types.specs.Rows.{Rows, Tables, rows, rows_at}
use Rattle.ring_types.specs.declared.values.Value.{Value}
use Rattle.ring_types.specs.declared.entries.Entry.{Entry}
use Rattle.ring_types.specs.declared.entries.Vote.{Vote}
use Rattle.ring_types.specs.declared.gtid_sets.ServerSet.{ServerSet}
use Rattle.ring_types.specs.declared.schemas.Schema.{Schema}
use Rattle.ring_types.specs.declared.schemas.Table.{Table}
use Rattle.ring_model.specs.declared.nodes.Durable.{Durable}
use Rattle.ring_model.specs.declared.nodes.Role.{Role}
use Rattle.ring_model.specs.declared.nodes.Role.TheVariants as role
use Rattle.ring_model.specs.declared.nodes.Soft.{Soft}
use Rattle.ring_model.specs.declared.effects.What.TheVariants as what
use Rattle.ring_model.specs.declared.worlds.Kept.{Kept}
use Rattle.ring_model.specs.declared.worlds.Said.{Said}
use Rattle.ring_model.specs.declared.worlds.Shown.{Shown}
use Rattle.ring_model.specs.declared.worlds.World.{World}
use Rattle.report_text.specs.Sayings.{saying_words}
use Rattle.report_text.specs.Words.{entry_text, field, set_text, value_text}

abbrev pub line_end : List ℕ
line_end = codes "\n"

-- ---- a node
abbrev pub role_word : Role → List ℕ
role_word role.Follower = codes "follower"
role_word role.Candidate = codes "candidate"
role_word role.Leader = codes "leader"

-- what both a running node and one that is down show first, and last
abbrev pub term_words : Durable → List ℕ
term_words d = field (codes " term ") d.term ++ field (codes " length ") (length d.log)

abbrev pub engine_words : Durable → List ℕ
engine_words d = field (codes " applied ") d.applied ++ field (codes " prepared ") (length d.prepared)

-- a running node shows its role and its commit count
abbrev pub running_words : Durable → Soft → List ℕ
running_words d s = role_word s.role ++ term_words d ++ field (codes " commit ") s.commit ++ engine_words d

abbrev pub down_words : Durable → List ℕ
down_words d = codes "down" ++ term_words d ++ engine_words d

abbrev pub node_words : Shown → List ℕ
node_words s = elim s.soft [ None ↦ down_words s.durable | Some soft ↦ running_words s.durable soft ]

unfoldable pub node_line : Shown → List ℕ
node_line s = field (codes "node ") s.node ++ codes " " ++ node_words s ++ line_end

unfoldable pub vote_line : Vote → List ℕ
vote_line v = field (codes "vote ") v.term ++ field (codes " ") v.candidate ++ field (codes " ") v.region ++ line_end

unfoldable pub log_line : Entry → List ℕ
log_line e = codes "log " ++ entry_text e ++ line_end

-- the empty set is shown as a dash
abbrev pub shown_set : List ServerSet → List ℕ
shown_set [] = codes "-"
shown_set (s ∷ sets) = set_text (s ∷ sets)

unfoldable pub gtids_line : List Entry → List ℕ
gtids_line log = codes "gtids " ++ shown_set (gtids log) ++ line_end

-- ---- its binary log files
-- the digits in a file's name
unfoldable pub name_digits : ℕ → List ℕ
name_digits number = six_digits number

-- a file's name and its size, as it is told
unfoldable pub file_line : ℕ → ℕ → List ℕ
file_line number size = codes "file binlog." ++ name_digits number ++ field (codes " ") size ++ line_end

-- a line for each file, where so many stand before the first
abbrev pub file_lines : ℕ → List ℕ → List ℕ
file_lines before [] = []
file_lines before (size ∷ sizes) = file_line (before + 1) size ++ file_lines (before + 1) sizes

unfoldable pub files_text : Schema → List Entry → List ℕ
files_text schema log = file_lines 0 (map told_size (file_sizes schema log))

-- ---- its tables
abbrev pub after_space : Value → List ℕ
after_space v = codes " " ++ value_text v

unfoldable pub row_line : List Value → List ℕ
row_line row = codes "row" ++ flat_map after_space row ++ line_end

-- the table's name and how many rows it has
unfoldable pub table_line : Table → Rows → List ℕ
table_line t rows = codes "table " ++ t.name ++ field (codes " ") (length rows) ++ line_end

-- the same, and the rows
abbrev pub table_text : Table → Rows → List ℕ
table_text t rows = table_line t rows ++ flat_map row_line rows

-- declared tables with their rows, the first of them at this place
abbrev pub tables_from : ℕ → List Table → Tables → List ℕ
tables_from place [] tables = []
tables_from place (t ∷ declared) tables = table_text t (rows_at tables place) ++ tables_from (place + 1) declared tables

abbrev pub tables_text : List Table → Tables → List ℕ
tables_text declared tables = tables_from 0 declared tables

-- the tables as the applied entries make them
unfoldable pub applied_tables : Schema → Durable → List ℕ
applied_tables schema d = tables_text schema.tables (rows schema (take d.applied d.log))

-- a logtailer has no tables
abbrev pub engine_text : Layout → Shown → List ℕ
engine_text ring s = if runs_engine ring s.node then applied_tables ring.schema s.durable else []

-- all lines of one node
unfoldable pub block : Layout → Shown → List ℕ
block ring s =
    node_line s ++ flat_map vote_line s.durable.votes ++ flat_map log_line s.durable.log ++ gtids_line s.durable.log
    ++ files_text ring.schema s.durable.log ++ engine_text ring s

-- ---- the whole
unfoldable pub head_line : World → List ℕ
head_line w = field (codes "events ") w.events ++ field (codes " messages ") (length w.messages) ++ field (codes " chosen ") (length w.chosen) ++ line_end

unfoldable pub chosen_line : Entry → List ℕ
chosen_line e = codes "chosen " ++ entry_text e ++ line_end

unfoldable pub said_line : Said → List ℕ
said_line s = field (codes "said ") s.event ++ field (codes " ") s.node ++ codes " " ++ saying_words s.say.what ++ line_end

-- a step that was cut, and how many of its actions stay
unfoldable pub kept_line : Kept → List ℕ
kept_line k = field (codes "kept ") k.event ++ field (codes " ") k.node ++ field (codes " ") k.actions ++ line_end

unfoldable pub report : Layout → World → List ℕ
report ring w = head_line w ++ flat_map chosen_line w.chosen ++ flat_map (block ring) w.nodes ++ flat_map said_line w.said ++ flat_map kept_line w.kept

-- ---- the whole in short
-- declared tables with how many rows they have, the first of them at this place
abbrev pub table_lines : ℕ → List Table → Tables → List ℕ
table_lines place [] tables = []
table_lines place (t ∷ declared) tables = table_line t (rows_at tables place) ++ table_lines (place + 1) declared tables

unfoldable pub counted_tables : Schema → Durable → List ℕ
counted_tables schema d = table_lines 0 schema.tables (rows schema (take d.applied d.log))

abbrev pub engine_lines : Layout → Shown → List ℕ
engine_lines ring s = if runs_engine ring s.node then counted_tables ring.schema s.durable else []

unfoldable pub short_block : Layout → Shown → List ℕ
short_block ring s = node_line s ++ gtids_line s.durable.log ++ files_text ring.schema s.durable.log ++ engine_lines ring s

abbrev pub is_committed : Said → Bool
is_committed s = elim s.say.what [ what.Committed gtid opid term ↦ true | _ ↦ false ]

abbrev pub is_unknown : Said → Bool
is_unknown s = elim s.say.what [ what.Unknown gtid opid ↦ true | _ ↦ false ]

abbrev pub is_refused : Said → Bool
is_refused s = elim s.say.what [ what.Refused cause ↦ true | _ ↦ false ]

abbrev pub is_other : Said → Bool
is_other s = not (is_committed s || is_unknown s || is_refused s)

-- how many sayings there are of each kind
unfoldable pub sayings_line : List Said → List ℕ
sayings_line said =
    field (codes "sayings committed ") (count_by is_committed said) ++ field (codes " unknown ") (count_by is_unknown said)
    ++ field (codes " refused ") (count_by is_refused said) ++ field (codes " other ") (count_by is_other said) ++ line_end

-- how many steps were cut
unfoldable pub stops_line : List Kept → List ℕ
stops_line kept = field (codes "stops ") (length kept) ++ line_end

unfoldable pub summary : Layout → World → List ℕ
summary ring w = head_line w ++ flat_map (short_block ring) w.nodes ++ sayings_line w.said ++ stops_line w.kept
