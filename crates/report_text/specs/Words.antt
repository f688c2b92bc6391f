-- Words: the text of a uuid, a GTID, an opid, a value, an entry and a GTID set (GTIDs as the MySQL manual writes them).
use Rattle.std.specs.Prelude.{ℕ, ◌/◌, ◌%◌, ◌==◌, Bool, ◌||◌, List, [], ◌∷◌, ◌++◌, nat_lt, if◌then◌else◌, codes, decimal}
use Rattle.std.specs.Fmt.{signed_decimal}
use Rattle.std.specs.List.{flat_map}
use Rattle.std.specs.Int.{to_be_bytes, w128}
use Rattle.uuid.specs.Text.{hex_digit, hyphenated_text, lower}
use Rattle.ring_types.specs.declared.values.Gtid.{Gtid}
use Rattle.ring_types.specs.declared.values.Value.{Value}
use Rattle.ring_types.specs.declared.values.Value.TheVariants as value
use Rattle.ring_types.specs.declared.entries.Opid.{Opid}
use Rattle.ring_types.specs.declared.entries.Entry.{Entry}
use Rattle.ring_types.specs.declared.entries.Payload.{Payload}
use Rattle.ring_types.specs.declared.entries.Payload.TheVariants as payload
use Rattle.ring_types.specs.declared.gtid_sets.Interval.{Interval}
use Rattle.ring_types.specs.declared.gtid_sets.ServerSet.{ServerSet}

-- a number after its label
abbrev pub field : List ℕ → ℕ → List ℕ
field label number = label ++ decimal number

-- a server's uuid, its number big end first, in lower-case digits with hyphens
unfoldable pub uuid_text : ℕ → List ℕ
uuid_text server = hyphenated_text lower (to_be_bytes w128 server)

abbrev pub gtid_text : Gtid → List ℕ
gtid_text g = uuid_text g.server ++ codes ":" ++ decimal g.number

abbrev pub opid_text : Opid → List ℕ
opid_text o = decimal o.term ++ codes ":" ++ decimal o.position

-- ---- values
-- a control character, a quote or a backslash
abbrev pub is_escaped : ℕ → Bool
is_escaped byte = nat_lt byte 0x20 || byte == 0x7f || byte == 0x27 || byte == 0x5c

-- an escaped byte is a backslash, an x and two lower-case hexadecimal digits
abbrev pub byte_text : ℕ → List ℕ
byte_text byte = if is_escaped byte then codes "\\x" ++ hex_digit lower (byte / 16) ∷ hex_digit lower (byte % 16) ∷ [] else byte ∷ []

abbrev pub value_text : Value → List ℕ
value_text value.Null = codes "null"
value_text (value.Int n) = signed_decimal n
value_text (value.Text t) = codes "'" ++ flat_map byte_text t ++ codes "'"

-- ---- entries
abbrev pub payload_text : Payload → List ℕ
payload_text payload.NoOp = codes "noop"
payload_text payload.Rotate = codes "rotate"
payload_text (payload.Txn t) = codes "txn " ++ gtid_text t.gtid

-- position, term, region and what it holds
abbrev pub entry_text : Entry → List ℕ
entry_text e = decimal e.opid.position ++ codes " " ++ decimal e.opid.term ++ codes " " ++ decimal e.region ++ codes " " ++ payload_text e.payload

-- ---- GTID sets
-- one number, or both ends
abbrev pub interval_text : Interval → List ℕ
interval_text i = if i.first == i.last then codes ":" ++ decimal i.first else codes ":" ++ decimal i.first ++ codes "-" ++ decimal i.last

abbrev pub server_set_text : ServerSet → List ℕ
server_set_text s = uuid_text s.server ++ flat_map interval_text s.intervals

abbrev pub after_comma : ServerSet → List ℕ
after_comma s = codes "," ++ server_set_text s

-- the servers' sets, joined by commas
abbrev pub set_text : List ServerSet → List ℕ
set_text [] = []
set_text (s ∷ sets) = server_set_text s ++ flat_map after_comma sets
