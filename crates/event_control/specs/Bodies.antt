-- The bodies of the events that stand around transactions (the MySQL manual's binary log, version 4, in this
-- project's profile). Each has its table of fields, then itself twice: as a form, which a reader takes, and as a
-- text, which a writer makes.
use Rattle.std.specs.Prelude.{ℕ, ◌+◌, ◌-◌, ◌*◌, ◌/◌, ◌%◌, ◌≤◌, ◌==◌, Bool, true, ◌&&◌, ◌||◌, List, [], ◌∷◌, ◌++◌, length, map, fold, replicate, nat_le, codes, if◌then◌else◌}
use Rattle.std.specs.List.{list_all, range_with_len}
use Rattle.std.specs.Int.{w8, w16, w32, w64, to_le_bytes}
use Rattle.event_frame.specs.Forms.{Field as FieldOf, Form, Whole, One, ◌>>=◌}
use Rattle.event_frame.specs.Fields.{constant, number, taken}
use Rattle.ring_types.specs.declared.entries.Opid.{Opid}
use Rattle.ring_types.specs.declared.limits.TheConstants.{LAST_FILE}
use Rattle.event_control.specs.declared.faults.ControlError.{ControlError}
use Rattle.event_control.specs.declared.faults.ControlError.TheVariants.{Body}

-- ---- FORMAT_DESCRIPTION: the first event of each file
--   bytes  value         meaning
--   2      4             the version of the log
--   50     8.0.0-myraft  the name of the server, zeros behind it
--   4      0             a timestamp
--   1      19            the size of a header
--   41     fixed_sizes   for each type of event from 1 on, the bytes of its body that do not vary
--   1      1             each event ends with a CRC-32

abbrev pub padded : ℕ → List ℕ → List ℕ
padded size text = text ++ replicate (size - length text) 0

unfoldable pub server_name : List ℕ
server_name = padded 50 (codes "8.0.0-myraft")

-- QUERY 13; ROTATE and TABLE_MAP 8; the three kinds of rows 10; GTID 42. Of every other type the profile says 0
abbrev pub fixed_size : ℕ → ℕ
fixed_size kind =
    if kind == 2 then 13
    else if kind == 4 || kind == 19 then 8
    else if nat_le 30 kind && nat_le kind 32 then 10
    else if kind == 33 then 42
    else 0

unfoldable pub fixed_sizes : List ℕ
fixed_sizes = map fixed_size (range_with_len 1 41)

unfoldable pub format_form : Form ControlError (Unit {0})
format_form = do
  version ← One Body (constant (to_le_bytes w16 4))
  server ← One Body (constant server_name)
  timestamp ← One Body (constant (to_le_bytes w32 0))
  header ← One Body (constant (19 ∷ []))
  sizes ← One Body (constant fixed_sizes)
  One Body (constant (1 ∷ []))

abbrev pub format_body : List ℕ
format_body = to_le_bytes w16 4 ++ server_name ++ to_le_bytes w32 0 ++ (19 ∷ []) ++ fixed_sizes ++ (1 ∷ [])

-- ---- ROTATE: where the log goes on
--   bytes  value     meaning
--   8      4         where the first event of the next file begins
--   7      binlog.   the next file's name: this,
--   6      digits    and its number in six decimal digits

abbrev pub is_digit : ℕ → Bool
is_digit byte = nat_le 48 byte && nat_le byte 57

abbrev pub digits_value : List ℕ → ℕ
digits_value digits = fold (λ (n digit : ℕ). 10 * n + (digit - 48)) 0 digits

abbrev pub six_digits : ℕ → List ℕ
six_digits n = map (λ (weight : ℕ). 48 + n / weight % 10) (100000 ∷ 10000 ∷ 1000 ∷ 100 ∷ 10 ∷ 1 ∷ [])

abbrev pub file_number : FieldOf ℕ
file_number = record {
  at = taken 6 (λ digits. list_all is_digit digits) digits_value;
  spell = six_digits;
  IsAllowed = λ file. file ≤ LAST_FILE;
}

abbrev pub rotate_form : Form ControlError ℕ
rotate_form = do
  position ← One Body (constant (to_le_bytes w64 4))
  name ← One Body (constant (codes "binlog."))
  One Body file_number

abbrev pub rotate_body : ℕ → List ℕ
rotate_body next_file = to_le_bytes w64 4 ++ codes "binlog." ++ six_digits next_file

-- ---- IGNORABLE: the opid of the entry whose group begins here
--   bytes  value   meaning
--   1      1 to 3  what the entry holds: 1 nothing, 2 the end of the file, 3 a transaction
--   8      any     the entry's term
--   8      any     the entry's position
--   2      any     the region of the leader that wrote it

abbrev pub is_kind : ℕ → Bool
is_kind kind = nat_le 1 kind && nat_le kind 3

abbrev pub any : ℕ → Bool
any n = true

-- the kind, the opid and the region
abbrev pub opid_form : Form ControlError (ℕ × Opid × ℕ)
opid_form = do
  kind ← One Body (number w8 is_kind)
  term ← One Body (number w64 any)
  position ← One Body (number w64 any)
  region ← One Body (number w16 any)
  Whole (kind, record { term = term; position = position }, region)

abbrev pub opid_body : ℕ → Opid → ℕ → List ℕ
opid_body kind opid region =
    (kind ∷ []) ++ to_le_bytes w64 opid.term ++ to_le_bytes w64 opid.position ++ to_le_bytes w16 region
