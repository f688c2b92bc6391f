-- The ring that a ring file declares, or the first fault of the document.
use Rattle.std.specs.Prelude.{ℕ, ◌+◌, ◌-◌, ◌^◌, List, [], ◌∷◌, codes, if◌then◌else◌, Option, Some, None, option_map, Result, Ok, Err}
use Rattle.std.specs.Str.{is_utf8}
use Rattle.toml.specs.Data.{Data, Items, no_items, item, Members, get_member, as_table}
use Rattle.toml.specs.Parse.{parse_document}
use Rattle.ring_types.specs.declared.limits.TheConstants.{FIRST_CLIENT, LAST_NODE}
use Rattle.ring_types.specs.declared.members.MemberPart.{MemberPart}
use Rattle.ring_types.specs.declared.members.Address.{Address}
use Rattle.ring_types.specs.declared.members.RingParts.{RingParts}
use Rattle.ring_types.specs.declared.schemas.Table.{Table}
use Rattle.ring_types.specs.declared.rings.BuildError.{BuildError}
use Rattle.ring_types.specs.declared.rings.BuildError.TheVariants as refusal
use Rattle.ring_types.specs.Rings.{Layout, built}
use Rattle.ring_file.specs.Faults.{◌>>=◌, place, in_range}
use Rattle.ring_file.specs.Keys.{keys_fit}
use Rattle.ring_file.specs.Values.{name_in, address_in, number_in, kind_in, server_in, array_in, tables_in}
use Rattle.ring_file.specs.Columns.{column_in}
use Rattle.ring_file.specs.declared.reading.Heading.{Heading}
use Rattle.ring_file.specs.declared.faults.RingError.{RingError}
use Rattle.ring_file.specs.declared.faults.RingError.TheVariants as fault
use Rattle.ring_file.specs.declared.faults.Within.{Within}
use Rattle.ring_file.specs.declared.faults.Within.TheVariants as within

-- ---- the value at a key
-- the value that a key has, of a key that the table needs
abbrev pub value_from : {A : Type 0} → (Data → Option A) → Within → List ℕ → Option Data → Result A RingError
value_from reads table key None = Err (fault.Missing (place table key))
value_from reads table key (Some value) = in_range table key (reads value)

abbrev pub value_at : {A : Type 0} → (Data → Option A) → Within → List ℕ → Members → Result A RingError
value_at reads table key members = value_from reads table key (get_member key members)

-- of a key that may be left out
abbrev pub option_from : {A : Type 0} → (Data → Option A) → Within → List ℕ → Option Data → Result (Option A) RingError
option_from reads table key None = Ok None
option_from reads table key (Some value) = in_range table key (reads value) >>= (λ x. Ok (Some x))

abbrev pub option_at : {A : Type 0} → (Data → Option A) → Within → List ℕ → Members → Result (Option A) RingError
option_at reads table key members = option_from reads table key (get_member key members)

-- the array of tables at a key of the top table; none where it is left out
abbrev pub tables_from : List ℕ → Option Data → Result Items RingError
tables_from key None = Ok no_items
tables_from key (Some value) = in_range within.Top key (tables_in value)

abbrev pub tables_at : List ℕ → Members → Result Items RingError
tables_at key top = tables_from key (get_member key top)

-- what one table declares, before what those after it declare
abbrev pub before_rest : {A : Type 0} → Option (Result A RingError) → Result (List A) RingError → Result (List A) RingError
before_rest None rest = rest
before_rest (Some one) rest = one >>= (λ x. rest >>= (λ xs. Ok (x ∷ xs)))

-- what the tables of an array declare, where the first has this number
abbrev pub each_table : {A : Type 0} → (ℕ → Members → Result A RingError) → ℕ → Items → Result (List A) RingError
each_table reads number no_items = Ok []
each_table reads number (item value rest) = before_rest (option_map (reads number) (as_table value)) (each_table reads (number + 1) rest)

-- ---- the tables
unfoldable pub node_of : ℕ → Members → Result MemberPart RingError
node_of number node = do
  keys ← keys_fit (within.Node number) node
  id ← value_at (number_in 1 LAST_NODE) (within.Node number) (codes "id") node
  region ← value_at name_in (within.Node number) (codes "region") node
  kind ← value_at kind_in (within.Node number) (codes "kind") node
  server ← value_at server_in (within.Node number) (codes "uuid") node
  address ← option_at address_in (within.Node number) (codes "address") node
  Ok (record { id = id; region = region; kind = kind; server = server; address = address })

unfoldable pub client_of : ℕ → Members → Result Address RingError
client_of number client = do
  keys ← keys_fit (within.Client number) client
  id ← value_at (number_in FIRST_CLIENT (2 ^ 32 - 1)) (within.Client number) (codes "id") client
  at ← value_at address_in (within.Client number) (codes "address") client
  Ok (record { id = id; at = at })

unfoldable pub table_of : ℕ → Members → Result Table RingError
table_of number table = do
  keys ← keys_fit (within.Table number) table
  name ← value_at name_in (within.Table number) (codes "name") table
  columns ← value_at (array_in column_in) (within.Table number) (codes "columns") table
  Ok (record { name = name; columns = columns })

-- what the top table says beside its arrays of tables
unfoldable pub heading_of : Members → Result Heading RingError
heading_of top = do
  keys ← keys_fit within.Top top
  version ← value_at (number_in 1 1) within.Top (codes "version") top
  home ← value_at name_in within.Top (codes "home") top
  database ← value_at name_in within.Top (codes "database") top
  regions ← value_at (array_in name_in) within.Top (codes "regions") top
  Ok (record { home = home; database = database; regions = regions })

abbrev pub declared : Heading → List MemberPart → List Address → List Table → RingParts
declared top members clients tables = record {
  home = top.home;
  regions = top.regions;
  members = members;
  clients = clients;
  schema = record { database = top.database; tables = tables };
}

-- the top table first, then each node, each client and each table
unfoldable pub parts_of : Members → Result RingParts RingError
parts_of document = do
  top ← heading_of document
  nodes ← tables_at (codes "node") document
  clients ← tables_at (codes "client") document
  tables ← tables_at (codes "table") document
  members ← each_table node_of 1 nodes
  addresses ← each_table client_of 1 clients
  schema ← each_table table_of 1 tables
  Ok (declared top members addresses schema)

-- ---- the document and the ring
abbrev pub as_toml : Option Members → Result Members RingError
as_toml None = Err fault.NotToml
as_toml (Some members) = Ok members

-- bytes that are not UTF-8 are no TOML
unfoldable pub document_of : List ℕ → Result Members RingError
document_of bytes = if is_utf8 bytes then as_toml (parse_document bytes) else Err fault.NotToml

-- what is answered where the building of the ring answers this: want of memory stays what it is
abbrev pub fault_of : BuildError → RingError
fault_of refusal.Memory = fault.Memory
fault_of cause = fault.Build cause

abbrev pub as_ring : Result Layout BuildError → Result Layout RingError
as_ring (Ok ring) = Ok ring
as_ring (Err cause) = Err (fault.Build cause)

-- the ring that the bytes of a ring file declare
unfoldable pub ring_of : List ℕ → Result Layout RingError
ring_of bytes = do
  document ← document_of bytes
  parts ← parts_of document
  as_ring (built parts)
