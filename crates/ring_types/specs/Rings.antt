-- The ring: what is declared, when it is refused, and what is built of it (FlexiRaft's regions and voters, MyRaft's kinds).
use Rattle.std.specs.Prelude.{◌≡◌, ℕ, ◌+◌, ◌/◌, ◌^◌, ◌≤◌, ◌==◌, Bool, true, false, not, ◌&&◌, ◌||◌, List, length, map, filter, find, position, nat_lt, nat_le, bytes_eq, if◌then◌else◌, Option, Some, None, Result, Ok, Err}
use Rattle.std.specs.List.{list_any, list_all}
use Rattle.std.specs.Option.{option_map_or}
use Rattle.ring_types.specs.Names.{is_name, is_address, has_twice, has_text_twice}
use Rattle.ring_types.specs.declared.limits.TheConstants.{FIRST_CLIENT, LAST_NODE, MOST_CLIENTS, MOST_COLUMNS, MOST_MEMBERS, MOST_REGIONS, MOST_TABLES, TEXT_COLUMN_BYTES}
use Rattle.ring_types.specs.declared.members.Kind.{Kind}
use Rattle.ring_types.specs.declared.members.Kind.TheVariants.{Full, Tailer, Learner}
use Rattle.ring_types.specs.declared.members.Member.{Member}
use Rattle.ring_types.specs.declared.members.MemberPart.{MemberPart}
use Rattle.ring_types.specs.declared.members.RingParts.{RingParts}
use Rattle.ring_types.specs.declared.members.Address.{Address}
use Rattle.ring_types.specs.declared.schemas.Shape.{Shape}
use Rattle.ring_types.specs.declared.schemas.Shape.TheVariants as shape
use Rattle.ring_types.specs.declared.schemas.Column.{Column}
use Rattle.ring_types.specs.declared.schemas.Table.{Table}
use Rattle.ring_types.specs.declared.schemas.Schema.{Schema}
use Rattle.ring_types.specs.declared.rings.BuildError.{BuildError}
use Rattle.ring_types.specs.declared.rings.BuildError.TheVariants as refusal

-- what a built ring has: its home region, the names of its regions in declared order, its members and clients, its tables
pub record Layout : Type 0 where
  pub home : ℕ
  pub regions : List (List ℕ)
  pub members : List Member
  pub clients : List Address
  pub schema : Schema

-- ---- kinds
-- full nodes and logtailers vote
abbrev pub is_voter : Kind → Bool
is_voter Full = true
is_voter Tailer = true
is_voter Learner = false

-- full nodes and learners have an engine
abbrev pub has_engine : Kind → Bool
has_engine Full = true
has_engine Tailer = false
has_engine Learner = true

-- ---- members
abbrev pub member_of : Layout → ℕ → Option Member
member_of ring id = find (λ (m : Member). m.id == id) ring.members

abbrev pub is_member : Layout → ℕ → Bool
is_member ring id = list_any (λ (m : Member). m.id == id) ring.members

-- the region of a member; the home region for a number that is no member's
abbrev pub region_of : Layout → ℕ → ℕ
region_of ring id = option_map_or (λ (m : Member). m.region) (member_of ring id) ring.home

-- whether the number is a voter's
abbrev pub votes : Layout → ℕ → Bool
votes ring id = list_any (λ (m : Member). m.id == id && is_voter m.kind) ring.members

-- whether the number is that of a node with an engine
abbrev pub runs_engine : Layout → ℕ → Bool
runs_engine ring id = list_any (λ (m : Member). m.id == id && has_engine m.kind) ring.members

-- the uuid of a member, as a number
abbrev pub server_of : Layout → ℕ → ℕ
server_of ring id = option_map_or (λ (m : Member). m.server) (member_of ring id) 0

-- the voters of a region, in declared order
abbrev pub voters_of : Layout → ℕ → List Member
voters_of ring region = filter (λ (m : Member). m.region == region && is_voter m.kind) ring.members

-- the least count that is more than half of `n`
abbrev pub majority : ℕ → ℕ
majority n = n / 2 + 1

-- the first member declared in a region
abbrev pub proxy_of : Layout → ℕ → Option Member
proxy_of ring region = find (λ (m : Member). m.region == region) ring.members

abbrev pub is_client : Layout → ℕ → Bool
is_client ring id = list_any (λ (c : Address). c.id == id) ring.clients

-- ---- the ranges of what is declared
abbrev pub address_fits : Option (List ℕ) → Bool
address_fits None = true
address_fits (Some at) = is_address at

abbrev pub part_fits : MemberPart → Bool
part_fits p = nat_le 1 p.id && nat_le p.id LAST_NODE && is_name p.region && address_fits p.address

abbrev pub client_fits : Address → Bool
client_fits c = nat_le FIRST_CLIENT c.id && nat_lt c.id (2 ^ 32) && is_address c.at

abbrev pub shape_fits : Shape → Bool
shape_fits shape.Int = true
shape_fits (shape.Text limit) = nat_le 1 limit && nat_le limit TEXT_COLUMN_BYTES

abbrev pub column_fits : Column → Bool
column_fits c = is_name c.name && shape_fits c.shape

abbrev pub table_fits : Table → Bool
table_fits t = is_name t.name && list_all column_fits t.columns

abbrev pub schema_fits : Schema → Bool
schema_fits s = is_name s.database && list_all table_fits s.tables

-- every name, number, address and text limit is in its range
unfoldable pub is_in_range : RingParts → Bool
is_in_range p = is_name p.home && list_all is_name p.regions && list_all part_fits p.members && list_all client_fits p.clients && schema_fits p.schema

-- ---- the refusals, in the order in which they are tested
abbrev pub too_many : RingParts → Bool
too_many p = nat_lt MOST_MEMBERS (length p.members) || nat_lt MOST_REGIONS (length p.regions) || nat_lt MOST_CLIENTS (length p.clients) || nat_lt MOST_TABLES (length p.schema.tables)

-- two nodes or two clients have one number, two regions one name, or two servers one uuid
abbrev pub twice_named : RingParts → Bool
twice_named p =
    has_twice (map (λ (m : MemberPart). m.id) p.members)
    || has_twice (map (λ (c : Address). c.id) p.clients)
    || has_text_twice p.regions
    || has_twice (map (λ (m : MemberPart). m.server) p.members)

-- the name is among the declared regions
abbrev pub is_declared : List (List ℕ) → List ℕ → Bool
is_declared regions name = list_any (λ r. bytes_eq r name) regions

-- the home region, or the region of a node, is not declared
abbrev pub no_region : RingParts → Bool
no_region p = not (is_declared p.regions p.home) || list_any (λ (m : MemberPart). not (is_declared p.regions m.region)) p.members

-- the region of that name has a node that votes
abbrev pub has_voter : List MemberPart → List ℕ → Bool
has_voter parts name = list_any (λ (m : MemberPart). bytes_eq m.region name && is_voter m.kind) parts

-- a region has no node that votes
abbrev pub no_voter : RingParts → Bool
no_voter p = list_any (λ r. not (has_voter p.members r)) p.regions

-- a table has no column or too many, or one name stands at two of its columns
abbrev pub bad_table : Table → Bool
bad_table t = nat_lt (length t.columns) 1 || nat_lt MOST_COLUMNS (length t.columns) || has_text_twice (map (λ (c : Column). c.name) t.columns)

-- two tables have one name, or a table is bad
abbrev pub bad_schema : Schema → Bool
bad_schema s = has_text_twice (map (λ (t : Table). t.name) s.tables) || list_any bad_table s.tables

-- ---- the built ring
-- the place of a region among the declared ones, counted from 1
abbrev pub place_of : List (List ℕ) → List ℕ → ℕ
place_of regions name = option_map_or (λ k. k + 1) (position (λ r. bytes_eq r name) regions) 0

abbrev pub member_from : List (List ℕ) → MemberPart → Member
member_from regions p = record { id = p.id; region = place_of regions p.region; kind = p.kind; server = p.server; address = p.address }

unfoldable pub layout_of : RingParts → Layout
layout_of p = record {
  home = place_of p.regions p.home;
  regions = p.regions;
  members = map (member_from p.regions) p.members;
  clients = p.clients;
  schema = p.schema;
}

-- the first refusal that holds, or the ring
unfoldable pub built : RingParts → Result Layout BuildError
built p =
    if too_many p then Err refusal.TooMany
    else (if twice_named p then Err refusal.TwiceNamed
    else (if no_region p then Err refusal.NoRegion
    else (if no_voter p then Err refusal.NoVoter
    else (if bad_schema p.schema then Err refusal.BadSchema
    else Ok (layout_of p)))))

-- how a call that is to give `wanted` may answer: by that, or by want of memory
abbrev pub Answers : Result Layout BuildError → Result Layout BuildError → Type 0
Answers wanted (Ok ring) = wanted ≡ Ok ring
Answers wanted (Err refusal.Memory) = Unit {0}
Answers wanted (Err e) = wanted ≡ Err e

-- ---- what every built ring is
-- the schema of a built ring passes these tests
abbrev pub is_schema : Schema → Bool
is_schema s = schema_fits s && nat_le (length s.tables) MOST_TABLES && not (bad_schema s)

abbrev pub region_is_declared : Layout → Member → Bool
region_is_declared ring m = nat_le 1 m.region && nat_le m.region (length ring.regions)

abbrev pub region_has_voter : Layout → ℕ → Bool
region_has_voter ring region = list_any (λ (m : Member). m.region == region && is_voter m.kind) ring.members

abbrev pub member_fits : Member → Bool
member_fits m = nat_le 1 m.id && nat_le m.id LAST_NODE && address_fits m.address

-- every built ring is so: nothing is named twice, each region has a voter, and the limits hold
pub record IsRing (ring : Layout) : Type 0 where
  pub few_members : length ring.members ≤ MOST_MEMBERS
  pub few_regions : length ring.regions ≤ MOST_REGIONS
  pub few_clients : length ring.clients ≤ MOST_CLIENTS
  pub members_fit : list_all member_fits ring.members ≡ true
  pub clients_fit : list_all client_fits ring.clients ≡ true
  pub regions_are_names : list_all is_name ring.regions ≡ true
  pub numbers_once : has_twice (map (λ (m : Member). m.id) ring.members) ≡ false
  pub clients_once : has_twice (map (λ (c : Address). c.id) ring.clients) ≡ false
  pub regions_once : has_text_twice ring.regions ≡ false
  pub servers_once : has_twice (map (λ (m : Member). m.server) ring.members) ≡ false
  pub home_is_declared : (1 ≤ ring.home) × (ring.home ≤ length ring.regions)
  pub all_declared : list_all (region_is_declared ring) ring.members ≡ true
  pub all_have_voters : (region : ℕ) → 1 ≤ region → region ≤ length ring.regions → region_has_voter ring region ≡ true
  pub schema : is_schema ring.schema ≡ true
