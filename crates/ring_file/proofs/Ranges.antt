-- What a ring file declares is within the ranges that the building of a ring asks for.
use Rattle.std.proofs.Common.{◌≡◌, ℕ, ◌+◌, ◌-◌, ℤ, pos, negsuc, Bool, true, false, ◌&&◌, nat_le, nat_lt, ◌^◌, List, [], ◌∷◌, Option, None, Some, option_map, if◌then◌else◌, Result, Ok, Err, refl, subst, arith, codes}
use Rattle.std.specs.Option.{option_and_then}
use Rattle.std.specs.List.{list_all}
use Rattle.std.specs.Str.Parse.{digits_value}
use Rattle.std.proofs.lemmas.Bool.{and_parts}
use Rattle.std.proofs.lemmas.Bool.Decides.{nat_tests}
use Rattle.toml.specs.Data.{Data, Items, no_items, item, Members, get_member, as_table, as_str, as_integer, as_array}
use Rattle.ring_types.specs.Names.{is_name, is_address}
use Rattle.ring_types.specs.declared.limits.TheConstants.{FIRST_CLIENT, LAST_NODE}
use Rattle.ring_types.specs.Rings.{address_fits, part_fits, client_fits, shape_fits, column_fits, table_fits, is_in_range}
use Rattle.ring_types.specs.declared.members.MemberPart.{MemberPart}
use Rattle.ring_types.specs.declared.members.Address.{Address}
use Rattle.ring_types.specs.declared.members.RingParts.{RingParts}
use Rattle.ring_types.specs.declared.schemas.Shape.{Shape}
use Rattle.ring_types.specs.declared.schemas.Shape.TheVariants as shape
use Rattle.ring_types.specs.declared.schemas.Column.{Column}
use Rattle.ring_types.specs.declared.schemas.Table.{Table}
use Rattle.ring_file.specs.Faults.{◌>>=◌, in_range}
use Rattle.ring_file.specs.Keys.{keys_fit}
use Rattle.ring_file.specs.Values.{text_if, name_in, address_in, between, number_in, kind_in, server_in, each, array_in}
use Rattle.ring_file.specs.Columns.{is_numeral, is_limit, limit_of, shape_of, named, column_of, column_in, word, after_word}
use Rattle.ring_file.specs.Documents.{value_from, value_at, option_from, option_at, tables_at, before_rest, each_table, node_of, client_of, table_of, heading_of, declared, parts_of}
use Rattle.ring_file.specs.declared.reading.Heading.{Heading}
use Rattle.ring_file.specs.declared.faults.RingError.{RingError}
use Rattle.ring_file.specs.declared.faults.Within.{Within}
use Rattle.ring_file.specs.declared.faults.Within.TheVariants as within

-- ---- steps
-- a chain that ends well went well before
both_ok : {A B : Type 0} (step : Result A RingError) (next : A → Result B RingError) (y : B) → (step >>= next) ≡ Ok y → (x : A) × (step ≡ Ok x) × (next x ≡ Ok y)
both_ok (Ok x) next y e = (x, refl, e)
both_ok (Err f) next y e = cc

last_ok : {A : Type 0} (P : A → Type 0) (x y : A) → ◌≡◌ {A = Result A RingError} (Ok x) (Ok y) → P x → P y
last_ok P x y e h =
    let same : x ≡ y = cc in
    subst P same h

if_some : {A : Type 0} (test : Bool) (x y : A) → (if test then Some x else None) ≡ Some y → (test ≡ true) × (x ≡ y)
if_some true x y e = (refl, cc)
if_some false x y e = cc

-- ---- one value
-- each value that is read passes the test
abbrev Fits : {A : Type 0} → (A → Bool) → (Data → Option A) → Type 0
Fits {A = A} test reads = (value : Data) (x : A) → reads value ≡ Some x → test x ≡ true

texts-fit : (test : List ℕ → Bool) (o : Option (List ℕ)) (x : List ℕ) → option_and_then (text_if test) o ≡ Some x → test x ≡ true
texts-fit test None x e = cc
texts-fit test (Some text) x e =
    let (passed, same) = if_some (test text) text x e in
    rw (← same) passed

names-fit : Fits is_name name_in
names-fit value x e = texts-fit is_name (as_str value) x e

addresses-fit : Fits is_address address_in
addresses-fit value x e = texts-fit is_address (as_str value) x e

-- from `low` to `high`
abbrev is_between : ℕ → ℕ → ℕ → Bool
is_between low high n = nat_le low n && nat_le n high

numbers-fit : (low high : ℕ) (o : Option ℤ) (x : ℕ) → option_and_then (between low high) o ≡ Some x → is_between low high x ≡ true
numbers-fit low high None x e = cc
numbers-fit low high (Some (negsuc n)) x e = cc
numbers-fit low high (Some (pos n)) x e =
    let (passed, same) = if_some (is_between low high n) n x e in
    rw (← same) passed

limits-fit : (text : List ℕ) (n : ℕ) → limit_of text ≡ Some n → is_limit n ≡ true
limits-fit text n e =
    let (passed, same) = if_some _ (digits_value 10 text) n e in
    let (numeral, fits) = and_parts (is_numeral text) (is_limit (digits_value 10 text)) passed in
    rw (← same) fits

shape-fits : (is_int is_text : Bool) (limit : Option ℕ) → ((n : ℕ) → limit ≡ Some n → is_limit n ≡ true) → (x : Shape)
    → (if is_int then Some shape.Int else (if is_text then option_map shape.Text limit else None)) ≡ Some x → shape_fits x ≡ true
shape-fits true is_text limit fits x e = let same : shape.Int ≡ x = cc in rw (← same)
shape-fits false false limit fits x e = cc
shape-fits false true None fits x e = cc
shape-fits false true (Some n) fits x e = let same : shape.Text n ≡ x = cc in rw (← same) (fits n refl)

named-fits : (name : List ℕ) (o : Option Shape) → ((x : Shape) → o ≡ Some x → shape_fits x ≡ true) → (passed : Bool) → is_name name ≡ passed → (c : Column)
    → (if passed then option_map (named name) o else None) ≡ Some c → column_fits c ≡ true
named-fits name o fits false is c e = cc
named-fits name None fits true is c e = cc
named-fits name (Some x) fits true is c e = let same : named name x ≡ c = cc in rw (← same) (rw (is, fits x refl))

column-fits : (text : List ℕ) (c : Column) → column_of text ≡ Some c → column_fits c ≡ true
unfolding column_of
column-fits text c e =
    let rest = after_word text in
    named-fits (word text) (shape_of rest) (λ x h. shape-fits _ _ (limit_of (after_word rest)) (limits-fit (after_word rest)) x h) (is_name (word text)) refl c e

columns_from-fit : (o : Option (List ℕ)) (c : Column) → option_and_then column_of o ≡ Some c → column_fits c ≡ true
columns_from-fit None c e = cc
columns_from-fit (Some text) c e = column-fits text c e

columns-fit : Fits column_fits column_in
columns-fit value c e = columns_from-fit (as_str value) c e

-- ---- arrays
joined-fit : {A : Type 0} (test : A → Bool) (o : Option A) (rest : Option (List A)) (xs : List A) → ((x : A) → o ≡ Some x → test x ≡ true) → ((ys : List A) → rest ≡ Some ys → list_all test ys ≡ true)
    → option_and_then (λ x. option_map (λ ys. x ∷ ys) rest) o ≡ Some xs → list_all test xs ≡ true
joined-fit test None rest xs one more e = cc
joined-fit test (Some x) None xs one more e = cc
joined-fit test (Some x) (Some ys) xs one more e = let same : x ∷ ys ≡ xs = cc in rw (← same) (rw (one x refl, more ys refl))

each-fits : {A : Type 0} (test : A → Bool) (reads : Data → Option A) → Fits test reads → (items : Items) (xs : List A) → each reads items ≡ Some xs → list_all test xs ≡ true
each-fits test reads fits no_items xs e = let same : [] ≡ xs = cc in rw (← same)
each-fits test reads fits (item value rest) xs e =
    joined-fit test (reads value) (each reads rest) xs (fits value) (each-fits test reads fits rest) e

arrays_from-fit : {A : Type 0} (test : A → Bool) (reads : Data → Option A) → Fits test reads → (o : Option Items) (xs : List A) → option_and_then (each reads) o ≡ Some xs → list_all test xs ≡ true
arrays_from-fit test reads fits None xs e = cc
arrays_from-fit test reads fits (Some items) xs e = each-fits test reads fits items xs e

arrays-fit : {A : Type 0} (test : A → Bool) (reads : Data → Option A) → Fits test reads → Fits (list_all test) (array_in reads)
arrays-fit test reads fits value xs e = arrays_from-fit test reads fits (as_array value) xs e

-- ---- keys
in_range-read : {A : Type 0} (table : Within) (key : List ℕ) (o : Option A) (x : A) → in_range table key o ≡ Ok x → o ≡ Some x
in_range-read table key None x e = cc
in_range-read table key (Some y) x e = cc

value-fits : {A : Type 0} (test : A → Bool) (reads : Data → Option A) → Fits test reads → (table : Within) (key : List ℕ) (o : Option Data) (x : A) → value_from reads table key o ≡ Ok x → test x ≡ true
value-fits test reads fits table key None x e = cc
value-fits test reads fits table key (Some value) x e = fits value x (in_range-read table key (reads value) x e)

-- the same of a key of a table
at_key-fits : {A : Type 0} (test : A → Bool) (reads : Data → Option A) → Fits test reads → (table : Within) (key : List ℕ) (ms : Members) (x : A) → value_at reads table key ms ≡ Ok x → test x ≡ true
at_key-fits test reads fits table key ms x e = value-fits test reads fits table key (get_member key ms) x e

option-fits : (table : Within) (key : List ℕ) (o : Option Data) (x : Option (List ℕ)) → option_from address_in table key o ≡ Ok x → address_fits x ≡ true
option-fits table key None x e = let same : None ≡ x = cc in rw (← same)
option-fits table key (Some value) x e =
    let (at, read, last) = both_ok (in_range table key (address_in value)) (λ y. Ok (Some y)) x e in
    let same : Some at ≡ x = cc in
    rw (← same) (addresses-fit value at (in_range-read table key (address_in value) at read))

-- ---- tables
node-fits : (number : ℕ) (node : Members) (p : MemberPart) → node_of number node ≡ Ok p → part_fits p ≡ true
unfolding node_of
node-fits number node p e =
    let table = within.Node number in
    let (keys, e0, e1) = both_ok (keys_fit table node) _ p e in
    let (id, e2, e3) = both_ok (value_at (number_in 1 LAST_NODE) table (codes "id") node) _ p e1 in
    let (region, e4, e5) = both_ok (value_at name_in table (codes "region") node) _ p e3 in
    let (kind, e6, e7) = both_ok (value_at kind_in table (codes "kind") node) _ p e5 in
    let (server, e8, e9) = both_ok (value_at server_in table (codes "uuid") node) _ p e7 in
    let (address, e10, e11) = both_ok (option_at address_in table (codes "address") node) _ p e9 in
    let id_fits = at_key-fits (is_between 1 LAST_NODE) (number_in 1 LAST_NODE) (λ v. numbers-fit 1 LAST_NODE (as_integer v)) table (codes "id") node id e2 in
    let region_fits = at_key-fits is_name name_in names-fit table (codes "region") node region e4 in
    let at_fits = option-fits table (codes "address") (get_member (codes "address") node) address e10 in
    let made : MemberPart = record { id = id; region = region; kind = kind; server = server; address = address } in
    last_ok (λ q. part_fits q ≡ true) made p e11 (rw (id_fits, region_fits, at_fits))

client_number : (n : ℕ) → is_between FIRST_CLIENT (2 ^ 32 - 1) n ≡ true → (nat_le FIRST_CLIENT n && nat_lt n (2 ^ 32)) ≡ true
client_number n fits = grind (arith, nat_tests)

client-fits : (number : ℕ) (client : Members) (a : Address) → client_of number client ≡ Ok a → client_fits a ≡ true
unfolding client_of
client-fits number client a e =
    let table = within.Client number in
    let (keys, e0, e1) = both_ok (keys_fit table client) _ a e in
    let (id, e2, e3) = both_ok (value_at (number_in FIRST_CLIENT (2 ^ 32 - 1)) table (codes "id") client) _ a e1 in
    let (at, e4, e5) = both_ok (value_at address_in table (codes "address") client) _ a e3 in
    let id_fits = at_key-fits (is_between FIRST_CLIENT (2 ^ 32 - 1)) (number_in FIRST_CLIENT (2 ^ 32 - 1)) (λ v. numbers-fit FIRST_CLIENT (2 ^ 32 - 1) (as_integer v)) table (codes "id") client id e2 in
    let at_fits = at_key-fits is_address address_in addresses-fit table (codes "address") client at e4 in
    let made : Address = record { id = id; at = at } in
    last_ok (λ q. client_fits q ≡ true) made a e5 (rw (client_number id id_fits, at_fits))

table-fits : (number : ℕ) (table : Members) (t : Table) → table_of number table ≡ Ok t → table_fits t ≡ true
unfolding table_of
table-fits number ms t e =
    let table = within.Table number in
    let (keys, e0, e1) = both_ok (keys_fit table ms) _ t e in
    let (name, e2, e3) = both_ok (value_at name_in table (codes "name") ms) _ t e1 in
    let (columns, e4, e5) = both_ok (value_at (array_in column_in) table (codes "columns") ms) _ t e3 in
    let name_fits = at_key-fits is_name name_in names-fit table (codes "name") ms name e2 in
    let all_fit = at_key-fits (list_all column_fits) (array_in column_in) (arrays-fit column_fits column_in columns-fit) table (codes "columns") ms columns e4 in
    let made : Table = record { name = name; columns = columns } in
    last_ok (λ q. table_fits q ≡ true) made t e5 (rw (name_fits, all_fit))

rest-fits : {A : Type 0} (test : A → Bool) (o : Option (Result A RingError)) (rest : Result (List A) RingError) (xs : List A)
    → ((one : Result A RingError) (x : A) → o ≡ Some one → one ≡ Ok x → test x ≡ true) → ((ys : List A) → rest ≡ Ok ys → list_all test ys ≡ true)
    → before_rest o rest ≡ Ok xs → list_all test xs ≡ true
rest-fits test None rest xs one more e = more xs e
rest-fits test (Some (Err f)) rest xs one more e = cc
rest-fits test (Some (Ok x)) (Err f) xs one more e = cc
rest-fits test (Some (Ok x)) (Ok ys) xs one more e = let same : x ∷ ys ≡ xs = cc in rw (← same) (rw (one (Ok x) x refl refl, more ys refl))

one-fits : {A : Type 0} (test : A → Bool) (reads : Members → Result A RingError) → ((ms : Members) (x : A) → reads ms ≡ Ok x → test x ≡ true) → (o : Option Members) (one : Result A RingError) (x : A)
    → option_map reads o ≡ Some one → one ≡ Ok x → test x ≡ true
one-fits test reads fits None one x e is = cc
one-fits test reads fits (Some ms) one x e is = fits ms x (cc)

tables-fit : {A : Type 0} (test : A → Bool) (reads : ℕ → Members → Result A RingError) → ((n : ℕ) (ms : Members) (x : A) → reads n ms ≡ Ok x → test x ≡ true) → (n : ℕ) (items : Items) (xs : List A)
    → each_table reads n items ≡ Ok xs → list_all test xs ≡ true
tables-fit test reads fits n no_items xs e = let same : [] ≡ xs = cc in rw (← same)
tables-fit test reads fits n (item value rest) xs e =
    rest-fits test (option_map (reads n) (as_table value)) (each_table reads (n + 1) rest) xs (one-fits test (reads n) (fits n) (as_table value)) (tables-fit test reads fits (n + 1) rest) e

abbrev AreNames : Heading → Type 0
AreNames h = (is_name h.home ≡ true) × (is_name h.database ≡ true) × (list_all is_name h.regions ≡ true)

heading-fits : (top : Members) (h : Heading) → heading_of top ≡ Ok h → AreNames h
unfolding heading_of
heading-fits top h e =
    let (keys, e0, e1) = both_ok (keys_fit within.Top top) _ h e in
    let (version, e2, e3) = both_ok (value_at (number_in 1 1) within.Top (codes "version") top) _ h e1 in
    let (home, e4, e5) = both_ok (value_at name_in within.Top (codes "home") top) _ h e3 in
    let (database, e6, e7) = both_ok (value_at name_in within.Top (codes "database") top) _ h e5 in
    let (regions, e8, e9) = both_ok (value_at (array_in name_in) within.Top (codes "regions") top) _ h e7 in
    let home_fits = at_key-fits is_name name_in names-fit within.Top (codes "home") top home e4 in
    let database_fits = at_key-fits is_name name_in names-fit within.Top (codes "database") top database e6 in
    let regions_fit = at_key-fits (list_all is_name) (array_in name_in) (arrays-fit is_name name_in names-fit) within.Top (codes "regions") top regions e8 in
    let made : Heading = record { home = home; database = database; regions = regions } in
    last_ok AreNames made h e9 (home_fits, database_fits, regions_fit)

-- the parts that a document declares are in their ranges
pub parts_fit : (document : Members) (parts : RingParts) → parts_of document ≡ Ok parts → is_in_range parts ≡ true
unfolding parts_of is_in_range
parts_fit document parts e =
    let (top, e0, e1) = both_ok (heading_of document) _ parts e in
    let (nodes, e2, e3) = both_ok (tables_at (codes "node") document) _ parts e1 in
    let (clients, e4, e5) = both_ok (tables_at (codes "client") document) _ parts e3 in
    let (tables, e6, e7) = both_ok (tables_at (codes "table") document) _ parts e5 in
    let (members, e8, e9) = both_ok (each_table node_of 1 nodes) _ parts e7 in
    let (addresses, e10, e11) = both_ok (each_table client_of 1 clients) _ parts e9 in
    let (schema, e12, e13) = both_ok (each_table table_of 1 tables) _ parts e11 in
    let (home, database, regions) = heading-fits document top e0 in
    let members_fit : list_all part_fits members ≡ true = tables-fit part_fits node_of node-fits 1 nodes members e8 in
    let clients_fit : list_all client_fits addresses ≡ true = tables-fit client_fits client_of client-fits 1 clients addresses e10 in
    let tables_fit : list_all table_fits schema ≡ true = tables-fit table_fits table_of table-fits 1 tables schema e12 in
    last_ok (λ q. is_in_range q ≡ true) (declared top members addresses schema) parts e13 (rw (home, regions, members_fit, clients_fit, database, tables_fit))
