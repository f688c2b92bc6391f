-- what a rule is handed over a list stands for a fit node
use Rattle.std.proofs.Common.{◌≡◌, ℕ, zero, suc, ◌≤◌, Bool, true, false, ◌&&◌, nat_le, List, [], ◌∷◌, length, take, if◌then◌else◌, Option, Some, None, refl, sym, ap, ap₂, subst, ◌∙◌, arith}
use Rattle.std.specs.Prelude.{IfSome, slice_get}
use Rattle.std.specs.List.{list_all}
use Rattle.std.specs.Option.{option_copied}
use Rattle.std.proofs.lemmas.Bool.Decides.{nat_tests}
use Rattle.ring_types.specs.declared.entries.Entry.{Entry}
use Rattle.ring_types.specs.declared.entries.Pair.{Pair}
use Rattle.ring_types.specs.declared.entries.Vote.{Vote}
use Rattle.ring_types.specs.declared.schemas.Schema.{Schema}
use Rattle.ring_types.specs.Gtids.{gtids}
use Rattle.ring_types.specs.Logs.{entry_at, rotates}
use Rattle.ring_types.specs.Rings.{Layout, runs_engine}
use Rattle.ring_types.specs.Rows.{payload_fits, rows}
use Rattle.ring_types.specs.Sizes.{group_bytes, group_limit}
use Rattle.edge_traits.specs.Views.{Sight, AreEntries}
use Rattle.row_engine.specs.Filled.{Filled}
use Rattle.node_store.specs.Stores.{StoreState, engine_for, tables_of}
use Rattle.commit_pipeline.specs.Heres.{IsNode, StandsForNode, durable_of}
use Rattle.commit_pipeline.specs.declared.heres.Here.{Here}
use Rattle.node_unit.specs.Plans.{sight_of}
use Rattle.node_unit.specs.Units.{IsFitShown}
use Rattle.ring_lawful.specs.EachStep.{IsFitNode, IsFitPart}
use Rattle.ring_model.specs.Nodes.{IsLawful}
use Rattle.ring_model.specs.declared.nodes.Durable.{Durable}
use Rattle.ring_model.specs.declared.nodes.Soft.{Soft}
use Rattle.ring_model.specs.declared.worlds.Shown.{Shown}

-- ---- the entries of a fit log
first_true : (a b : Bool) → (a && b) ≡ true → a ≡ true
first_true true b h = refl
first_true false b h = absurd (let z : false ≡ true = h in cc)

second_true : (a b : Bool) → (a && b) ≡ true → b ≡ true
second_true true b h = h
second_true false b h = absurd (let z : false ≡ true = h in cc)

all_at : (p : Entry → Bool) (log : List Entry) (k : ℕ) (e : Entry) → list_all p log ≡ true → slice_get log k ≡ Some e → p e ≡ true
all_at p [] k e all at = absurd cc
all_at p (x ∷ log) zero e all at = let same : x ≡ e = cc in subst (λ (y : Entry). p y ≡ true) same (first_true (p x) (list_all p log) all)
all_at p (x ∷ log) (suc k) e all at = all_at p log k e (second_true (p x) (list_all p log) all) at

all_at_position : (p : Entry → Bool) (log : List Entry) (position : ℕ) (e : Entry) → list_all p log ≡ true → entry_at log position ≡ Some e → p e ≡ true
all_at_position p log zero e all at = absurd cc
all_at_position p log (suc k) e all at = all_at p log k e all at

small : (schema : Schema) (e : Entry) → nat_le (group_bytes schema e.payload) group_limit ≡ true → group_bytes schema e.payload ≤ group_limit
small schema e h = grind (arith, nat_tests, h)

pub are_entries : (ring : Layout) (me : ℕ) (d : Durable) → IsFitPart ring me d → AreEntries ring.schema d.log
are_entries ring me d (sound, fits) = λ position e at. record {
  placed = sound.log.placed position e at;
  fits = all_at_position (λ (x : Entry). payload_fits ring.schema x.payload) d.log position e fits at;
  group_fits = small ring.schema e (all_at_position (λ (x : Entry). nat_le (group_bytes ring.schema x.payload) group_limit) d.log position e sound.groups_fit at);
}

-- the same of a unit's node
pub shown_entries : (ring : Layout) (s : Shown) → IsFitShown ring s → AreEntries ring.schema s.durable.log
shown_entries ring s fit = are_entries ring s.node s.durable fit.part

-- ---- what is handed in
abbrev part : ℕ → List Vote → List Entry → ℕ → List Pair → Durable
part term votes log applied prepared = record { term = term; votes = votes; log = log; applied = applied; prepared = prepared }

pub record IsHanded {V : Type 0} (ring : Layout) (me : ℕ) (store : StoreState) (here : Here V) : Type 0 where
  pub ring_is : here.ring.now ≡ ring
  pub me_is : here.me ≡ me
  pub term_is : here.term ≡ store.durable.term
  pub votes_are : here.history.now ≡ store.durable.votes
  pub gtids_are : here.gtids.now ≡ gtids store.durable.log
  pub tables_are : option_copied here.tables ≡ tables_of store
  pub applied_is : here.applied ≡ store.durable.applied
  pub pairs_are : here.prepared.now ≡ store.durable.prepared
  pub file_is : here.file ≡ suc (rotates store.durable.log)

part_is : {V : Type 0} (ring : Layout) (me : ℕ) (store : StoreState) (here : Here V) → IsHanded ring me store here → durable_of here store.durable.log ≡ store.durable
part_is ring me store here h =
    let d = store.durable in
    ap₂ (λ (t : ℕ) (v : List Vote). part t v d.log here.applied here.prepared.now) h.term_is h.votes_are
    ∙ ap₂ (λ (a : ℕ) (p : List Pair). part d.term d.votes d.log a p) h.applied_is h.pairs_are

-- the tables of a member with an engine
abbrev filled : Layout → ℕ → Durable → Option Filled
filled ring me d = if runs_engine ring me then Some (record { schema = ring.schema; rows = rows ring.schema (take d.applied d.log) }) else None

tables_by : (ring : Layout) (me : ℕ) (store : StoreState) (tables : Option Filled) → store.engine ≡ engine_for ring me → tables ≡ tables_of store → tables ≡ filled ring me store.durable
tables_by ring me store tables of' is = is ∙ (ap made of' ∙ go (runs_engine ring me))
  where
    made : Option Schema → Option Filled
    made engine = tables_of (record store { engine = engine })

    go : (b : Bool) → made (if b then Some ring.schema else None) ≡ (if b then Some (record { schema = ring.schema; rows = rows ring.schema (take store.durable.applied store.durable.log) }) else None)
    go true = refl
    go false = refl

fit_tables : (ring : Layout) (me : ℕ) (d : Durable) (tables : Option Filled) → tables ≡ filled ring me d → IfSome tables (λ (t : Filled). t.schema ≡ ring.schema)
fit_tables ring me d tables is = go (runs_engine ring me) is
  where
    go : (b : Bool) → tables ≡ (if b then Some (record { schema = ring.schema; rows = rows ring.schema (take d.applied d.log) }) else None) → IfSome tables (λ (t : Filled). t.schema ≡ ring.schema)
    go true is = subst (λ (o : Option Filled). IfSome o (λ (t : Filled). t.schema ≡ ring.schema)) (sym is) refl
    go false is = subst (λ (o : Option Filled). IfSome o (λ (t : Filled). t.schema ≡ ring.schema)) (sym is) tt

told : {V : Type 0} (ring : Layout) (me : ℕ) (store : StoreState) (s : Soft) (here : Here V) → store.engine ≡ engine_for ring me → IsFitNode ring me store.durable s
    → IsHanded ring me store here → IsNode here s store.durable.log
told ring me store s here of' (lawful, fits) h = rw (h.ring_is, h.me_is) (record {
  lawful = subst (λ (x : Durable). IsLawful ring me x s) (sym (part_is ring me store here h)) lawful;
  payloads = fits;
  gtids_are = h.gtids_are;
  tables_are = rw h.applied_is (tables_by ring me store (option_copied here.tables) of' h.tables_are);
  file_is = h.file_is;
})

pub stands_for : {V : Type 0} (stands : V → Type 0) (sees : V → Sight) (ring : Layout) (me : ℕ) (store : StoreState) (s : Soft) (here : Here V) → store.engine ≡ engine_for ring me
    → IsFitNode ring me store.durable s → IsHanded ring me store here → sees here.view.now ≡ sight_of ring store.durable
    → (AreEntries ring.schema store.durable.log → stands here.view.now) → StandsForNode stands sees here s
stands_for stands sees ring me store s here of' fit h sight view =
    let (lawful, fits) = fit in
    let d = store.durable in
    let same_length : (sees here.view.now).length ≡ length d.log = ap (λ (x : Sight). x.length) sight in
    let same_log : (sees here.view.now).log ≡ Some d.log = ap (λ (x : Sight). x.log) sight in
    record {
      view = view (are_entries ring me d (lawful.sound, fits));
      home = ap (λ (x : Sight). x.home) sight ∙ ap (λ (r : Layout). r.home) (sym h.ring_is);
      schema = ap (λ (x : Sight). x.schema) sight ∙ ap (λ (r : Layout). r.schema) (sym h.ring_is);
      short = rw same_length lawful.sound.log.short;
      term_fits = rw h.term_is lawful.sound.term_fits;
      applied_below = rw h.applied_is lawful.commit_above;
      commit_inside = rw same_length lawful.commit_inside;
      peers_fit = rw same_length lawful.peers_fit;
      candidate_short = rw same_length lawful.candidate_short;
      tables_fit = rw h.ring_is (fit_tables ring me d (option_copied here.tables) (tables_by ring me store (option_copied here.tables) of' h.tables_are));
      whole = rw (same_log, same_length) refl;
      told = rw same_log (told ring me store s here of' fit h);
    }

-- what is said of the log that the view tells is said of the store's part
pub told_as : {V : Type 0} (P : Durable → Type 0) (ring : Layout) (me : ℕ) (store : StoreState) (here : Here V) (told : Option (List Entry)) → IsHanded ring me store here
    → told ≡ Some store.durable.log → IfSome told (λ log. P (durable_of here log)) → P store.durable
told_as P ring me store here told h is x = subst P (part_is ring me store here h) (rw is at x)
