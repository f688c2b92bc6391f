-- An action writes its item behind the end of the redo, and then switches the control file: so at each moment the engine stands from before it, or the one that it makes.
use Rattle.std.specs.Prelude.{IfOk}
use Rattle.std.proofs.Common.{◌≡◌, ℕ, ◌+◌, ◌≤◌, ◌⊎◌, inl, inr, true, false, ◌==◌, List, [], ◌++◌, length, take, Option, Some, None, Result, Ok, Err, refl, sym, ap, subst, ◌∙◌, arith}
use Rattle.std.proofs.lemmas.Bool.{eq-eqb}
use Rattle.control_block.specs.Blocks.{Stands}
use Rattle.control_block.specs.ControlFiles.{IsEither, control_of}
use Rattle.control_block.specs.declared.blocks.ControlBlock.{ControlBlock}
use Rattle.control_block.proofs.Mounted.{stands_left}
use Rattle.control_block.proofs.Switching.{works_beside, write_then_switch}
use Rattle.edge_traits.specs.FileStates.{Contents, FileState, Files, Firm, MayLeave, settled, written, wrote}
use Rattle.edge_traits.specs.Moments.{AtEachMoment}
use Rattle.edge_traits.specs.Works.{Group, Holds, HoldsOn, IsTelling, MayIn, MayOut, Switches, Telling, WorksOn, seen, telling}
use Rattle.edge_traits.specs.declared.disks.FileId.{FileId}
use Rattle.edge_traits.specs.declared.disks.FileId.TheVariants as file
use Rattle.edge_traits.proofs.FileStates.{firm_left, firm_settled, firm_torn, front_written, length-written, settled_only, written_after}
use Rattle.edge_traits.proofs.Working.{AreWithin, works_at}
use Rattle.engine_redo.specs.Groups.{engine_files}
use Rattle.engine_redo.specs.Items.{IsItem}
use Rattle.engine_redo.specs.Mounted.{HasAdded, IsEngine, IsMounted, Says, schema_of, state_of}
use Rattle.engine_redo.specs.Points.{PointFits, point_bytes}
use Rattle.engine_redo.specs.Stands.{EngineStands, IsRedo, MayRedo, empty_engine}
use Rattle.engine_redo.specs.declared.engines.Engine.{Engine}
use Rattle.engine_redo.specs.declared.faults.EngineFault.{EngineFault}
use Rattle.engine_redo.specs.declared.points.RedoPoint.{RedoPoint}
use Rattle.engine_redo.proofs.Redoing.{one_made, redo_empty, redo_more}
use Rattle.prepared_txns.specs.Engines.{EngineState, engine_done}
use Rattle.ring_model.specs.declared.effects.Action.{Action}
use Rattle.ring_types.specs.Rings.{is_schema}
use Rattle.ring_types.specs.declared.schemas.Schema.{Schema}

-- ---- a content that reads so
-- the file goes to the end, and up to there it is a redo that makes the engine
pub record Reaches (schema : Schema) (p : RedoPoint) (e : EngineState) (bytes : List ℕ) : Type 0 where
  pub long : p.end ≤ length bytes
  pub redo : IsRedo schema (take p.end bytes) e

none_done : (schema : Schema) (p : RedoPoint) (e : EngineState) (bytes : List ℕ) → p.end ≡ 0 → IsRedo schema (take p.end bytes) e → e ≡ empty_engine schema
none_done schema p e bytes is redo = one_made schema e (empty_engine schema) [] (subst (λ (n : ℕ). IsRedo schema (take n bytes) e) is redo) (redo_empty schema)

pub read_stands : (schema : Schema) (p : RedoPoint) (e : EngineState) (said : Option (List ℕ)) (c : Contents) → PointFits p → Says p said
    → Reaches schema p e (c (file.Redo p.number)) → control_of (c file.EngineCtl) ≡ Some said → EngineStands schema e c
read_stands schema p e None c fits says reaches is = rw is (none_done schema p e (c (file.Redo p.number)) (ap (λ (q : RedoPoint). q.end) says) reaches.redo)
read_stands schema p e (Some bytes) c fits says reaches is = rw is (record { point = p; named = says; fits = fits; reaches = reaches.long; redo = reaches.redo })

-- ---- what an engine holds of its files
firm_reaches : (schema : Schema) (p : RedoPoint) (e : EngineState) (f : FileState) (left : List ℕ) → Firm p.end f → IsRedo schema (take p.end f.bytes) e → MayLeave f left
    → Reaches schema p e left
firm_reaches schema p e f left firm redo may =
    record { long = omega (arith, firm.least, may.no_shorter); redo = subst (λ (b : List ℕ). IsRedo schema b e) (sym (firm_left firm left may)) redo }

pub held_left : (engine : Engine) (on : Files) → IsEngine engine → IsMounted engine on → (c : Contents) → MayIn engine_files on c
    → EngineStands (schema_of engine) (state_of engine) c
held_left engine on is mounted c may =
    read_stands (schema_of engine) engine.point (state_of engine) engine.control.bytes c is.fits is.said
    (firm_reaches (schema_of engine) engine.point (state_of engine) (on (file.Redo engine.point.number)) (c (file.Redo engine.point.number)) mounted.firm mounted.redo
    (may (file.Redo engine.point.number) refl))
    (stands_left engine.control (on file.EngineCtl) mounted.control (c file.EngineCtl) (may file.EngineCtl refl))

pub mounted_holds : (engine : Engine) (now : Telling) → IsEngine engine → IsMounted engine now.files → IsTelling now
    → Holds engine_files now (EngineStands (schema_of engine) (state_of engine))
mounted_holds engine now is mounted tells = record {
  read = held_left engine now.files is mounted (seen now) (λ f mine. tells.read f);
  kept = held_left engine now.files is mounted;
}

-- ---- groups
abbrev only_redo : ℕ → Group
only_redo n (file.Redo m) = m == n
only_redo n _ = false

same_file : (n : ℕ) → (n == n) ≡ true
same_file n = eq-eqb n n refl

redo_within : (n : ℕ) → AreWithin (only_redo n) engine_files
redo_within n (file.Redo m) is = refl
redo_within n file.VoteCtl is = absurd (let z : false ≡ true = is in cc)
redo_within n file.LogCtl is = absurd (let z : false ≡ true = is in cc)
redo_within n file.EngineCtl is = absurd (let z : false ≡ true = is in cc)
redo_within n (file.Binlog m) is = absurd (let z : false ≡ true = is in cc)

abbrev engine_control : Group
engine_control file.EngineCtl = true
engine_control _ = false

control_within : AreWithin engine_control engine_files
control_within file.EngineCtl is = refl
control_within file.VoteCtl is = absurd (let z : false ≡ true = is in cc)
control_within file.LogCtl is = absurd (let z : false ≡ true = is in cc)
control_within (file.Redo n) is = absurd (let z : false ≡ true = is in cc)
control_within (file.Binlog n) is = absurd (let z : false ≡ true = is in cc)

-- ---- the two phases
-- what is written behind the end leaves the redo
torn_reaches : (schema : Schema) (p : RedoPoint) (e : EngineState) (f : FileState) (item left : List ℕ) → Firm p.end f → IsRedo schema (take p.end f.bytes) e
    → MayLeave (wrote p.end item f) left → Reaches schema p e left
torn_reaches schema p e f item left firm redo may =
    record { long = omega (arith, firm.least, may.no_shorter); redo = subst (λ (b : List ℕ). IsRedo schema b e) (sym (firm_torn firm p.end item (omega arith) left may)) redo }

-- and with the item it is the longer one
longer_reaches : (schema : Schema) (p q : RedoPoint) (e : EngineState) (a : Action) (f : FileState) (item : List ℕ) → q.end ≡ p.end + length item → Firm p.end f
    → IsRedo schema (take p.end f.bytes) e → IsItem schema item a → MayRedo schema e a → Reaches schema q (engine_done schema e a) (written p.end item f.bytes)
longer_reaches schema p q e a f item end firm redo is may =
    let long = length-written p.end item f.bytes in
    let text : take q.end (written p.end item f.bytes) ≡ take p.end f.bytes ++ item = ap (λ (n : ℕ). take n (written p.end item f.bytes)) end ∙ written_after p.end item f.bytes firm.bytes in
    record {
      long = omega (arith, long, end);
      redo = subst (λ (b : List ℕ). IsRedo schema b (engine_done schema e a)) (sym text) (redo_more schema e (take p.end f.bytes) item a redo is may);
    }

still_reaches : (schema : Schema) (p : RedoPoint) (e : EngineState) (f : FileState) (item : List ℕ) → Firm p.end f
    → IsRedo schema (take p.end f.bytes) e → Reaches schema p e (written p.end item f.bytes)
still_reaches schema p e f item firm redo =
    let long = length-written p.end item f.bytes in
    record {
      long = omega (arith, long, firm.bytes);
      redo = subst (λ (b : List ℕ). IsRedo schema b e) (sym (front_written p.end p.end item f.bytes (omega arith) firm.bytes)) redo;
    }

module _ {D : Type 0} (files : D → Files) (moment : D → ℕ) (left_since : D → ℕ → Contents → Type 0) (engine : Engine) (is : IsEngine engine) (old mid : D) where
  -- the item is written
  pub put_works : (n : ℕ) (item : List ℕ) → n ≡ engine.point.number → IsMounted engine (files old)
      → AtEachMoment files moment left_since (file.Redo n) old mid (MayLeave (wrote engine.point.end item (files old (file.Redo n))))
      → WorksOn engine_files files moment left_since old mid (EngineStands (schema_of engine) (state_of engine))
  put_works n item here mounted run =
      works_beside (only_redo n) engine_files (telling files moment left_since old) (telling files moment left_since mid)
      (λ c. MayLeave (wrote engine.point.end item (files old (file.Redo n))) (c (file.Redo n))) (EngineStands (schema_of engine) (state_of engine)) (redo_within n) stands
      (works_at (only_redo n) (same_file n) run)
    where
      stands : (c : Contents) → MayLeave (wrote engine.point.end item (files old (file.Redo n))) (c (file.Redo n)) → MayOut (only_redo n) (files old) c
          → EngineStands (schema_of engine) (state_of engine) c
      stands c torn out =
          let may = subst (λ (m : ℕ). MayLeave (wrote engine.point.end item (files old (file.Redo m))) (c (file.Redo m))) here torn in
          read_stands (schema_of engine) engine.point (state_of engine) engine.control.bytes c is.fits is.said
          (torn_reaches (schema_of engine) engine.point (state_of engine) (files old (file.Redo engine.point.number)) item (c (file.Redo engine.point.number)) mounted.firm mounted.redo may)
          (stands_left engine.control (files old file.EngineCtl) mounted.control (c file.EngineCtl) (out file.EngineCtl refl))

  -- the control file is switched, over a redo that has the item
  pub switch_works : (new : D) (q : RedoPoint) (item : List ℕ) (a : Action) (f : FileId) → f ≡ file.EngineCtl → q.number ≡ engine.point.number
      → q.end ≡ engine.point.end + length item → PointFits q
      → IsItem (schema_of engine) item a → MayRedo (schema_of engine) (state_of engine) a → IsMounted engine (files old)
      → files mid (file.Redo q.number) ≡ settled (written engine.point.end item (files old (file.Redo q.number)).bytes)
      → AtEachMoment files moment left_since f mid new (IsEither engine.control.bytes (point_bytes q))
      → Switches engine_files files moment left_since mid new (EngineStands (schema_of engine) (state_of engine))
      (EngineStands (schema_of engine) (engine_done (schema_of engine) (state_of engine) a))
  switch_works new q item a f control here end fits item_is may mounted settled_there run =
      works_beside engine_control engine_files (telling files moment left_since mid) (telling files moment left_since new)
      (λ c. IsEither engine.control.bytes (point_bytes q) (c file.EngineCtl))
      (λ c. EngineStands (schema_of engine) (state_of engine) c ⊎ EngineStands (schema_of engine) (engine_done (schema_of engine) (state_of engine) a) c) control_within
      (λ c either out. stands c (left_so c out) either)
      (works_at engine_control refl (subst (λ (g : FileId). AtEachMoment files moment left_since g mid new (IsEither engine.control.bytes (point_bytes q))) control run))
    where
      before : FileState
      before = files old (file.Redo engine.point.number)

      there : files mid (file.Redo engine.point.number) ≡ settled (written engine.point.end item before.bytes)
      there = subst (λ (m : ℕ). files mid (file.Redo m) ≡ settled (written engine.point.end item (files old (file.Redo m)).bytes)) here settled_there

      left_so : (c : Contents) → MayOut engine_control (files mid) c → c (file.Redo engine.point.number) ≡ written engine.point.end item before.bytes
      left_so c out = settled_only (written engine.point.end item before.bytes) (c (file.Redo engine.point.number))
          (subst (λ (s : FileState). MayLeave s (c (file.Redo engine.point.number))) there (out (file.Redo engine.point.number) refl))

      stands : (c : Contents) → c (file.Redo engine.point.number) ≡ written engine.point.end item before.bytes → IsEither engine.control.bytes (point_bytes q) (c file.EngineCtl)
          → EngineStands (schema_of engine) (state_of engine) c ⊎ EngineStands (schema_of engine) (engine_done (schema_of engine) (state_of engine) a) c
      stands c left (inl past) =
          inl (read_stands (schema_of engine) engine.point (state_of engine) engine.control.bytes c is.fits is.said
          (subst (Reaches (schema_of engine) engine.point (state_of engine)) (sym left) (still_reaches (schema_of engine) engine.point (state_of engine) before item mounted.firm mounted.redo)) past)
      stands c left (inr now) =
          let made = engine_done (schema_of engine) (state_of engine) a in
          let reaches = longer_reaches (schema_of engine) engine.point q (state_of engine) a before item end mounted.firm mounted.redo item_is may in
          inr (read_stands (schema_of engine) q made (Some (point_bytes q)) c fits refl
          (subst (λ (m : ℕ). Reaches (schema_of engine) q made (c (file.Redo m))) (sym here) (subst (Reaches (schema_of engine) q made) (sym left) reaches)) now)

-- the engine that was switched, on its disk
pub switched_mounted : (engine made : Engine) (old mid new : Files) (item : List ℕ) (a : Action) (q : RedoPoint) → made.point ≡ q → schema_of made ≡ schema_of engine
    → state_of made ≡ engine_done (schema_of engine) (state_of engine) a → q.number ≡ engine.point.number → q.end ≡ engine.point.end + length item
    → IsItem (schema_of engine) item a → MayRedo (schema_of engine) (state_of engine) a → IsMounted engine old
    → mid (file.Redo q.number) ≡ settled (written engine.point.end item (old (file.Redo q.number)).bytes) → new (file.Redo q.number) ≡ mid (file.Redo q.number)
    → Stands made.control (new file.EngineCtl) → IsMounted made new
switched_mounted engine made old mid new item a q point schema state here end item_is may mounted settled_there kept control =
    let before = old (file.Redo engine.point.number) in
    let bytes = written engine.point.end item before.bytes in
    let there : new (file.Redo q.number) ≡ settled bytes = kept ∙ (settled_there ∙ ap (λ (m : ℕ). settled (written engine.point.end item (old (file.Redo m)).bytes)) here) in
    let reaches = longer_reaches (schema_of engine) engine.point q (state_of engine) a before item end mounted.firm mounted.redo item_is may in
    let firm : Firm q.end (new (file.Redo q.number)) = subst (Firm q.end) (sym there) (firm_settled q.end bytes reaches.long) in
    let redo : IsRedo (schema_of made) (take q.end (new (file.Redo q.number)).bytes) (state_of made) =
    subst (λ (s : Schema). IsRedo s (take q.end (new (file.Redo q.number)).bytes) (state_of made)) (sym schema)
    (subst (IsRedo (schema_of engine) (take q.end (new (file.Redo q.number)).bytes)) (sym state)
    (subst (λ (s : FileState). IsRedo (schema_of engine) (take q.end s.bytes) (engine_done (schema_of engine) (state_of engine) a)) (sym there) reaches.redo)) in
    record {
      control = control;
      firm = subst (λ (p : RedoPoint). Firm p.end (new (file.Redo p.number))) (sym point) firm;
      redo = subst (λ (p : RedoPoint). IsRedo (schema_of made) (take p.end (new (file.Redo p.number)).bytes) (state_of made)) (sym point) redo;
    }

-- ---- with what the call kept in memory beside it
here_too : (engine : Engine) (p q : RedoPoint) → p ≡ engine.point → q.number ≡ p.number → q.number ≡ engine.point.number
here_too engine p q point here = here ∙ ap (λ (r : RedoPoint). r.number) point

end_too : (engine : Engine) (p q : RedoPoint) (item : List ℕ) → p ≡ engine.point → q.end ≡ p.end + length item → q.end ≡ engine.point.end + length item
end_too engine p q item point end = end ∙ ap (λ (r : RedoPoint). r.end + length item) point

settled_too : (engine : Engine) (p q : RedoPoint) (item : List ℕ) (before now : FileState) → p ≡ engine.point → now ≡ settled (written p.end item before.bytes)
    → now ≡ settled (written engine.point.end item before.bytes)
settled_too engine p q item before now point there = there ∙ ap (λ (r : RedoPoint). settled (written r.end item before.bytes)) point

module _ {D : Type 0} (files : D → Files) (moment : D → ℕ) (left_since : D → ℕ → Contents → Type 0) (engine : Engine) (is : IsEngine engine) (p q : RedoPoint)
    (point : p ≡ engine.point) (here : q.number ≡ p.number) (old mid : D) (mounted : IsMounted engine (files old)) (item : List ℕ) where
  pub put_held : AtEachMoment files moment left_since (file.Redo q.number) old mid (MayLeave (wrote p.end item (files old (file.Redo q.number))))
      → WorksOn engine_files files moment left_since old mid (EngineStands (schema_of engine) (state_of engine))
  put_held run =
      put_works files moment left_since engine is old mid q.number item (here_too engine p q point here) mounted
      (subst (λ (r : RedoPoint). AtEachMoment files moment left_since (file.Redo q.number) old mid (MayLeave (wrote r.end item (files old (file.Redo q.number))))) point run)

  module _ (a : Action) (item_is : IsItem (schema_of engine) item a) (may : MayRedo (schema_of engine) (state_of engine) a) (end : q.end ≡ p.end + length item)
      (there : files mid (file.Redo q.number) ≡ settled (written p.end item (files old (file.Redo q.number)).bytes)) where
    pub switch_held : (new : D) (control : ControlBlock) → control ≡ engine.control → PointFits q
        → AtEachMoment files moment left_since (file.Redo q.number) old mid (MayLeave (wrote p.end item (files old (file.Redo q.number))))
        → AtEachMoment files moment left_since control.file mid new (IsEither control.bytes (point_bytes q))
        → Switches engine_files files moment left_since old new (EngineStands (schema_of engine) (state_of engine))
        (EngineStands (schema_of engine) (engine_done (schema_of engine) (state_of engine) a))
    switch_held new control same fits first run =
        write_then_switch engine_files (telling files moment left_since old) (telling files moment left_since mid) (telling files moment left_since new)
        (EngineStands (schema_of engine) (state_of engine)) (EngineStands (schema_of engine) (engine_done (schema_of engine) (state_of engine) a)) (put_held first)
        (switch_works files moment left_since engine is old mid new q item a control.file (ap (λ (b : ControlBlock). b.file) same ∙ is.control) (here_too engine p q point here)
        (end_too engine p q item point end) fits item_is may mounted (settled_too engine p q item (files old (file.Redo q.number)) (files mid (file.Redo q.number)) point there)
        (subst (λ (b : Option (List ℕ)). AtEachMoment files moment left_since control.file mid new (IsEither b (point_bytes q))) (ap (λ (b : ControlBlock). b.bytes) same) run))

    pub mounted_then : (new : D) {Q : List ℕ → Type 0} (made : Engine) (f : FileId) → f ≡ file.EngineCtl → made.control.file ≡ f → made.point ≡ q → schema_of made ≡ schema_of engine
        → state_of made ≡ engine_done (schema_of engine) (state_of engine) a → AtEachMoment files moment left_since f mid new Q
        → Stands made.control (files new made.control.file) → IsMounted made (files new)
    mounted_then new made f control same made_point schema state run stands =
        switched_mounted engine made (files old) (files mid) (files new) item a q made_point schema state (here_too engine p q point here) (end_too engine p q item point end) item_is may
        mounted (settled_too engine p q item (files old (file.Redo q.number)) (files mid (file.Redo q.number)) point there)
        (run.elsewhere (file.Redo q.number) (λ e. let z : file.Redo q.number ≡ file.EngineCtl = e ∙ control in cc))
        (subst (λ (g : FileId). Stands made.control (files new g)) (same ∙ control) stands)

    pub item_added : (new : D) {P Q : List ℕ → Type 0} (made : Engine) (f : FileId) → f ≡ file.EngineCtl → made.point ≡ q
        → AtEachMoment files moment left_since (file.Redo q.number) old mid P → AtEachMoment files moment left_since f mid new Q
        → HasAdded engine made a (files old) (files new)
    item_added new made f control made_point first run = record {
      text = item;
      item = item_is;
      number = ap (λ (r : RedoPoint). r.number) made_point ∙ number;
      bytes = subst (λ (r : RedoPoint). take r.end (files new (file.Redo r.number)).bytes ≡ take engine.point.end (before engine.point.number).bytes ++ item) (sym made_point)
          (ap (λ (s : FileState). take q.end s.bytes) now ∙ text);
      others = λ n apart. run.elsewhere (file.Redo n) (λ e. let z : file.Redo n ≡ file.EngineCtl = e ∙ control in cc)
          ∙ first.elsewhere (file.Redo n) (λ e. apart (ap number_of e ∙ number));
    }
      where
        before : ℕ → FileState
        before n = files old (file.Redo n)

        number : q.number ≡ engine.point.number
        number = here_too engine p q point here

        number_of : FileId → ℕ
        number_of (file.Redo n) = n
        number_of _ = 0

        now : files new (file.Redo q.number) ≡ settled (written engine.point.end item (before engine.point.number).bytes)
        now = run.elsewhere (file.Redo q.number) (λ e. let z : file.Redo q.number ≡ file.EngineCtl = e ∙ control in cc)
            ∙ (settled_too engine p q item (before q.number) (files mid (file.Redo q.number)) point there
            ∙ ap (λ (n : ℕ). settled (written engine.point.end item (before n).bytes)) number)

        text : take q.end (written engine.point.end item (before engine.point.number).bytes) ≡ take engine.point.end (before engine.point.number).bytes ++ item
        text = ap (λ (n : ℕ). take n (written engine.point.end item (before engine.point.number).bytes)) (end_too engine p q item point end)
            ∙ written_after engine.point.end item (before engine.point.number).bytes mounted.firm.bytes

-- the control file stands still after the item is written
pub control_still : {D : Type 0} {files : D → Files} {moment : D → ℕ} {left_since : D → ℕ → Contents → Type 0} {old mid : D} {Q : List ℕ → Type 0} (engine : Engine)
    (control : ControlBlock) (n : ℕ) → IsEngine engine → IsMounted engine (files old) → control ≡ engine.control
    → AtEachMoment files moment left_since (file.Redo n) old mid Q → Stands control (files mid control.file)
control_still {files = files} {old = old} {mid = mid} engine control n is mounted same run =
    let named : control.file ≡ file.EngineCtl = ap (λ (b : ControlBlock). b.file) same ∙ is.control in
    let kept : files mid file.EngineCtl ≡ files old file.EngineCtl = run.elsewhere file.EngineCtl (λ e. cc) in
    subst (λ (g : FileId). Stands control (files mid g)) (sym named)
    (subst (Stands control) (sym kept) (subst (λ (b : ControlBlock). Stands b (files old file.EngineCtl)) (sym same) mounted.control))

-- what an engine keeps in memory after it
pub switched_engine : (engine made : Engine) (q : RedoPoint) → IsEngine engine → made.point ≡ q → PointFits q → schema_of made ≡ schema_of engine
    → made.control.bytes ≡ Some (point_bytes q) → made.control.file ≡ engine.control.file → IsEngine made
switched_engine engine made q is point fits schema bytes control = record {
  schema = ap is_schema schema ∙ is.schema;
  fits = subst PointFits (sym point) fits;
  said = subst (λ (p : RedoPoint). Says p made.control.bytes) (sym point) (subst (Says q) (sym bytes) refl);
  control = control ∙ is.control;
}

-- an engine that was mounted holds itself
module _ {D : Type 0} (files : D → Files) (moment : D → ℕ) (left_since : D → ℕ → Contents → Type 0) (disk : D) (tells : IsTelling (telling files moment left_since disk)) where
  pub engine_holds : (schema : Schema) (engine : Engine) → schema_of engine ≡ schema → IsEngine engine → IsMounted engine (files disk)
      → HoldsOn engine_files files moment left_since disk (EngineStands schema (state_of engine))
  engine_holds schema engine same is mounted =
      subst (λ (s : Schema). HoldsOn engine_files files moment left_since disk (EngineStands s (state_of engine))) same (mounted_holds engine (telling files moment left_since disk) is mounted tells)

  pub answer_holds : (schema : Schema) (r : Result Engine EngineFault) → IfOk r (λ it. schema_of it ≡ schema) → IfOk r (λ it. IsEngine it) → IfOk r (λ it. IsMounted it (files disk))
      → IfOk r (λ it. HoldsOn engine_files files moment left_since disk (EngineStands schema (state_of it)))
  answer_holds schema (Ok engine) same is mounted = engine_holds schema engine same is mounted
  answer_holds schema (Err fault) same is mounted = tt
