-- One item after another of the bytes of a redo.
use Rattle.std.proofs.Common.{◌≡◌, ℕ, ◌+◌, ◌-◌, ◌<◌, ◌≤◌, List, ◌++◌, length, take, drop, Result, Ok, Err, refl, sym, ap, subst, ◌∙◌, append_assoc, take-append-drop, arith}
use Rattle.std.proofs.Math.Seq.{take-append_seam}
use Rattle.std.proofs.lemmas.List.{length-append, length-take-le}
use Rattle.event_frame.specs.Forms.{front_of}
use Rattle.event_frame.specs.declared.field_readers.FieldFault.{FieldFault}
use Rattle.event_frame.specs.declared.field_readers.FieldFault.TheVariants.{Cut}
use Rattle.edge_traits.specs.declared.disks.FileId.TheVariants as file
use Rattle.engine_redo.specs.Damages.{IsLongest}
use Rattle.engine_redo.specs.Faults.{IfDamaged}
use Rattle.engine_redo.specs.Reading.{Fails}
use Rattle.engine_redo.specs.declared.faults.EngineFault.{EngineFault}
use Rattle.engine_redo.specs.declared.faults.EngineFault.TheVariants as fault
use Rattle.engine_redo.specs.declared.faults.ItemFault.{ItemFault}
use Rattle.engine_redo.specs.declared.faults.ItemFault.TheVariants as item
use Rattle.engine_redo.specs.declared.points.RedoPoint.{RedoPoint}
use Rattle.engine_redo.specs.Items.{IsItem, item_form}
use Rattle.engine_redo.specs.Stands.{IsRedo, MayRedo}
use Rattle.engine_redo.proofs.Items.{item_again, item_some, no_item}
use Rattle.engine_redo.proofs.Redoing.{redo_more}
use Rattle.prepared_txns.specs.Engines.{EngineState, engine_done}
use Rattle.ring_model.specs.declared.effects.Action.{Action}
use Rattle.ring_types.specs.declared.schemas.Schema.{Schema}

-- the item is at the front of these bytes
abbrev pub ReadAs : Schema → List ℕ → Action → List ℕ → Type 0
ReadAs schema bytes a rest = (text : List ℕ) × IsItem schema text a × (bytes ≡ text ++ rest)

pub shorter : (schema : Schema) (bytes behind : List ℕ) (at : ℕ) (a : Action) → at ≤ length bytes → ReadAs schema (drop at bytes) a behind → at + length behind < length bytes
shorter schema bytes behind at a within read =
    let some = item_some schema read.0 a read.1 in
    let whole : length bytes ≡ length (take at bytes) + length (drop at bytes) = ap length (sym (take-append-drop at bytes)) ∙ length-append (take at bytes) (drop at bytes) in
    let parts : length (drop at bytes) ≡ length read.0 + length behind = ap length read.2 ∙ length-append read.0 behind in
    let long : length (take at bytes) ≡ at = length-take-le at bytes within in
    omega (arith, some, whole, parts, long)

pub next_redo : (schema : Schema) (e : EngineState) (bytes behind : List ℕ) (at next : ℕ) (a : Action) → at ≤ length bytes → IsRedo schema (take at bytes) e
    → ReadAs schema (drop at bytes) a behind → MayRedo schema e a → next ≡ length bytes - length behind → IsRedo schema (take next bytes) (engine_done schema e a)
next_redo schema e bytes behind at next a within redo read may is =
    let whole : bytes ≡ (take at bytes ++ read.0) ++ behind = sym (take-append-drop at bytes) ∙ (ap (λ (b : List ℕ). take at bytes ++ b) read.2 ∙ sym (append_assoc (take at bytes) read.0 behind)) in
    let long : next ≡ length (take at bytes ++ read.0) = (let parts = ap length whole ∙ length-append (take at bytes ++ read.0) behind in omega (arith, is, parts)) in
    let front : take next bytes ≡ take at bytes ++ read.0 = ap (λ (b : List ℕ). take next b) whole ∙ (ap (λ (n : ℕ). take n ((take at bytes ++ read.0) ++ behind)) long ∙ take-append_seam (take at bytes ++ read.0) behind) in
    subst (λ (b : List ℕ). IsRedo schema b (engine_done schema e a)) (sym front) (redo_more schema e (take at bytes) read.0 a redo read.1 may)

-- where no item is read, none goes on
pub none_longest : (schema : Schema) (e : EngineState) (bytes : List ℕ) (at : ℕ) (f : FieldFault) → at ≤ length bytes → IsRedo schema (take at bytes) e
    → front_of Cut (item_form schema) (drop at bytes) ≡ Err f → IsLongest schema bytes at
none_longest schema e bytes at f within redo read =
    record { within = within; made = e; redo = redo; ends = λ a text rest parts is may. no_item schema (drop at bytes) f read a text rest parts is }

abbrev answer : Action × List ℕ → Result (Action × List ℕ) FieldFault
answer p = Ok p

one_answer : (p q : Action × List ℕ) → answer p ≡ answer q → p ≡ q
one_answer p q same = cc

-- nor where the item that is read is not possible
pub refused_longest : (schema : Schema) (e : EngineState) (bytes : List ℕ) (at : ℕ) (a : Action) (behind : List ℕ) → at ≤ length bytes → IsRedo schema (take at bytes) e
    → front_of Cut (item_form schema) (drop at bytes) ≡ Ok (a, behind) → (MayRedo schema e a → ⊥) → IsLongest schema bytes at
refused_longest schema e bytes at a behind within redo read refused =
    record { within = within; made = e; redo = redo; ends = λ b text rest parts is may. refused (subst (MayRedo schema e) (same b text rest parts is) may) }
  where
    same : (b : Action) (text rest : List ℕ) → drop at bytes ≡ text ++ rest → IsItem schema text b → b ≡ a
    same b text rest parts is =
        let again : front_of Cut (item_form schema) (drop at bytes) ≡ Ok (b, rest) = ap (front_of Cut (item_form schema)) parts ∙ item_again schema text b rest is in
        ap (λ (p : Action × List ℕ). p.0) (one_answer (b, rest) (a, behind) (sym again ∙ read))

-- ---- what is told of a fault
pub field_told : {Y : Type 0} {e : ItemFault} {f : FieldFault} {read : Result Y FieldFault} → e ≡ item.Field f → Fails e read → read ≡ Err f
field_told {read = read} is told = subst (λ (g : ItemFault). Fails g read) is told

pub damaged_there : (e : EngineFault) (schema : Schema) (bytes : List ℕ) (p : RedoPoint) → e ≡ fault.Damaged (file.Redo p.number) p.end → p.end < length bytes
    → IsLongest schema bytes p.end
    → IfDamaged {T = Unit {0}} (λ f at. (f ≡ file.Redo p.number) × (at < length bytes) × IsLongest schema bytes at) (Err e)
damaged_there e schema bytes p is within longest =
    subst (λ (d : EngineFault). IfDamaged {T = Unit {0}} (λ f at. (f ≡ file.Redo p.number) × (at < length bytes) × IsLongest schema bytes at) (Err d)) (sym is) (refl, within, longest)
