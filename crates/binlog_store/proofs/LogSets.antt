-- The set of a log, grown by the GTID of the entry that comes.
use Rattle.std.proofs.Common.{◌≡◌, ℕ, ◌≤◌, List, [], ◌∷◌, ◌++◌, length, Option, Some, None, refl, sym, ap, subst, ◌∙◌, arith}
use Rattle.std.specs.List.{cons_option}
use Rattle.std.proofs.lemmas.List.{append-nil}
use Rattle.std.proofs.lemmas.List.Elements.{filter_map-append}
use Rattle.ring_types.specs.declared.entries.Entry.{Entry}
use Rattle.ring_types.specs.declared.entries.Payload.TheVariants as payload
use Rattle.ring_types.specs.declared.gtid_sets.ServerSet.{ServerSet}
use Rattle.ring_types.specs.declared.values.Gtid.{Gtid}
use Rattle.ring_types.specs.declared.values.Txn.{Txn}
use Rattle.ring_types.specs.Gtids.{gtid_of, gtids, gtids_in, set_of}
use Rattle.event_frame.specs.declared.frames.TheConstants.{MOST_BODY_BYTES}
use Rattle.gtid_set.specs.Bytes.{set_bytes}
use Rattle.gtid_set.specs.Canonical.{IsCanonical}
use Rattle.gtid_set.specs.Laws.{AreInRange}
use Rattle.gtid_set.specs.Members.{HasAlso}
use Rattle.gtid_set.proofs.Made.{grows_with_log}
use Rattle.entry_group.proofs.Sizes.{set_size}

-- what was the set of any log becomes that of the log with this entry behind it
abbrev pub Lengthens : Entry → List ServerSet → List ServerSet → Type 0
Lengthens e old new = (log : List Entry) → old ≡ gtids log → AreInRange (gtids_in (log ++ e ∷ [])) → new ≡ gtids (log ++ e ∷ [])

pub put_some : (old new : List ServerSet) (e : Entry) (t : Txn) → e.payload ≡ payload.Txn t → IsCanonical new
    → HasAlso old t.gtid.server t.gtid.number new → Lengthens e old new
put_some old new e t is canonical also log of range =
    let has_it : gtid_of e ≡ Some t.gtid = rw is refl in
    grows_with_log log e t.gtid new has_it range canonical (subst (λ (set : List ServerSet). HasAlso set t.gtid.server t.gtid.number new) of also)

pub none_more : (log : List Entry) (e : Entry) → gtid_of e ≡ None → gtids (log ++ e ∷ []) ≡ gtids log
unfolding gtids
none_more log e is =
    ap set_of (filter_map-append gtid_of log (e ∷ []) ∙ (ap (λ (o : Option Gtid). gtids_in log ++ cons_option o []) is ∙ append-nil (gtids_in log)))

pub put_none : (set : List ServerSet) (e : Entry) → gtid_of e ≡ None → Lengthens e set set
put_none set e is log of range = of ∙ sym (none_more log e is)

-- the empty set takes eight bytes
pub short_set : (set : List ServerSet) (bytes : List ℕ) → set ≡ [] → bytes ≡ set_bytes set → length bytes ≤ MOST_BODY_BYTES
short_set set bytes none is =
    let eight : length bytes ≡ 8 = ap length is ∙ (ap (λ (s : List ServerSet). length (set_bytes s)) none ∙ set_size []) in
    omega (arith, eight)
