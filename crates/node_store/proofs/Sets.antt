-- The set that a log's GTIDs make grows by the GTID of the entry that comes: the grown set is canonical, and no other canonical set has its members.
use Rattle.std.proofs.Common.{◌≡◌, ℕ, zero, suc, ◌+◌, ◌^◌, ◌<◌, ◌≤◌, ◌==◌, Bool, true, false, ◌&&◌, ◌||◌, List, [], ◌∷◌, ◌++◌, take, Option, Some, None, refl, sym, ap, subst, ◌∙◌, arith}
use Rattle.std.specs.Prelude.{IfSome}
use Rattle.std.specs.List.{All, cons_option, list_any}
use Rattle.std.proofs.lemmas.Bool.Decides.{nat_tests}
use Rattle.std.proofs.lemmas.List.{append-nil}
use Rattle.std.proofs.lemmas.List.Elements.{filter_map-append}
use Rattle.ring_types.specs.declared.entries.Entry.{Entry}
use Rattle.ring_types.specs.declared.entries.Payload.TheVariants as payload
use Rattle.ring_types.specs.declared.gtid_sets.ServerSet.{ServerSet}
use Rattle.ring_types.specs.declared.limits.TheConstants.{LAST_GTID}
use Rattle.ring_types.specs.declared.values.Gtid.{Gtid}
use Rattle.ring_types.specs.declared.values.Txn.{Txn}
use Rattle.ring_types.specs.Gtids.{gtid_of, gtids, gtids_in, has, interval_has, set_of}
use Rattle.gtid_set.specs.Canonical.{AreCanonicalFrom, IsCanonical}
use Rattle.gtid_set.specs.Laws.{AreInRange}
use Rattle.gtid_set.specs.Members.{HasAlso}
use Rattle.gtid_set.proofs.Made.{grows_with_log}
use Rattle.node_store.specs.Kept.{IsNumbered, IsSetOf, Lengthens}

-- ---- GTIDs in range
range-both : (gs hs : List Gtid) → AreInRange gs → AreInRange hs → AreInRange (gs ++ hs)
range-both [] hs g h = h
range-both (x ∷ gs) hs g h = (g.0, range-both gs hs g.1 h)

range-more : (o : Option Gtid) (gs hs : List Gtid) → (AreInRange gs → AreInRange hs) → AreInRange (cons_option o gs) → AreInRange (cons_option o hs)
range-more None gs hs f h = f h
range-more (Some g) gs hs f h = (h.0, f h.1)

range-tail : (o : Option Gtid) (gs : List Gtid) → AreInRange (cons_option o gs) → AreInRange gs
range-tail None gs h = h
range-tail (Some g) gs h = h.1

-- the first entries of a log in range are in range
pub range-take : (n : ℕ) (log : List Entry) → AreInRange (gtids_in log) → AreInRange (gtids_in (take n log))
range-take zero log h = tt
range-take (suc n) [] h = tt
range-take (suc n) (e ∷ log) h = range-more (gtid_of e) (gtids_in log) (gtids_in (take n log)) (range-take n log) h

numbered_first : (o : Option Gtid) (gs : List Gtid) → AreInRange (cons_option o gs) → IfSome o (λ (g : Gtid). (1 ≤ g.number) × (g.number ≤ LAST_GTID))
numbered_first None gs h = tt
numbered_first (Some g) gs h = (h.0.0, h.0.1)

-- an entry of a log in range has such a number
pub numbered_at : (log : List Entry) → AreInRange (gtids_in log) → All IsNumbered log
numbered_at [] h k d lt = absurd (omega arith)
numbered_at (e ∷ log) h zero d lt = numbered_first (gtid_of e) (gtids_in log) h
numbered_at (e ∷ log) h (suc k) d lt = numbered_at log (range-tail (gtid_of e) (gtids_in log) h) k d (omega arith)

-- ---- one entry more
server_fits : (low server n : ℕ) (set : List ServerSet) → AreCanonicalFrom low set → has set server n ≡ true → server < 2 ^ 128
server_fits low server n [] c h = absurd cc
server_fits low server n (s ∷ set) c h =
    go (s.server == server) refl (list_any (interval_has n) s.intervals) (server_fits (s.server + 1) server n set c.4) h
  where
    go : (a : Bool) → (s.server == server) ≡ a → (b : Bool) → (has set server n ≡ true → server < 2 ^ 128) → ((a && b) || has set server n) ≡ true
        → server < 2 ^ 128
    go true is b more h =
        let fits : s.server < 2 ^ 128 = c.1 in
        let at : s.server ≡ server = grind (arith, nat_tests) in
        subst (λ (n : ℕ). n < 2 ^ 128) at fits
    go false is b more h = more h

gtids_in-push : (log : List Entry) (e : Entry) (o : Option Gtid) → gtid_of e ≡ o → gtids_in (log ++ e ∷ []) ≡ gtids_in log ++ cons_option o []
gtids_in-push log e o is = filter_map-append gtid_of log (e ∷ []) ∙ ap (λ (o : Option Gtid). gtids_in log ++ cons_option o []) is

pub put_some : (old new : List ServerSet) (e : Entry) (t : Txn) → e.payload ≡ payload.Txn t → IsNumbered e → IsCanonical new
    → HasAlso old t.gtid.server t.gtid.number new → Lengthens (e ∷ []) old new
put_some old new e t is numbered canonical also log of =
    let g : Gtid = t.gtid in
    let has_it : gtid_of e ≡ Some g = rw is refl in
    let number : (1 ≤ g.number) × (g.number ≤ LAST_GTID) =
    subst (λ (o : Option Gtid). IfSome o (λ (g : Gtid). (1 ≤ g.number) × (g.number ≤ LAST_GTID))) has_it numbered in
    let there : has new g.server g.number ≡ true = (let z = also g.server g.number in grind (arith, nat_tests)) in
    let one : AreInRange (g ∷ []) = ((number.0, number.1, server_fits 0 g.server g.number new canonical there), tt) in
    let range : AreInRange (gtids_in (log ++ e ∷ [])) =
    subst AreInRange (sym (gtids_in-push log e (Some g) has_it)) (range-both (gtids_in log) (g ∷ []) of.in_range one) in
    let also' : HasAlso (gtids log) g.server g.number new = subst (λ (set : List ServerSet). HasAlso set g.server g.number new) of.same also in
    record { in_range = range; same = grows_with_log log e g new has_it range canonical also' }

pub put_none : (set : List ServerSet) (e : Entry) → gtid_of e ≡ None → Lengthens (e ∷ []) set set
unfolding gtids
put_none set e is log of =
    let same : gtids_in log ≡ gtids_in (log ++ e ∷ []) = sym (append-nil (gtids_in log)) ∙ sym (gtids_in-push log e None is) in
    record { in_range = subst AreInRange same of.in_range; same = of.same ∙ ap set_of same }

-- the empty set is that of the empty log
pub none_yet : IsSetOf [] []
unfolding gtids
none_yet = record { in_range = tt; same = refl }
