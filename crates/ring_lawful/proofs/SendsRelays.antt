-- What a proxy builds from its log follows the opids that the leader named, and so is as long and as well formed as these.
use Rattle.std.proofs.Common.{◌≡◌, ℕ, ◌≤◌, ◌==◌, ◌&&◌, [], ◌∷◌, ◌∙◌, if◌then◌else◌, Bool, List, None, Option, Some, ap, arith, false, length, refl, subst, suc, sym, true}
use Rattle.std.proofs.lemmas.Bool.Decides.{nat_tests}
use Rattle.std.specs.Prelude.{nat_le}
use Rattle.std.specs.List.{list_all}
use Rattle.ring_types.specs.declared.entries.Entry.{Entry}
use Rattle.ring_types.specs.declared.entries.Opid.{Opid}
use Rattle.ring_types.specs.Logs.{entry_at, same_opid}
use Rattle.ring_types.specs.Rings.{Layout}
use Rattle.ring_model.specs.declared.messages.ProxyAppend.{ProxyAppend}
use Rattle.ring_model.specs.Replication.{found, opids_of}
use Rattle.ring_model.specs.WellFormed.{EntriesFit, OpidsFit, opid_fits, opids_follow}
use Rattle.ring_types.proofs.Booleans.{both_true}
use Rattle.ring_lawful.proofs.Sized.{entry_fits}
use Rattle.ring_lawful.proofs.SendsAppends.{groups_of, payloads_of}

-- ---- a proxy
opid_same : (a b : Opid) → same_opid a b ≡ true → a ≡ b
opid_same a b is =
    let z = both_true (a.term == b.term) (a.position == b.position) is in
    let t : a.term ≡ b.term = (let y = z.0 in grind (arith, nat_tests, y)) in
    let p : a.position ≡ b.position = (let y = z.1 in grind (arith, nat_tests, y)) in
    ap (λ (n : ℕ). opid_with n a.position) t ∙ ap (λ (n : ℕ). opid_with b.term n) p
  where
    opid_with : ℕ → ℕ → Opid
    opid_with term position = record { term = term; position = position }

found_follow : (log : List Entry) (top : ℕ) (before : Opid) (os : List Opid) → opids_follow top before os ≡ true
    → opids_follow top before (opids_of (found log os)) ≡ true
found_follow log top before [] is = refl
found_follow log top before (o ∷ os) is = go (entry_at log o.position) (found_follow log top o os rest)
  where
    parts : ((o.position == suc before.position && nat_le before.term o.term && nat_le o.term top) ≡ true) × (opids_follow top o os ≡ true)
    parts = both_true (o.position == suc before.position && nat_le before.term o.term && nat_le o.term top) (opids_follow top o os) is

    rest : opids_follow top o os ≡ true
    rest = parts.1

    go : (r : Option Entry) → opids_follow top o (opids_of (found log os)) ≡ true
        → opids_follow top before (opids_of (elim r [ None ↦ [] | Some e ↦ if same_opid e.opid o then e ∷ found log os else [] ])) ≡ true
    go None ih = refl
    go (Some e) ih = pick (same_opid e.opid o) refl
      where
        pick : (b : Bool) → same_opid e.opid o ≡ b → opids_follow top before (opids_of (if b then e ∷ found log os else [])) ≡ true
        pick true same =
            subst (λ (w : Opid). opids_follow top before (w ∷ opids_of (found log os)) ≡ true) (sym (opid_same e.opid o same))
            (let here = parts.0 in rw here ih)
        pick false same = refl

found_opids : (log : List Entry) (os : List Opid) → list_all opid_fits os ≡ true → list_all opid_fits (opids_of (found log os)) ≡ true
found_opids log [] is = refl
found_opids log (o ∷ os) is = go (entry_at log o.position) (found_opids log os parts.1)
  where
    parts : (opid_fits o ≡ true) × (list_all opid_fits os ≡ true)
    parts = both_true (opid_fits o) (list_all opid_fits os) is

    go : (r : Option Entry) → list_all opid_fits (opids_of (found log os)) ≡ true
        → list_all opid_fits (opids_of (elim r [ None ↦ [] | Some e ↦ if same_opid e.opid o then e ∷ found log os else [] ])) ≡ true
    go None ih = refl
    go (Some e) ih = pick (same_opid e.opid o) refl
      where
        pick : (b : Bool) → same_opid e.opid o ≡ b → list_all opid_fits (opids_of (if b then e ∷ found log os else [])) ≡ true
        pick true same =
            subst (λ (w : Opid). list_all opid_fits (w ∷ opids_of (found log os)) ≡ true) (sym (opid_same e.opid o same)) (let here = parts.0 in rw here ih)
        pick false same = refl

found_short : (log : List Entry) (os : List Opid) → length (found log os) ≤ length os
found_short log [] = omega arith
found_short log (o ∷ os) = go (entry_at log o.position) (found_short log os)
  where
    go : (r : Option Entry) → length (found log os) ≤ length os
        → length {A = Entry} (elim r [ None ↦ [] | Some e ↦ if same_opid e.opid o then e ∷ found log os else [] ]) ≤ suc (length os)
    go None ih = omega arith
    go (Some e) ih = pick (same_opid e.opid o)
      where
        pick : (b : Bool) → length (if b then e ∷ found log os else []) ≤ suc (length os)
        pick true = omega (arith, ih)
        pick false = omega arith

pub found_near : (ring : Layout) (from : ℕ) (sent : ProxyAppend) (log : List Entry) → list_all (entry_fits ring) (found log sent.opids) ≡ true → OpidsFit sent
    → EntriesFit ring.schema (record { term = sent.term; leader = from; prev = sent.prev; commit = sent.commit; entries = found log sent.opids })
found_near ring from sent log fit x = record {
  term = x.term;
  prev = x.prev;
  commit = x.commit;
  few = (let a = found_short log sent.opids in let b = x.few in omega (arith, a, b));
  follow = found_follow log sent.term sent.prev sent.opids x.follow;
  opids = found_opids log sent.opids x.opids;
  groups = groups_of ring (found log sent.opids) fit;
  payloads = payloads_of ring (found log sent.opids) fit;
}
