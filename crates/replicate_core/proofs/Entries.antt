-- The entries of a well formed message stand one after another behind its previous opid, so each is an entry of its place.
use Rattle.std.proofs.Common.{◌≡◌, ℕ, zero, suc, ◌+◌, ◌≤◌, ◌==◌, ◌&&◌, Bool, true, nat_le, List, [], ◌∷◌, subst, sym, ◌∙◌, arith}
use Rattle.std.proofs.lemmas.Bool.Decides.{nat_tests}
use Rattle.std.specs.List.{list_all}
use Rattle.ring_types.specs.declared.entries.Entry.{Entry}
use Rattle.ring_types.specs.declared.entries.Opid.{Opid}
use Rattle.ring_types.specs.declared.schemas.Schema.{Schema}
use Rattle.ring_types.specs.Rows.{payload_fits, payloads_fit}
use Rattle.ring_types.specs.Sizes.{group_bytes, group_limit}
use Rattle.ring_types.proofs.Booleans.{both_true}
use Rattle.edge_traits.specs.Views.{IsEntryOf}
use Rattle.ring_model.specs.declared.messages.Append.{Append}
use Rattle.ring_model.specs.Replication.{opids_of}
use Rattle.ring_model.specs.WellFormed.{EntriesFit, opids_follow}
use Rattle.commit_pipeline.specs.Planned.{Follow}

-- what a test of each entry says of the first and of the rest
record Heads (schema : Schema) (term : ℕ) (before : Opid) (e : Entry) (entries : List Entry) : Type 0 where
  placed : e.opid.position ≡ suc before.position
  fits : payload_fits schema e.payload ≡ true
  small : group_bytes schema e.payload ≤ group_limit
  follow : opids_follow term e.opid (opids_of entries) ≡ true
  groups : list_all (λ (x : Entry). nat_le (group_bytes schema x.payload) group_limit) entries ≡ true
  payloads : payloads_fit schema entries ≡ true

heads : (schema : Schema) (term : ℕ) (before : Opid) (e : Entry) (entries : List Entry) → opids_follow term before (opids_of (e ∷ entries)) ≡ true
    → list_all (λ (x : Entry). nat_le (group_bytes schema x.payload) group_limit) (e ∷ entries) ≡ true → payloads_fit schema (e ∷ entries) ≡ true
    → Heads schema term before e entries
heads schema term before e entries f g p =
    let next : Bool = e.opid.position == suc before.position in
    let up : Bool = nat_le before.term e.opid.term in
    let most : Bool = nat_le e.opid.term term in
    let (firsts, follow) = both_true (next && up && most) (opids_follow term e.opid (opids_of entries)) f in
    let (two, third) = both_true (next && up) most firsts in
    let (one, second) = both_true next up two in
    let (small, groups) =
    both_true (nat_le (group_bytes schema e.payload) group_limit) (list_all (λ (x : Entry). nat_le (group_bytes schema x.payload) group_limit) entries)
    g in
    let (fits, payloads) = both_true (payload_fits schema e.payload) (payloads_fit schema entries) p in
    record {
      placed = grind (arith, nat_tests, one);
      fits = fits;
      small = grind (arith, nat_tests, small);
      follow = follow;
      groups = groups;
      payloads = payloads;
    }

all_follow : (schema : Schema) (term : ℕ) (before : Opid) (entries : List Entry) → opids_follow term before (opids_of entries) ≡ true
    → list_all (λ (x : Entry). nat_le (group_bytes schema x.payload) group_limit) entries ≡ true → payloads_fit schema entries ≡ true
    → Follow schema before.position entries
all_follow schema term before [] f g p k e is = absurd cc
all_follow schema term before (x ∷ entries) f g p zero e is =
    let h = heads schema term before x entries f g p in
    let at = h.placed in
    let same : x ≡ e = cc in
    let here : before.position + 1 + 0 ≡ suc before.position = omega arith in
    subst (λ (y : Entry). IsEntryOf schema (before.position + 1 + 0) y) same (record { placed = at ∙ sym here; fits = h.fits; group_fits = h.small })
all_follow schema term before (x ∷ entries) f g p (suc k) e is =
    let h = heads schema term before x entries f g p in
    let at = h.placed in
    let here : x.opid.position + 1 + k ≡ before.position + 1 + suc k = omega (arith, at) in
    subst (λ (q : ℕ). IsEntryOf schema q e) here (all_follow schema term x.opid entries h.follow h.groups h.payloads k e is)

pub entries_follow : (schema : Schema) (sent : Append) → EntriesFit schema sent → Follow schema sent.prev.position sent.entries
entries_follow schema sent fit = all_follow schema sent.term sent.prev sent.entries fit.follow fit.groups fit.payloads
