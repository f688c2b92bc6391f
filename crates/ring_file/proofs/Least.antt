-- Keys that ascend are met in order, so the first unknown one comes before each that is met later.
use Rattle.std.proofs.Common.{◌≡◌, ◌⊎◌, ℕ, Ordering, Less, Equal, Greater, nat_cmp, is_eq, is_lt, Bool, true, false, cond, ◌&&◌, List, Option, Some, None, refl, sym, ap, subst, ◌∙◌, inl, inr}
use Rattle.std.specs.Prelude.{IsSome}
use Rattle.std.proofs.lemmas.Bool.{and_parts}
use Rattle.std.proofs.lemmas.Cmp.{nat_list_cmp_total}
use Rattle.std.proofs.lemmas.Map.Text.{is_eq-slice_cmp}
use Rattle.std.proofs.lemmas.Slice.Eq.{bytes_eq-Decides}
use Rattle.std.specs.Cmp.Lexicographic.{slice_cmp}
use Rattle.std.specs.Ordering.{match_ordering}
use Rattle.toml.specs.Data.{Data, Members, no_members, member, get_member, is_before, is_sorted, members_are_sorted}
use Rattle.toml.proofs.Blanks.{below, below_from}
use Rattle.ring_file.specs.Keys.{is_key, first_unknown, IsUnknown, LeastIsNamed}
use Rattle.ring_file.specs.declared.faults.Within.{Within}

same_from : (k l : List ℕ) → slice_cmp nat_cmp k l ≡ Equal → k ≡ l
same_from k l e = (bytes_eq-Decides k l).0 (sym (is_eq-slice_cmp k l) ∙ ap is_eq e)

-- the key is that of the first member, or it is among the others
found : {P : Type 0} (o : Ordering) (other l : List ℕ) (d : Data) (ms : Members) → slice_cmp nat_cmp other l ≡ o → (other ≡ l → P) → (IsSome (get_member other ms) → P)
    → IsSome (match_ordering o (get_member other ms) (Some d) (get_member other ms)) → P
found Less other l d ms e here there is = there is
found Equal other l d ms e here there is = here (same_from other l e)
found Greater other l d ms e here there is = there is

-- a key that stands among members which come after k comes after k
later : (ms : Members) (k other : List ℕ) → is_before k ms ≡ true → members_are_sorted ms ≡ true → IsSome (get_member other ms) → below k other
later no_members k other order sorted is = absurd (cc)
later (member l d ms) k other order sorted is =
    let (front, more) = and_parts (is_before l ms && is_sorted d) (members_are_sorted ms) sorted in
    let (next, inner) = and_parts (is_before l ms) (is_sorted d) front in
    let first : below k l = below_from k l order in
    found (slice_cmp nat_cmp other l) other l d ms refl (λ e. subst (λ (x : List ℕ). below k x) (sym e) first) (λ t. nat_list_cmp_total.trans k l other first (later ms l other next more t)) is

named : (b : Bool) (table : Within) (k : List ℕ) (d : Data) (ms : Members) (key other : List ℕ) → is_key table k ≡ b → is_before k ms ≡ true → members_are_sorted ms ≡ true
    → (first_unknown table ms ≡ Some key → IsUnknown table ms other → (key ≡ other) ⊎ (is_lt (slice_cmp nat_cmp key other) ≡ true))
    → cond b (first_unknown table ms) (Some k) ≡ Some key → IsUnknown table (member k d ms) other → (key ≡ other) ⊎ (is_lt (slice_cmp nat_cmp key other) ≡ true)
named true table k d ms key other known order sorted rest is there =
    found (slice_cmp nat_cmp other k) other k d ms refl (λ e. let x : is_key table other ≡ true = ap (is_key table) e ∙ known in absurd (let y : true ≡ false = sym x ∙ there.1 in cc)) (λ t. rest is (t, there.1)) there.0
named false table k d ms key other known order sorted rest is there =
    let same : k ≡ key = cc in
    found (slice_cmp nat_cmp other k) other k d ms refl (λ e. inl (sym same ∙ sym e)) (λ t. inr (subst (λ (x : List ℕ). is_lt (slice_cmp nat_cmp x other) ≡ true) same (ap is_lt (later ms k other order sorted t)))) there.0

pub least_is_named : LeastIsNamed
least_is_named table no_members key other sorted is there = absurd cc
least_is_named table (member k d ms) key other sorted is there =
    let (front, more) = and_parts (is_before k ms && is_sorted d) (members_are_sorted ms) sorted in
    let (next, inner) = and_parts (is_before k ms) (is_sorted d) front in
    named (is_key table k) table k d ms key other refl next more (λ i u. least_is_named table ms key other more i u) is there
