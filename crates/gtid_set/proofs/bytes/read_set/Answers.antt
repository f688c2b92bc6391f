use Rattle.std.proofs.Common.{◌≡◌, ◌<◌, ◌^◌, ◌∙◌, ℕ, List, length, true, false, sym, ap, subst, arith, rules}
use Rattle.std.specs.Cmp.Lexicographic.{bytes_decides}
use Rattle.ring_types.specs.declared.gtid_sets.ServerSet.{ServerSet}
use Rattle.gtid_set.specs.Bytes.{set_bytes}
use Rattle.gtid_set.specs.Canonical.{IsCanonical}
use Rattle.gtid_set.proofs.BytesAgain.{nothing_read, not_canonical, not_again}
use Rattle.gtid_set.proofs.bytes.read_set.Goals as goal

pub returns-in_default : goal.returns-in_default
returns-in_default c =
    let fits : length c.args.bytes.now < 2 ^ 64 = first_of (omega arith, search rules) in
    nothing_read c.args.bytes.now fits (rw c.in_default.is at c.in_ok-servers.ensures)

pub returns-in_default-2 : goal.returns-in_default-2
returns-in_default-2 c =
    let fits : length c.args.bytes.now < 2 ^ 64 = first_of (omega arith, search rules) in
    let p : List ServerSet × List ℕ = (c.in-Some.servers.items, c.in-Some._rest.now) in
    let none = rw c.in_default-2.is at c.in_ok-set.ensures.value in
    not_canonical c.args.bytes.now p fits (rw c.in-Some.is at c.in_ok-servers.ensures) (λ h. none (subst IsCanonical (sym c.as_slice.ensures.value) h))

pub returns : goal.returns
returns c =
    let fits : length c.args.bytes.now < 2 ^ 64 = first_of (omega arith, search rules) in
    let p : List ServerSet × List ℕ = (c.in-Some.servers.items, c.in-Some._rest.now) in
    let same = rw c.in-Some-2.is at c.in_ok-set.ensures.value in
    let other : c.as_slice-2.result.now ≡ c.args.bytes.now → ⊥ = λ e. let z : true ≡ false = sym ((bytes_decides c.as_slice-2.result.now c.args.bytes.now).1 e) ∙ sym c.eq.ensures ∙ c.if-eq.false in absurd cc in
    not_again c.args.bytes.now c.as_slice-2.result.now p fits (rw c.in-Some.is at c.in_ok-servers.ensures)
    (c.as_slice-2.ensures ∙ c.in_ok-again.ensures ∙ ap set_bytes (same ∙ c.as_slice.ensures.value)) other
