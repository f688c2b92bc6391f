use Rattle.std.proofs.Common.{◌≡◌, ◌∙◌, true, false, sym, ap, subst}
use Rattle.std.specs.Cmp.Lexicographic.{bytes_decides}
use Rattle.gtid_set.specs.Canonical.{IsCanonical}
use Rattle.gtid_set.specs.Texts.{set_text}
use Rattle.gtid_set.proofs.TextAgain.{not_canonical, not_again}
use Rattle.gtid_set.proofs.texts.read_set.Goals as goal

pub returns-in_default : goal.returns-in_default
returns-in_default c =
    let none = rw c.in_default.is at c.in_ok-set.ensures.value in
    not_canonical c.args.text.now c.in_ok-servers.servers.items c.in_ok-servers.ensures (λ h. none (subst IsCanonical (sym c.as_slice.ensures.value) h))

pub returns : goal.returns
returns c =
    let same = rw c.in-Some.is at c.in_ok-set.ensures.value in
    let other : c.as_bytes.result.now ≡ c.args.text.now → ⊥ = λ e. let z : true ≡ false = sym ((bytes_decides c.as_bytes.result.now c.args.text.now).1 e) ∙ sym c.eq.ensures ∙ c.if-eq.false in absurd cc in
    not_again c.args.text.now c.as_bytes.result.now c.in_ok-servers.servers.items c.in_ok-servers.ensures
    (c.as_bytes.ensures ∙ c.in_ok-again.ensures ∙ ap set_text (same ∙ c.as_slice.ensures.value)) other
