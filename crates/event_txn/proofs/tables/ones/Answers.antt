use Rattle.std.proofs.Common.{◌≡◌, ◌-◌, ◌^◌, ◌≤◌, ℕ, ap, subst, sym, ◌∙◌, arith}
use Rattle.std.proofs.lemmas.Nat.{pow_below}
use Rattle.std.proofs.lemmas.Nat.Bits.{ones_shr}
use Rattle.event_txn.proofs.tables.ones.Goals as goal

pub returns-clause-value : goal.returns-clause-value
returns-clause-value c =
    let k : ℕ = 64 - c.args.columns in
    let e : 64 - k ≡ c.args.columns = omega arith in
    ones_shr 64 k (omega arith) ∙ ap (λ (n : ℕ). 2 ^ n - 1) e

pub returns-clause-some : goal.returns-clause-some
returns-clause-some c =
    let k : ℕ = 64 - c.args.columns in
    let e : 64 - k ≡ c.args.columns = omega arith in
    let IsSome : ℕ → Type 0 = λ n. 1 ≤ n in
    subst IsSome (sym (ones_shr 64 k (omega arith) ∙ ap (λ (n : ℕ). 2 ^ n - 1) e)) (omega (arith, pow_below 0 c.args.columns c.requires.some))
