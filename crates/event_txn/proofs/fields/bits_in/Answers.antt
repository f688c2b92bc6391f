use Rattle.std.proofs.Common.{ℕ, zero, suc, List, [], ◌∷◌, ◌++◌, ◌-◌, ◌≤◌, ◌≡◌, ◌∙◌, length, drop, refl, ap, arith}
use Rattle.std.specs.Prelude.{replicate}
use Rattle.std.specs.Int.{w64, from_le_bytes}
use Rattle.event_txn.proofs.fields.bits_in.Goals as goal

padding : (n : ℕ) → n ≤ 8 → drop {A = ℕ} n (0 ∷ 0 ∷ 0 ∷ 0 ∷ 0 ∷ 0 ∷ 0 ∷ 0 ∷ []) ≡ replicate (8 - n) 0
padding zero le = refl
padding (suc zero) le = refl
padding (suc (suc zero)) le = refl
padding (suc (suc (suc zero))) le = refl
padding (suc (suc (suc (suc zero)))) le = refl
padding (suc (suc (suc (suc (suc zero))))) le = refl
padding (suc (suc (suc (suc (suc (suc zero)))))) le = refl
padding (suc (suc (suc (suc (suc (suc (suc zero))))))) le = refl
padding (suc (suc (suc (suc (suc (suc (suc (suc zero)))))))) le = refl
padding (suc (suc (suc (suc (suc (suc (suc (suc (suc n))))))))) le = absurd (omega arith)

pub returns : goal.returns
returns c =
    let bytes : List ℕ = c.args.bytes.now in
    let zeros : List ℕ = 0 ∷ 0 ∷ 0 ∷ 0 ∷ 0 ∷ 0 ∷ 0 ∷ 0 ∷ [] in
    let word : c.copy_from_slice.new.self ++ drop (length bytes) zeros ≡ bytes ++ replicate (8 - length bytes) 0 =
    ap (λ (x : List ℕ). x ++ drop (length bytes) zeros) c.copy_from_slice.ensures.after ∙ ap (λ (x : List ℕ). bytes ++ x) (padding (length bytes) c.requires) in
    c.from_le_bytes.ensures ∙ ap (from_le_bytes w64) word
