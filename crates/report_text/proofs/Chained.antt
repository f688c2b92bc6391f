-- Texts that were put one behind another stand joined behind what was there.
use Rattle.std.proofs.Common.{◌≡◌, ℕ, List, ◌++◌, ap, ◌∙◌, append_assoc}

pub four_put : (old a b c d one two three last : List ℕ) → one ≡ old ++ a → two ≡ one ++ b → three ≡ two ++ c → last ≡ three ++ d → last ≡ old ++ (((a ++ b) ++ c) ++ d)
four_put old a b c d one two three last p q r s =
    s ∙ ap (λ (x : List ℕ). x ++ d) (r ∙ ap (λ (x : List ℕ). x ++ c) (q ∙ ap (λ (x : List ℕ). x ++ b) p)) ∙ simp append_assoc

pub five_put : (old a b c d e one two three four last : List ℕ) → one ≡ old ++ a → two ≡ one ++ b → three ≡ two ++ c → four ≡ three ++ d → last ≡ four ++ e → last ≡ old ++ ((((a ++ b) ++ c) ++ d) ++ e)
five_put old a b c d e one two three four last p q r s t =
    t ∙ ap (λ (x : List ℕ). x ++ e) (four_put old a b c d one two three four p q r s) ∙ append_assoc old (((a ++ b) ++ c) ++ d) e
