-- What is read of a slot is what it stands for.
use Rattle.std.proofs.Common.{◌≡◌, ℕ, ◌+◌, ◌<◌, ◌≤◌, List, [], ◌∷◌, length, get_or, drop, ◌∙◌, ap, sym, refl, arith, length-drop}
use Rattle.std.specs.Prelude.{◌==◌}
use Rattle.std.specs.Int.{w32, from_le_bytes}
use Rattle.std.proofs.lemmas.List.{get_or-take, get_or-drop, length-take}
use Rattle.edge_traits.specs.DiskCalls.{slice}
use Rattle.control_block.specs.ControlFiles.{size_of, head_of}

four : (xs : List ℕ) → length xs ≡ 4 → get_or xs 0 0 ∷ get_or xs 1 0 ∷ get_or xs 2 0 ∷ get_or xs 3 0 ∷ [] ≡ xs
four [] size = absurd (omega arith)
four (a ∷ []) size = absurd (omega arith)
four (a ∷ b ∷ []) size = absurd (omega arith)
four (a ∷ b ∷ c ∷ []) size = absurd (omega arith)
four (a ∷ b ∷ c ∷ d ∷ []) size = refl
four (a ∷ b ∷ c ∷ d ∷ e ∷ xs) size = absurd (omega arith)

part_byte : (file : List ℕ) (a m i : ℕ) → i < m → get_or (slice a m file) i 0 ≡ get_or file (a + i) 0
part_byte file a m i within = get_or-take m (drop a file) i 0 within ∙ get_or-drop a file i 0

size_read : (at : ℕ) (file : List ℕ) → at + 8 ≤ length file →
    from_le_bytes w32 (get_or file (at + 4) 0 ∷ get_or file (at + 5) 0 ∷ get_or file (at + 6) 0 ∷ get_or file (at + 7) 0 ∷ []) ≡ size_of at file
unfolding size_of
size_read at file fits = ap (from_le_bytes w32) (listed ∙ four (slice (at + 4) 4 file)
    (omega (arith, fits, length-take 4 (drop (at + 4) file), length-drop (at + 4) file)))
  where
    byte : (i j : ℕ) → i < 4 → at + 4 + i ≡ j → get_or file j 0 ≡ get_or (slice (at + 4) 4 file) i 0
    byte i j within is = sym (part_byte file (at + 4) 4 i within ∙ ap (λ k. get_or file k 0) is)

    listed : get_or file (at + 4) 0 ∷ get_or file (at + 5) 0 ∷ get_or file (at + 6) 0 ∷ get_or file (at + 7) 0 ∷ []
        ≡ get_or (slice (at + 4) 4 file) 0 0 ∷ get_or (slice (at + 4) 4 file) 1 0 ∷ get_or (slice (at + 4) 4 file) 2 0 ∷ get_or (slice (at + 4) 4 file) 3 0 ∷ []
    listed =
        let e0 = byte 0 (at + 4) (omega arith) (omega arith) in
        let e1 = byte 1 (at + 5) (omega arith) (omega arith) in
        let e2 = byte 2 (at + 6) (omega arith) (omega arith) in
        let e3 = byte 3 (at + 7) (omega arith) (omega arith) in
        λ i. e0 i ∷ e1 i ∷ e2 i ∷ e3 i ∷ []

pub head_read : (at : ℕ) (file head : List ℕ) (size : ℕ) → at + 8 ≤ length file → head ≡ slice at 8 file
    → size ≡ from_le_bytes w32 (get_or head 4 0 ∷ get_or head 5 0 ∷ get_or head 6 0 ∷ get_or head 7 0 ∷ [])
    → record { open_gate = get_or head 0 0 == 1; tag = get_or head 1 0; size = size } ≡ head_of at file
head_read at file head size fits is sized =
    let e0 = byte 0 at (omega arith) (omega arith) in
    let e1 = byte 1 (at + 1) (omega arith) (omega arith) in
    let e4 = byte 4 (at + 4) (omega arith) (omega arith) in
    let e5 = byte 5 (at + 5) (omega arith) (omega arith) in
    let e6 = byte 6 (at + 6) (omega arith) (omega arith) in
    let e7 = byte 7 (at + 7) (omega arith) (omega arith) in
    let sizes : size ≡ size_of at file = sized ∙ ap (from_le_bytes w32) (λ i. e4 i ∷ e5 i ∷ e6 i ∷ e7 i ∷ []) ∙ size_read at file fits in
    λ i. record { open_gate = e0 i == 1; tag = e1 i; size = sizes i }
  where
    byte : (i j : ℕ) → i < 8 → at + i ≡ j → get_or head i 0 ≡ get_or file j 0
    byte i j within eq = ap (λ h. get_or h i 0) is ∙ part_byte file at 8 i within ∙ ap (λ k. get_or file k 0) eq
