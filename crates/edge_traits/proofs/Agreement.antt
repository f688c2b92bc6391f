-- Two states of a file that differ in one range alone: what was written of a synced file, and what a crash leaves of it.
use Rattle.std.proofs.Common.{◌≡◌, ◌⊎◌, inl, inr, ⊎_elim, ℕ, ◌+◌, ◌<◌, ◌≤◌, false, List, length, get_or, drop, ◌∙◌, ap, sym, arith, length-drop}
use Rattle.std.proofs.lemmas.List.{ext_get_or, length-take, get_or-take, get_or-drop, get_or_past}
use Rattle.std.proofs.lemmas.Bool.Decides.{nat_tests}
use Rattle.edge_traits.specs.DiskCalls.{slice}
use Rattle.edge_traits.specs.FileStates.{MayLeave, settled, is_between, written, wrote}
use Rattle.edge_traits.proofs.FileStates.{length-written, written_inside, written_outside}

-- of one length, and the same but for n places from `at` on
pub record Agrees (at n : ℕ) (old new : List ℕ) : Type 0 where
  pub size : length new ≡ length old
  pub same : (i : ℕ) → i < length old → is_between at n i ≡ false → get_or new i 0 ≡ get_or old i 0

pub torn_agrees : (at : ℕ) (new old left : List ℕ) → at + length new ≤ length old → MayLeave (wrote at new (settled old)) left → Agrees at (length new) old left
torn_agrees at new old left fits may = record {
  size = omega (arith, may.no_shorter, may.no_longer);
  same = λ i within apart. may.stays i (omega (arith, may.no_shorter)) within (grind (arith, nat_tests));
}

pub written_agrees : (at : ℕ) (new old : List ℕ) → at + length new ≤ length old → Agrees at (length new) old (written at new old)
written_agrees at new old fits = record {
  size = omega (arith, length-written at new old);
  same = λ i within apart. written_outside at new old i within apart;
}

lt_or_le : (a b : ℕ) → (a < b) ⊎ (b ≤ a)
lt_or_le a b = grind arith

part_byte : (file : List ℕ) (a m i : ℕ) → i < m → get_or (slice a m file) i 0 ≡ get_or file (a + i) 0
part_byte file a m i within = get_or-take m (drop a file) i 0 within ∙ get_or-drop a file i 0

pub agrees_byte : {at n : ℕ} {old new : List ℕ} → Agrees at n old new → (i : ℕ) → (i < at) ⊎ (at + n ≤ i) → get_or new i 0 ≡ get_or old i 0
agrees_byte {at = at} {n = n} {old = old} {new = new} agrees i apart =
    let apart_too : is_between at n i ≡ false = grind (arith, nat_tests) in
    let size = agrees.size in
    let past : length old ≤ i → get_or new i 0 ≡ get_or old i 0 = λ le. get_or_past new i 0 (omega arith) ∙ sym (get_or_past old i 0 le) in
    ⊎_elim (λ within. agrees.same i within apart_too) past (lt_or_le i (length old))

pub agrees_slice : {at n : ℕ} {old new : List ℕ} → Agrees at n old new → (a m : ℕ) → (a + m ≤ at) ⊎ (at + n ≤ a) → slice a m new ≡ slice a m old
agrees_slice {at = at} {n = n} {old = old} {new = new} agrees a m apart = ext_get_or 0 (slice a m new) (slice a m old)
    (omega (arith, agrees.size, length-take m (drop a new), length-take m (drop a old), length-drop a new, length-drop a old))
    (λ i within. part_byte new a m i (omega (arith, within, length-take m (drop a new)))
    ∙ agrees_byte agrees (a + i) (moved i (omega (arith, within, length-take m (drop a new))))
    ∙ sym (part_byte old a m i (omega (arith, within, length-take m (drop a new)))))
  where
    moved : (i : ℕ) → i < m → (a + i < at) ⊎ (at + n ≤ a + i)
    moved i within = ⊎_elim (λ before. inl (omega (arith, before, within))) (λ after. inr (omega (arith, after))) apart

-- what was written is read, in parts too
pub written_slice : (at k m : ℕ) (new old : List ℕ) → k + m ≤ length new → slice (at + k) m (written at new old) ≡ slice k m new
written_slice at k m new old fits = ext_get_or 0 (slice (at + k) m (written at new old)) (slice k m new)
    (omega (
      arith,
      fits,
      length-written at new old,
      length-take m (drop (at + k) (written at new old)),
      length-take m (drop k new),
      length-drop (at + k) (written at new old),
      length-drop k new,
    ))
    (λ i within. let under : i < m = omega (arith, within, length-take m (drop (at + k) (written at new old))) in
    part_byte (written at new old) (at + k) m i under ∙ written_inside at new old (at + k + i) (omega arith) (omega (arith, fits, under))
    ∙ ap (λ (j : ℕ). get_or new j 0) (omega arith) ∙ sym (part_byte new k m i under))
