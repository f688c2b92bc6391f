-- What a control file stands for, by its two slots.
use Rattle.std.proofs.Common.{◌≡◌, ◌≢◌, ◌⊎◌, inl, inr, ⊎_elim, ℕ, ◌+◌, ◌-◌, ◌<◌, ◌≤◌, Bool, true, false, List, length, Option, Some, None, ◌∙◌, ap}
use Rattle.std.proofs.Common.{subst, sym, refl, arith}
use Rattle.std.specs.Int.{w32, from_le_bytes}
use Rattle.std.specs.Prelude.{option_map, ◌==◌}
use Rattle.std.proofs.lemmas.Bool.Decides.{nat_tests}
use Rattle.edge_traits.specs.DiskCalls.{slice}
use Rattle.edge_traits.proofs.Agreement.{Agrees, agrees_byte, agrees_slice}
use Rattle.control_block.specs.ControlFiles.{is_open, tag_of, size_of, content_of, next_tag, winner, winner_of, won, control_of}
use Rattle.control_block.specs.Blocks.{Holds, Keeps, Yields}
use Rattle.control_block.specs.declared.slots.Winner.{Winner}
use Rattle.control_block.specs.declared.slots.Winner.TheVariants as w

-- no tag is the one after the one after it
next_apart : (t u : ℕ) → u ≡ next_tag t → t ≢ next_tag u
next_apart t u is = omega arith

-- a slot with the later tag wins, whether the other is open or not
first_later : (second : Bool) (t u : ℕ) → t ≡ next_tag u → winner true t second u ≡ w.First
first_later true t u is = grind (arith, nat_tests)
first_later false t u is = refl

second_later : (first : Bool) (t u : ℕ) → u ≡ next_tag t → winner first t true u ≡ w.Second
second_later true t u is = let apart = next_apart t u is in grind (arith, nat_tests)
second_later false t u is = refl

pub laid_out : (file : List ℕ) (who : Winner) → 65552 < length file → winner_of file ≡ who → control_of file ≡ won who file
unfolding control_of
laid_out file who long is = rw (sym is) (grind (arith, nat_tests))

module _ (file : List ℕ) (long : 65552 < length file) (bytes : List ℕ) where
  first_wins : is_open 0 file ≡ true → (is_open 32776 file ≡ false) ⊎ (tag_of 0 file ≡ next_tag (tag_of 32776 file)) → content_of 0 file ≡ Some bytes
      → control_of file ≡ Some (Some bytes)
  first_wins opens apart holds = laid_out file w.First long (⊎_elim (λ (shut : is_open 32776 file ≡ false). rw (opens, shut) refl)
      (λ (later : tag_of 0 file ≡ next_tag (tag_of 32776 file)). rw opens
      (first_later (is_open 32776 file) (tag_of 0 file) (tag_of 32776 file) later)) apart) ∙ ap (option_map Some) holds

  second_wins : is_open 32776 file ≡ true → (is_open 0 file ≡ false) ⊎ (tag_of 32776 file ≡ next_tag (tag_of 0 file)) → content_of 32776 file ≡ Some bytes
      → control_of file ≡ Some (Some bytes)
  second_wins opens apart holds = laid_out file w.Second long (⊎_elim (λ (shut : is_open 0 file ≡ false). rw (opens, shut) refl)
      (λ (later : tag_of 32776 file ≡ next_tag (tag_of 0 file)). rw opens (second_later (is_open 0 file) (tag_of 0 file) (tag_of 32776 file) later)) apart)
      ∙ ap (option_map Some) holds

pub none_wins : (file : List ℕ) → 65552 < length file → is_open 0 file ≡ false → is_open 32776 file ≡ false → control_of file ≡ Some None
none_wins file long first second = laid_out file w.Neither long (rw (first, second) refl)

-- a slot begins at one of two places
at_place : (P : ℕ → Type 0) → P 0 → P 32776 → (at : ℕ) → (at ≡ 0) ⊎ (at ≡ 32776) → P at
at_place P first second at place = ⊎_elim (λ e. subst P (sym e) first) (λ e. subst P (sym e) second) place

apart_tests : {b : Bool} → b ≡ true → b ≡ false → ⊥
apart_tests {b = b} is_so is_not = cc

-- while the other slot yields, the one that is kept gives the bytes
pub old_kept : (at tag : ℕ) (bytes : Option (List ℕ)) (file : List ℕ) → Keeps at tag bytes file → Yields at file → control_of file ≡ Some bytes
old_kept at tag (Some bytes) file keeps yields =
    at_place (λ a. Holds (32776 - a) tag (Some bytes) file → Yields a file → control_of file ≡ Some (Some bytes))
    (λ h y. second_wins file keeps.laid_out bytes h.0 (⊎_elim (λ shut. inl shut) (λ later. inr later.1) y) h.1)
    (λ h y. first_wins file keeps.laid_out bytes h.0 (⊎_elim (λ shut. inl shut) (λ later. inr later.1) y) h.1)
    at keeps.place keeps.holds yields
old_kept at tag None file keeps yields =
    at_place (λ a. Holds (32776 - a) tag None file → Yields a file → control_of file ≡ Some None)
    (λ h y. none_wins file keeps.laid_out (⊎_elim (λ shut. shut) (λ later. absurd (apart_tests later.0 h.0)) y) h.0)
    (λ h y. none_wins file keeps.laid_out h.0 (⊎_elim (λ shut. shut) (λ later. absurd (apart_tests later.0 h.0)) y))
    at keeps.place keeps.holds yields

-- an open slot with the next tag wins over the one that is kept
pub new_wins : (at tag : ℕ) (old : Option (List ℕ)) (bytes file : List ℕ) → Keeps at tag old file → is_open at file ≡ true → tag_of at file ≡ tag
    → content_of at file ≡ Some bytes → control_of file ≡ Some (Some bytes)
new_wins at tag (Some old) bytes file keeps opens tagged holds =
    at_place (λ a. Holds (32776 - a) tag (Some old) file → is_open a file ≡ true → tag_of a file ≡ tag → content_of a file ≡ Some bytes
    → control_of file ≡ Some (Some bytes))
    (λ h o t c. first_wins file keeps.laid_out bytes o (inr (t ∙ h.2)) c)
    (λ h o t c. second_wins file keeps.laid_out bytes o (inr (t ∙ h.2)) c)
    at keeps.place keeps.holds opens tagged holds
new_wins at tag None bytes file keeps opens tagged holds =
    at_place (λ a. Holds (32776 - a) tag None file → is_open a file ≡ true → tag_of a file ≡ tag → content_of a file ≡ Some bytes
    → control_of file ≡ Some (Some bytes))
    (λ h o t c. first_wins file keeps.laid_out bytes o (inl h.0) c)
    (λ h o t c. second_wins file keeps.laid_out bytes o (inl h.0) c)
    at keeps.place keeps.holds opens tagged holds

-- and from then on it is the one that is kept
pub turned : (at tag : ℕ) (old : Option (List ℕ)) (bytes file : List ℕ) → Keeps at tag old file → is_open at file ≡ true → tag_of at file ≡ tag
    → content_of at file ≡ Some bytes
    → Keeps (32776 - at) (next_tag tag) (Some bytes) file × Yields (32776 - at) file
turned at tag old bytes file keeps opens tagged holds =
    at_place (λ a. Holds (32776 - a) tag old file → is_open a file ≡ true → tag_of a file ≡ tag → content_of a file ≡ Some bytes
    → Keeps (32776 - a) (next_tag tag) (Some bytes) file × Yields (32776 - a) file)
    (λ h o t c. (record { laid_out = keeps.laid_out; place = inr refl; holds = (o, c, sym (ap next_tag t)) }, yields old 32776 h o t))
    (λ h o t c. (record { laid_out = keeps.laid_out; place = inl refl; holds = (o, c, sym (ap next_tag t)) }, yields old 0 h o t))
    at keeps.place keeps.holds opens tagged holds
  where
    yields : (old : Option (List ℕ)) (w : ℕ) → Holds w tag old file → is_open (32776 - w) file ≡ true → tag_of (32776 - w) file ≡ tag → Yields w file
    yields (Some b) w h o t = inr (o, t ∙ h.2)
    yields None w h o t = inl h.0

pub same_size : (at : ℕ) (old new : List ℕ) → slice (at + 4) 4 new ≡ slice (at + 4) 4 old → size_of at new ≡ size_of at old
unfolding size_of
same_size at old new same = ap (from_le_bytes w32) same

pub same_content : (at : ℕ) (old new : List ℕ) → size_of at new ≡ size_of at old
    → (size_of at old ≤ 32768 → slice (at + 8) (size_of at old) new ≡ slice (at + 8) (size_of at old) old) → content_of at new ≡ content_of at old
same_content at old new size same = rw size (grind (arith, nat_tests))

-- a slot that was not written is the same
module _ {p n : ℕ} {old new : List ℕ} (agrees : Agrees p n old new) (at : ℕ) (apart : (at + 32776 ≤ p) ⊎ (p + n ≤ at)) where
  pub same_gate : is_open at new ≡ is_open at old
  same_gate = ap (λ (b : ℕ). b == 1) (agrees_byte agrees at (⊎_elim (λ before. inl (omega arith)) (λ after. inr after) apart))

  pub same_tag : tag_of at new ≡ tag_of at old
  same_tag = agrees_byte agrees (at + 1) (⊎_elim (λ before. inl (omega arith)) (λ after. inr (omega arith)) apart)

  pub same_held : content_of at new ≡ content_of at old
  same_held = same_content at old new
      (same_size at old new (agrees_slice agrees (at + 4) 4 (⊎_elim (λ before. inl (omega arith)) (λ after. inr (omega arith)) apart)))
      (λ small. agrees_slice agrees (at + 8) (size_of at old) (⊎_elim (λ before. inl (omega arith)) (λ after. inr (omega arith)) apart))

pub keeps_agrees : {p n : ℕ} {old new : List ℕ} → Agrees p n old new → (at tag : ℕ) (bytes : Option (List ℕ)) → at ≤ p → p + n ≤ at + 32776
    → Keeps at tag bytes old → Keeps at tag bytes new
keeps_agrees {p = p} {n = n} {old = old} {new = new} agrees at tag bytes from to keeps = record {
  laid_out = omega (arith, keeps.laid_out, agrees.size);
  place = keeps.place;
  holds = held bytes keeps.holds;
}
  where
    apart : ((32776 - at) + 32776 ≤ p) ⊎ (p + n ≤ 32776 - at)
    apart = ⊎_elim (λ first. inr (omega arith)) (λ second. inl (omega arith)) keeps.place

    held : (bytes : Option (List ℕ)) → Holds (32776 - at) tag bytes old → Holds (32776 - at) tag bytes new
    held (Some b) h = (
      same_gate agrees (32776 - at) apart ∙ h.0,
      same_held agrees (32776 - at) apart ∙ h.1,
      h.2
          ∙ sym (ap next_tag (same_tag agrees (32776 - at) apart)),
    )
    held None h = (same_gate agrees (32776 - at) apart ∙ h.0, h.1)
