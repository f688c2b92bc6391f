-- A file that is being laid out has no bytes, wherever a crash stops it.
use Rattle.std.proofs.Common.{◌≡◌, ◌⊎◌, ⊎_elim, ℕ, ◌-◌, ◌<◌, ◌≤◌, false, List, [], ◌∷◌, length, get_or, Some, None, ◌∙◌, ap, subst, sym, refl, arith}
use Rattle.std.specs.Prelude.{◌==◌}
use Rattle.std.proofs.lemmas.Bool.Decides.{nat_tests}
use Rattle.edge_traits.specs.FileStates.{FileState, MayLeave, settled, written, wrote}
use Rattle.edge_traits.proofs.FileStates.{length-written, written_inside, written_outside}
use Rattle.control_block.specs.ControlFiles.{is_open, control_of}
use Rattle.control_block.specs.Blocks.{IsNew, IsBlank, IsLaidOut}
use Rattle.control_block.proofs.Winners.{none_wins}

pub not_laid_out : (file : List ℕ) → length file ≤ 65552 → control_of file ≡ Some None
unfolding control_of
not_laid_out file short = grind (arith, nat_tests)

lt_or_le : (a b : ℕ) → (a < b) ⊎ (b ≤ a)
lt_or_le a b = grind arith

shut_at : (at : ℕ) (file : List ℕ) → get_or file at 0 ≡ 0 → is_open at file ≡ false
shut_at at file zero = ap (λ (b : ℕ). b == 1) zero

pub new_crash : (file : FileState) (zeros : List ℕ) → IsNew file → length zeros ≡ 65552 → (left : List ℕ) → MayLeave (wrote 0 zeros file) left
    → control_of left ≡ Some None
new_crash file zeros new size left may =
    let torn : MayLeave (wrote 0 zeros (settled file.bytes)) left = subst (λ f. MayLeave (wrote 0 zeros f) left) new.0 may in
    not_laid_out left (omega (arith, torn.no_longer, new.1, size))

blank : (file zeros : List ℕ) → length file ≤ 65552 → length zeros ≡ 65552 → ((i : ℕ) → get_or zeros i 0 ≡ 0) → IsBlank (written 0 zeros file)
blank file zeros short size zero = record {
  size = omega (arith, length-written 0 zeros file, size, short);
  zero = λ i within. written_inside 0 zeros file i (omega arith) (omega (arith, size, within)) ∙ zero (i - 0);
}

pub now_blank : (file new : FileState) (zeros : List ℕ) → IsNew file → length zeros ≡ 65552 → ((i : ℕ) → get_or zeros i 0 ≡ 0)
    → new ≡ settled (written 0 zeros file.bytes) → (new ≡ settled new.bytes) × IsBlank new.bytes
now_blank file new zeros is_new size zero is = subst (λ f. (f ≡ settled f.bytes) × IsBlank f.bytes) (sym is) (refl, blank file.bytes zeros is_new.1 size zero)

torn_last : (file : List ℕ) → IsBlank file → (left : List ℕ) → MayLeave (wrote 65552 (0 ∷ []) (settled file)) left → control_of left ≡ Some None
torn_last file blank left may = ⊎_elim
    (λ long. none_wins left long (shut_at 0 left (byte 0 (omega arith) long)) (shut_at 32776 left (byte 32776 (omega arith) long)))
    (λ short. not_laid_out left short)
    (lt_or_le 65552 (length left))
  where
    byte : (i : ℕ) → i < 65552 → 65552 < length left → get_or left i 0 ≡ 0
    byte i within long = let size = blank.size in may.stays i (omega (arith, within, long)) (omega (arith, blank.size, within)) (grind (arith, nat_tests))
        ∙ blank.zero i within

pub last_crash : (file : FileState) → file ≡ settled file.bytes → IsBlank file.bytes → (left : List ℕ) → MayLeave (wrote 65552 (0 ∷ []) file) left
    → control_of left ≡ Some None
last_crash file synced blank left may = torn_last file.bytes blank left (subst (λ f. MayLeave (wrote 65552 (0 ∷ []) f) left) synced may)

pub now_laid_out : (file : List ℕ) → IsBlank file → (new : FileState) → new ≡ settled (written 65552 (0 ∷ []) file)
    → IsLaidOut new × (control_of new.bytes ≡ Some None)
now_laid_out file blank new is =
    let after = written 65552 (0 ∷ []) file in
    let long : 65552 < length after = omega (arith, length-written 65552 (0 ∷ []) file, blank.size) in
    subst (λ f. IsLaidOut f × (control_of f.bytes ≡ Some None)) (sym is) (
      (refl, long),
      none_wins after long (shut_at 0 after (byte 0 (omega arith))) (shut_at 32776 after (byte 32776 (omega arith))),
    )
  where
    byte : (i : ℕ) → i < 65552 → get_or (written 65552 (0 ∷ []) file) i 0 ≡ 0
    byte i within = written_outside 65552 (0 ∷ []) file i (omega (arith, blank.size, within)) (grind (arith, nat_tests)) ∙ blank.zero i within
