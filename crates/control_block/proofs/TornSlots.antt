-- What a switch writes in its three stages, and what a crash leaves in each.
use Rattle.std.proofs.Common.{◌≡◌, ◌⊎◌, inl, inr, ⊎_elim, ℕ, ◌+◌, ◌-◌, ◌≤◌, Bool, true, false, List, [], ◌∷◌, ◌++◌, length, get_or, Option, Some, None}
use Rattle.std.proofs.Common.{◌∙◌, ap, subst, sym, refl, arith, length-append}
use Rattle.std.specs.Prelude.{◌==◌, is_some, not}
use Rattle.std.specs.Int.{w32, from_le_bytes, to_le_bytes}
use Rattle.std.proofs.lemmas.List.{take_all}
use Rattle.std.proofs.lemmas.Nat.{from_le_bytes-to_le_bytes_4}
use Rattle.std.proofs.lemmas.Bool.Decides.{nat_tests}
use Rattle.edge_traits.specs.DiskCalls.{slice}
use Rattle.edge_traits.specs.FileStates.{FileState, MayLeave, settled, written, wrote}
use Rattle.edge_traits.proofs.FileStates.{settled_only, written_inside}
use Rattle.edge_traits.proofs.Agreement.{Agrees, agrees_byte, agrees_slice, torn_agrees, written_agrees, written_slice}
use Rattle.control_block.specs.ControlFiles.{is_open, tag_of, size_of, content_of, next_tag, control_of, behind_gate, IsEither}
use Rattle.control_block.specs.Blocks.{Holds, Keeps, Yields, Filled, IsShut, IsFilled, IsOpen, Stands, place_of, turned}
use Rattle.control_block.specs.declared.blocks.ControlBlock.{ControlBlock}
use Rattle.control_block.proofs.Winners.{old_kept, new_wins, turned as turned_slots, keeps_agrees, same_gate, same_tag, same_size, same_content}

is_either : (b : Bool) → (b ≡ true) ⊎ (b ≡ false)
is_either true = inl refl
is_either false = inr refl

differ : {b : Bool} → b ≡ true → b ≡ false → ⊥
differ {b = b} is_so is_not = cc

-- the first byte that was written
written_first : (at byte : ℕ) (rest file : List ℕ) → get_or (written at (byte ∷ rest) file) at 0 ≡ byte
written_first at byte rest file = written_inside at (byte ∷ rest) file at (omega arith) (omega arith) ∙ ap (λ (k : ℕ). get_or (byte ∷ rest) k 0) same
  where
    same : at - at ≡ 0
    same = omega arith

-- a slot whose size and bytes are these holds them
held_from : (at : ℕ) (file new : List ℕ) → length new ≤ 32768 → slice (at + 4) 4 file ≡ to_le_bytes w32 (length new) → slice (at + 8) (length new) file ≡ new
    → content_of at file ≡ Some new
unfolding size_of
held_from at file new small size held = rw is (grind (arith, nat_tests))
  where
    is : size_of at file ≡ length new
    is = ap (from_le_bytes w32) size ∙ from_le_bytes-to_le_bytes_4 (length new) (omega (arith, small))

-- behind a gate that alone was written all is the same
behind : {at : ℕ} {file left : List ℕ} → Agrees at 1 file left → (tag_of at left ≡ tag_of at file) × (content_of at left ≡ content_of at file)
behind {at = at} {file = file} {left = left} agrees = (
  agrees_byte agrees (at + 1) (inr (omega arith)),
  same_content at file left (same_size at file left (agrees_slice agrees (at + 4) 4 (inr (omega arith))))
      (λ small. agrees_slice agrees (at + 8) (size_of at file) (inr (omega arith))),
)

gate_of : (at tag : ℕ) (file : List ℕ) (bytes : Option (List ℕ)) → Holds at tag bytes file → is_open at file ≡ is_some bytes
gate_of at tag file (Some b) h = h.0
gate_of at tag file None h = h.0

module _ (at tag : ℕ) (bytes : Option (List ℕ)) (file : List ℕ) (keeps : Keeps at tag bytes file) where
  pub fits : (n : ℕ) → n ≤ 32776 → at + n ≤ length file
  fits n small = ⊎_elim (λ first. omega (arith, keeps.laid_out)) (λ second. omega (arith, keeps.laid_out)) keeps.place

  kept_slot : (p n : ℕ) → at ≤ p → p + n ≤ at + 32776 → ((32776 - at) + 32776 ≤ p) ⊎ (p + n ≤ 32776 - at)
  kept_slot p n from to = ⊎_elim (λ first. inr (omega arith)) (λ second. inl (omega arith)) keeps.place

  -- the gate is torn while it is closed: the slot loses by its tag as before, or it is closed
  pub torn_shut : Yields at file → is_open at file ≡ true → (left : List ℕ) → MayLeave (wrote at (0 ∷ []) (settled file)) left → control_of left ≡ Some bytes
  torn_shut yields opens left may =
      let agrees = torn_agrees at (0 ∷ []) file left (fits 1 (omega arith)) may in
      let apart = kept_slot at 1 (omega arith) (omega arith) in
      old_kept at tag bytes left (keeps_agrees agrees at tag bytes (omega arith) (omega arith) keeps)
      (⊎_elim (λ shut. absurd (differ opens shut)) (λ later. inr (
        same_gate agrees (32776 - at) apart ∙ later.0,
        same_tag agrees (32776 - at) apart ∙ later.1 ∙ sym (ap next_tag (agrees_byte agrees (at + 1) (inr (omega arith)))),
      )) yields)

  pub now_shut : Keeps at tag bytes (written at (0 ∷ []) file) × (is_open at (written at (0 ∷ []) file) ≡ false)
  now_shut = let agrees = written_agrees at (0 ∷ []) file (fits 1 (omega arith)) in
      (keeps_agrees agrees at tag bytes (omega arith) (omega arith) keeps, ap (λ (b : ℕ). b == 1) (written_first at 0 [] file))

  -- the slot is torn behind its closed gate
  pub torn_behind : (rest : List ℕ) → length rest ≤ 32775 → is_open at file ≡ false → (left : List ℕ) → MayLeave (wrote (at + 1) rest (settled file)) left
      → control_of left ≡ Some bytes
  torn_behind rest small shut left may =
      let agrees = torn_agrees (at + 1) rest file left (omega (arith, fits (1 + length rest) (omega (arith, small)))) may in
      old_kept at tag bytes left (keeps_agrees agrees at tag bytes (omega arith) (omega (arith, small)) keeps)
      (inl (ap (λ (b : ℕ). b == 1) (agrees_byte agrees at (inl (omega arith))) ∙ shut))

  pub now_filled : (new : List ℕ) → length new ≤ 32768 → is_open at file ≡ false → Filled at tag bytes new (written (at + 1) (behind_gate tag new) file)
  now_filled new small shut =
      let rest = behind_gate tag new in
      let size : length rest ≡ 7 + length new = omega (arith, length-append (to_le_bytes w32 (length new)) new) in
      let agrees = written_agrees (at + 1) rest file (omega (arith, size, fits (8 + length new) (omega (arith, small)))) in
      record {
        keeps = keeps_agrees agrees at tag bytes (omega arith) (omega (arith, size, small)) keeps;
        shut = ap (λ (b : ℕ). b == 1) (agrees_byte agrees at (inl (omega arith))) ∙ shut;
        tagged = written_first (at + 1) tag (0 ∷ 0 ∷ (to_le_bytes w32 (length new) ++ new)) file;
        holds = held_from at (written (at + 1) rest file) new small
            (ap (λ (j : ℕ). slice j 4 (written (at + 1) rest file)) (omega arith) ∙ written_slice (at + 1) 3 4 rest file (omega (arith, size)))
            (ap (λ (j : ℕ). slice j (length new) (written (at + 1) rest file)) (omega arith)
            ∙ written_slice (at + 1) 7 (length new) rest file (omega (arith, size)) ∙ take_all (length new) new (omega arith));
      }

  -- the gate is torn before the new bytes: it is open, or it is not
  pub torn_open : (new : List ℕ) → Filled at tag bytes new file → (left : List ℕ) → MayLeave (wrote at (1 ∷ []) (settled file)) left
      → (control_of left ≡ Some bytes) ⊎ (control_of left ≡ Some (Some new))
  torn_open new filled left may =
      let agrees = torn_agrees at (1 ∷ []) file left (fits 1 (omega arith)) may in
      let kept = keeps_agrees agrees at tag bytes (omega arith) (omega arith) keeps in
      ⊎_elim
      (λ opens. inr (new_wins at tag bytes new left kept opens ((behind agrees).0 ∙ filled.tagged) ((behind agrees).1 ∙ filled.holds)))
      (λ shut. inl (old_kept at tag bytes left kept (inl shut)))
      (is_either (is_open at left))

  -- once it is open, the new bytes are the ones that are kept
  pub now_open : (new : List ℕ) → Filled at tag bytes new file →
      (control_of (written at (1 ∷ []) file) ≡ Some (Some new)) × Keeps (32776 - at) (next_tag tag) (Some new) (written at (1 ∷ []) file)
      × Yields (32776 - at) (written at (1 ∷ []) file)
      × (is_open (32776 - at) (written at (1 ∷ []) file) ≡ is_some bytes)
  now_open new filled =
      let after = written at (1 ∷ []) file in
      let agrees = written_agrees at (1 ∷ []) file (fits 1 (omega arith)) in
      let kept = keeps_agrees agrees at tag bytes (omega arith) (omega arith) keeps in
      let opens : is_open at after ≡ true = ap (λ (b : ℕ). b == 1) (written_first at 1 [] file) in
      let tagged = (behind agrees).0 ∙ filled.tagged in
      let holds = (behind agrees).1 ∙ filled.holds in
      let next = turned_slots at tag bytes new after kept opens tagged holds in
      (new_wins at tag bytes new after kept opens tagged holds, next.0, next.1, gate_of (32776 - at) tag after bytes kept.holds)

-- the same of a file of a disk, all of it synced
module _ (at tag : ℕ) (bytes : Option (List ℕ)) (file : FileState) (synced : file ≡ settled file.bytes) (keeps : Keeps at tag bytes file.bytes) where
  stored : (p : ℕ) (n : List ℕ) {left : List ℕ} → MayLeave (wrote p n file) left → MayLeave (wrote p n (settled file.bytes)) left
  stored p n {left = left} may = subst (λ f. MayLeave (wrote p n f) left) synced may

  pub still_kept : Yields at file.bytes → (left : List ℕ) → MayLeave file left → control_of left ≡ Some bytes
  still_kept yields left may = ap control_of (settled_only file.bytes left (subst (λ f. MayLeave f left) synced may))
      ∙ old_kept at tag bytes file.bytes keeps yields

  pub shut_crash : Yields at file.bytes → is_open at file.bytes ≡ true → (left : List ℕ) → MayLeave (wrote at (0 ∷ []) file) left → control_of left ≡ Some bytes
  shut_crash yields opens left may = torn_shut at tag bytes file.bytes keeps yields opens left (stored at (0 ∷ []) may)

  pub shut_done : (new : FileState) → new ≡ settled (written at (0 ∷ []) file.bytes) → IsShut at tag bytes new
  shut_done new is = subst (IsShut at tag bytes) (sym is) (refl, (now_shut at tag bytes file.bytes keeps).0, (now_shut at tag bytes file.bytes keeps).1)

  pub fill_crash : (slot : List ℕ) → length slot ≤ 32775 → is_open at file.bytes ≡ false → (left : List ℕ) → MayLeave (wrote (at + 1) slot file) left
      → control_of left ≡ Some bytes
  fill_crash slot small shut left may = torn_behind at tag bytes file.bytes keeps slot small shut left (stored (at + 1) slot may)

  pub fill_done : (bs : List ℕ) → length bs ≤ 32768 → is_open at file.bytes ≡ false → (new : FileState)
      → new ≡ settled (written (at + 1) (behind_gate tag bs) file.bytes) → IsFilled at tag bytes bs new
  fill_done bs small shut new is = subst (IsFilled at tag bytes bs) (sym is) (refl, now_filled at tag bytes file.bytes keeps bs small shut)

  pub open_crash : (bs : List ℕ) → Filled at tag bytes bs file.bytes → (left : List ℕ) → MayLeave (wrote at (1 ∷ []) file) left
      → (control_of left ≡ Some bytes) ⊎ (control_of left ≡ Some (Some bs))
  open_crash bs filled left may = torn_open at tag bytes file.bytes keeps bs filled left (stored at (1 ∷ []) may)

  -- what a switch may leave while it has not opened the gate
  pub either_old : (bs left : List ℕ) → control_of left ≡ Some bytes → IsEither bytes bs left
  either_old bs left is = inl is

  pub open_done : (bs : List ℕ) → Filled at tag bytes bs file.bytes → (new : FileState) → new ≡ settled (written at (1 ∷ []) file.bytes)
      → IsOpen at tag bytes bs new
  open_done bs filled new is = let done = now_open at tag bytes file.bytes keeps bs filled in
      subst (IsOpen at tag bytes bs) (sym is) (record { synced = refl; stands = done.0; keeps = done.1; yields = done.2; gate = done.3 })

pub length_slot : (tag : ℕ) (bs : List ℕ) → length bs ≤ 32768 → length (behind_gate tag bs) ≤ 32775
length_slot tag bs small = omega (arith, small, length-append (to_le_bytes w32 (length bs)) bs)

other_place : (second : Bool) → 32776 - place_of second ≡ place_of (not second)
other_place true = refl
other_place false = refl

-- after the switch the file stands for the block as it is then
pub stands_again : (block : ControlBlock) (bytes : List ℕ) (file : FileState) → IsOpen (place_of block.second) block.tag block.bytes bytes file
    → Stands (turned block bytes) file
stands_again block bytes file is = record {
  synced = is.synced;
  keeps = rw other_place at is.keeps;
  yields = rw other_place at is.yields;
  gate = sym (rw other_place at is.gate);
}
