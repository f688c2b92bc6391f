-- What a read gives of a file, and what a crash leaves of it, after each call.
use Rattle.std.proofs.Common.{◌≡◌, ℕ, ◌+◌, ◌-◌, ◌<◌, ◌≤◌, max, false, nat_le, List, ◌++◌, length, get_or, take, drop, replicate, ◌∙◌, ap, subst, sym}
use Rattle.std.proofs.Common.{refl, arith, length-append, length-drop}
use Rattle.std.proofs.lemmas.List.{ext_get_or, places, length-take, length-replicate, take_at, take-append-le, get_or-take}
use Rattle.std.proofs.lemmas.Bool.Decides.{nat_tests}
use Rattle.edge_traits.specs.FileStates.{FileState, MayLeave, Within, Firm, settled, is_between, written, wrote, shortened}

-- after a sync a crash leaves what a read gives
pub settled_only : (bytes left : List ℕ) → MayLeave (settled bytes) left → left ≡ bytes
settled_only bytes left may = ext_get_or 0 left bytes (omega (arith, may.no_shorter, may.no_longer))
    (λ i within. may.stays i within (omega (arith, may.no_longer)) refl)

-- a write may have been done in no part
pub write_adds : (at : ℕ) (new : List ℕ) (file : FileState) → Within file (wrote at new file)
write_adds at new file left may = record {
  no_shorter = may.no_shorter;
  no_longer = omega (arith, may.no_longer);
  stays = λ i within kept untorn. may.stays i within kept (grind (arith, nat_tests));
}

-- a cut may have been done in no part
pub cut_adds : (n : ℕ) (file : FileState) → Within file (shortened n file)
cut_adds n file left may = record { no_shorter = omega (arith, may.no_shorter); no_longer = may.no_longer; stays = may.stays }

-- a sync adds nothing, since what a read gives may be left
pub sync_adds : (file : FileState) → MayLeave file file.bytes → Within (settled file.bytes) file
sync_adds file reads left may = subst (MayLeave file) (sym (settled_only file.bytes left may)) reads

pub length-written : (at : ℕ) (new bytes : List ℕ) → length (written at new bytes) ≡ max (length bytes) (at + length new)
length-written at new bytes = grind (arith, length-append, length-take, length-drop, length-replicate)

-- what was written is read
pub written_inside : (at : ℕ) (new bytes : List ℕ) (i : ℕ) → at ≤ i → i < at + length new → get_or (written at new bytes) i 0 ≡ get_or new (i - at) 0
written_inside at new bytes i from to = grind (arith, places)

-- and all else as before
pub written_outside : (at : ℕ) (new bytes : List ℕ) (i : ℕ) → i < length bytes → is_between at (length new) i ≡ false
    → get_or (written at new bytes) i 0 ≡ get_or bytes i 0
written_outside at new bytes i within apart = grind (arith, places, nat_tests)

-- what a read gives may be left: kept by each call
pub settled_reads : (bytes : List ℕ) → MayLeave (settled bytes) bytes
settled_reads bytes = record { no_shorter = omega arith; no_longer = omega arith; stays = λ i within kept untorn. refl }

pub wrote_reads : (at : ℕ) (new : List ℕ) (file : FileState) → MayLeave file file.bytes → MayLeave (wrote at new file) (written at new file.bytes)
wrote_reads at new file reads = record {
  no_shorter = omega (arith, reads.no_shorter, length-written at new file.bytes);
  no_longer = omega (arith, reads.no_longer, length-written at new file.bytes);
  stays = λ i within kept untorn. grind (arith, nat_tests, written_outside at new file.bytes i, reads.stays i);
}

pub shortened_reads : (n : ℕ) (file : FileState) → MayLeave file file.bytes → MayLeave (shortened n file) (take n file.bytes)
shortened_reads n file reads = record {
  no_shorter = omega (arith, reads.no_shorter, length-take n file.bytes);
  no_longer = omega (arith, reads.no_longer, length-take n file.bytes);
  stays = λ i within kept untorn. grind (arith, length-take n file.bytes, get_or-take n file.bytes i 0, reads.stays i);
}

pub firm_left : {n : ℕ} {file : FileState} → Firm n file → (left : List ℕ) → MayLeave file left → take n left ≡ take n file.bytes
firm_left {n = n} {file = file} firm left may = ext_get_or 0 (take n left) (take n file.bytes)
    (omega (arith, firm.least, firm.bytes, may.no_shorter, length-take n left, length-take n file.bytes))
    (λ i within.
    let under : i < n = omega (arith, within, length-take n left) in
    let stays : get_or left i 0 ≡ get_or file.kept i 0 = may.stays i (omega (arith, under, firm.least, may.no_shorter)) (omega (arith, under, firm.kept))
    (firm.same i under).0 in
    get_or-take n left i 0 under ∙ stays ∙ (firm.same i under).1 ∙ sym (get_or-take n file.bytes i 0 under))

-- a write behind them leaves them firm
pub firm_wrote : {n : ℕ} {file : FileState} → Firm n file → (at : ℕ) (new : List ℕ) → n ≤ at → Firm n (wrote at new file)
firm_wrote {n = n} {file = file} firm at new behind = record {
  least = firm.least;
  kept = firm.kept;
  bytes = omega (arith, firm.bytes, length-written at new file.bytes);
  same = λ i under.
      let apart : is_between at (length new) i ≡ false = grind (arith, nat_tests) in
      let short : nat_le (length file.bytes) i ≡ false = let long = firm.bytes in grind (arith, nat_tests) in
      let was = firm.same i under in
      (rw (was.0, short, apart) refl, was.1 ∙ sym (written_outside at new file.bytes i (omega (arith, under, firm.bytes)) apart));
}

pub firm_settled : (n : ℕ) (bytes : List ℕ) → n ≤ length bytes → Firm n (settled bytes)
firm_settled n bytes within = record { least = within; kept = within; bytes = within; same = λ i under. (refl, refl) }

pub front_written : (n at : ℕ) (new bytes : List ℕ) → n ≤ at → n ≤ length bytes → take n (written at new bytes) ≡ take n bytes
front_written n at new bytes behind within = ext_get_or 0 (take n (written at new bytes)) (take n bytes)
    (omega (arith, within, length-take n (written at new bytes), length-take n bytes, length-written at new bytes))
    (λ i inside.
    let under : i < n = omega (arith, inside, length-take n (written at new bytes)) in
    let apart : is_between at (length new) i ≡ false = grind (arith, nat_tests) in
    get_or-take n (written at new bytes) i 0 under ∙ written_outside at new bytes i (omega (arith, under, within)) apart ∙ sym (get_or-take n bytes i 0 under))

-- a write behind them may be torn as it likes
pub firm_torn : {n : ℕ} {file : FileState} → Firm n file → (at : ℕ) (new : List ℕ) → n ≤ at → (left : List ℕ) → MayLeave (wrote at new file) left
    → take n left ≡ take n file.bytes
firm_torn {n = n} {file = file} firm at new behind left may = firm_left (firm_wrote firm at new behind) left may
    ∙ front_written n at new file.bytes behind firm.bytes

-- what is written behind a front comes after it
pub written_after : (at : ℕ) (new bytes : List ℕ) → at ≤ length bytes → take (at + length new) (written at new bytes) ≡ take at bytes ++ new
written_after at new bytes within =
    let zeros = replicate (at - length bytes) 0 in
    let front = take-append-le at bytes zeros within in
    take_at (take at (bytes ++ zeros) ++ new) (drop (at + length new) bytes) (at + length new)
    (omega (arith, within, ap length front, length-take at bytes, length-append (take at (bytes ++ zeros)) new))
    ∙ ap (λ (l : List ℕ). l ++ new) front
