-- The file whose number the point has is the last one; where it reaches so far, what is read of it ends where the log does.
use Rattle.std.proofs.Common.{◌≡◌, ◌≢◌, ℕ, ◌≤◌, Bool, true, false, List, length, take, refl, ap, subst, ◌∙◌, arith, length-take}
use Rattle.std.specs.Prelude.{◌==◌, if◌then◌else◌, nat_lt}
use Rattle.std.proofs.lemmas.Bool.Decides.{nat_tests}
use Rattle.edge_traits.specs.FileStates.{Contents}
use Rattle.edge_traits.specs.declared.disks.FileId.TheVariants as file
use Rattle.binlog_store.specs.Damages.{before_end, ending_of}
use Rattle.binlog_store.specs.Following.{ComesTo, IsAll}
use Rattle.ring_types.specs.declared.entries.Entry.{Entry}
use Rattle.ring_types.specs.declared.schemas.Schema.{Schema}
use Rattle.binlog_store.specs.declared.endings.Ending.TheVariants.{Reaching, TooShort}
use Rattle.binlog_store.specs.declared.points.LogPoint.{LogPoint}

module _ (p : LogPoint) (c : Contents) (n : ℕ) (is : n ≡ p.file) where
  not_below : nat_lt n p.file ≡ false
  not_below = grind (arith, nat_tests, is)

  its_own : (n == p.file) ≡ true
  its_own = grind (arith, nat_tests, is)

  pub shown_last : before_end p c (file.Binlog n) ≡ take p.end (c (file.Binlog n))
  shown_last = rw (not_below, its_own) refl

  last_ending : ending_of p c n ≡ (if nat_lt (length (c (file.Binlog n))) p.end then TooShort else Reaching)
  last_ending = rw not_below refl

  long_enough : (b : Bool) → nat_lt (length (c (file.Binlog n))) p.end ≡ b → (if b then TooShort else Reaching) ≢ TooShort → p.end ≤ length (c (file.Binlog n))
  long_enough true short never = absurd (never refl)
  long_enough false long never = grind (arith, nat_tests, long)

  pub reaching : ending_of p c n ≢ TooShort → ending_of p c n ≡ Reaching
  reaching never = last_ending ∙ go (nat_lt (length (c (file.Binlog n))) p.end) (λ is_short. never (last_ending ∙ is_short))
    where
      go : (b : Bool) → ((if b then TooShort else Reaching) ≢ TooShort) → (if b then TooShort else Reaching) ≡ Reaching
      go true differs = absurd (differs refl)
      go false differs = refl

  pub shown_long : ending_of p c n ≢ TooShort → length (before_end p c (file.Binlog n)) ≡ p.end
  shown_long never =
      let enough = long_enough (nat_lt (length (c (file.Binlog n))) p.end) refl (λ is_short. never (last_ending ∙ is_short)) in
      omega (arith, ap length shown_last, length-take p.end (c (file.Binlog n)), enough)

  pub comes_all : (schema : Schema) (log : List Entry) → ComesTo schema p c n log (ending_of p c n) → IsAll schema p c log
  comes_all schema log came = go (nat_lt (length (c (file.Binlog n))) p.end) (subst (ComesTo schema p c n log) last_ending came)
    where
      go : (b : Bool) → ComesTo schema p c n log (if b then TooShort else Reaching) → IsAll schema p c log
      go true none = absurd none
      go false all = all
