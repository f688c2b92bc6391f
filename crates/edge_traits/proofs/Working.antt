-- How the crash clauses of calls go on from call to call, and those of calls on separate files make one of the whole disk.
use Rattle.std.proofs.Common.{◌≡◌, ℕ, ◌≤◌, ◌⊎◌, inl, inr, Bool, true, false, List, refl, sym, subst, ap, ◌≢◌, ◌∙◌, arith}
use Rattle.edge_traits.specs.FileStates.{FileState, Contents, Files, MayLeave, Leaves, settled}
use Rattle.edge_traits.specs.Moments.{LeavesAt, AtEachMoment, IsUnmoved}
use Rattle.edge_traits.specs.Works.{Group, Telling, telling, seen, all_files, Works, Holds, Ensures, MayIn, MayOut, Reads, IsTelling}
use Rattle.edge_traits.proofs.FileStates.{settled_only}
use Rattle.edge_traits.specs.declared.disks.FileId.{FileId}

-- files that are in none of both
abbrev pub AreApart : Group → Group → Type 0
AreApart own among = (f : FileId) → among f ≡ true → own f ≡ false

abbrev pub AreWithin : Group → Group → Type 0
AreWithin few more = (f : FileId) → few f ≡ true → more f ≡ true

pub false_of : (few more : Group) → AreWithin few more → (f : FileId) → more f ≡ false → few f ≡ false
false_of few more w f out = go (few f) refl
  where
    go : (b : Bool) → few f ≡ b → few f ≡ false
    go false is = is
    go true is = absurd (let z : true ≡ false = sym (w f is) ∙ out in cc)

-- one call after another: a crash leaves what it may leave in the one or in the other
pub works_then : (own : Group) (a b c : Telling) (P Q : Contents → Type 0) → Works own a b P → Works own b c Q → Works own a c (λ x. P x ⊎ Q x)
works_then own a b c P Q x y = record {
  crash = record {
    later = omega (arith, x.crash.later, y.crash.later);
    before = λ t d early left. turn t d early (y.crash.before t d (omega (arith, early, x.crash.later)) left);
  };
  others = λ f out. y.others f out ∙ x.others f out;
}
  where
    last : (t : ℕ) (d : Contents) → (a.left_since t d ⊎ (P d × MayOut own a.files d)) → a.left_since t d ⊎ ((P d ⊎ Q d) × MayOut own a.files d)
    last t d (inl old) = inl old
    last t d (inr new) = inr (inl new.0, new.1)

    turn : (t : ℕ) (d : Contents) → t ≤ a.moment → (b.left_since t d ⊎ (Q d × MayOut own b.files d)) → a.left_since t d ⊎ ((P d ⊎ Q d) × MayOut own a.files d)
    turn t d early (inl old) = last t d (x.crash.before t d early old)
    turn t d early (inr new) = inr (inr new.0, λ f out. subst (λ s. MayLeave s (d f)) (x.others f out) (new.1 f out))

pub works_weaker : (own : Group) (a b : Telling) (P Q : Contents → Type 0) → ((c : Contents) → P c → Q c) → Works own a b P → Works own a b Q
works_weaker own a b P Q weaker x = record {
  crash = record { later = x.crash.later; before = λ t d early left. turn t d (x.crash.before t d early left) };
  others = x.others;
}
  where
    turn : (t : ℕ) (d : Contents) → (a.left_since t d ⊎ (P d × MayOut own a.files d)) → a.left_since t d ⊎ (Q d × MayOut own a.files d)
    turn t d (inl old) = inl old
    turn t d (inr new) = inr (weaker d new.0, new.1)

-- files that it leaves hold what they held, and a crash in it leaves that beside what it says
pub works_frame : (own among : Group) (a b : Telling) (P Q : Contents → Type 0) → AreApart own among → Ensures among a.files Q → Works own a b P
    → Works own a b (λ c. P c × Q c)
works_frame own among a b P Q apart kept x = record {
  crash = record { later = x.crash.later; before = λ t d early left. turn t d (x.crash.before t d early left) };
  others = x.others;
}
  where
    turn : (t : ℕ) (d : Contents) → (a.left_since t d ⊎ (P d × MayOut own a.files d)) → a.left_since t d ⊎ ((P d × Q d) × MayOut own a.files d)
    turn t d (inl old) = inl old
    turn t d (inr new) = inr ((new.0, kept d (λ f in'. new.1 f (apart f in'))), new.1)

pub holds_frame : (own among : Group) (a b : Telling) (P Q : Contents → Type 0) → AreApart own among → Reads among Q → Works own a b P → Holds among a Q
    → Holds among b Q
holds_frame own among a b P Q apart reads x h = record {
  read = reads (seen a) (seen b) (λ f in'. sym (ap (λ (s : FileState). s.bytes) (x.others f (apart f in')))) h.read;
  kept = λ c may. h.kept c (λ f in'. subst (λ s. MayLeave s (c f)) (x.others f (apart f in')) (may f in'));
}

-- a call that works on few files is one that works on more
pub works_wider : (few more : Group) (a b : Telling) (P : Contents → Type 0) → AreWithin few more → Works few a b P → Works more a b P
works_wider few more a b P within x = record {
  crash = record { later = x.crash.later; before = λ t d early left. turn t d (x.crash.before t d early left) };
  others = λ f out. x.others f (false_of few more within f out);
}
  where
    turn : (t : ℕ) (d : Contents) → (a.left_since t d ⊎ (P d × MayOut few a.files d)) → a.left_since t d ⊎ (P d × MayOut more a.files d)
    turn t d (inl old) = inl old
    turn t d (inr new) = inr (new.0, λ f out. new.1 f (false_of few more within f out))

-- ---- a part of what the whole disk holds
-- these files of the one content, the others of the other
abbrev pub mixed : Group → Contents → Contents → Contents
mixed among c d f = elim (among f) [ true ↦ c f | false ↦ d f ]

mixed_here : (among : Group) (c d : Contents) (f : FileId) → among f ≡ true → mixed among c d f ≡ c f
mixed_here among c d f in' = rw (in', mixed) refl

mixed_may : (among : Group) (now : Telling) (c : Contents) → IsTelling now → MayIn among now.files c → (f : FileId)
    → MayLeave (now.files f) (mixed among c (seen now) f)
mixed_may among now c tells may f = go (among f) refl
  where
    go : (b : Bool) → among f ≡ b → MayLeave (now.files f) (mixed among c (seen now) f)
    go true is = rw (is, mixed) (may f is)
    go false is = rw (is, mixed) (tells.read f)

pub holds_part : (among whole : Group) (now : Telling) (P Q : Contents → Type 0) → IsTelling now → Reads among Q → ((c : Contents) → P c → Q c)
    → Holds whole now P → Holds among now Q
holds_part among whole now P Q tells reads weaker h = record {
  read = weaker (seen now) h.read;
  kept = λ c may. reads (mixed among c (seen now)) c (λ f in'. mixed_here among c (seen now) f in')
      (weaker (mixed among c (seen now)) (h.kept (mixed among c (seen now)) (λ f in'. mixed_may among now c tells may f)));
}

-- parts that are held make a whole that is held
pub holds_join : (one other whole : Group) (now : Telling) (P Q : Contents → Type 0) → AreWithin one whole → AreWithin other whole → Holds one now P
    → Holds other now Q → Holds whole now (λ c. P c × Q c)
holds_join one other whole now P Q in_one in_other x y = record {
  read = (x.read, y.read);
  kept = λ c may. (x.kept c (λ f in'. may f (in_one f in')), y.kept c (λ f in'. may f (in_other f in')));
}

-- what holds leaves only that, while nothing is done: a call that reads
pub reads_leave : (own : Group) (a b : Telling) (P : Contents → Type 0) → Holds own a P
    → a.moment ≤ b.moment → ((f : FileId) → b.files f ≡ a.files f)
    → ((t : ℕ) (c : Contents) → t ≤ a.moment → b.left_since t c → a.left_since t c ⊎ Leaves b.files c)
    → Works own a b P
reads_leave own a b P h later same elapses = record {
  crash = record { later = later; before = λ t d early left. turn t d (elapses t d early left) };
  others = λ f out. same f;
}
  where
    turn : (t : ℕ) (d : Contents) → (a.left_since t d ⊎ Leaves b.files d) → a.left_since t d ⊎ (P d × MayOut own a.files d)
    turn t d (inl old) = inl old
    turn t d (inr now) = inr (h.kept d (λ f in'. subst (λ s. MayLeave s (d f)) (same f) (now f)), λ f out. subst (λ s. MayLeave s (d f)) (same f) (now f))

-- no call
pub works_still : (own : Group) (a : Telling) (P : Contents → Type 0) → Works own a a P
works_still own a P = record { crash = record { later = omega arith; before = λ t c early left. inl left }; others = λ f out. refl }

-- what a call leaves only, its files hold after it, whatever the call answered
pub left_in : (own : Group) (a b : Telling) (P Q : Contents → Type 0) → IsTelling a → IsTelling b → Reads own Q → ((c : Contents) → P c → Q c)
    → Holds own a P → Works own a b Q → Holds own b Q
left_in own a b P Q tells tells' reads weaker held x = record {
  read = now (seen b) tells'.read;
  kept = λ c may. reads (mixed own c (seen b)) c (λ f in'. mixed_here own c (seen b) f in') (now (mixed own c (seen b)) (mixed_may own b c tells' may));
}
  where
    turn : (c : Contents) → (a.left_since a.moment c ⊎ (Q c × MayOut own a.files c)) → Q c
    turn c (inl old) = weaker c (held.kept c (λ f in'. tells.only c old f))
    turn c (inr new) = new.0

    now : (c : Contents) → ((f : FileId) → MayLeave (b.files f) (c f)) → Q c
    now c may = turn c (x.crash.before a.moment c (omega arith) (tells'.counts a.moment c x.crash.later may))

pub left_by : (a b : Telling) (P Q : Contents → Type 0) → IsTelling a → IsTelling b → ((c : Contents) → P c → Q c) → Holds all_files a P
    → Works all_files a b Q → Holds all_files b Q
left_by a b P Q tells tells' weaker held x = record { read = now (seen b) tells'.read; kept = λ c may. now c (λ f. may f refl) }
  where
    turn : (c : Contents) → (a.left_since a.moment c ⊎ (Q c × MayOut all_files a.files c)) → Q c
    turn c (inl old) = weaker c (held.kept c (λ f in'. tells.only c old f))
    turn c (inr new) = new.0

    now : (c : Contents) → ((f : FileId) → MayLeave (b.files f) (c f)) → Q c
    now c may = turn c (x.crash.before a.moment c (omega arith) (tells'.counts a.moment c x.crash.later may))

-- ---- a disk that tells its content; the facts are its laws
pub disk_tells : {D : Type 0} {tells : D → Bool} {files : D → Files} {moment : D → ℕ} {left_since : D → ℕ → Contents → Type 0} {disk : D}
    → ((x : D) (f : FileId) → tells x ≡ true → MayLeave (files x f) (files x f).bytes)
    → ((x : D) (t : ℕ) (c : Contents) → tells x ≡ true → t ≤ moment x → Leaves (files x) c → left_since x t c)
    → ((x : D) (c : Contents) → tells x ≡ true → left_since x (moment x) c → Leaves (files x) c)
    → tells disk ≡ true → IsTelling (telling files moment left_since disk)
disk_tells {disk = x} reads counts only told = record {
  read = λ f. reads x f told;
  counts = λ t c early may. counts x t c told early may;
  only = λ c left. only x c told left;
}

module _ {D : Type 0} {files : D → Files} {moment : D → ℕ} {left_since : D → ℕ → Contents → Type 0} {old new : D} where
  -- a run of calls that only read
  pub works_unmoved : (own : Group) (P : Contents → Type 0) → IsUnmoved files moment left_since old new
      → Works own (telling files moment left_since old) (telling files moment left_since new) P
  works_unmoved own P run = record {
    crash = record { later = omega (arith, run.at_once); before = λ t c early left. inl (run.no_more t c left) };
    others = λ f out. run.same f;
  }

  pub holds_unmoved : (own : Group) (P : Contents → Type 0) → IsUnmoved files moment left_since old new → Reads own P
      → Holds own (telling files moment left_since old) P → Holds own (telling files moment left_since new) P
  holds_unmoved own P run reads held = record {
    read = reads (λ f. (files old f).bytes) (λ f. (files new f).bytes) (λ f in'. sym (ap (λ (s : FileState). s.bytes) (run.same f))) held.read;
    kept = λ c may. held.kept c (λ f in'. subst (λ s. MayLeave s (c f)) (run.same f) (may f in'));
  }

-- ---- from what calls on one file say of that file alone
differ : {b : Bool} → b ≡ false → b ≡ true → ⊥
differ {b = b} is_not is_so = cc

module _ {D : Type 0} {files : D → Files} {moment : D → ℕ} {left_since : D → ℕ → Contents → Type 0} {file : FileId} where
  -- the file is one of these
  pub works_at : {old new : D} {Q : List ℕ → Type 0} (own : Group) → own file ≡ true → AtEachMoment files moment left_since file old new Q
      → Works own (telling files moment left_since old) (telling files moment left_since new) (λ c. Q (c file))
  works_at {old = old} {Q = Q} own mine run = record {
    crash = record { later = run.moments.later; before = λ t c early left. turn t c (run.moments.each t c early left) };
    others = λ f out. run.elsewhere f (apart f out);
  }
    where
      apart : (f : FileId) → own f ≡ false → f ≢ file
      apart f out is = differ (subst (λ g. own g ≡ false) is out) mine

      turn : (t : ℕ) (c : Contents) → (left_since old t c ⊎ LeavesAt file (files old) Q c) → left_since old t c ⊎ (Q (c file) × MayOut own (files old) c)
      turn t c (inl past) = inl past
      turn t c (inr at) = inr (at.here, λ f out. at.elsewhere f (apart f out))

  -- what a crash leaves of it after them has Q; the last fact is the law `reads_left` of the disk
  pub holds_at : {old new : D} {Q : List ℕ → Type 0} (own : Group) → own file ≡ true → AtEachMoment files moment left_since file old new Q
      → MayLeave (files new file) (files new file).bytes → Holds own (telling files moment left_since new) (λ c. Q (c file))
  holds_at own mine run reads = record { read = run.now _ reads; kept = λ c may. run.now (c file) (may file mine) }

-- a file that is synced holds what it reads
pub holds_settled : (own : Group) (now : Telling) (file : FileId) (bytes : List ℕ) (Q : List ℕ → Type 0) → own file ≡ true → now.files file ≡ settled bytes
    → Q bytes → Holds own now (λ c. Q (c file))
holds_settled own now file bytes Q mine is q = record {
  read = subst Q (sym (ap (λ (s : FileState). s.bytes) is)) q;
  kept = λ c may. subst Q (sym (settled_only bytes (c file) (subst (λ s. MayLeave s (c file)) is (may file mine)))) q;
}
