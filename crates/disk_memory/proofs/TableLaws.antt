-- What is looked up in a table of files.
use Rattle.std.proofs.Common.{◌≡◌, ℕ, ◌+◌, Bool, true, false, cond, List, [], ◌∷◌, ◌++◌, length, drop, ◌≤◌, map, Option, Some, None, refl, sym, ◌∙◌}
use Rattle.std.proofs.Common.{ap, ap₂, subst, if◌then◌else◌, arith}
use Rattle.std.specs.Option.{option_map, unwrap_or, IsSome, IfSome}
use Rattle.std.specs.Ordering.{nat_cmp}
use Rattle.std.specs.BTreeMap.{BTreeMap, is_at, WritesThrough}
use Rattle.std.specs.Map.{lookup}
use Rattle.std.specs.Cmp.{eq_by_cmp_equiv, nat_cmp_total, Equal-is}
use Rattle.std.proofs.lemmas.Map.Lookups.{exact_unsigned}
use Rattle.std.proofs.lemmas.List.{drop-append-le, nil_from_length}
use Rattle.edge_traits.specs.DiskCalls.{slice}
use Rattle.ring_types.specs.declared.entries.Keep.{Keep}
use Rattle.disk_memory.specs.declared.held_files.HeldFile.{HeldFile}
use Rattle.disk_memory.specs.Records.{FileRecord, untouched, crashed, all_synced, reads}
use Rattle.disk_memory.specs.Pasts.{Records, record_at}
use Rattle.disk_memory.specs.Tables.{crashed_by, brought, records_of, SeenWithin, SameRecords, IsPut, IsCrashed}

map_step : {X Y : Type 0} (f : X → Y) (b : Bool) (x : X) (o : Option X) (p : Option Y) → p ≡ option_map f o
    → cond b (Some (f x)) p ≡ option_map f (cond b (Some x) o)
map_step f true x o p rest = refl
map_step f false x o p rest = rest

pub lookup-map : {X Y : Type 0} (f : X → Y) (test : ℕ → Bool) (es : List (ℕ × X))
    → lookup test (map (λ (e : ℕ × X). (e.0, f e.1)) es) ≡ option_map f (lookup test es)
lookup-map f test [] = refl
lookup-map {X} {Y} f test (e ∷ es) = map_step f (test e.0) e.1 (lookup test es) (lookup test (map (λ (e : ℕ × X). (e.0, f e.1)) es)) (lookup-map f test es)

pub at_records_of : (crashes : List Keep) (es : List (ℕ × HeldFile)) (q : ℕ)
    → record_at q (records_of crashes es) ≡ unwrap_or (option_map (brought crashes) (lookup (is_at (nat_cmp q)) es)) untouched
at_records_of crashes es q = ap (λ (o : Option FileRecord). unwrap_or o untouched) (lookup-map (brought crashes) (is_at (nat_cmp q)) es)

turned : (n q : ℕ) → is_at (nat_cmp n) q ≡ is_at (nat_cmp q) n
turned n q = (eq_by_cmp_equiv nat_cmp_total).symm n q

pub same_number : (q n : ℕ) → is_at (nat_cmp q) n ≡ true → q ≡ n
same_number q n is = exact_unsigned q n ((Equal-is (nat_cmp q n)).0 is)

module _ (crashes : List Keep) (es fs : List (ℕ × HeldFile)) (n : ℕ) (w : HeldFile)
    (updates : (q : ℕ) → lookup (is_at (nat_cmp q)) fs ≡ cond (is_at (nat_cmp n) q) (Some w) (lookup (is_at (nat_cmp q)) es)) where
  put_at : (q : ℕ) (b : Bool) (o : Option HeldFile) → unwrap_or (option_map (brought crashes) (cond b (Some w) o)) untouched ≡
      (if b then brought crashes w else unwrap_or (option_map (brought crashes) o) untouched)
  put_at q true o = refl
  put_at q false o = refl

  pub put_records : IsPut n (brought crashes w) (records_of crashes es) (records_of crashes fs)
  put_records q =
      at_records_of crashes fs q
      ∙ ap (λ (o : Option HeldFile). unwrap_or (option_map (brought crashes) o) untouched) (updates q)
      ∙ put_at q (is_at (nat_cmp n) q) (lookup (is_at (nat_cmp q)) es)
      ∙ ap₂ (λ (b : Bool) (r : FileRecord). if b then brought crashes w else r) (turned n q) (sym (at_records_of crashes es q))

-- a file that stays what it was leaves the table what it was
same_at : (b : Bool) (r was : FileRecord) → (b ≡ true → r ≡ was) → (if b then r else was) ≡ was
same_at true r was is = is refl
same_at false r was is = refl

pub put_same : (n : ℕ) (r : FileRecord) (old new : Records) → r ≡ record_at n old → IsPut n r old new → SameRecords old new
put_same n r old new is changes q = changes q ∙ same_at (is_at (nat_cmp q) n) r (record_at q old)
    (λ here. is ∙ ap (λ (k : ℕ). record_at k old) (sym (same_number q n here)))

-- where a file is not in the table it is untouched
pub none_at : (crashes : List Keep) (es : List (ℕ × HeldFile)) (n : ℕ) → lookup (is_at (nat_cmp n)) es ≡ None → record_at n (records_of crashes es) ≡ untouched
none_at crashes es n none = at_records_of crashes es n ∙ ap (λ (o : Option HeldFile). unwrap_or (option_map (brought crashes) o) untouched) none

pub some_at : (crashes : List Keep) (es : List (ℕ × HeldFile)) (n : ℕ) (h : HeldFile) → lookup (is_at (nat_cmp n)) es ≡ Some h
    → record_at n (records_of crashes es) ≡ brought crashes h
some_at crashes es n h some = at_records_of crashes es n ∙ ap (λ (o : Option HeldFile). unwrap_or (option_map (brought crashes) o) untouched) some

-- a file that was found, and what was written through
module _ (crashes : List Keep) (m m' : BTreeMap ℕ HeldFile) (n : ℕ) (h w : HeldFile) (found : lookup (is_at (nat_cmp n)) m.entries ≡ Some h)
    (writes : WritesThrough nat_cmp (nat_cmp n) m w m') where
  is_there : IsSome (lookup (is_at (nat_cmp n)) m.entries)
  is_there = subst IsSome (sym found) refl

  pub touched_put : IsPut n (brought crashes w) (records_of crashes m.entries) (records_of crashes m'.entries)
  touched_put = put_records crashes m.entries m'.entries n w (writes.3 is_there).0

  pub touched_same : brought crashes w ≡ brought crashes h → SameRecords (records_of crashes m.entries) (records_of crashes m'.entries)
  touched_same same = put_same n (brought crashes w) (records_of crashes m.entries) (records_of crashes m'.entries)
      (same ∙ sym (some_at crashes m.entries n h found)) touched_put

-- a new file
pub added_put : (crashes : List Keep) (m m' : BTreeMap ℕ HeldFile) (n : ℕ) (w : HeldFile)
    → ((q : ℕ) → lookup (is_at (nat_cmp q)) m'.entries ≡ cond (is_at (nat_cmp n) q) (Some w) (lookup (is_at (nat_cmp q)) m.entries))
    → IsPut n (brought crashes w) (records_of crashes m.entries) (records_of crashes m'.entries)
added_put crashes m m' n w updates = put_records crashes m.entries m'.entries n w updates

-- one crash more
crashed_push : (ks : List Keep) (k : Keep) (r : FileRecord) → crashed_by (ks ++ k ∷ []) r ≡ crashed k (crashed_by ks r)
crashed_push [] k r = refl
crashed_push (j ∷ js) k r = refl

crash_one : (crashes : List Keep) (k : Keep) (o : Option HeldFile) → IfSome o (λ h. h.seen ≤ length crashes)
    → unwrap_or (option_map (brought (crashes ++ k ∷ [])) o) untouched ≡ crashed k (unwrap_or (option_map (brought crashes) o) untouched)
crash_one crashes k None within = refl
crash_one crashes k (Some h) within =
    ap (λ (ks : List Keep). crashed_by ks h.file) (drop-append-le h.seen crashes (k ∷ []) within)
    ∙ crashed_push (drop h.seen crashes) k h.file

pub crash_records : (crashes : List Keep) (k : Keep) (es : List (ℕ × HeldFile)) → SeenWithin crashes es
    → IsCrashed k (records_of crashes es) (records_of (crashes ++ k ∷ []) es)
crash_records crashes k es within q =
    at_records_of (crashes ++ k ∷ []) es q
    ∙ crash_one crashes k (lookup (is_at (nat_cmp q)) es) (within q)
    ∙ ap (crashed k) (sym (at_records_of crashes es q))

-- a sync of a file that was never touched
pub put_untouched : (n : ℕ) (old : Records) → record_at n old ≡ untouched → IsPut n (all_synced (reads (record_at n old))) old old
put_untouched n old is q = sym (same_at (is_at (nat_cmp q) n) (all_synced (reads (record_at n old))) (record_at q old)
    (λ here. ap (λ (r : FileRecord). all_synced (reads r)) is ∙ sym is ∙ ap (λ (k : ℕ). record_at k old) (sym (same_number q n here))))

pub put_to : (n : ℕ) (r r' : FileRecord) (old old' new : Records) → IsPut n r old new → r ≡ r' → old ≡ old' → IsPut n r' old' new
put_to n r r' old old' new changes same from = subst (λ (s : FileRecord). IsPut n s old' new) same (subst (λ (rs : Records). IsPut n r rs new) from changes)

-- a file that was never touched has no bytes to read
pub empty_read : (at : ℕ) (into : List ℕ) (r : FileRecord) → r ≡ untouched → at + length into ≤ 0 → into ≡ slice at (length into) (reads r)
empty_read at into r is short = grind (arith, nil_from_length into, is)
