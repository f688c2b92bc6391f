-- Moving down one pair at a time closes the gaps: what is before the gap is done, and what is behind it is as it was.
use Rattle.std.proofs.Common.{◌≡◌, ℕ, ◌+◌, ◌<◌, ◌≤◌, Bool, true, false, cond, List, [], ◌∷◌, ◌++◌, length, take, drop, filter, get_or, Some, None, refl, sym, ◌∙◌, ◌⊎◌, inl, inr, ap, subst, arith}
use Rattle.std.specs.Prelude.{slice_get}
use Rattle.std.proofs.lemmas.List.{append-nil, append_assoc, drop-drop, drop_more, get_or-drop, length-drop, take_more}
use Rattle.std.proofs.lemmas.List.Elements.{filter_more}
use Rattle.std.proofs.lemmas.Option.{slice_get-get_or, slice_get_cases}
use Rattle.ring_types.specs.declared.entries.Pair.{Pair}
use Rattle.prepared_txns.specs.Holders.{Holders, AreHeld, ArePut}
use Rattle.prepared_txns.specs.Moves.{MovesDown}
use Rattle.prepared_txns.proofs.Held.{held_less}

-- ---- two lists that are one from a place on
same_there : (at : ℕ) (xs ys : List Pair) (p : Pair) → drop at xs ≡ drop at ys → get_or xs at p ≡ get_or ys at p
same_there at xs ys p rest =
    let zero_more : at + 0 ≡ at = omega arith in
    ap (λ (k : ℕ). get_or xs k p) (sym zero_more)
    ∙ (sym (get_or-drop at xs 0 p) ∙ (ap (λ (zs : List Pair). get_or zs 0 p) rest ∙ (get_or-drop at ys 0 p ∙ ap (λ (k : ℕ). get_or ys k p) zero_more)))

same_behind : (at : ℕ) (xs ys : List Pair) → drop at xs ≡ drop at ys → drop (at + 1) xs ≡ drop (at + 1) ys
same_behind at xs ys rest = sym (drop-drop 1 at xs) ∙ (ap (drop 1) rest ∙ drop-drop 1 at ys)

-- ---- the first pair is gone
pub record ClosedTo (at : ℕ) (old now : List Pair) : Type 0 where
  pub front : take at now ≡ take at (drop 1 old)
  pub rest : drop (at + 1) now ≡ drop (at + 1) old
  pub long : length now ≡ length old

pub closed_more : (at : ℕ) (old now new : List Pair) → at + 1 < length old → ClosedTo at old now → MovesDown (at + 1) at now new → ClosedTo (at + 1) old new
closed_more at old now new inside c m = go (slice_get_cases now (at + 1)).1
  where
    inside_rest : at < length (drop 1 old)
    inside_rest = let l = length-drop 1 old in omega arith

    read : (p : Pair) → get_or now (at + 1) p ≡ p → get_or (drop 1 old) at p ≡ p
    read p here =
        let order : 1 + at ≡ at + 1 = omega arith in
        get_or-drop 1 old at p ∙ (ap (λ (k : ℕ). get_or old k p) order ∙ (sym (same_there (at + 1) now old p c.rest) ∙ here))

    go : ((p : Pair) × (at + 1 < length now) × (slice_get now (at + 1) ≡ Some p) × (get_or now (at + 1) p ≡ p)) ⊎
        ((length now ≤ at + 1) × (slice_get now (at + 1) ≡ None)) → ClosedTo (at + 1) old new
    go (inl (p, l, is, here)) = record {
      front =
          m.front p is ∙ (ap (λ (ps : List Pair). ps ++ p ∷ []) c.front
          ∙ (ap (λ (q : Pair). take at (drop 1 old) ++ q ∷ []) (sym (read p here)) ∙ sym (take_more (drop 1 old) at p inside_rest)));
      rest = m.rest ∙ same_behind (at + 1) now old c.rest;
      long = m.long ∙ c.long;
    }
    go (inr (past, none)) = absurd (let long = c.long in omega arith)

-- ---- the pairs that pass a test stay
pub record KeptTo (keeps : Pair → Bool) (at kept : ℕ) (old now : List Pair) (holders : Holders) : Type 0 where
  pub front : take kept now ≡ filter keeps (take at old)
  pub rest : drop at now ≡ drop at old
  pub behind : kept ≤ at
  pub long : length now ≡ length old
  pub held : AreHeld (filter keeps (take at old) ++ drop at old) holders

module _ (keeps : Pair → Bool) (at kept : ℕ) (old now : List Pair) (holders : Holders) (p : Pair) (inside : at < length now) (is : p ≡ get_or now at p)
    (k : KeptTo keeps at kept old now holders) where
  inside_old : at < length old
  inside_old = let long = k.long in omega arith

  read_old : get_or old at p ≡ p
  read_old = sym (same_there at now old p k.rest) ∙ sym is

  more : (b : Bool) → keeps p ≡ b → filter keeps (take (at + 1) old) ≡ filter keeps (take at old) ++ cond b (p ∷ []) []
  more b passes =
      filter_more keeps old at p inside_old
      ∙ (ap (λ (q : Pair). filter keeps (take at old) ++ cond (keeps q) (q ∷ []) []) read_old
      ∙ ap (λ (c : Bool). filter keeps (take at old) ++ cond c (p ∷ []) []) passes)

  behind_old : drop at old ≡ p ∷ drop (at + 1) old
  behind_old = drop_more old at p inside_old ∙ ap (λ (q : Pair). q ∷ drop (at + 1) old) read_old

  held_here : AreHeld (filter keeps (take at old) ++ p ∷ drop (at + 1) old) holders
  held_here = subst (λ (ps : List Pair). AreHeld (filter keeps (take at old) ++ ps) holders) behind_old k.held

  pub kept_more : (new : List Pair) → keeps p ≡ true → MovesDown at kept now new → KeptTo keeps (at + 1) (kept + 1) old new holders
  kept_more new passes m = record {
    front =
        m.front p (slice_get-get_or now at p inside ∙ ap (λ (q : Pair). Some q) (sym is))
        ∙ (ap (λ (ps : List Pair). ps ++ p ∷ []) k.front ∙ sym (more true passes));
    rest = m.rest ∙ same_behind at now old k.rest;
    behind = (let behind = k.behind in omega arith);
    long = m.long ∙ k.long;
    held =
        subst (λ (ps : List Pair). AreHeld ps holders) (sym (append_assoc (filter keeps (take at old)) (p ∷ []) (drop (at + 1) old))
        ∙ ap (λ (ps : List Pair). ps ++ drop (at + 1) old) (sym (more true passes))) held_here;
  }

  pub kept_less : (new : Holders) → keeps p ≡ false → ArePut p.txn.changes None holders new → KeptTo keeps (at + 1) kept old now new
  kept_less new fails put =
      let same : filter keeps (take (at + 1) old) ≡ filter keeps (take at old) = more false fails ∙ append-nil (filter keeps (take at old)) in
      record {
        front = k.front ∙ sym same;
        rest = same_behind at now old k.rest;
        behind = (let behind = k.behind in omega arith);
        long = k.long;
        held =
            subst (λ (ps : List Pair). AreHeld (ps ++ drop (at + 1) old) new) (sym same)
            (held_less (filter keeps (take at old)) (drop (at + 1) old) p holders new held_here put);
      }

-- ---- the last pair
pub read_last : (pairs : List Pair) (p d : Pair) → get_or (pairs ++ p ∷ []) (length pairs) d ≡ p
read_last [] p d = refl
read_last (x ∷ xs) p d = read_last xs p d
