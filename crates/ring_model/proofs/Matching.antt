-- What a follower makes of its leader's Append: it is never torn, and the cut and the added entries are guarded moves.
use Rattle.std.proofs.Common.{◌≡◌, ℕ, ◌+◌, ◌<◌, ◌≤◌, ◌++◌, ◌∙◌, List, ap, arith, drop, length, refl, subst, suc, sym, take, zero}
use Rattle.std.proofs.lemmas.List.{take_all}
use Rattle.ring_types.specs.declared.entries.Entry.{Entry}
use Rattle.ring_types.specs.Rings.{Layout}
use Rattle.ring_types.specs.declared.entries.Opid.{Opid}
use Rattle.ring_types.specs.Logs.{term_at}
use Rattle.ring_model.specs.Safety.{Agree}
use Rattle.ring_model.specs.declared.nodes.Durable.{Durable}
use Rattle.ring_model.specs.Replication.{unmatched}
use Rattle.ring_model.proofs.Invariant.{History, IsBookedLog, IsHistory, IsNode, IsSealed, IsStretch, Nothing_yet, Sealed_at}
use Rattle.ring_model.proofs.Growth.{agree_less, agree_sym, agree_term, agree_trans}
use Rattle.ring_model.proofs.Cover.{committed_in_book}
use Rattle.ring_model.proofs.Following.{IsFollowed, Merge, agree_take, cut_followed, log_match, log_take, merge, merged_is, more_followed, seal_follows}
use Rattle.ring_model.proofs.Sending.{sealed_from_book}
use Rattle.ring_model.proofs.Moves.{MayFollow}

module _ (ring : Layout) (h : History) (id : ℕ) (d : Durable) (k : IsHistory ring h) (n : IsNode ring h id d)
    (leader : ℕ) (prev : Opid) (mc : ℕ) (es : List Entry) (s : IsStretch ring h d.term leader prev mc (length es))
    (win : take (length es) (drop prev.position (h.book d.term)) ≡ es)
    (foreign : leader ≡ id → ⊥) where
  pub not_mine : s.election.node ≡ id → ⊥
  not_mine by = foreign (sym s.by ∙ by)

  pub book_log : IsBookedLog ring h d.term (h.book d.term)
  book_log = subst (λ (t : ℕ). IsBookedLog ring h t (h.book t)) s.of_term (k.elections s.election s.led).book

  -- up to its commit count the log is the leader's book: so no entry of the message differs there
  pub commit_agrees : (c : ℕ) → IsSealed ring h d.term c d.log → (j : ℕ) → 0 < j → j ≤ c → Agree j d.log (h.book d.term)
  commit_agrees c (Nothing_yet z) j some le = absurd (omega arith)
  commit_agrees c (Sealed_at q p a b x y) j some le =
      let z = committed_in_book ring h k q p d.term s.election x s.led s.of_term a in
      agree_less j c d.log (h.book d.term) le (agree_trans c d.log (h.book q) (h.book d.term) y (agree_less c p (h.book q) (h.book d.term) b z))

  pub never_torn : (c : ℕ) → IsSealed ring h d.term c d.log → (j : ℕ) → j ≤ c → term_at d.log j ≡ term_at (h.book d.term) j
  never_torn c x zero le = refl
  never_torn c x (suc j) le = agree_term (suc j) (suc j) d.log (h.book d.term) (omega arith) (commit_agrees c x (suc j) (omega arith) le)

  pub prev_agrees : (q : ℕ) → q ≡ prev.position → q ≤ length d.log → term_at d.log q ≡ prev.term → Agree q d.log (h.book d.term)
  prev_agrees zero is le same = record { left = omega arith; right = omega arith; same = refl }
  prev_agrees (suc q) is le same =
      log_match ring h d.term d.term (suc q) d.log (h.book d.term) n.log book_log (omega arith) le (omega (arith, s.fits))
      (same ∙ (sym s.prev_term ∙ ap (term_at (h.book d.term)) (sym is)))

  module _ (a : Agree prev.position d.log (h.book d.term)) where
    abbrev rest : List Entry
    rest = unmatched d.log prev.position es

    pub merged : Merge d.log (h.book d.term) prev.position es rest
    merged = merge ring h d.term d.term d.log (h.book d.term) es prev.position n.log book_log s.fits a (sym win)

    pub whole : take merged.kept d.log ++ rest ≡ take (prev.position + length es) (h.book d.term)
    whole = merged_is d.log (h.book d.term) es rest prev.position merged s.fits

    pub cut_may : 0 < length rest → MayFollow ring h id d (take merged.kept d.log)
    cut_may some = record {
      leader = s.election;
      led = s.led;
      of_term = s.of_term;
      not_mine = not_mine;
      follows = cut_followed d.log (h.book d.term) es rest prev.position merged some;
      log = log_take ring h d.term merged.kept d.log merged.agree.left n.log;
    }

    pub add_may : MayFollow ring h id (record d { log = take merged.kept d.log }) (take merged.kept d.log ++ rest)
    add_may = record {
      leader = s.election;
      led = s.led;
      of_term = s.of_term;
      not_mine = not_mine;
      follows = more_followed (take merged.kept d.log) rest (h.book d.term);
      log = subst (IsBookedLog ring h d.term) (sym whole) (log_take ring h d.term (prev.position + length es) (h.book d.term) s.fits book_log);
    }

    -- where nothing conflicts the log is as it was, or goes on with what it did not have
    pub uncut : merged.kept ≡ length d.log → take merged.kept d.log ≡ d.log
    uncut is = take_all merged.kept d.log (omega arith)

    -- after the step the log has the book up to the last matched place
    pub holds_new : (l : List Entry) → l ≡ take merged.kept d.log ++ rest → Agree (prev.position + length es) l (h.book d.term)
    holds_new l is =
        subst (λ (m : List Entry). Agree (prev.position + length es) m (h.book d.term)) (sym (is ∙ whole))
        (let b = agree_take (prev.position + length es) (prev.position + length es) (h.book d.term) (omega arith) s.fits in
        agree_sym (prev.position + length es) (h.book d.term) (take (prev.position + length es) (h.book d.term)) b)

    pub holds_old : length rest ≡ 0 → Agree (prev.position + length es) d.log (h.book d.term)
    holds_old none = agree_less (prev.position + length es) merged.kept d.log (h.book d.term) (omega (arith, merged.count)) merged.agree

    -- the new commit count, from the message
    pub commit_new : (j : ℕ) (l : List Entry) → j ≤ mc → j ≤ prev.position + length es → Agree (prev.position + length es) l (h.book d.term)
        → IsSealed ring h d.term j l
    commit_new j l low high b = sealed_from_book ring h d.term mc j l low (agree_less j (prev.position + length es) l (h.book d.term) high b) s.sealed

    -- and the old one
    pub commit_old : (c : ℕ) (l : List Entry) → IsSealed ring h d.term c d.log → IsFollowed d.log l (h.book d.term) → IsBookedLog ring h d.term l
        → IsSealed ring h d.term c l
    commit_old c l x f log = seal_follows ring h id d l k n s.election s.led s.of_term not_mine f log c x
