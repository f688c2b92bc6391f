-- A content tells one longest log at most: of two that it tells one goes on where the other ends, and a longest one goes on with no entry.
use Rattle.std.proofs.Common.{◌≡◌, ℕ, inl, inr, List, [], ◌∷◌, ◌++◌, sym, ap, subst, ◌∙◌, append_assoc, append-nil}
use Rattle.ring_types.specs.declared.entries.Entry.{Entry}
use Rattle.ring_types.specs.declared.schemas.Schema.{Schema}
use Rattle.edge_traits.specs.FileStates.{Contents}
use Rattle.binlog_store.specs.Added.{added, continued}
use Rattle.binlog_store.specs.Longest.{IsLongest, Tells}
use Rattle.binlog_store.specs.Stands.{ReadsFiles}
use Rattle.binlog_store.proofs.Continuing.{files_go_on}
use Rattle.binlog_store.proofs.HeldFiles.{reads_shorter}
use Rattle.binlog_store.proofs.NextPlaces.{some_files}
use Rattle.binlog_store.proofs.OneLonger.{OneGoesOn, one_goes_on}
use Rattle.binlog_store.proofs.Prefixes.{written_still}

module _ (schema : Schema) (c : Contents) where
  -- with a log each prefix of it is told
  tells_shorter : (log more : List Entry) → Tells schema c (log ++ more) → Tells schema c log
  tells_shorter log more told =
      let some = some_files schema log in
      let whole = files_go_on schema log more ∙ ap (λ (z : List (List ℕ)). continued z (added schema log more)) some.2 in
      record {
        written = written_still schema log more told.written;
        read = subst (ReadsFiles c 1) (sym some.2) (reads_shorter c 1 some.0 some.1 (added schema log more) (subst (ReadsFiles c 1) whole told.read));
      }

  ends_there : (a b more : List Entry) → IsLongest schema c a → Tells schema c b → b ≡ a ++ more → b ≡ a
  ends_there a b [] longest told is = is ∙ append-nil a
  ends_there a b (e ∷ more) longest told is =
      absurd (longest.longest e (tells_shorter (a ++ e ∷ []) more (subst (Tells schema c) (is ∙ sym (append_assoc a (e ∷ []) more)) told)))

  same_end : (a b : List Entry) → IsLongest schema c a → IsLongest schema c b → OneGoesOn a b → a ≡ b
  same_end a b x y (inl h) = sym (ends_there a b h.0 x y.told h.1)
  same_end a b x y (inr h) = ends_there b a h.0 y x.told h.1

  pub one_longest : (a b : List Entry) → IsLongest schema c a → IsLongest schema c b → a ≡ b
  one_longest a b x y = same_end a b x y (one_goes_on schema c a b x.told y.told)
