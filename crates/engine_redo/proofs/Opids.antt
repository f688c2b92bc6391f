-- The opids so far and those to come are all of them: what is read goes behind what was read.
use Rattle.std.proofs.Common.{◌≡◌, ℕ, suc, ◌+◌, ◌-◌, ◌<◌, List, [], ◌∷◌, ◌++◌, Result, Ok, Err, refl, sym, ap, subst, ◌∙◌, arith, append_assoc}
use Rattle.std.proofs.lemmas.List.{append-nil}
use Rattle.event_frame.specs.Forms.{and_then, front_of}
use Rattle.event_frame.specs.declared.field_readers.FieldFault.{FieldFault}
use Rattle.event_frame.specs.declared.field_readers.FieldFault.TheVariants.{Cut}
use Rattle.engine_redo.specs.Items.{opid_form, opids_form}
use Rattle.ring_types.specs.declared.entries.Opid.{Opid}

abbrev pub Opids : Type 0
Opids = Result (List Opid × List ℕ) FieldFault

-- these opids before those that are read
abbrev pub after : List Opid → Opids → Opids
after front r = and_then r (λ x. Ok (front ++ x.0, x.1))

-- so many opids are still to be read, after these
abbrev pub IsLeft : ℕ → List Opid → List ℕ → Opids → Type 0
IsLeft left opids rest all = after opids (front_of Cut (opids_form left) rest) ≡ all

further : (left : ℕ) (front : List Opid) (opid : Opid) (rest : List ℕ) (r : Result (Opid × List ℕ) FieldFault) (more : List ℕ) → r ≡ Ok (opid, more)
    → after front (and_then r (λ p. and_then (front_of Cut (opids_form left) p.1) (λ q. Ok (p.0 ∷ q.0, q.1)))) ≡ after (front ++ opid ∷ []) (front_of Cut (opids_form left) more)
further left front opid rest r more e = rw e (moved (front_of Cut (opids_form left) more))
  where
    moved : (s : Opids) → after front (and_then s (λ q. Ok (opid ∷ q.0, q.1))) ≡ after (front ++ opid ∷ []) s
    moved (Ok q) = ap (λ (x : List Opid). Ok (x, q.1)) (sym (append_assoc front (opid ∷ []) q.0))
    moved (Err f) = refl

one_less : (count counter : ℕ) → counter < count → count - counter ≡ suc (count - (counter + 1))
one_less count counter lt = omega (arith, lt)

-- one more was read
pub goes_on : (count counter : ℕ) (opids : List Opid) (opid : Opid) (rest more : List ℕ) (all : Opids) → counter < count → IsLeft (count - counter) opids rest all
    → front_of Cut opid_form rest ≡ Ok (opid, more) → IsLeft (count - (counter + 1)) (opids ++ opid ∷ []) more all
goes_on count counter opids opid rest more all lt so_far read =
    sym (further (count - (counter + 1)) opids opid rest (front_of Cut opid_form rest) more read) ∙ subst (λ (n : ℕ). IsLeft n opids rest all) (one_less count counter lt) so_far

failing : (left : ℕ) (front : List Opid) (r : Result (Opid × List ℕ) FieldFault) (f : FieldFault) → r ≡ Err f
    → after front (and_then r (λ p. and_then (front_of Cut (opids_form left) p.1) (λ q. Ok (p.0 ∷ q.0, q.1)))) ≡ Err f
failing left front r f e = rw e refl

-- the next was not read
pub fails : (count counter : ℕ) (opids : List Opid) (rest : List ℕ) (all : Opids) (f : FieldFault) → counter < count → IsLeft (count - counter) opids rest all → front_of Cut opid_form rest ≡ Err f → all ≡ Err f
fails count counter opids rest all f lt so_far read =
    sym (subst (λ (n : ℕ). IsLeft n opids rest all) (one_less count counter lt) so_far) ∙ failing (count - (counter + 1)) opids (front_of Cut opid_form rest) f read

-- none is left
pub ends : (left : ℕ) (opids : List Opid) (rest : List ℕ) (all : Opids) → left ≡ 0 → IsLeft left opids rest all → all ≡ Ok (opids, rest)
ends left opids rest all e so_far = sym (subst (λ (n : ℕ). IsLeft n opids rest all) e so_far) ∙ ap (λ (x : List Opid). Ok (x, rest)) (append-nil opids)

-- all are left
pub begins : (count : ℕ) (bytes : List ℕ) → IsLeft count [] bytes (front_of Cut (opids_form count) bytes)
begins count bytes = same (front_of Cut (opids_form count) bytes)
  where
    same : (s : Opids) → after [] s ≡ s
    same (Ok q) = refl
    same (Err f) = refl
