-- No GTID stands twice in a log: a write takes a number above all of its server's.
use Rattle.std.proofs.Common.{◌≡◌, ℕ, ◌+◌, ◌-◌, ◌^◌, ◌<◌, ◌≤◌, ◌==◌, [], ◌∷◌, ◌++◌, ◌∙◌, if◌then◌else◌, Bool, List, None, Option, Some, ap, arith, false, fold, inl, inr, length, max, refl, suc, sym, take, true, zero}
use Rattle.std.proofs.lemmas.Bool.{cases_lt}
use Rattle.std.proofs.lemmas.Bool.Decides.{nat_tests}
use Rattle.std.specs.Prelude.{is_none, nat_lt, slice_get, unwrap_or}
use Rattle.ring_types.specs.declared.entries.Entry.{Entry}
use Rattle.ring_types.specs.declared.entries.Payload.{Payload}
use Rattle.ring_types.specs.declared.entries.Payload.TheVariants as payload
use Rattle.ring_types.specs.declared.values.Gtid.{Gtid}
use Rattle.ring_types.specs.declared.values.Txn.{Txn}
use Rattle.ring_types.specs.Gtids.{greatest_number, gtid_of, gtids_in, next_number, numbers_of}
use Rattle.ring_types.specs.Logs.{entry_at}
use Rattle.ring_model.specs.Actions.{pairs_in}

-- no GTID comes twice
abbrev pub Once : List Entry → Type 0
Once l = (j k : ℕ) (d e : Entry) (g : Gtid) → entry_at l j ≡ Some d → entry_at l k ≡ Some e → gtid_of d ≡ Some g → gtid_of e ≡ Some g → j ≡ k

pub none_once : Once []
none_once zero k d e g a b x y = absurd cc
none_once (suc j) k d e g a b x y = absurd cc

-- an entry of a beginning stands in the list
cut_at : (n : ℕ) (l : List Entry) (k : ℕ) (e : Entry) → slice_get (take n l) k ≡ Some e → slice_get l k ≡ Some e
cut_at zero l k e is = absurd cc
cut_at (suc n) [] k e is = is
cut_at (suc n) (f ∷ l) zero e is = is
cut_at (suc n) (f ∷ l) (suc k) e is = cut_at n l k e is

cut_entry : (n : ℕ) (l : List Entry) (k : ℕ) (e : Entry) → entry_at (take n l) k ≡ Some e → entry_at l k ≡ Some e
cut_entry n l zero e is = absurd cc
cut_entry n l (suc k) e is = cut_at n l k e is

pub once_take : (n : ℕ) (l : List Entry) → Once l → Once (take n l)
once_take n l x j k d e g a b y z = x j k d e g (cut_entry n l j d a) (cut_entry n l k e b) y z

-- an entry of a list with one more at the end
pushed_at : (l : List Entry) (x : Entry) (k : ℕ) (e : Entry) → slice_get (l ++ x ∷ []) k ≡ Some e → k < length l → slice_get l k ≡ Some e
pushed_at [] x k e is lt = absurd (omega (arith, lt))
pushed_at (f ∷ l) x zero e is lt = is
pushed_at (f ∷ l) x (suc k) e is lt = pushed_at l x k e is (omega (arith, lt))

pushed_end : (l : List Entry) (x : Entry) (k : ℕ) (e : Entry) → slice_get (l ++ x ∷ []) k ≡ Some e → length l ≤ k → (k ≡ length l) × (x ≡ e)
pushed_end [] x zero e is le = (refl, cc)
pushed_end [] x (suc k) e is le = absurd cc
pushed_end (f ∷ l) x zero e is le = absurd (omega (arith, le))
pushed_end (f ∷ l) x (suc k) e is le = let y = pushed_end l x k e is (omega (arith, le)) in (ap suc y.0, y.1)

-- the entry's GTID, if it has one, is none of the list's
abbrev IsFresh : List Entry → Entry → Type 0
IsFresh l x = (k : ℕ) (e : Entry) (g : Gtid) → slice_get l k ≡ Some e → gtid_of e ≡ Some g → gtid_of x ≡ Some g → ⊥

once_push : (l : List Entry) (x : Entry) → IsFresh l x → Once l → Once (l ++ x ∷ [])
once_push l x fresh o zero k d e g a b y z = absurd cc
once_push l x fresh o (suc j) zero d e g a b y z = absurd cc
once_push l x fresh o (suc j) (suc k) d e g a b y z = elim (cases_lt j (length l)) [
  | inl low_j ↦ elim (cases_lt k (length l)) [
    | inl low_k ↦ o (suc j) (suc k) d e g (pushed_at l x j d a low_j) (pushed_at l x k e b low_k) y z
    | inr high_k ↦ (let q = pushed_end l x k e b high_k in absurd (fresh j d g (pushed_at l x j d a low_j) y (ap gtid_of q.1 ∙ z)))
  ]
  | inr high_j ↦ (let p = pushed_end l x j d a high_j in elim (cases_lt k (length l)) [
    | inl low_k ↦ absurd (fresh k e g (pushed_at l x k e b low_k) z (ap gtid_of p.1 ∙ y))
    | inr high_k ↦ (let q = pushed_end l x k e b high_k in ap suc (p.0 ∙ sym q.0))
  ])
]

pub once_plain : (l : List Entry) (x : Entry) → pairs_in (x ∷ []) ≡ [] → Once l → Once (l ++ x ∷ [])
once_plain l x none o = once_push l x (λ k e g at is bad. absurd (let z = no_gtid x.payload refl in let q : None ≡ Some g = sym z ∙ bad in cc)) o
  where
    no_gtid : (p : Payload) → x.payload ≡ p → gtid_of x ≡ None
    no_gtid payload.NoOp is = rw is refl
    no_gtid payload.Rotate is = rw is refl
    no_gtid (payload.Txn t) is = absurd (let u = rw is at none in cc)

-- ---- numbers
most : (m : ℕ) (ns : List ℕ) → m ≤ fold (λ (m : ℕ) (n : ℕ). max m n) m ns
most m [] = omega arith
most m (n ∷ ns) = let y = most (max m n) ns in omega (arith, y)

among : (server m : ℕ) (l : List Entry) (k : ℕ) (e : Entry) (g : Gtid) → slice_get l k ≡ Some e → gtid_of e ≡ Some g → (g.server == server) ≡ true → g.number ≤ fold (λ (m : ℕ) (n : ℕ). max m n) m (numbers_of server (gtids_in l))
among server m [] k e g at is same = absurd cc
among server m (f ∷ l) zero e g at is same =
    let here : gtid_of f ≡ Some g = (let z : f ≡ e = cc in ap gtid_of z ∙ is) in
    rw here (rw same (let y = most (max m g.number) (numbers_of server (gtids_in l)) in omega (arith, y)))
among server m (f ∷ l) (suc k) e g at is same = go (gtid_of f) refl (λ n. among server n l k e g at is same)
  where
    pick : (q : Gtid) (b : Bool) → (q.server == server) ≡ b → ((n : ℕ) → g.number ≤ fold (λ (m : ℕ) (n : ℕ). max m n) n (numbers_of server (gtids_in l)))
        → g.number ≤ fold (λ (m : ℕ) (n : ℕ). max m n) m (numbers_of server (q ∷ gtids_in l))
    pick q true y more = rw y (more (max m q.number))
    pick q false y more = rw y (more m)

    go : (o : Option Gtid) → gtid_of f ≡ o → ((n : ℕ) → g.number ≤ fold (λ (m : ℕ) (n : ℕ). max m n) n (numbers_of server (gtids_in l)))
        → g.number ≤ fold (λ (m : ℕ) (n : ℕ). max m n) m (numbers_of server (gtids_in (f ∷ l)))
    go None y more = rw y (more m)
    go (Some q) y more = rw y (pick q (q.server == server) refl more)

next_above : (g : ℕ) → is_none (if nat_lt g (2 ^ 63 - 2) then Some (g + 1) else None) ≡ false → unwrap_or (if nat_lt g (2 ^ 63 - 2) then Some (g + 1) else None) 0 ≡ g + 1
next_above g is = go (nat_lt g (2 ^ 63 - 2)) is
  where
    go : (b : Bool) → is_none (if b then Some (g + 1) else None) ≡ false → unwrap_or (if b then Some (g + 1) else None) 0 ≡ g + 1
    go true y = refl
    go false y = absurd (let z : true ≡ false = y in cc)

-- a transaction with the next number of a server, where there is one
pub once_write : (l : List Entry) (x : Entry) (t : Txn) (server : ℕ) → x.payload ≡ payload.Txn t → t.gtid ≡ record { server = server; number = unwrap_or (next_number server l) 0 } → is_none (next_number server l) ≡ false
    → Once l → Once (l ++ x ∷ [])
once_write l x t server is gtid some o = once_push l x fresh o
  where
    fresh : IsFresh l x
    fresh k e g at has same = absurd (
        let own : gtid_of x ≡ Some t.gtid = rw is refl in
        let z : t.gtid ≡ g = (let u : Some t.gtid ≡ Some g = sym own ∙ same in cc) in
        let q : record { server = server; number = unwrap_or (next_number server l) 0 } ≡ g = sym gtid ∙ z in
        let s : server ≡ g.server = ap (λ (w : Gtid). w.server) q in
        let n : unwrap_or (next_number server l) 0 ≡ g.number = ap (λ (w : Gtid). w.number) q in
        let above : unwrap_or (next_number server l) 0 ≡ greatest_number server l + 1 = next_above (greatest_number server l) some in
        let low = among server 0 l k e g at has (grind (arith, nat_tests, s)) in
        let low2 : g.number ≤ greatest_number server l = low in
        omega (arith, above, n, low2)
        )
