use Rattle.std.proofs.Common.{◌≡◌, ◌∙◌, ap, ap₂, sym, subst, List, Some, None, ℕ, get_or}
use Rattle.ring_types.specs.declared.entries.Pair.{Pair}
use Rattle.prepared_txns.specs.Conflicts.{conflict_from}
use Rattle.prepared_txns.specs.Holders.{AreFree, AreHeld, ArePut}
use Rattle.prepared_txns.proofs.Held.{free_from, held_more}
use Rattle.prepared_txns.proofs.Moving.{read_last}
use Rattle.prepared_txns.proofs.transactions.Prepared.keep.Goals as goal

pub lock-requires : goal.lock-requires
lock-requires c =
    let here = c.self.inside in
    let p = c.args.pair in
    let none : conflict_from 0 here.pairs p.txn.changes ≡ None = ap (λ (pairs : List Pair). conflict_from 0 pairs p.txn.changes) c.self.view_is ∙ c.requires in
    let read = c.index-as_slice-at.result in
    let same : read ≡ p =
    c.index-as_slice-at.is ∙ (ap₂ (λ (pairs : List Pair) (at : ℕ). get_or pairs at read) (c.as_slice.ensures ∙ c.in_ok-push.ensures.ok) c.len-at.ensures
    ∙ read_last here.pairs p read) in
    subst (λ (q : Pair). AreFree q.txn.changes here.holders) (sym same) (free_from 0 here.pairs here.holders p.txn.changes c.self.invariant none)

pub invariant_of-self-in-Ok : goal.invariant_of-self-in-Ok
invariant_of-self-in-Ok c =
    let here = c.self.inside in
    let p = c.args.pair in
    let none : conflict_from 0 here.pairs p.txn.changes ≡ None = ap (λ (pairs : List Pair). conflict_from 0 pairs p.txn.changes) c.self.view_is ∙ c.requires in
    let read = c.index-as_slice-at.result in
    let same : read ≡ p =
    c.index-as_slice-at.is ∙ (ap₂ (λ (pairs : List Pair) (at : ℕ). get_or pairs at read) (c.as_slice.ensures ∙ c.in_ok-push.ensures.ok) c.len-at.ensures
    ∙ read_last here.pairs p read) in
    let put : ArePut p.txn.changes (Some p.opid) here.holders c.lock.new.holders = subst
    (λ (q : Pair). ArePut q.txn.changes (Some q.opid) here.holders c.lock.new.holders) same c.in-Ok.ensures.ok in
    let held = held_more here.pairs p here.holders c.lock.new.holders c.self.invariant
    (free_from 0 here.pairs here.holders p.txn.changes c.self.invariant none) put in
    subst (λ (pairs : List Pair). AreHeld pairs c.lock.new.holders) (sym c.in_ok-push.ensures.ok) held
