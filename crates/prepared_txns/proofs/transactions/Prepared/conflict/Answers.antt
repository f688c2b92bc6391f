use Rattle.std.proofs.Common.{◌∙◌, ap, List}
use Rattle.ring_types.specs.declared.entries.Pair.{Pair}
use Rattle.ring_types.specs.declared.values.Change.{Change}
use Rattle.prepared_txns.specs.Conflicts.{conflict_from}
use Rattle.prepared_txns.specs.Holders.{first_conflict}
use Rattle.prepared_txns.proofs.Held.{conflict_is}
use Rattle.prepared_txns.proofs.transactions.Prepared.conflict.Goals as goal

pub returns : goal.returns
returns c =
    let here = c.self.inside in
    c.conflict.ensures
    ∙ (ap (λ (changes : List Change). first_conflict 0 here.holders changes) c.as_slice.ensures
    ∙ (conflict_is 0 here.pairs here.holders c.args.changes.now c.self.invariant
    ∙ ap (λ (pairs : List Pair). conflict_from 0 pairs c.args.changes.now) c.self.view_is))
