use Rattle.std.proofs.Common.{◌≡◌, ◌∙◌, sym, true, false}
use Rattle.gtid_set.specs.Reading.{are_canonical}
use Rattle.gtid_set.proofs.BytesAgain.{canonical_told, canonical_true}
use Rattle.gtid_set.proofs.sets.GtidSet.of.Goals as goal

pub kept-requires : goal.kept-requires
kept-requires c = canonical_told 0 c.args.servers.now (sym c.are_canonical.ensures ∙ c.if-are_canonical.true)

pub invariant_of-result : goal.invariant_of-result
invariant_of-result c = rw c.in_ok-servers.ensures (canonical_told 0 c.args.servers.now (sym c.are_canonical.ensures ∙ c.if-are_canonical.true))

pub returns-in_ok-servers-clause-canonical : goal.returns-in_ok-servers-clause-canonical
returns-in_ok-servers-clause-canonical c = rw c.in_ok-servers.ensures (canonical_told 0 c.args.servers.now (sym c.are_canonical.ensures ∙ c.if-are_canonical.true))

pub returns-else-are_canonical-clause-value : goal.returns-else-are_canonical-clause-value
returns-else-are_canonical-clause-value c = λ h.
    let no : are_canonical 0 c.args.servers.now ≡ false = sym c.are_canonical.ensures ∙ c.if-are_canonical.false in
    let yes = canonical_true 0 c.args.servers.now h in
    absurd (let z : true ≡ false = sym yes ∙ no in cc)
