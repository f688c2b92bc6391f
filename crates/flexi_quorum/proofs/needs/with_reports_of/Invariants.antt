-- the reports of the votes so far stand after those before
use Rattle.std.proofs.Common.{◌≡◌, ◌++◌, map, take}
use Rattle.ring_types.specs.declared.entries.Vote.{Vote}
use Rattle.ring_model.specs.Needs.{Report}
use Rattle.flexi_quorum.proofs.needs.with_reports_of.Given as goal

abbrev pub invariant-loop-vote : goal.invariant-loop-vote
invariant-loop-vote l = l.told ≡ l.fn.reports ++ map (λ (v : Vote). let r : Report = record { voter = l.grant.voter; region = v.region } in r) (take l.vote-index l.vote-items)
