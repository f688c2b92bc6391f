use Rattle.std.proofs.Common.{◌≡◌, ◌++◌, take}
use Rattle.std.specs.List.{flat_map}
use Rattle.report_text.specs.Report.{vote_line}
use Rattle.report_text.proofs.node_block.put_vote_lines.Given as goal

abbrev pub invariant-loop-vote : goal.invariant-loop-vote
invariant-loop-vote l = l.out.items ≡ l.initial.out.items ++ flat_map vote_line (take l.vote-index l.votes)
