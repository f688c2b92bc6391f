-- what is kept, with what is kept of the rest, is the whole
use Rattle.std.proofs.Common.{◌≡◌, ◌++◌, drop}
use Rattle.gtid_set.specs.Texts.{unfed, without_feeds}
use Rattle.gtid_set.proofs.texts.without_feeds.Given as goal

abbrev pub invariant-loop-byte : goal.invariant-loop-byte
invariant-loop-byte l = l.kept.items ++ unfed l.behind_comma (drop l.byte-index l.text) ≡ without_feeds l.text
