use Rattle.std.proofs.Common.{sym, subst, ◌∙◌}
use Rattle.binlog_store.specs.Stands.{IsWritten}
use Rattle.binlog_store.proofs.Prefixes.{written_first}
use Rattle.binlog_store.proofs.held.HeldLog.cut.Goals as goal

pub of-requires-clause-written : goal.of-requires-clause-written
of-requires-clause-written c =
    subst (IsWritten c.args.schema.now) (sym (c.as_slice.ensures ∙ c.truncate.ensures)) (written_first c.args.schema.now c.args.count c.args.self.now.entries c.requires.written)
