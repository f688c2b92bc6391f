use Rattle.std.proofs.Common.{arith, subst, sym, ◌∙◌}
use Rattle.entry_group.proofs.GroupTakes.{group_takes}
use Rattle.binlog_store.specs.Stands.{IsWritten}
use Rattle.binlog_store.proofs.LongerLogs.{next_counted}
use Rattle.binlog_store.proofs.NextReads.{read_size, read_stands}
use Rattle.binlog_store.proofs.held.HeldLog.read_next.Goals as goal

pub put-requires-clause-stands : goal.put-requires-clause-stands
put-requires-clause-stands c =
    (group_takes c.args.schema.now c.args.bytes.now c.args.self.now.end.place c.in_ok-read.read c.requires.schema (λ i. omega (arith, c.type_inv.bytes i)) c.in_ok-read.ensures.given).entry

pub put-requires-clause-counted : goal.put-requires-clause-counted
put-requires-clause-counted c = next_counted c.args.schema.now c.args.self.now.entries c.args.self.now.end c.requires.held c.requires.written

pub returns-clause-written : goal.returns-clause-written
returns-clause-written c =
    let stands = read_stands c.args.schema.now c.args.self.now.entries c.args.self.now.end c.args.bytes.now c.in_ok-read.read c.requires.held
    (sym c.begins_next.ensures ∙ c.if-not-begins_next.false) c.in_ok-read.ensures.given c.requires.schema (λ i. omega (arith, c.type_inv.bytes i)) c.requires.written in
    subst (IsWritten c.args.schema.now) (sym c.in_ok-push.ensures.ok) stands.written

pub returns-clause-within : goal.returns-clause-within
returns-clause-within c =
    read_size c.args.schema.now c.args.bytes.now c.args.self.now.end.place c.in_ok-read.read
    (group_takes c.args.schema.now c.args.bytes.now c.args.self.now.end.place c.in_ok-read.read c.requires.schema (λ i. omega (arith, c.type_inv.bytes i)) c.in_ok-read.ensures.given)
