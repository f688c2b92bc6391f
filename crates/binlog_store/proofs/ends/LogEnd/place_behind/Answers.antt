use Rattle.std.proofs.Common.{◌≡◌, length, arith}
use Rattle.std.proofs.lemmas.Bool.Decides.{nat_tests}
use Rattle.entry_group.specs.Groups.{group}
use Rattle.entry_group.proofs.GroupLaws.{group_length}
use Rattle.binlog_store.proofs.ends.LogEnd.place_behind.Goals as goal

pub returns-else-size : goal.returns-else-size
returns-else-size c = λ before is.
    let told = c.group_size-size.ensures in
    let not_last = c.if-size.false in
    let long = group_length c.args.schema.now c.args.entry.now c.args.self.now.place c.requires.stands in
    let size : c.group_size-size.result ≡ length (group c.args.schema.now c.args.entry.now c.args.self.now.place) = grind (arith, nat_tests, told, not_last, long) in
    c.behind_group.ensures c.args.schema.now before size
