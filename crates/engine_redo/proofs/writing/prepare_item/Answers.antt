use Rattle.std.proofs.Common.{◌≡◌, ◌+◌, ◌≤◌, length, arith, rules}
use Rattle.event_txn.proofs.GroupSizes.{txn_length}
use Rattle.ring_types.specs.Sizes.{group_limit}
use Rattle.engine_redo.specs.Items.{front_place}
use Rattle.engine_redo.specs.Writing.{events_of}
use Rattle.engine_redo.proofs.writing.prepare_item.Goals as goal

pub overflow_cast-len : goal.overflow_cast-len
overflow_cast-len c =
    let txn = c.args.pair.now.txn in
    let size = txn_length c.args.schema.now txn c.args.pair.now.opid.position front_place c.requires.txn.tables c.requires.txn.fit in
    let len : c.len.result ≡ length (events_of c.args.schema.now c.args.pair.now) = search rules in
    omega (arith, len, size, c.requires.small)

pub returns-clause-fits : goal.returns-clause-fits
returns-clause-fits c =
    let txn = c.args.pair.now.txn in
    let size = txn_length c.args.schema.now txn c.args.pair.now.opid.position front_place c.requires.txn.tables c.requires.txn.fit in
    let small : length (events_of c.args.schema.now c.args.pair.now) + 42 ≤ group_limit = omega (arith, size, c.requires.small) in
    (c.in_ok-put_opid.ensures.fits, c.requires.txn, small)
