use Rattle.std.proofs.Common.{◌≡◌, true, arith}
use Rattle.ring_types.specs.Names.{is_name}
use Rattle.schedule_text.proofs.Utf8.{name_utf8}
use Rattle.schedule_text.proofs.changes.table.Goals as goal

pub returns : goal.returns
returns c =
    let named : is_name c.args.word.now ≡ true = grind arith in
    let whole = name_utf8 c.args.word.now named in
    let given = rw (c.in_ok-from_slice.ensures.items, whole) at c.text.ensures in
    rw named given
