use Rattle.std.proofs.Common.{◌≡◌, ◌<◌, false, length, get_or, sym, ◌∙◌, arith}
use Rattle.schedule_text.proofs.Cuts.{behind-pieces, cut_here}
use Rattle.schedule_text.proofs.cutting.cut.Goals as goal

pub loop-index-init : goal.loop-index-init
loop-index-init c = behind-pieces c.args.at false c.args.bytes.now

pub returns-then-not-quoted-clause-pieces : goal.returns-then-not-quoted-clause-pieces
returns-then-not-quoted-clause-pieces c =
    let lt : c.loop-index.index < length c.args.bytes.now = omega arith in
    let is : get_or c.args.bytes.now c.loop-index.index 0 ≡ c.args.at = grind arith in
    let out : c.loop-index.quoted ≡ false = grind arith in
    let here = cut_here c.args.at c.loop-index.quoted c.args.bytes.now c.loop-index.index lt is out in
    rw (c.split_at.ensures.front, c.split_at.ensures.back) (sym here ∙ c.loop-index.invariant)
