use Rattle.std.proofs.Common.{rules, ◌≡◌, ◌∙◌, ap, List, get_or, ◌<◌, length}
use Rattle.ring_types.specs.declared.entries.Pair.{Pair}
use Rattle.prepared_txns.proofs.Moving.{kept_more, kept_less}
use Rattle.prepared_txns.proofs.keeping.keep_those.Goals as goal
use Rattle.prepared_txns.proofs.keeping.keep_those.Goals.{then-keeps, else-keeps}

pub loop-at-preserved : goal.loop-at-preserved
loop-at-preserved g c =
    let keeps = g.K.Keeping.keeps c.args.test.now in
    let at = c.loop-at.at in
    let p = c.index-as_slice-at.result in
    let is : p ≡ get_or c.loop-at.pairs at p = c.index-as_slice-at.is ∙ ap (λ (ps : List Pair). get_or ps at p) c.as_slice.ensures in
    let inside : at < length c.loop-at.pairs = search rules in
    elim c.if-keeps.branch [
      | then-keeps w ↦ rw (w.pairs-is, w.holders-is, w.kept-is)
          (kept_more keeps at c.loop-at.kept c.args.pairs.now c.loop-at.pairs c.loop-at.holders p inside is c.loop-at.invariant w.move_down.new.pairs
          (search rules) w.move_down.ensures)
      | else-keeps w ↦ rw (w.pairs-is, w.holders-is, w.kept-is)
          (kept_less keeps at c.loop-at.kept c.args.pairs.now c.loop-at.pairs c.loop-at.holders p inside is c.loop-at.invariant w.release.new.holders
          (search rules) w.release.ensures)
    ]
