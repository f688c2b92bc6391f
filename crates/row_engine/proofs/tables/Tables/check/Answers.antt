-- the change that was accepted joins those before it
use Rattle.std.proofs.Common.{◌∙◌, ap, sym, arith, take}
use Rattle.ring_types.specs.Rows.{all_changed, refusal_of}
use Rattle.row_engine.proofs.Checked.{accepted_more}
use Rattle.row_engine.proofs.tables.Tables.check.Goals as goal

pub loop-at-preserved : goal.loop-at-preserved
loop-at-preserved c = record {
  within = omega arith;
  same =
      let here = c.args.self.now in
      let changes = c.as_slice-changes.result.now in
      let d = c.index-changes-at.result in
      let accepted =
      ap (refusal_of here.schema (all_changed here.schema here.rows (take c.loop-at.at changes))) (sym c.index-changes-at.is)
      ∙ sym c.refusal_after.ensures ∙ c.in_default.is in
      sym (accepted_more here.schema here.rows changes c.loop-at.at d (omega arith) accepted) ∙ c.loop-at.invariant.same;
}
