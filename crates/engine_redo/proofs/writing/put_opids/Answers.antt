use Rattle.engine_redo.proofs.ItemTexts.{opid_fits, opid_is_put}
use Rattle.engine_redo.proofs.writing.put_opids.Goals as goal

pub loop-opid-preserved : goal.loop-opid-preserved
loop-opid-preserved c = record {
  text = opid_is_put c.args.opids.now c.loop-opid.opid-index c.args.out.now.items c.loop-opid.out.items c.put_opid.new.out.items c.loop-opid-test.true c.loop-opid.invariant.text c.in_ok-put_opid.ensures.text;
  fits = λ others. c.loop-opid.invariant.fits (opid_fits c.args.opids.now c.loop-opid.opid-index c.loop-opid-test.true c.in_ok-put_opid.ensures.fits others);
}
