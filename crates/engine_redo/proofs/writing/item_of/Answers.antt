use Rattle.ring_model.specs.declared.effects.Action.TheVariants as action
use Rattle.engine_redo.proofs.ItemTexts.{all_fit, item_made}
use Rattle.engine_redo.proofs.writing.item_of.Goals as goal

pub returns-in-Prepare : goal.returns-in-Prepare
returns-in-Prepare c = item_made c.args.schema.now (λ it. it.items) c.args.item.now (action.Prepare c.in-Prepare.pair) c.prepare_item.result c.in-Prepare.is c.prepare_item.ensures.text c.prepare_item.ensures.fits

pub returns-in-Commit : goal.returns-in-Commit
returns-in-Commit c =
    let made = action.Commit c.in-Commit.position in
    item_made c.args.schema.now (λ it. it.items) c.args.item.now made c.position_item.result c.in-Commit.is c.position_item.ensures.text (all_fit c.args.schema.now made c.position_item.result c.position_item.ensures.fits)

pub returns-in-RollBackAfter : goal.returns-in-RollBackAfter
returns-in-RollBackAfter c =
    let made = action.RollBackAfter c.in-RollBackAfter.position in
    let r = c.position_item-in-RollBackAfter in
    item_made c.args.schema.now (λ it. it.items) c.args.item.now made r.result c.in-RollBackAfter.is r.ensures.text (all_fit c.args.schema.now made r.result r.ensures.fits)

pub returns-in-DropPairs : goal.returns-in-DropPairs
returns-in-DropPairs c =
    item_made c.args.schema.now (λ it. it.items) c.args.item.now (action.DropPairs c.in-DropPairs.opids) c.drop_item.result c.in-DropPairs.is (c.drop_item.ensures.text c.args.schema.now) (c.drop_item.ensures.fits c.args.schema.now)
