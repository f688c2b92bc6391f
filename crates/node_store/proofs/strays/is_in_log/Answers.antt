use Rattle.std.proofs.Common.{◌∙◌, sym}
use Rattle.node_store.proofs.StrayPairs.{seen, unseen}
use Rattle.node_store.proofs.strays.is_in_log.Goals as goal

pub returns-in-Some : goal.returns-in-Some
returns-in-Some c = c.same_opid.ensures ∙ seen c.args.log.now c.args.opid c.in-Some.entry.now c.requires (sym c.in-Some.ensures)

pub returns-in-None : goal.returns-in-None
returns-in-None c = unseen c.args.log.now c.args.opid c.requires (sym c.in-None.ensures)
