use Rattle.std.proofs.Common.{refl}
use Rattle.node_unit.proofs.Standing.{stands_for}
use Rattle.node_unit.proofs.plans.acked.Goals as goal

pub on_ack-requires : goal.on_ack-requires
on_ack-requires g c = record {
  node = stands_for _ _ c.args.kept.now.ring.now c.args.kept.now.me c.args.kept.now.store.now c.args.soft.now _ c.requires.of c.requires.fit
      (record {
        ring_is = refl;
        me_is = refl;
        term_is = c.term.ensures;
        votes_are = c.history.ensures;
        gtids_are = c.gtids.ensures;
        tables_are = c.tables.ensures;
        applied_is = c.applied.ensures;
        pairs_are = c.prepared.ensures;
        file_is = c.file.ensures;
      })
      c.requires.read.sight (λ _. c.requires.read.stand);
}
