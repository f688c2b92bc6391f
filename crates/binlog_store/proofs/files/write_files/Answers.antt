use Rattle.std.proofs.Common.{◌+◌, ◌∙◌, refl, arith}
use Rattle.edge_traits.specs.declared.disks.FileId.TheVariants as id
use Rattle.binlog_store.proofs.FileReads.{same_number}
use Rattle.binlog_store.proofs.WholeFiles.{settled_next, works_next}
use Rattle.binlog_store.proofs.files.write_files.Goals as goal

pub loop-i-preserved : goal.loop-i-preserved
loop-i-preserved g c = record {
  here = λ told.
      let told_too = c.loop-i.invariant.tells ∙ told in
      settled_next (g.D.Disk.files c.loop-i.disk) (g.D.Disk.files c.write_file.new.disk) c.args.first c.loop-i.i (c.args.first + c.loop-i.i) c.args.files.now _ c.as_slice.result.now
      (omega arith) (c.as_slice.ensures ∙ c.index-files-i.is) refl (c.loop-i.invariant.here told)
      (c.write_file.ensures.crash told_too).elsewhere (c.in_ok-write_file.ensures.here told_too);
  above = λ told n least.
      (c.write_file.ensures.crash (c.loop-i.invariant.tells ∙ told)).elsewhere (id.Binlog n) (λ is. absurd (omega (arith, same_number n (c.args.first + c.loop-i.i) is, least)))
      ∙ c.loop-i.invariant.above told n (omega (arith, least));
  crash = λ told. works_next c.args.first (c.args.first + c.loop-i.i) (omega arith) (c.loop-i.invariant.crash told) (c.write_file.ensures.crash (c.loop-i.invariant.tells ∙ told));
  story = c.write_file.ensures.story ∙ c.loop-i.invariant.story;
  tells = c.write_file.ensures.tells ∙ c.loop-i.invariant.tells;
  later = omega (arith, c.loop-i.invariant.later, c.write_file.ensures.later);
}
