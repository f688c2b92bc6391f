use Rattle.std.proofs.Common.{◌≡◌, ◌++◌, drop}
use Rattle.engine_redo.specs.Writing.{FitOpids, opids_text}
use Rattle.engine_redo.proofs.writing.put_opids.Given as goal

abbrev pub invariant-loop-opid : goal.invariant-loop-opid
invariant-loop-opid l = record {
  text : l.out.items ++ opids_text (drop l.opid-index l.opids) ≡ l.initial.out.items ++ opids_text l.opids;
  fits : FitOpids (drop l.opid-index l.opids) → FitOpids l.opids;
}
