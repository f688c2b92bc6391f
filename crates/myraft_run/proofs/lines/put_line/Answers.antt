use Rattle.std.proofs.Common.{codes, map, string_bytes, ◌++◌}
use Rattle.myraft_run.specs.Stops.{head_of, object_of, line_of}
use Rattle.myraft_run.proofs.PutMore.{put_after}
use Rattle.myraft_run.proofs.lines.put_line.Goals as goal

pub returns-clause-told : goal.returns-clause-told
unfolding line_of
returns-clause-told g c =
    put_after _ _ _ (head_of c.args.stop.now ++ object_of (map string_bytes c.args.words.now) c.args.stop.now) (codes "\n") _ c.in_ok-put_head.ensures.told c.put_end.ensures.told
