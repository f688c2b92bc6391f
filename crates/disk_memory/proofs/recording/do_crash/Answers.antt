use Rattle.disk_memory.proofs.PastLaws.{crash_agrees}
use Rattle.disk_memory.proofs.recording.do_crash.Goals as goal

pub returns-in-Ok-clause-same : goal.returns-in-Ok-clause-same
returns-in-Ok-clause-same c =
    let steps = c.args.steps.now.items in
    let table = c.args.table.now in
    rw c.in_ok-push.ensures.items (crash_agrees steps table c.crash.new.self c.requires c.args.keep c.in-Ok.ensures.ok)
