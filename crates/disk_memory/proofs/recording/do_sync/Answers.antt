use Rattle.std.proofs.Common.{subst, ℕ}
use Rattle.disk_memory.specs.Records.{all_synced, reads}
use Rattle.disk_memory.specs.Pasts.{record_at}
use Rattle.disk_memory.specs.Tables.{IsPut}
use Rattle.disk_memory.proofs.PastLaws.{sync_agrees}
use Rattle.disk_memory.proofs.recording.do_sync.Goals as goal

pub returns-in-Ok-clause-same : goal.returns-in-Ok-clause-same
returns-in-Ok-clause-same c =
    let steps = c.args.steps.now.items in
    let table = c.args.table.now in
    rw c.in_ok-push.ensures.items (sync_agrees steps table c.sync.new.self c.requires c.args.file
    (subst (λ (n : ℕ). IsPut n (all_synced (reads (record_at n table))) table c.sync.new.self) c.number_of.ensures c.in-Ok.ensures.ok))
