use Rattle.transfer_core.proofs.Polling.{counts_reply}
use Rattle.transfer_core.proofs.mocks.on_mock_reply.Goals as goal

pub returns-clause-told : goal.returns-clause-told
returns-clause-told g c =
    let v = g.V.LogView in
    let here = c.args.here in
    counts_reply (v.sees here.view.now).log here c.args.soft.now c.args.from c.args.sent.now c.in-Ok.heard c.in-Some.poll c.in-Ok-with_reply.poll c.in-Ok-verdict.before c.in-Ok-deciding.messages c.into_mock.result c.sending.result
    c.in-Ok.ensures c.in-Some.is c.in-Ok-verdict.ensures c.in-Ok-with_reply.ensures c.in-Ok-deciding.ensures c.into_mock.ensures c.sending.ensures
