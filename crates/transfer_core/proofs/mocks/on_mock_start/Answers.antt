use Rattle.transfer_core.proofs.Polling.{starts}
use Rattle.transfer_core.proofs.mocks.on_mock_start.Goals as goal

pub returns-clause-told : goal.returns-clause-told
returns-clause-told g c =
    let v = g.V.LogView in
    let here = c.args.here in
    starts (v.sees here.view.now).log here c.args.soft.now c.args.from c.args.sent.now c.in_ok-end.field-0 c.begins.result c.in-Ok.poll c.in-Ok-opening.messages c.into_mock.result c.sending.result
    c.begins.ensures c.if-not-begins.false c.in_ok-end.ensures.told c.in-Ok.ensures c.in-Ok-opening.ensures c.into_mock.ensures c.sending.ensures
