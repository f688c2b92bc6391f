use Rattle.std.proofs.Common.{◌≡◌, Some, sym, ap, ◌∙◌, arith}
use Rattle.std.proofs.lemmas.Grind.{common_steps}
use Rattle.schedule_text.specs.Values.{onto, bytes_of}
use Rattle.schedule_text.proofs.Texts.{with_bytes, with_bytes-onto}
use Rattle.schedule_text.proofs.rows.bytes.Goals as goal

pub loop-bytes-preserved : goal.loop-bytes-preserved
loop-bytes-preserved c =
    let front = c.loop-bytes.bytes.items in
    let e : bytes_of c.loop-bytes.rest.now ≡ onto (Some c.in-Some.byte) (bytes_of c.in-Some.after.now) = grind (arith, common_steps) in
    rw c.in_ok-push.ensures.items
    (sym (with_bytes-onto front c.in-Some.byte (bytes_of c.in-Some.after.now)) ∙ ap (with_bytes front) (sym e) ∙ c.loop-bytes.invariant)
