use Rattle.std.proofs.Common.{◌≡◌, length}
use Rattle.schedule_text.specs.Values.{bytes_of}
use Rattle.schedule_text.proofs.Texts.{with_bytes}
use Rattle.schedule_text.proofs.rows.bytes.Given as goal

abbrev pub invariant-loop-bytes : goal.invariant-loop-bytes
invariant-loop-bytes l = with_bytes l.bytes.items (bytes_of l.rest) ≡ bytes_of l.quoted

abbrev pub decreases-loop-bytes : goal.decreases-loop-bytes
decreases-loop-bytes l = length l.rest
