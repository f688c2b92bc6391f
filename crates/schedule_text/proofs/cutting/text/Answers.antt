use Rattle.std.proofs.Common.{◌≡◌, true, refl, string_bytes, arith}
use Rattle.std.specs.Str.{is_utf8}
use Rattle.std.proofs.lemmas.Grind.{common_steps}
use Rattle.std.proofs.lemmas.Str.{IsUtf8-string_bytes, is_utf8-from_IsUtf8}
use Rattle.std.proofs.lemmas.Bool.{false≢true}
use Rattle.schedule_text.proofs.Utf8.{not_utf8}
use Rattle.schedule_text.proofs.cutting.text.Goals as goal

pub returns-in-Ok : goal.returns-in-Ok
returns-in-Ok c =
    let bytes : string_bytes c.in-Ok.text ≡ c.args.bytes.items = grind (arith, common_steps) in
    let whole : is_utf8 c.args.bytes.items ≡ true = rw (← bytes) (is_utf8-from_IsUtf8 (string_bytes c.in-Ok.text) (IsUtf8-string_bytes c.in-Ok.text)) in
    rw (whole, c.from_string.ensures, bytes) refl

pub returns : goal.returns
returns c = rw (not_utf8 c.args.bytes.items (λ u. absurd (false≢true (c.in-Err.ensures.succeeds u)))) refl
