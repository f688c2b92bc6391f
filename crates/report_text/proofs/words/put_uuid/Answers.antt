use Rattle.std.proofs.Common.{◌≡◌, ◌++◌, ℕ, List, ap, subst, ◌∙◌, OnOk}
use Rattle.uuid.specs.Text.{hyphenated_text, lower}
use Rattle.report_text.specs.Words.{uuid_text}
use Rattle.report_text.proofs.words.put_uuid.Goals as goal

pub returns : goal.returns
unfolding uuid_text
returns c =
    let bytes = c.hyphenated.ensures ∙ c.from_u128.ensures in
    let text : c.as_bytes.result.now ≡ uuid_text c.args.server = c.as_bytes.ensures.value ∙ (c.encode_lower-text.ensures.text ∙ ap (hyphenated_text lower) bytes) in
    subst (λ (t : List ℕ). OnOk c.put.result (c.put.new.out.items ≡ c.args.out.now.items ++ t)) text c.put.ensures
