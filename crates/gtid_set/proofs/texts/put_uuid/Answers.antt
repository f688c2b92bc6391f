use Rattle.std.proofs.Common.{◌≡◌, ◌++◌, ℕ, List, ap, subst, ◌∙◌, OnOk, string_bytes}
use Rattle.uuid.specs.Text.{hyphenated_text, lower}
use Rattle.gtid_set.specs.Texts.{uuid_text}
use Rattle.gtid_set.proofs.texts.put_uuid.Goals as goal

pub returns : goal.returns
unfolding uuid_text
returns c =
    let bytes = c.hyphenated.ensures ∙ c.from_u128.ensures in
    let text : c.encode_lower-text.result.now ≡ uuid_text c.args.server = c.encode_lower-text.ensures.text ∙ ap (hyphenated_text lower) bytes in
    subst (λ (t : List ℕ). OnOk c.put.result (string_bytes c.put.new.out ≡ string_bytes c.args.out.now ++ t)) text c.put.ensures
