use Rattle.std.proofs.Common.{◌≡◌, ◌+◌, ◌++◌, ◌∙◌, ap, arith, length, take, drop, ℕ, List}
use Rattle.std.proofs.lemmas.List.{take_at}
use Rattle.disk_memory.specs.Records.{filled}
use Rattle.disk_memory.proofs.Bytes.{overwritten}
use Rattle.disk_memory.proofs.stored_files.overwrite.Goals as goal

pub returns-clause-ok : goal.returns-clause-ok
returns-clause-ok c =
    let end = c.args.at + length c.args.bytes.now in
    let is : c.deref_mut.result.now ≡ filled c.args.now.now.items end =
    c.deref_mut.ensures.value ∙ c.in_ok-fill.ensures.ok ∙ ap (λ (n : ℕ). filled c.args.now.now.items n) c.in-Some.ensures.some.0 in
    take_at _ _ _ (omega (arith, c.paste.ensures.length, c.deref_mut.ensures.len))
    ∙ c.paste.ensures.bytes
    ∙ ap (λ (f : List ℕ). take c.args.at f ++ c.args.bytes.now ++ drop end f) is
    ∙ overwritten c.args.now.now.items c.args.at c.args.bytes.now
