use Rattle.std.proofs.Common.{◌≡◌, ◌∷◌, [], ◌++◌, List, ◌∙◌, sym, ap, subst}
use Rattle.std.specs.Prelude.{IfSome}
use Rattle.ring_types.specs.declared.entries.Entry.{Entry}
use Rattle.commit_pipeline.specs.Advances.{pairs_left}
use Rattle.commit_pipeline.specs.Heres.{IsLedLog}
use Rattle.commit_pipeline.specs.Planned.{after}
use Rattle.commit_pipeline.proofs.Adding.{leds, joins, whole_at}
use Rattle.commit_pipeline.proofs.adds.add_entry.Goals as goal

pub advance_after-requires-clause-led : goal.advance_after-requires-clause-led
advance_after-requires-clause-led g c =
    let v = g.V.LogView in
    let told = (v.sees c.args.view.now).log in
    let pushed : c.push.new.self ≡ c.args.entry ∷ [] = c.in-Ok.ensures.ok ∙ ap (λ (xs : List Entry). xs ++ c.args.entry ∷ []) c.new-added.ensures in
    let slice : c.as_slice.result.now ≡ c.args.entry ∷ [] = c.as_slice.ensures ∙ pushed in
    subst (λ (xs : List Entry). IfSome told (λ log. IsLedLog c.args.leader.now.term (after c.args.end xs log))) (sym slice)
    (leds told (v.sees c.args.view.now).schema c.args.leader.now.term c.args.end c.args.entry (whole_at told (v.sees c.args.view.now).length c.args.end c.requires.end c.requires.whole) c.requires.led c.requires.own c.requires.entry c.requires.short c.requires.files)

pub returns-clause-told : goal.returns-clause-told
returns-clause-told g c =
    let v = g.V.LogView in
    let told = (v.sees c.args.view.now).log in
    let pushed : c.push.new.self ≡ c.args.entry ∷ [] = c.in-Ok.ensures.ok ∙ ap (λ (xs : List Entry). xs ++ c.args.entry ∷ []) c.new-added.ensures in
    let slice : c.as_slice.result.now ≡ c.args.entry ∷ [] = c.as_slice.ensures ∙ pushed in
    joins told c.args.leader.now.engine.ring.now c.args.leader.now.engine.me c.args.leader.now.term c.args.end c.args.leader.now.engine.applied (pairs_left c.args.leader.now.engine) c.args.leader.now.commit c.args.leader.now.peers.now c.args.leader.now.pending.now c.args.entry c.args.first.actions c.in-Ok-with_appended.actions c.args.first.says c.as_slice.result.now c.push.new.self c.new.result c.new-2.result c.in_ok-advanced.advanced
    (whole_at told (v.sees c.args.view.now).length c.args.end c.requires.end c.requires.whole) slice pushed c.new.ensures c.new-2.ensures c.in_ok-advanced.ensures.told c.in-Ok-with_appended.ensures
