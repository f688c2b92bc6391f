use Rattle.std.proofs.Common.{◌≡◌, ◌∙◌, ℕ, List, IfOk, sym, subst, arith, map, take}
use Rattle.std.proofs.lemmas.Grind.{common_steps}
use Rattle.entry_group.specs.Files.{file_sizes, head_size, told_size}
use Rattle.entry_group.proofs.Sizes.{Adds, over_rotate, over_other, at_end}
use Rattle.entry_group.proofs.files.file_sizes.Goals as goal
use Rattle.entry_group.proofs.files.file_sizes.Goals.{then-is_rotate+in_ok-push+in_ok-size-2, else-is_rotate}

pub loop-i-preserved : goal.loop-i-preserved
loop-i-preserved c =
    let a : Adds c.args.schema.now c.args.log.now c.loop-i.i c.loop-i.size c.index-log-i.result c.group_size.result c.saturating_add-size.result =
    record { within = c.loop-i-test.true; is = c.index-log-i.is; group_is = c.group_size.ensures; sum_is = c.saturating_add-size.ensures } in
    elim c.if-is_rotate.branch [
      | then-is_rotate+in_ok-push+in_ok-size-2 w ↦
          let h : w.in_ok-size-2.size ≡ head_size (take c.loop-i.i c.args.log.now) = grind (arith, common_steps, w.in_ok-size-2.ensures) in
          rw (w.sizes-is, w.in_ok-push.ensures.ok, w.size-is)
          (over_rotate c.args.schema.now c.args.log.now c.loop-i.i c.loop-i.size c.index-log-i.result c.group_size.result c.saturating_add-size.result w.in_ok-size-2.size c.loop-i.sizes
          (map told_size (file_sizes c.args.schema.now c.args.log.now)) a (sym c.is_rotate.ensures ∙ w.if-is_rotate.true) h c.loop-i.invariant)
      | else-is_rotate w ↦
          rw (w.sizes-is, w.size-is)
          (over_other c.args.schema.now c.args.log.now c.loop-i.i c.loop-i.size c.index-log-i.result c.group_size.result c.saturating_add-size.result c.loop-i.sizes
          (map told_size (file_sizes c.args.schema.now c.args.log.now)) a (sym c.is_rotate.ensures ∙ w.if-is_rotate.false) c.loop-i.invariant)
    ]

pub returns : goal.returns
returns c =
    let all : List ℕ = map told_size (file_sizes c.args.schema.now c.args.log.now) in
    subst (λ (x : List ℕ). IfOk c.closed.result (λ it. it ≡ x)) (at_end c.args.schema.now c.args.log.now c.loop-i.i c.loop-i.size c.loop-i.sizes all c.loop-i-test.false c.loop-i.invariant) c.closed.ensures
