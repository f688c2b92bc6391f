use Rattle.std.proofs.Common.{ℕ, List, Some, ◌∙◌, sym, ap₂}
use Rattle.ring_types.specs.declared.values.Value.{Value}
use Rattle.ring_model.specs.declared.effects.Cause.TheVariants as cause
use Rattle.commit_pipeline.proofs.Locks.{lock_none, lock_some, lock_inside}
use Rattle.commit_pipeline.proofs.refusals.lock_of.Goals as goal

pub returns-in-None : goal.returns-in-None
returns-in-None c = lock_none c.args.prepared.now c.args.changes.now c.in-None.ensures

pub returns-in-None-get : goal.returns-in-None-get
returns-in-None-get c = lock_inside c.args.prepared.now c.args.changes.now c.in-Some.conflict c.in-Some.ensures c.in-None-get.ensures.value

pub returns-in_ok-change_key-in-Some-get : goal.returns-in_ok-change_key-in-Some-get
returns-in_ok-change_key-in-Some-get c =
    ap₂ (λ (name : List ℕ) (key : Value). Some (cause.Locked name key c.in-Some.conflict.holder)) (c.in_ok-copy-in-Some-get.ensures ∙ c.table_name.ensures) c.in_ok-change_key-in-Some-get.ensures
    ∙ sym (lock_some c.args.prepared.now c.args.changes.now c.in-Some.conflict c.in-Some-get.change.now c.in-Some.ensures c.in-Some-get.ensures.value)
