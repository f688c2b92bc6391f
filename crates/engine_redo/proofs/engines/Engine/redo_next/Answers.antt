use Rattle.std.proofs.Common.{◌-◌, drop, length, refl, take, subst, sym, arith}
use Rattle.event_frame.specs.Laws.{IsBytes}
use Rattle.event_frame.proofs.Fields.{IsBytes-drop}
use Rattle.engine_redo.specs.Mounted.{schema_of, state_of}
use Rattle.engine_redo.specs.Stands.{IsRedo}
use Rattle.engine_redo.proofs.Items.{item_read}
use Rattle.engine_redo.proofs.ReadItems.{damaged_there, field_told, next_redo, none_longest, refused_longest, shorter}
use Rattle.ring_types.specs.declared.schemas.Schema.{Schema}
use Rattle.engine_redo.proofs.engines.Engine.redo_next.Goals as goal

pub may_redo-requires : goal.may_redo-requires
may_redo-requires c =
    let fits : IsBytes (drop c.args.self.now.point.end c.args.bytes.now) = IsBytes-drop c.args.self.now.point.end c.args.bytes.now (λ i. omega (arith, c.type_inv.bytes i)) in
    let item = item_read (schema_of c.args.self.now) (drop c.args.self.now.point.end c.args.bytes.now) c.in-Ok.item c.in-Ok.behind.now c.requires.schema fits c.in-Ok.ensures in
    (item.0, item.1)

pub overflow_sub-self : goal.overflow_sub-self
overflow_sub-self c =
    let fits : IsBytes (drop c.args.self.now.point.end c.args.bytes.now) = IsBytes-drop c.args.self.now.point.end c.args.bytes.now (λ i. omega (arith, c.type_inv.bytes i)) in
    let item = item_read (schema_of c.args.self.now) (drop c.args.self.now.point.end c.args.bytes.now) c.in-Ok.item c.in-Ok.behind.now c.requires.schema fits c.in-Ok.ensures in
    let less = shorter (schema_of c.args.self.now) c.args.bytes.now c.in-Ok.behind.now c.args.self.now.point.end c.in-Ok.item (omega (arith, c.requires.within)) item in
    omega (arith, less)

pub returns-in_ok-redo-in-Ok-clause-redone : goal.returns-in_ok-redo-in-Ok-clause-redone
returns-in_ok-redo-in-Ok-clause-redone c =
    let fits : IsBytes (drop c.args.self.now.point.end c.args.bytes.now) = IsBytes-drop c.args.self.now.point.end c.args.bytes.now (λ i. omega (arith, c.type_inv.bytes i)) in
    let item = item_read (schema_of c.args.self.now) (drop c.args.self.now.point.end c.args.bytes.now) c.in-Ok.item c.in-Ok.behind.now c.requires.schema fits c.in-Ok.ensures in
    let redone = next_redo (schema_of c.args.self.now) (state_of c.args.self.now) c.args.bytes.now c.in-Ok.behind.now c.args.self.now.point.end (length c.args.bytes.now - length c.in-Ok.behind.now)
    c.in-Ok.item (omega (arith, c.requires.within)) c.requires.redone item (c.may_redo.ensures.may c.if-not-may_redo.false) refl in
    subst (λ (s : Schema). IsRedo s (take (length c.args.bytes.now - length c.in-Ok.behind.now) c.args.bytes.now) (state_of c.redo.new.self)) (sym c.redo.ensures.schema)
    (subst (IsRedo (schema_of c.args.self.now) (take (length c.args.bytes.now - length c.in-Ok.behind.now) c.args.bytes.now)) (sym c.in_ok-redo-in-Ok.ensures.done) redone)

pub returns-in_ok-redo-in-Ok-clause-further : goal.returns-in_ok-redo-in-Ok-clause-further
returns-in_ok-redo-in-Ok-clause-further c =
    let fits : IsBytes (drop c.args.self.now.point.end c.args.bytes.now) = IsBytes-drop c.args.self.now.point.end c.args.bytes.now (λ i. omega (arith, c.type_inv.bytes i)) in
    let item = item_read (schema_of c.args.self.now) (drop c.args.self.now.point.end c.args.bytes.now) c.in-Ok.item c.in-Ok.behind.now c.requires.schema fits c.in-Ok.ensures in
    let less = shorter (schema_of c.args.self.now) c.args.bytes.now c.in-Ok.behind.now c.args.self.now.point.end c.in-Ok.item (omega (arith, c.requires.within)) item in
    omega (arith, less)

pub returns-then-not-may_redo-clause-damaged : goal.returns-then-not-may_redo-clause-damaged
returns-then-not-may_redo-clause-damaged c =
    let refused = c.may_redo.ensures.refused c.if-not-may_redo.true in
    damaged_there c.damage.result (schema_of c.args.self.now) c.args.bytes.now c.args.self.now.point c.damage.ensures c.requires.within
    (refused_longest (schema_of c.args.self.now) (state_of c.args.self.now) c.args.bytes.now c.args.self.now.point.end c.in-Ok.item c.in-Ok.behind.now (omega (arith, c.requires.within))
    c.requires.redone c.in-Ok.ensures refused)

pub returns-in-Err-Field-clause-damaged : goal.returns-in-Err-Field-clause-damaged
returns-in-Err-Field-clause-damaged c =
    damaged_there c.damage-in-Err-Field.result (schema_of c.args.self.now) c.args.bytes.now c.args.self.now.point c.damage-in-Err-Field.ensures c.requires.within
    (none_longest (schema_of c.args.self.now) (state_of c.args.self.now) c.args.bytes.now c.args.self.now.point.end c.in-Err-Field.field-0-0 (omega (arith, c.requires.within)) c.requires.redone
    (field_told c.in-Err-Field.field-0-is c.in-Err-Field.ensures))
