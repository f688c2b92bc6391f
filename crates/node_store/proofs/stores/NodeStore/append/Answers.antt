use Rattle.std.proofs.Common.{◌≡◌, ◌∙◌, ◌+◌, ◌-◌, ◌≤◌, ◌++◌, ℕ, List, ap, arith, drop, length, rules, subst, sym, take}
use Rattle.ring_types.specs.declared.entries.Entry.{Entry}
use Rattle.ring_types.specs.declared.limits.TheConstants.{LAST_FILE}
use Rattle.ring_types.specs.Logs.{rotates}
use Rattle.node_store.specs.Kept.{IsKept, Lengthens}
use Rattle.node_store.specs.Stores.{StoreState}
use Rattle.node_store.proofs.Ends.{behind, first_left}
use Rattle.node_store.proofs.Kept.{kept_longer}
use Rattle.node_store.proofs.stores.NodeStore.append.Goals as goal

pub overflow_cast-self : goal.overflow_cast-self
overflow_cast-self c =
    let log = c.self.inside.log in
    let few = subst (λ (s : StoreState). rotates (s.durable.log ++ c.args.entries) ≤ LAST_FILE - 1) (sym c.self.view_is) c.requires.log.few_files in
    let left = c.truncate.ensures ∙ ap (take (c.len-kept.result + c.put_gtids-put.result)) c.in_ok-append.ensures.ok in
    let is = first_left log c.args.entries _ _ c.len-kept.result c.put_gtids-put.result _ (search rules) left c.suffix-2.ensures c.rotates.ensures few in
    omega arith

pub overflow_add-self : goal.overflow_add-self
overflow_add-self c =
    let log = c.self.inside.log in
    let few = subst (λ (s : StoreState). rotates (s.durable.log ++ c.args.entries) ≤ LAST_FILE - 1) (sym c.self.view_is) c.requires.log.few_files in
    let left = c.truncate.ensures ∙ ap (take (c.len-kept.result + c.put_gtids-put.result)) c.in_ok-append.ensures.ok in
    let is = first_left log c.args.entries _ _ c.len-kept.result c.put_gtids-put.result _ (search rules) left c.suffix-2.ensures c.rotates.ensures few in
    omega arith

pub invariant_of-self-2 : goal.invariant_of-self-2
invariant_of-self-2 c =
    let here = c.self.inside in
    let put = c.put_gtids-put.result in
    let kept = c.len-kept.result in
    let set = c.put_gtids-put.new.gtids in
    let more = take put c.args.entries in
    let kept_is : kept ≡ length here.log = search rules in
    let few = subst (λ (s : StoreState). rotates (s.durable.log ++ c.args.entries) ≤ LAST_FILE - 1) (sym c.self.view_is) c.requires.log.few_files in
    let left = c.truncate.ensures ∙ ap (take (kept + put)) c.in_ok-append.ensures.ok in
    let is = first_left here.log c.args.entries _ _ kept put _ kept_is left c.suffix-2.ensures c.rotates.ensures few in
    let given : c.suffix.result.now ≡ c.args.entries = c.suffix.ensures ∙ ap (drop kept) c.in_ok-append.ensures.ok ∙ behind here.log c.args.entries kept kept_is in
    let longer = subst (λ (es : List Entry). Lengthens (take put es) here.gtids set) given c.put_gtids-put.ensures.put in
    let inside = subst (λ (s : StoreState). s.durable.applied ≤ length s.durable.log) (sym c.self.view_is) c.requires.applied in
    let all = kept_longer here.log more here.gtids set here.file here.applied here.tables c.self.invariant longer inside in
    subst (λ (l : List Entry). IsKept l set (here.file + c.rotates.result) here.applied here.tables) (sym is.log_is)
    (subst (λ (n : ℕ). IsKept (here.log ++ more) set (here.file + n) here.applied here.tables) (sym is.count) all)
