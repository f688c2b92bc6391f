use Rattle.std.proofs.Common.{◌≡◌, ℕ, suc, ◌-◌, ◌<◌, List, ◌++◌, length, filter, IfOk, ap, subst, sym, ◌∙◌, arith}
use Rattle.ring_model.specs.Needs as spec
use Rattle.ring_model.specs.Needs.{Report}
use Rattle.flexi_quorum.proofs.Closing.{closure-some}
use Rattle.flexi_quorum.proofs.needs.+closure.Goals as goal

pub returns : goal.returns
returns t c =
    let ring = c.args.ring.now in
    let from_heard : List ℕ → List Report → List Report = λ r p. filter (spec.is_heard ring r) p in
    let from_unheard : List ℕ → List Report → List Report = λ r p. filter (spec.is_unheard ring r) p in
    let h : filter (spec.is_heard ring c.args.regions) c.args.pool ≡ c.in_ok-told.told = sym (c.in_ok-told.ensures ∙ (ap (λ r. from_heard r c.as_slice-2.result.now) c.as_slice.ensures ∙ ap (from_heard c.args.regions) c.as_slice-2.ensures)) in
    let u : c.in_ok-rest.rest ≡ filter (spec.is_unheard ring c.args.regions) c.args.pool = c.in_ok-rest.ensures ∙ (ap (λ r. from_unheard r c.as_slice-4.result.now) c.as_slice-3.ensures ∙ ap (from_unheard c.args.regions) c.as_slice-4.ensures) in
    let m : c.in_ok-more.more ≡ spec.regions_of c.in_ok-told.told ++ c.args.regions = c.in_ok-more.ensures ∙ ap (λ (ts : List Report). spec.regions_of ts ++ c.args.regions) c.as_slice-5.ensures in
    let some : 0 < length c.in_ok-told.told = omega arith in
    let next : c.args.rounds ≡ suc (c.args.rounds - 1) = omega arith in
    let step = closure-some ring c.args.rounds (c.args.rounds - 1) c.args.regions c.args.pool c.in_ok-told.told next h some in
    let e = ap (λ (r : List ℕ). spec.closure ring (c.args.rounds - 1) r c.in_ok-rest.rest) m ∙ (ap (λ (p : List Report). spec.closure ring (c.args.rounds - 1) (spec.regions_of c.in_ok-told.told ++ c.args.regions) p) u ∙ step) in
    subst (λ (z : List ℕ). IfOk c.closure.result (λ (it : List ℕ). it ≡ z)) e c.closure.ensures
