-- the entries that a proxy finds are those of each log that has the opids and agrees with its own
use Rattle.std.proofs.Common.{◌≡◌, ℕ, ◌==◌, ◌&&◌, Bool, true, false, List, [], ◌∷◌, ◌++◌, Option, Some, None, refl, sym, ap, ap₂, ◌∙◌, arith}
use Rattle.std.proofs.lemmas.Bool.Decides.{nat_tests}
use Rattle.ring_types.specs.declared.entries.Opid.{Opid}
use Rattle.ring_types.specs.declared.entries.Entry.{Entry}
use Rattle.ring_types.specs.Logs.{entry_at, same_opid}
use Rattle.ring_model.specs.Replication.{found}
use Rattle.proxy_core.specs.Relays.{HasAll, Agree, IsFrontOf, SendsTheirs}

abbrev made_of : ℕ → ℕ → Opid
made_of t p = record { term = t; position = p }

same_term : (a b : Opid) → same_opid a b ≡ true → a.term ≡ b.term
same_term a b h = grind (arith, nat_tests)

same_position : (a b : Opid) → same_opid a b ≡ true → a.position ≡ b.position
same_position a b h = grind (arith, nat_tests)

one : (a b o : Opid) → same_opid a o ≡ true → same_opid b o ≡ true → a ≡ b
one a b o h k = ap₂ made_of (same_term a o h ∙ sym (same_term b o k)) (same_position a o h ∙ sym (same_position b o k))

found-one : (log : List Entry) (o : Opid) (e : Entry) (opids : List Opid) → entry_at log o.position ≡ Some e → same_opid e.opid o ≡ true → found log (o ∷ opids) ≡ e ∷ found log opids
found-one log o e opids h same = cc

found-no : (log : List Entry) (o : Opid) (opids : List Opid) → entry_at log o.position ≡ None → found log (o ∷ opids) ≡ []
found-no log o opids h = cc

found-other : (log : List Entry) (o : Opid) (e : Entry) (opids : List Opid) → entry_at log o.position ≡ Some e → same_opid e.opid o ≡ false → found log (o ∷ opids) ≡ []
found-other log o e opids h other = cc

nothing : (front whole : List Entry) → front ≡ [] → IsFrontOf front whole
nothing front whole h = record { rest = whole; split = ap (λ (xs : List Entry). xs ++ whole) (sym h) }

pub sends_theirs : SendsTheirs
sends_theirs mine theirs [] has agree = record { rest = []; split = refl }
sends_theirs mine theirs (o ∷ opids) ((f, is, named), has) agree = by (entry_at mine o.position) refl (sends_theirs mine theirs opids has agree)
  where
    with_head : (e : Entry) → entry_at mine o.position ≡ Some e → same_opid e.opid o ≡ true → IsFrontOf (found mine opids) (found theirs opids) → IsFrontOf (found mine (o ∷ opids)) (found theirs (o ∷ opids))
    with_head e h same rest =
        let equal : e ≡ f = agree o.position e f h is (one e.opid f.opid o same named) in
        let mine_is = found-one mine o e opids h same in
        let theirs_is = found-one theirs o f opids is named in
        record { rest = rest.rest; split = theirs_is ∙ (ap₂ (λ (x : Entry) (xs : List Entry). x ∷ xs) (sym equal) rest.split ∙ ap (λ (xs : List Entry). xs ++ rest.rest) (sym mine_is)) }

    at : (e : Entry) → entry_at mine o.position ≡ Some e → (b : Bool) → same_opid e.opid o ≡ b → IsFrontOf (found mine opids) (found theirs opids) → IsFrontOf (found mine (o ∷ opids)) (found theirs (o ∷ opids))
    at e h true same rest = with_head e h same rest
    at e h false other rest = nothing (found mine (o ∷ opids)) (found theirs (o ∷ opids)) (found-other mine o e opids h other)

    by : (m : Option Entry) → entry_at mine o.position ≡ m → IsFrontOf (found mine opids) (found theirs opids) → IsFrontOf (found mine (o ∷ opids)) (found theirs (o ∷ opids))
    by None h rest = nothing (found mine (o ∷ opids)) (found theirs (o ∷ opids)) (found-no mine o opids h)
    by (Some e) h rest = at e h (same_opid e.opid o) refl rest
