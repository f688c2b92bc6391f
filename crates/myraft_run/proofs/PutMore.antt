-- What is put after bytes that were taken whole: both together are taken whole, or a front of both.
use Rattle.std.proofs.Common.{◌≡◌, ℕ, List, ◌++◌, IfSome, Option, Some, None, Result, Ok, Err, sym, ap, subst, ◌∙◌, append_assoc}
use Rattle.edge_traits.specs.Puts.{TakesFront, PutIs}
use Rattle.edge_traits.specs.declared.sinks.SinkFault.{SinkFault}

more-front : (taken a b : List ℕ) (new : Option (List ℕ)) → TakesFront (taken ++ a) b new → TakesFront taken (a ++ b) new
more-front taken a b new t =
    record {
      front = a ++ t.front;
      rest = t.rest;
      split = ap (λ x. a ++ x) t.split ∙ sym (append_assoc a t.front t.rest);
      taken = t.taken ∙ ap Some (append_assoc taken a t.front);
    }

put-more : (taken a b : List ℕ) (new : Option (List ℕ)) (r : Result (Unit {0}) SinkFault) → PutIs (taken ++ a) b new r → PutIs taken (a ++ b) new r
put-more taken a b new (Ok u) h = h ∙ ap Some (append_assoc taken a b)
put-more taken a b new (Err e) h = more-front taken a b new h

pub put_after : (old mid new : Option (List ℕ)) (a b : List ℕ) (r : Result (Unit {0}) SinkFault) → IfSome old (λ o. mid ≡ Some (o ++ a)) → IfSome mid (λ m. PutIs m b new r) → IfSome old (λ o. PutIs o (a ++ b) new r)
put_after None mid new a b r first second = tt
put_after (Some o) mid new a b r first second =
    let P : Option (List ℕ) → Type 0 = λ x. IfSome x (λ m. PutIs m b new r) in
    put-more o a b new r (subst P first second)
