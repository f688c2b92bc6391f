-- The test of two values holds exactly of one value twice, since it compares numbers as numbers and texts byte by byte.
use Rattle.std.proofs.Common.{◌≡◌, Ordering, true, refl, ap}
use Rattle.std.proofs.lemmas.Bool.Decides.{Decides-int_eq}
use Rattle.std.proofs.lemmas.Cmp.{int_eq_equiv, nat_list_eq_equiv}
use Rattle.std.proofs.lemmas.Slice.Eq.{bytes_eq-Decides}
use Rattle.std.specs.Ordering.{is_eq, is_lt}
use Rattle.ring_types.specs.Rows.{comes_before, same_value}
use Rattle.ring_types.specs.declared.values.Value.{Value}
use Rattle.ring_types.specs.declared.values.Value.TheVariants as value

pub one_value : (a b : Value) → same_value a b ≡ true → a ≡ b
one_value value.Null value.Null h = refl
one_value value.Null (value.Int n) h = cc
one_value value.Null (value.Text t) h = cc
one_value (value.Int m) value.Null h = cc
one_value (value.Int m) (value.Int n) h = ap value.Int ((Decides-int_eq m n).0 h)
one_value (value.Int m) (value.Text t) h = cc
one_value (value.Text s) value.Null h = cc
one_value (value.Text s) (value.Int n) h = cc
one_value (value.Text s) (value.Text t) h = ap value.Text ((bytes_eq-Decides s t).0 h)

pub same_itself : (a : Value) → same_value a a ≡ true
same_itself value.Null = refl
same_itself (value.Int m) = (Decides-int_eq m m).1 refl
same_itself (value.Text s) = (bytes_eq-Decides s s).1 refl

pub same_back : (a b : Value) → same_value a b ≡ same_value b a
same_back value.Null value.Null = refl
same_back value.Null (value.Int n) = refl
same_back value.Null (value.Text t) = refl
same_back (value.Int m) value.Null = refl
same_back (value.Int m) (value.Int n) = int_eq_equiv.symm m n
same_back (value.Int m) (value.Text t) = refl
same_back (value.Text s) value.Null = refl
same_back (value.Text s) (value.Int n) = refl
same_back (value.Text s) (value.Text t) = nat_list_eq_equiv.symm s t

-- an order of values answers as the definitions' two tests do
pub record Agrees (R : Value → Value → Ordering) : Type 0 where
  pub same : (a b : Value) → is_eq (R a b) ≡ same_value a b
  pub before : (a b : Value) → is_lt (R a b) ≡ comes_before a b
