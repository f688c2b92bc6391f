-- The derived order of values puts Null before numbers before texts, and compares two of a kind as the definitions' order of keys does.
use Rattle.std.proofs.Common.{◌≡◌, Bool, Ordering, true, false, cond, refl}
use Rattle.std.proofs.lemmas.Map.Text.{is_eq-slice_cmp}
use Rattle.std.specs.Cmp.{IsTotalOrder}
use Rattle.std.specs.Ordering.{is_eq, is_lt}
use Rattle.std.specs.declared.cmp.Ordering.TheVariants.{Less, Equal, Greater}
use Rattle.std.specs.Prelude.{int_lt}
use Rattle.ring_types.specs.Rows.{comes_before, same_value}
use Rattle.ring_types.specs.contracts.values.ValueOrd.TheImpl.{cmp-value}
use Rattle.ring_types.specs.contracts.values.ValueOrd.TheImpl.Laws.{total-law}
use Rattle.ring_types.specs.declared.values.Value.{Value}
use Rattle.ring_types.specs.declared.values.Value.TheVariants as value
use Rattle.row_engine.proofs.Keys.{Agrees}

abbrev pub value_cmp : Value → Value → Ordering
value_cmp = cmp-value.it

pub total : IsTotalOrder value_cmp
total = total-law

same : (a b : Value) → is_eq (value_cmp a b) ≡ same_value a b
same value.Null value.Null = refl
same value.Null (value.Int n) = refl
same value.Null (value.Text t) = refl
same (value.Int m) value.Null = refl
same (value.Int m) (value.Int n) = refl
same (value.Int m) (value.Text t) = refl
same (value.Text s) value.Null = refl
same (value.Text s) (value.Int n) = refl
same (value.Text s) (value.Text t) = is_eq-slice_cmp s t

before_int : (a b : Bool) → is_lt (cond a Less (cond b Greater Equal)) ≡ a
before_int true b = refl
before_int false true = refl
before_int false false = refl

before : (a b : Value) → is_lt (value_cmp a b) ≡ comes_before a b
before value.Null value.Null = refl
before value.Null (value.Int n) = refl
before value.Null (value.Text t) = refl
before (value.Int m) value.Null = refl
before (value.Int m) (value.Int n) = before_int (int_lt m n) (int_lt n m)
before (value.Int m) (value.Text t) = refl
before (value.Text s) value.Null = refl
before (value.Text s) (value.Int n) = refl
before (value.Text s) (value.Text t) = refl

pub agrees : Agrees value_cmp
agrees = record { same = same; before = before }
