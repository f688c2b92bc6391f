-- The text of each body is spelled by its form: field by field, each with its own text.
use Rattle.std.proofs.Common.{◌≡◌, ℕ, ◌+◌, ◌*◌, ◌/◌, ◌%◌, ◌^◌, ◌<◌, ◌≤◌, Bool, true, false, cond, List, [], ◌∷◌, ◌++◌, length, refl, sym, ap, subst, append_assoc, arith}
use Rattle.std.specs.Prelude.{◌&&◌, ◌==◌, nat_lt, nat_le, ℤ, FitsSigned}
use Rattle.std.specs.List.{list_all}
use Rattle.std.specs.Int.{w8, w16, w64, byte_len, to_le_bytes, to_be_bytes, w128, cast_unsigned}
use Rattle.std.specs.Str.{is_utf8}
use Rattle.std.proofs.lemmas.Bool.{eq-eqb, leb-true, ltb-true}
use Rattle.std.proofs.lemmas.Int.{to_z-of_z}
use Rattle.std.proofs.lemmas.List.{append-nil}
use Rattle.event_frame.specs.Forms.{Spells}
use Rattle.event_frame.specs.Fields.{packed_text}
use Rattle.ring_types.specs.Rings.{column_fits, shape_fits}
use Rattle.ring_types.specs.Rows.{is_number, is_null, value_fits, values_fit}
use Rattle.ring_types.specs.Sizes.{all_metadata}
use Rattle.ring_types.specs.declared.values.Gtid.{Gtid}
use Rattle.ring_types.specs.declared.values.Value.{Value}
use Rattle.ring_types.specs.declared.values.Value.TheVariants as value
use Rattle.ring_types.specs.declared.schemas.Shape.{Shape}
use Rattle.ring_types.specs.declared.schemas.Shape.TheVariants as shape
use Rattle.ring_types.specs.declared.schemas.Column.{Column}
use Rattle.ring_types.specs.declared.schemas.Table.{Table}
use Rattle.ring_types.specs.declared.schemas.Schema.{Schema}
use Rattle.event_txn.specs.Bodies.{gtid_form, gtid_body, begin_form, begin_body}
use Rattle.event_txn.specs.Tables.{table_at, table_number, name_form, name_text, type_of, types_form, types_text, metadata_of, metadata_form, metadata_text, nullable, described, description, map_form, map_body}
use Rattle.event_txn.specs.Rows.{lead_of, value_text, cell_form, values_form, values_text, null_bit, nulls_of}
use Rattle.event_txn.specs.Laws.{FitsValue, FitsValues}
use Rattle.event_txn.proofs.KeyImages.{both}
use mir.ValLaws as laws

pub gtid_spelled : (sequence : ℕ) (g : Gtid) → g.server < 2 ^ 128 → g.number < 2 ^ 64 → is_number g.number ≡ true → Spells (gtid_form sequence) (gtid_body sequence g) g
unfolding gtid_body
gtid_spelled sequence g server small number = (
  tt,
  0 ∷ [],
  _,
  (tt, refl),
  (
    g.server,
    to_be_bytes w128 g.server,
    _,
    (server, refl),
    (
      g.number,
      to_le_bytes w64 g.number,
      _,
      ((small, number), refl),
      (tt, 2 ∷ [], _, (tt, refl), (tt, _, _, (tt, refl), (tt, to_le_bytes w64 sequence, [], (tt, refl), (refl, refl), sym (append-nil (to_le_bytes w64 sequence))), refl), refl),
      refl,
    ),
    refl,
  ),
  refl,
)

pub begin_spelled : Spells begin_form begin_body tt
begin_spelled = (tt, _, _, (tt, refl), (tt, _, _, (tt, refl), (tt, _, _, (tt, refl), (tt, _, _, (tt, refl), (tt, _, _, (tt, refl), (tt, _, _, (tt, refl), (tt, refl), refl), refl), refl), refl), refl), refl)

-- ---- tables

name_spelled : (name : List ℕ) → Spells (name_form name) (name_text name) tt
unfolding name_form
name_spelled name = (tt, length name ∷ [], name ++ 0 ∷ [], (tt, refl), (tt, name, 0 ∷ [], (tt, refl), (tt, refl), refl), refl)

types_spelled : (columns : List Column) → Spells (types_form columns) (types_text columns) tt
types_spelled [] = (refl, refl)
types_spelled (c ∷ columns) = (tt, type_of c.shape ∷ [], types_text columns, (tt, refl), types_spelled columns, refl)

metadata_spelled : (columns : List Column) → Spells (metadata_form columns) (metadata_text columns) tt
metadata_spelled [] = (refl, refl)
metadata_spelled (c ∷ columns) = (tt, metadata_of c.shape, metadata_text columns, (tt, refl), metadata_spelled columns, refl)

pub same : (n : ℕ) → (n == n) ≡ true
same n = eq-eqb n n refl

pub regrouped : (a b c d e f g h : List ℕ) → a ++ b ++ c ++ (d ++ e ++ f ++ g ++ h) ≡ a ++ (b ++ (c ++ (d ++ (e ++ (f ++ (g ++ h))))))
regrouped a b c d e f g h = simp append_assoc refl

described_spelled : (schema : Schema) (t : Table) → length t.columns < 2 ^ 64 → all_metadata t < 2 ^ 64 → Spells (described schema t) (description schema t) tt
unfolding described description
described_spelled schema t few small =
    let n : ℕ = length t.columns in
    let m : ℕ = all_metadata t in (
      tt,
      1 ∷ 0 ∷ [],
      _,
      (tt, refl),
      (
        tt,
        name_text schema.database,
        _,
        name_spelled schema.database,
        (
          tt,
          name_text t.name,
          _,
          name_spelled t.name,
          (
            n,
            packed_text n,
            _,
            (few, refl),
            (
              tt,
              [],
              _,
              (same n, refl),
              (
                tt,
                types_text t.columns,
                _,
                types_spelled t.columns,
                (m, packed_text m, _, (small, refl), (tt, [], _, (same m, refl), (tt, metadata_text t.columns, nullable n, metadata_spelled t.columns, (tt, refl), refl), refl), refl),
                refl,
              ),
              refl,
            ),
            refl,
          ),
          refl,
        ),
        refl,
      ),
      regrouped (1 ∷ 0 ∷ []) (name_text schema.database) (name_text t.name) (packed_text n) (types_text t.columns) (packed_text m) (metadata_text t.columns) (nullable n),
    )

pub map_spelled : (schema : Schema) (place : ℕ) → place < length schema.tables → place + 1 < 2 ^ 32 → length (table_at schema place).columns < 2 ^ 64 → all_metadata (table_at schema place) < 2 ^ 64
    → Spells (map_form schema) (map_body schema place) place
unfolding map_body
map_spelled schema place within few columns metadata =
    let t : Table = table_at schema place in
    (place, table_number place, description schema t, ((within, few), refl), (tt, description schema t, [], described_spelled schema t columns metadata, (refl, refl), sym (append-nil (description schema t))), refl)

-- ---- values

int_small : (n : ℤ) → FitsSigned w64 n → cast_unsigned w64 n < 2 ^ 64
int_small n h = (laws.of_z_fits w64 n h).fits

lead_small : (b : Bool) (limit n : ℕ) → nat_lt limit 256 ≡ b → n ≤ limit → limit < 2 ^ 16 → n < 2 ^ (8 * byte_len (cond b w8 w16))
lead_small true limit n e le lt = omega (arith, ltb-true _ _ e, le)
lead_small false limit n e le lt = omega (arith, le, lt)

limit_small : (limit : ℕ) → shape_fits (shape.Text limit) ≡ true → limit < 2 ^ 16
limit_small limit h = omega (arith, leb-true _ _ (both (nat_le 1 limit) _ h).1)

pub cell_spelled : (s : Shape) (v : Value) → shape_fits s ≡ true → value_fits s v ≡ true → FitsValue v → Spells (cell_form (is_null v) s) (value_text s v) v
cell_spelled s value.Null h k fits = (refl, refl)
cell_spelled shape.Int (value.Int n) h k fits =
    (cast_unsigned w64 n, to_le_bytes w64 (cast_unsigned w64 n), [], ((int_small n fits, refl), refl), (refl, ap value.Int (to_z-of_z w64 n fits)), sym (append-nil (to_le_bytes w64 (cast_unsigned w64 n))))
cell_spelled (shape.Text limit) (value.Int n) h k fits = absurd cc
cell_spelled shape.Int (value.Text t) h k fits = absurd cc
cell_spelled (shape.Text limit) (value.Text t) h k fits =
    let small = lead_small (nat_lt limit 256) limit (length t) refl (leb-true _ _ k) (limit_small limit h) in
    let allowed : (nat_le (length t) limit && is_utf8 t) ≡ true = rw (k, fits) refl in
    let text : List ℕ = to_le_bytes (lead_of limit) (length t) ++ t in
    (t, text, [], ((small, allowed), refl), (refl, refl), sym (append-nil text))

pub bit_first : (b : Bool) (n : ℕ) → ((null_bit b + 2 * n) % 2 == 1) ≡ b
bit_first true n = eq-eqb _ _ (omega arith)
bit_first false n = let e : (0 + 2 * n) % 2 ≡ 0 = omega arith in rw e refl

pub bits_behind : (b : Bool) (n : ℕ) → (null_bit b + 2 * n) / 2 ≡ n
bits_behind true n = omega arith
bits_behind false n = omega arith

pub values_spelled : (columns : List Column) (row : List Value) → list_all column_fits columns ≡ true → values_fit columns row ≡ true → FitsValues row → Spells (values_form columns (nulls_of row)) (values_text columns row) row
values_spelled [] [] h k fits = (refl, refl)
values_spelled [] (v ∷ row) h k fits = absurd cc
values_spelled (c ∷ columns) [] h k fits = absurd cc
values_spelled (c ∷ columns) (v ∷ row) h k fits =
    let p = both (column_fits c) (list_all column_fits columns) h in
    let q = both (value_fits c.shape v) (values_fit columns row) k in
    let first = subst (λ (b : Bool). Spells (cell_form b c.shape) (value_text c.shape v) v) (sym (bit_first (is_null v) (nulls_of row))) (cell_spelled c.shape v (both _ (shape_fits c.shape) p.0).1 q.0 fits.0) in
    let others = subst (λ (n : ℕ). Spells (values_form columns n) (values_text columns row) row) (sym (bits_behind (is_null v) (nulls_of row))) (values_spelled columns row p.1 q.1 fits.1) in
    (v, value_text c.shape v, values_text columns row, first, (row, values_text columns row, [], others, (refl, refl), sym (append-nil (values_text columns row))), refl)
