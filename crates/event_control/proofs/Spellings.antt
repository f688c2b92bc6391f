-- Each body's text is the only spelling of its form, since each of its fields has one.
use Rattle.std.proofs.Common.{◌≡◌, ℕ, ◌%◌, ◌^◌, ◌<◌, ◌≤◌, true, List, [], ◌∷◌, ◌++◌, length, refl, sym, ap, ◌∙◌, arith, append_assoc}
use Rattle.std.specs.Prelude.{codes}
use Rattle.std.specs.Int.{w8, w16, w32, w64, to_le_bytes}
use Rattle.std.proofs.lemmas.Bool.Decides.{nat_tests}
use Rattle.std.proofs.lemmas.List.{append-nil}
use Rattle.event_frame.specs.Forms.{Spells}
use Rattle.event_frame.proofs.Forms.{AreFields}
use Rattle.event_frame.proofs.Fields.{constant_is_field, number_is_field, wide8, wide16, wide64}
use Rattle.ring_types.specs.declared.entries.Opid.{Opid}
use Rattle.ring_types.specs.declared.limits.TheConstants.{LAST_FILE}
use Rattle.event_control.specs.Bodies.{server_name, fixed_sizes, format_form, format_body, rotate_form, rotate_body, six_digits, is_kind, any, opid_form, opid_body}
use Rattle.event_control.specs.ControlLaws.{FitOpidEvent}
use Rattle.event_control.proofs.Digits.{file_number_is_field}

-- ---- FORMAT_DESCRIPTION

pub format_fields : AreFields format_form
unfolding format_form
format_fields = (
  constant_is_field (to_le_bytes w16 4),
  λ version. (constant_is_field server_name, λ server. (constant_is_field (to_le_bytes w32 0), λ time. (constant_is_field (19 ∷ []), λ header. (constant_is_field fixed_sizes, λ sizes. constant_is_field (1 ∷ []))))),
)

pub format_is_spelled : Spells format_form format_body tt
unfolding format_form server_name
format_is_spelled = (
  tt,
  to_le_bytes w16 4,
  _,
  (tt, refl),
  (
    tt,
    server_name,
    _,
    (tt, refl),
    (
      tt,
      to_le_bytes w32 0,
      _,
      (tt, refl),
      (tt, 19 ∷ [], _, (tt, refl), (tt, fixed_sizes, 1 ∷ [], (tt, refl), (tt, refl), refl), refl),
      refl,
    ),
    refl,
  ),
  refl,
)

pub format_spelled_is : (text : List ℕ) (u : Unit {0}) → Spells format_form text u → text ≡ format_body
unfolding format_form server_name
format_spelled_is text u s =
    let (version, t0, m0, f0, s1, e0) = s in
    let (server, t1, m1, f1, s2, e1) = s1 in
    let (time, t2, m2, f2, s3, e2) = s2 in
    let (header, t3, m3, f3, s4, e3) = s3 in
    let (sizes, t4, m4, f4, s5, e4) = s4 in
    rw (e0, f0.1, e1, f1.1, e2, f2.1, e3, f3.1, e4, f4.1, s5.1) refl

-- the text with its parts put one behind the other
pub format_body_is : ((((to_le_bytes w16 4 ++ server_name) ++ to_le_bytes w32 0) ++ (19 ∷ [])) ++ fixed_sizes) ++ (1 ∷ []) ≡ format_body
format_body_is = rw (append_assoc) refl

pub format_length : length format_body ≡ 99
unfolding server_name fixed_sizes
format_length = refl

-- ---- ROTATE

pub rotate_fields : AreFields rotate_form
rotate_fields = (constant_is_field (to_le_bytes w64 4), λ position. (constant_is_field (codes "binlog."), λ name. file_number_is_field))

pub rotate_is_spelled : (file : ℕ) → file ≤ LAST_FILE → Spells rotate_form (rotate_body file) file
rotate_is_spelled file le = (tt, to_le_bytes w64 4, _, (tt, refl), (tt, codes "binlog.", six_digits file, (tt, refl), (le, refl), refl), refl)

pub rotate_spelled_is : (text : List ℕ) (file : ℕ) → Spells rotate_form text file → (file ≤ LAST_FILE) × (text ≡ rotate_body file)
rotate_spelled_is text file s =
    let (position, t0, m0, f0, s1, e0) = s in
    let (name, t1, m1, f1, s2, e1) = s1 in
    (s2.0, rw (e0, f0.1, e1, f1.1, s2.1) refl)

-- ---- the opid event

pub opid_fields : AreFields opid_form
opid_fields = (
  number_is_field w8 wide8 is_kind,
  λ kind. (number_is_field w64 wide64 any, λ term. (number_is_field w64 wide64 any, λ position. (number_is_field w16 wide16 any, λ region. tt))),
)

kind_is : (kind : ℕ) → 1 ≤ kind → kind ≤ 3 → is_kind kind ≡ true
kind_is kind least most = grind (arith, nat_tests, least, most)

is_kind_of : (kind : ℕ) → is_kind kind ≡ true → (1 ≤ kind) × (kind ≤ 3)
is_kind_of kind h = grind (arith, nat_tests, h)

one_byte : (n : ℕ) → n < 2 ^ 8 → n ∷ [] ≡ to_le_bytes w8 n
one_byte n lt = let e : n ≡ n % 256 = omega (arith, lt) in ap (λ (x : ℕ). x ∷ []) e

pub opid_is_spelled : (kind : ℕ) (opid : Opid) (region : ℕ)
    → FitOpidEvent kind opid region → Spells opid_form (opid_body kind opid region) (kind, opid, region)
opid_is_spelled kind opid region fit =
    let small : kind < 2 ^ 8 = omega (arith, fit.most) in (
      kind,
      kind ∷ [],
      _,
      ((small, kind_is kind fit.least fit.most), one_byte kind small),
      (
        opid.term,
        to_le_bytes w64 opid.term,
        _,
        ((fit.term_fits, refl), refl),
        (
          opid.position,
          to_le_bytes w64 opid.position,
          _,
          ((fit.position_fits, refl), refl),
          (region, to_le_bytes w16 region, [], ((fit.region_fits, refl), refl), (refl, refl), sym (append-nil (to_le_bytes w16 region))),
          refl,
        ),
        refl,
      ),
      refl,
    )

pub opid_spelled_is : (text : List ℕ) (said : ℕ × Opid × ℕ)
    → Spells opid_form text said → FitOpidEvent said.0 said.1 said.2 × (text ≡ opid_body said.0 said.1 said.2)
opid_spelled_is text said s =
    let (kind, t0, m0, f0, s1, e0) = s in
    let (term, t1, m1, f1, s2, e1) = s1 in
    let (position, t2, m2, f2, s3, e2) = s2 in
    let (region, t3, m3, f3, s4, e3) = s3 in
    let bounds = is_kind_of kind f0.0.1 in
    let lead : t0 ≡ kind ∷ [] = f0.1 ∙ sym (one_byte kind f0.0.0) in
    let whole : text ≡ opid_body kind (record { term = term; position = position }) region =
    rw (e0, lead, e1, f1.1, e2, f2.1, e3, f3.1, s4.0, append-nil (to_le_bytes w16 region)) refl in
    rw (← s4.1) (record { least = bounds.0; most = bounds.1; term_fits = f1.0.0; position_fits = f2.0.0; region_fits = f3.0.0 }, whole)
