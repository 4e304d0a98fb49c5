-- For `decimal.rt`: laid out digits (`IsLaidOutNumber`) that parse back as a finite number are a text of it
-- (`IsTextOf`), and `NaN`, `Infinity` and `-Infinity` are texts of the others. A text is at most one number
-- (`IsNumber`). The bits of the nearest single encode the number that this single has.
use lib.Ieee.{binary32, fits, to_bits}
use Rattle.std.proofs.Common.{T, ◌≡◌, ◌⊎◌, inl, inr, ℕ, ◌+◌, ◌<◌, ◌||◌, Bool, true, false, cond, List, [], ◌∷◌, ◌++◌}
use Rattle.std.proofs.Common.{length, drop, Some, IsTrue, codes, Result, Ok, Err, is_ok, OnOk, refl, sym, ap, ap₂, ◌∙◌}
use Rattle.std.proofs.Common.{subst, arith, lt-ltb, ne_eqb, true≢false}
use Rattle.std.specs.Float.{float_is_finite, is_sign_negative}
use Rattle.std.specs.Float.Ieee.{Float, nan, inf, fin, binary64, is_nan}
use Rattle.std.specs.Float.Numeral.{Parts, scan_numeral, text_of, nearest_float, has_digits}
use Rattle.std.specs.Float.Parse.{parse_float, sign_len}
use Rattle.std.specs.Fmt.{sign_text}
use Rattle.std.specs.Str.Parse.{AllDigits}
use Rattle.std.proofs.lemmas.Float.Parse.{scan_numeral-text_of, parse_float-text_of}
use Rattle.std.proofs.lemmas.Str.Parse.{digit_from_value}
use Rattle.std.proofs.lemmas.Bool.{cases_Bool}
use Rattle.ryu.specs.Plain.{IsPlain, IsPlainNumber, IsLaidOutNumber}
use Rattle.cbor_floats.specs.Decimal.{unsigned, is_negative, parts_of, decimal_number, IsDecimal, IsDecimalOf, IsNumber}
use Rattle.cbor_floats.specs.Decimal.{IsTextOf, IsWordOf}
use Rattle.cbor_floats.specs.Value.{IsEncodingOf}
use Rattle.cbor_floats.specs.declared.float.EncodedFloat.TheVariants.{Single}
use Rattle.cbor_floats.proofs.Encodings.{single_encodes}

-- a text that begins with a digit has no sign
no_sign : (whole rest : List ℕ) → AllDigits 10 whole → 0 < length whole → (sign_len (whole ++ rest) ≡ 0)
    × (is_negative (whole ++ rest) ≡ false)
no_sign [] rest h some = absurd (omega arith)
no_sign (d ∷ ds) rest h some =
    let r = digit_from_value d h.0 in
    let m = ne_eqb d 45 (λ e. omega arith) in
    (ap₂ (λ a b. cond (a || b) 1 0) m (ne_eqb d 43 (λ e. omega arith)), m)

signed : (negative : Bool) (p : Parts) → IsPlain p
    → (unsigned (sign_text negative ++ text_of p) ≡ text_of p)
    × (is_negative (sign_text negative ++ text_of p) ≡ negative)
signed true p plain = (refl, refl)
signed false p plain =
    let s = no_sign p.whole _ plain.well_formed.whole_digits plain.whole in
    (ap (λ (n : ℕ). drop n (text_of p)) s.0, s.1)

marks : (p : Parts) → IsPlain p → (p.point ≡ true) ⊎ (0 < length p.exponent)
marks p plain = elim (cases_Bool p.point) [ inl a ↦ inl a | inr a ↦ inr (plain.marked a) ]

module _ (negative : Bool) (p : Parts) (plain : IsPlain p) where
  parts : parts_of (sign_text negative ++ text_of p) ≡ p
  parts = ap scan_numeral (signed negative p plain).0 ∙ scan_numeral-text_of p plain.well_formed

  plain_decimal : IsDecimal (sign_text negative ++ text_of p)
  plain_decimal = record {
    whole = ap (λ (q : Parts). q.len) parts ∙ plain.well_formed.len_is ∙ ap length (sym (signed negative p plain).0);
    digits = ap has_digits parts ∙ lt-ltb 0 (length p.whole + length p.fraction) (omega (arith, plain.whole));
    marked = subst (λ (q : Parts). (q.point ≡ true) ⊎ (0 < length q.exponent)) (sym parts) (marks p plain);
  }

  plain_number : (x : Float) → parse_float binary64 (sign_text negative ++ text_of p) ≡ Some x
      → decimal_number binary64 (sign_text negative ++ text_of p) ≡ x
  plain_number x e =
      let q : Some (nearest_float binary64 negative p) ≡ Some x =
      sym (parse_float-text_of binary64 negative p plain.well_formed plain.whole) ∙ e in
      let same : nearest_float binary64 negative p ≡ x = cc in
      ap₂ (λ (s : Bool) (r : Parts). nearest_float binary64 s r) (signed negative p plain).1 parts ∙ same

pub written_is_number : (text : List ℕ) (x : Float) → IsPlainNumber text → parse_float binary64 text ≡ Some x
    → IsTrue (float_is_finite x) → IsDecimalOf text x
written_is_number text x h e finite =
    let negative = h.0 in
    let p = h.1 in
    let is = sym h.2 in (
      subst IsDecimal is (plain_decimal negative p h.3),
      subst (λ (t : List ℕ). decimal_number binary64 t ≡ x) is
          (plain_number negative p h.3 x (subst (λ (t : List ℕ). parse_float binary64 t ≡ Some x) (sym is) e)),
      finite,
    )

-- an infinity, by its sign
pub is_infinity : (x : Float) → is_nan x ≡ false → float_is_finite x ≡ false → x ≡ inf (is_sign_negative x)
unfolding is_nan float_is_finite is_sign_negative
is_infinity nan n f = absurd (true≢false n)
is_infinity (inf s) n f = refl
is_infinity (fin s m e) n f = absurd (true≢false f)

-- what is appended to a text
pub appended : {T E : Type 0} (r : Result T E) (new old text : List ℕ) (x : Float)
    → new ≡ cond (is_ok r) (old ++ text) old → IsTextOf text x
    → OnOk r ((t : List ℕ) × (new ≡ old ++ t) × IsTextOf t x)
appended (Ok a) new old text x e h = (text, e, h)
appended (Err a) new old text x e h = tt

pub not_finite : (text : List ℕ) (x : Float) → IsNumber text x → float_is_finite x ≡ false → IsTextOf text x
not_finite text x h e = record { number = h; layout = λ t. absurd (true≢false (sym t ∙ e)) }

nan_not_finite : float_is_finite nan ≡ false
unfolding float_is_finite
nan_not_finite = refl

pub nan_text : (x : Float) → x ≡ nan → IsTextOf (codes "NaN") x
nan_text x e = not_finite (codes "NaN") x (inl (inl (refl, e))) (ap float_is_finite e ∙ nan_not_finite)

pub infinity_text : (x : Float) → x ≡ inf false → float_is_finite x ≡ false → IsTextOf (codes "Infinity") x
infinity_text x e f = not_finite (codes "Infinity") x (inl (inr (inl (refl, e)))) f

pub minus_infinity_text : (x : Float) → x ≡ inf true → float_is_finite x ≡ false → IsTextOf (codes "-Infinity") x
minus_infinity_text x e f = not_finite (codes "-Infinity") x (inl (inr (inr (refl, e)))) f

pub finite_text : (text : List ℕ) (x : Float) → IsPlainNumber text → IsLaidOutNumber 16 4 text
    → parse_float binary64 text ≡ Some x → IsTrue (float_is_finite x) → IsTextOf text x
finite_text text x h l e finite = record { number = inr (written_is_number text x h e finite); layout = λ _. l }

-- ---- a text is one number

no_decimal : {text : List ℕ} (word : List ℕ) → text ≡ word → has_digits (parts_of word) ≡ false → ¬ (IsDecimal text)
no_decimal word e f d = true≢false (sym d.digits ∙ ap (λ (t : List ℕ). has_digits (parts_of t)) e ∙ f)

no_digits : (has_digits (parts_of (codes "NaN")) ≡ false) × (has_digits (parts_of (codes "Infinity")) ≡ false)
    × (has_digits (parts_of (codes "-Infinity")) ≡ false)
unfolding scan_numeral
no_digits = (refl, refl, refl)

word_is_no_decimal : (text : List ℕ) (x : Float) → IsWordOf text x → ¬ (IsDecimal text)
word_is_no_decimal text x (inl w) = no_decimal (codes "NaN") w.0 no_digits.0
word_is_no_decimal text x (inr (inl w)) = no_decimal (codes "Infinity") w.0 no_digits.1
word_is_no_decimal text x (inr (inr w)) = no_decimal (codes "-Infinity") w.0 no_digits.2

other_length : {text : List ℕ} (v w : List ℕ) → text ≡ v → text ≡ w → (length v ≡ length w → ⊥) → ⊥
other_length v w e f n = n (ap length (sym e ∙ f))

one_word : (text : List ℕ) (x y : Float) → IsWordOf text x → IsWordOf text y → x ≡ y
one_word text x y (inl v) (inl w) = v.1 ∙ sym w.1
one_word text x y (inl v) (inr (inl w)) = absurd (other_length (codes "NaN") (codes "Infinity") v.0 w.0
    (λ e. omega arith))
one_word text x y (inl v) (inr (inr w)) = absurd (other_length (codes "NaN") (codes "-Infinity") v.0 w.0
    (λ e. omega arith))
one_word text x y (inr (inl v)) (inl w) = absurd (other_length (codes "Infinity") (codes "NaN") v.0 w.0
    (λ e. omega arith))
one_word text x y (inr (inl v)) (inr (inl w)) = v.1 ∙ sym w.1
one_word text x y (inr (inl v)) (inr (inr w)) = absurd (other_length (codes "Infinity") (codes "-Infinity") v.0 w.0
    (λ e. omega arith))
one_word text x y (inr (inr v)) (inl w) = absurd (other_length (codes "-Infinity") (codes "NaN") v.0 w.0
    (λ e. omega arith))
one_word text x y (inr (inr v)) (inr (inl w)) = absurd (other_length (codes "-Infinity") (codes "Infinity") v.0 w.0
    (λ e. omega arith))
one_word text x y (inr (inr v)) (inr (inr w)) = v.1 ∙ sym w.1

pub one_number : (text : List ℕ) (x y : Float) → IsNumber text x → IsNumber text y → x ≡ y
one_number text x y (inl v) (inl w) = one_word text x y v w
one_number text x y (inl v) (inr w) = absurd (word_is_no_decimal text x v w.0)
one_number text x y (inr v) (inl w) = absurd (word_is_no_decimal text y w v.0)
one_number text x y (inr v) (inr w) = sym v.1 ∙ w.1

-- the single that is nearest to a decimal number, as it is encoded
pub nearest_encodes : (y z : Float) (bits : ℕ) → T (fits binary32 y) → bits ≡ to_bits binary32 y → y ≡ z
    → IsEncodingOf (Single bits) z
nearest_encodes y z bits t e f = subst (λ (b : ℕ). IsEncodingOf (Single b) z) (sym e) (single_encodes z y t f)
