-- The definitions of floats in EDN agree with `cbor_floats`: `number_of` returns the same number of a text, `half_of`,
-- `single_of`, `double_of` and `shortest_of` the same bits of a number, and `single_in` the same 32-bit float of a
-- text. `number_of` and `single_in` return nothing for a text that `cbor_floats` refuses.
use Rattle.std.proofs.Common.{T, ◌≡◌, ◌⊎◌, inl, inr, ℕ, ◌^◌, ◌<◌, ◌%◌, ◌/◌, ◌∷◌, Bool, true, false, List, [], length}
use Rattle.std.proofs.Common.{codes, Option, Some, None, MatchOption, IsTrue, IsFalse, if◌then◌else◌, ◌&&◌, ◌||◌, ◌==◌}
use Rattle.std.proofs.Common.{nat_lt, nat_le, option_map, refl, sym, ap, ap₂, ◌∙◌, subst, arith, lit<}
use Rattle.std.proofs.Common.{true≢false, eq-eqb, eqb-true, lt-ltb, ltb→lt}
use lib.Ieee.{Float, nan, inf, fin, binary32, binary64, fits, to_bits}
use lib.Ieee.Bits.{of_bits-fits}
use lib.Ieee.Fits.{round-fits, nan-fits, inf-fits, fits_widens}
use Rattle.std.specs.Float.{float_is_finite, round_to_format}
use Rattle.std.specs.Float.Numeral.{has_digits, scan_numeral}
use Rattle.std.specs.Str.{bytes_eq}
use Rattle.std.proofs.lemmas.Bool.{cases_Bool}
use Rattle.std.proofs.lemmas.Slice.Eq.{bytes_eq-Decides}
use Rattle.cbor_floats.specs.Decimal.{unsigned, parts_of, decimal_number, IsDecimal, IsNumber, IsRefused}
use Rattle.cbor_floats.specs.Decimal.{IsRefusedIn, IsReadAs, IsNoSingle}
use Rattle.cbor_floats.specs.Nearest.{nearest_half}
use Rattle.cbor_floats.specs.Value.{half_value, half_units, width_of, IsEncodingOf, IsShortest}
use Rattle.cbor_floats.specs.declared.decimal.NumberError.{NumberError}
use Rattle.cbor_floats.specs.declared.decimal.NumberError.TheVariants.{NoNumber, TooLarge, NoHalf}
use Rattle.cbor_floats.specs.declared.float.Width.TheVariants.{Sixteen, ThirtyTwo, SixtyFour}
use Rattle.cbor_floats.specs.declared.float.EncodedFloat.{EncodedFloat}
use Rattle.cbor_floats.specs.declared.float.EncodedFloat.TheVariants.{Half, Single, Double}
use Rattle.cbor_floats.proofs.Values.{same_bits}
use Rattle.cbor_floats.proofs.Encodings.{double_encodes, single_encodes, single_found, one_encoding}
use Rattle.cbor_floats.proofs.Rounding.{half_found, half_encodes}
use Rattle.cbor_edn_grammar.specs.Reading.{◌>>=◌}
use Rattle.cbor_edn_grammar.specs.Float.{is_decimal, number_of, is_same, half_of, single_of}
use Rattle.cbor_edn_grammar.specs.Float.{double_of, shortest_of, nearest_single, single_in, digits_and_width}

-- ---- the number of a text

and3 : (a b c : Bool) → (a && b && c) ≡ true → (a ≡ true) × (b ≡ true) × (c ≡ true)
and3 true true true e = (refl, refl, refl)
and3 true true false e = absurd (true≢false (sym e))
and3 true false c e = absurd (true≢false (sym e))
and3 false b c e = absurd (true≢false (sym e))

or2 : (a b : Bool) → (a || b) ≡ true → (a ≡ true) ⊎ (b ≡ true)
or2 true b e = inl refl
or2 false b e = inr e

or_true : (a : Bool) → (a || true) ≡ true
or_true true = refl
or_true false = refl

decimal_test : (text : List ℕ) → IsDecimal text → is_decimal text ≡ true
decimal_test text d =
    let p = parts_of text in
    let marked : (p.point || nat_lt 0 (length p.exponent)) ≡ true = elim d.marked [
      | inl e ↦ ap (λ b. b || nat_lt 0 (length p.exponent)) e
      | inr l ↦ ap (λ b. p.point || b) (lt-ltb 0 (length p.exponent) l) ∙ or_true p.point
    ] in
    ap (λ b. b && has_digits p && (p.point || nat_lt 0 (length p.exponent))) (eq-eqb p.len (length (unsigned text))
    d.whole)
    ∙ ap₂ (λ a b. a && b) d.digits marked

test_decimal : (text : List ℕ) → is_decimal text ≡ true → IsDecimal text
test_decimal text e =
    let p = parts_of text in
    let t = and3 (p.len == length (unsigned text)) (has_digits p) (p.point || nat_lt 0 (length p.exponent)) e in
    record {
      whole = eqb-true p.len (length (unsigned text)) t.0;
      digits = t.1;
      marked = elim (or2 p.point (nat_lt 0 (length p.exponent)) t.2) [
        | inl point ↦ inl point
        | inr more ↦ inr (ltb→lt 0 (length p.exponent) (subst T (sym more) tt))
      ];
    }

no_decimal : (text : List ℕ) → ¬ (IsDecimal text) → is_decimal text ≡ false
no_decimal text n = elim (cases_Bool (is_decimal text)) [ inl e ↦ absurd (n (test_decimal text e)) | inr e ↦ e ]

words : (number_of (codes "NaN") ≡ Some nan) × (number_of (codes "Infinity") ≡ Some (inf false))
    × (number_of (codes "-Infinity") ≡ Some (inf true))
unfolding number_of scan_numeral
words = (refl, refl, refl)

pub number_found : (text : List ℕ) (x : Float) → IsNumber text x → number_of text ≡ Some x
unfolding number_of
number_found text x (inl (inl w)) = ap number_of w.0 ∙ words.0 ∙ ap Some (sym w.1)
number_found text x (inl (inr (inl w))) = ap number_of w.0 ∙ words.1 ∙ ap Some (sym w.1)
number_found text x (inl (inr (inr w))) = ap number_of w.0 ∙ words.2 ∙ ap Some (sym w.1)
number_found text x (inr d) =
    rw (decimal_test text d.0, d.1) (ap (λ (b : Bool). if b then Some x else None) d.2)

no_word : (text word : List ℕ) → (text ≡ word → ⊥) → bytes_eq text word ≡ false
no_word text word n = elim (cases_Bool (bytes_eq text word)) [
  | inl e ↦ absurd (n ((bytes_eq-Decides text word).0 e))
  | inr e ↦ e
]

pub number_none : (text : List ℕ) (e : NumberError) → IsRefused e text → number_of text ≡ None
unfolding number_of
number_none text NoNumber h =
    rw (
      no_decimal text h.0,
      no_word text (codes "NaN") (λ w. h.1 nan (inl (w, refl))),
      no_word text (codes "Infinity") (λ w. h.1 (inf false) (inr (inl (w, refl)))),
      no_word text (codes "-Infinity") (λ w. h.1 (inf true) (inr (inr (w, refl)))),
    ) refl
number_none text TooLarge h =
    rw (decimal_test text h.0) (ap (λ (b : Bool). if b then Some (decimal_number binary64 text) else None) h.1)
number_none text NoHalf h = absurd h

pub number_fits : (text : List ℕ) (x : Float) → IsNumber text x → T (fits binary64 x)
number_fits text x (inl (inl w)) = subst (λ (z : Float). T (fits binary64 z)) (sym w.1) (nan-fits binary64)
number_fits text x (inl (inr (inl w))) = subst (λ (z : Float). T (fits binary64 z)) (sym w.1) (inf-fits binary64 false)
number_fits text x (inl (inr (inr w))) = subst (λ (z : Float). T (fits binary64 z)) (sym w.1) (inf-fits binary64 true)
number_fits text x (inr d) = subst (λ (z : Float). T (fits binary64 z)) d.1 (round-fits binary64 _ _ _)

-- ---- the bits of a number

half_fits : (bits : ℕ) → T (fits binary64 (half_value bits))
unfolding half_value
half_fits bits =
    let negative = nat_le 32768 bits in
    let exponent = bits % 32768 / 1024 in
    let fraction = bits % 1024 in
    elim (cases_Bool (exponent == 31)) [
      | inl a ↦ elim (cases_Bool (fraction == 0)) [
        | inl b ↦ rw (a, b) (inf-fits binary64 negative)
        | inr b ↦ rw (a, b) (nan-fits binary64)
      ]
      | inr a ↦ rw a (round-fits binary64 negative (half_units exponent fraction) (2 ^ 24))
    ]

half_bound : (x : Float) → nearest_half x < 2 ^ 16
unfolding nearest_half
half_bound nan = lit< tt
half_bound (inf true) = lit< tt
half_bound (inf false) = lit< tt
half_bound (fin true m e) = omega arith
half_bound (fin false m e) = omega arith

single_fits : (x : Float) → T (fits binary32 (round_to_format binary32 x))
unfolding round_to_format
single_fits nan = nan-fits binary32
single_fits (inf s) = inf-fits binary32 s
single_fits (fin s m e) = round-fits binary32 s _ _

-- what was found in a width is what the definition has
pub half_gives : (x : Float) (found : Option ℕ) → T (fits binary64 x)
    → MatchOption found ((bits : ℕ) → ¬ (IsEncodingOf (Half bits) x)) (λ bits. IsEncodingOf (Half bits) x)
    → half_of x ≡ option_map Half found
unfolding half_of
half_gives x (Some bits) t h =
    let e = half_found x bits h in
    let same : is_same (half_value (nearest_half x)) x ≡ true =
    eq-eqb _ _ (ap (to_bits binary64) (ap half_value (sym e) ∙ h.value)) in
    rw same (ap (λ n. Some (Half n)) (sym e))
half_gives x None t h =
    elim (cases_Bool (is_same (half_value (nearest_half x)) x)) [
      | inl e ↦ absurd (h (nearest_half x) (half_encodes x (nearest_half x) (half_bound x)
          (same_bits binary64 (half_value (nearest_half x)) x (half_fits (nearest_half x)) t (eqb-true _ _ e)) refl))
      | inr e ↦ rw e refl
    ]

pub single_gives : (x : Float) (found : Option ℕ) → T (fits binary64 x)
    → MatchOption found ((bits : ℕ) → ¬ (IsEncodingOf (Single bits) x)) (λ bits. IsEncodingOf (Single bits) x)
    → single_of x ≡ option_map Single found
unfolding single_of
single_gives x (Some bits) t h =
    let same : is_same (round_to_format binary32 x) x ≡ true =
    eq-eqb _ _ (ap (to_bits binary64) (single_found x bits h)) in
    let held : T (fits binary32 x) = subst (λ (z : Float). T (fits binary32 z)) h.value (of_bits-fits binary32 bits) in
    rw same (ap Some (one_encoding x (Single (to_bits binary32 x)) (Single bits) (single_encodes x x held refl) h refl))
single_gives x None t h =
    elim (cases_Bool (is_same (round_to_format binary32 x) x)) [
      | inl e ↦ let fit = single_fits x in
          absurd (h (to_bits binary32 (round_to_format binary32 x)) (single_encodes x (round_to_format binary32 x) fit
          (same_bits binary64 (round_to_format binary32 x) x (fits_widens (round_to_format binary32 x) fit) t
          (eqb-true _ _ e))))
      | inr e ↦ rw e refl
    ]

pub double_gives : (x : Float) (f : EncodedFloat) → T (fits binary64 x) → IsEncodingOf f x → width_of f ≡ SixtyFour
    → f ≡ double_of x
double_gives x f t h w = one_encoding x f (Double (to_bits binary64 x)) h (double_encodes x t) w

pub shortest_gives : (x : Float) (f : EncodedFloat) → T (fits binary64 x) → IsShortest f x → f ≡ shortest_of x
unfolding shortest_of
shortest_gives x (Half b) t h = rw (half_gives x (Some b) t h.encodes) refl
shortest_gives x (Single b) t h =
    rw (half_gives x None t (λ bits k. h.shortest (Half bits) (lit< tt) k), single_gives x (Some b) t h.encodes) refl
shortest_gives x (Double b) t h =
    rw (
      half_gives x None t (λ bits k. h.shortest (Half bits) (lit< tt) k),
      single_gives x None t (λ bits k. h.shortest (Single bits) (lit< tt) k),
    ) (double_gives x (Double b) t h.encodes refl)

-- ---- a text in 32 bits

same_single : (y : Float) (f : EncodedFloat) → width_of f ≡ ThirtyTwo → IsEncodingOf f y
    → Single (to_bits binary32 y) ≡ f
same_single y (Half bits) w h = let e : Sixteen ≡ ThirtyTwo = w in absurd cc
same_single y (Single bits) w h =
    let held : T (fits binary32 y) = subst (λ (z : Float). T (fits binary32 z)) h.value (of_bits-fits binary32 bits) in
    one_encoding y (Single (to_bits binary32 y)) (Single bits) (single_encodes y y held refl) h refl
same_single y (Double bits) w h = let e : SixtyFour ≡ ThirtyTwo = w in absurd cc

exact_single : (text : List ℕ) (x : Float) (f : EncodedFloat) → T (fits binary64 x) → width_of f ≡ ThirtyTwo
    → IsEncodingOf f x → nearest_single text x ≡ Some f
unfolding nearest_single
exact_single text x (Half bits) t w h = let e : Sixteen ≡ ThirtyTwo = w in absurd cc
exact_single text x (Single bits) t w h = rw (single_gives x (Some bits) t h) refl
exact_single text x (Double bits) t w h = let e : SixtyFour ≡ ThirtyTwo = w in absurd cc

nearest_found : (text : List ℕ) (x : Float) (f : EncodedFloat) → T (fits binary64 x) → IsNoSingle x
    → IsTrue (float_is_finite (decimal_number binary32 text)) → Single (to_bits binary32 (decimal_number binary32 text))
    ≡ f → nearest_single text x ≡ Some f
unfolding nearest_single
nearest_found text x f t none is e = rw (single_gives x None t none, is) (ap Some e)

nearest_none : (text : List ℕ) (x : Float) → T (fits binary64 x) → IsNoSingle x
    → IsFalse (float_is_finite (decimal_number binary32 text)) → nearest_single text x ≡ None
unfolding nearest_single
nearest_none text x t none is = rw (single_gives x None t none, is) refl

pub single_read : (text : List ℕ) (f : EncodedFloat) → IsReadAs text ThirtyTwo f
    → single_in text ≡ Some f
single_read text f r =
    let t = number_fits text r.x r.number in
    ap (λ n. n >>= nearest_single text) (number_found text r.x r.number) ∙ elim r.encodes [
      | inl h ↦ exact_single text r.x f t r.width_is h
      | inr h ↦ nearest_found text r.x f t h.1 h.2 (same_single (decimal_number binary32 text) f r.width_is h.3)
    ]

pub single_refused : (text : List ℕ) (e : NumberError) → IsRefusedIn e text ThirtyTwo
    → single_in text ≡ None
single_refused text NoNumber h = ap (λ n. n >>= nearest_single text) (number_none text NoNumber h)
single_refused text TooLarge (inl h) = ap (λ n. n >>= nearest_single text) (number_none text TooLarge h)
single_refused text TooLarge (inr h) =
    let x = h.1.0 in
    ap (λ n. n >>= nearest_single text) (number_found text x h.1.1)
    ∙ nearest_none text x (number_fits text x h.1.1) h.1.2 h.1.3
single_refused text NoHalf h = let e : ThirtyTwo ≡ Sixteen = h.0 in absurd cc

-- ---- words

-- nothing is no decimal number
nothing_decimal : is_decimal [] ≡ false
unfolding scan_numeral
nothing_decimal = refl

pub some_decimal : (word : List ℕ) → is_decimal (digits_and_width word).0 ≡ true → 0 < length word
some_decimal [] e = absurd (true≢false (sym e ∙ nothing_decimal))
some_decimal (b ∷ word) e = omega arith
