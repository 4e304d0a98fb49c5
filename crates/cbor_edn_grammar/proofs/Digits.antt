-- The definitions of EDN read back the decimal digits and the width that `number` writes: `unsigned` returns the
-- number, and `negated` one less, if what they return fits the width and 64 bits. Digits are no float (`is_float`),
-- with or without a minus before them and a width after them.
use Rattle.std.proofs.Common.{◌≡◌, ℕ, ◌+◌, ◌-◌, ◌^◌, ◌<◌, ◌≤◌, ◌==◌, ◌&&◌, ◌||◌, not, Bool, true, false, List, []}
use Rattle.std.proofs.Common.{◌∷◌, ◌++◌, length, position, Some, refl, sym, ap, ap₂, subst, ◌∙◌, arith, append-nil}
use Rattle.std.proofs.Common.{append_assoc, nat_lt, nat_eq, is_some, add-one, None, codes, if◌then◌else◌}
use Rattle.std.specs.List.{AllByRecursion, list_all}
use Rattle.std.specs.Fmt.{decimal, sign_text}
use Rattle.std.specs.Char.{digit_value}
use Rattle.std.specs.Str.Parse.{AllDigits, IsNumeral}
use Rattle.std.specs.Float.Numeral.{Parts, has_digits, scan_numeral}
use Rattle.std.proofs.lemmas.Bool.{cond-true, cond-false, agree_below, agree_below_at, not-true}
use Rattle.std.proofs.lemmas.Float.Parse.{scan_numeral-text_of}
use Rattle.std.proofs.lemmas.Fmt.{decimal_is_IsNumeral_wide}
use Rattle.std.proofs.lemmas.List.{take_at, drop_at}
use Rattle.std.proofs.lemmas.Str.{digit_value_digit}
use Rattle.std.proofs.lemmas.Str.Parse.{digit_from_value}
use Rattle.std.proofs.lemmas.Bool.{and_parts, eqb-true}
use Rattle.std.proofs.lemmas.Bool.Decides.{nat_tests}
use Rattle.cbor_tokens.specs.TokenReading.{number_of}
use Rattle.cbor_tokens.proofs.tokens.Numbers.{number_of-append}
use Rattle.cbor_tokens.proofs.tokens.WrittenNumbers.{decimal_IsNumber}
use Rattle.cbor_floats.specs.Decimal.{parts_of}
use Rattle.cbor_floats.specs.Decimal as decimals
use Rattle.cbor_grammar.specs.declared.width.IntegerWidth.{IntegerWidth}
use Rattle.cbor_grammar.specs.declared.width.IntegerWidth.TheVariants.{Unknown, Zero, Eight, Sixteen, ThirtyTwo}
use Rattle.cbor_grammar.specs.declared.width.IntegerWidth.TheVariants.{SixtyFour}
use Rattle.cbor_grammar.specs.Item.{integer}
use Rattle.cbor_grammar.specs.NotationText.{number, indicator}
use Rattle.cbor_edn_grammar.specs.HexFloat.{has_p, is_hex}
use Rattle.cbor_edn_grammar.specs.Reading.{◌>>=◌, after_byte, after_bytes}
use Rattle.cbor_edn_grammar.specs.Float.{special, cut_at, is_decimal, is_float}
use Rattle.cbor_edn_grammar.specs.Number.{fits, parted, whole, number_from, magnitude, fitting, one_less, unsigned}
use Rattle.cbor_edn_grammar.specs.Number.{negated}
use Rattle.cbor_edn_grammar.specs.Number.{integer_of, tag_number}
use Rattle.cbor_edn_grammar.specs.Word.{is_digit, is_word_byte, width_by, width_of}
use Rattle.cbor_edn_grammar.proofs.Numbers.{parted_none, parted_some}
use Rattle.cbor_edn_grammar.proofs.Widths.{read_fits, read_width}
use Rattle.cbor_edn_grammar.proofs.Words.{AreWordBytes, position_none, position_some}

-- ---- digits

digit_range : (d : ℕ) → digit_value d < 10 → (48 ≤ d) × (d < 58)
digit_range d lt = let range = digit_from_value d lt in (omega arith, omega arith)

-- a test that passes for each of the ten digits
pub digit_passes : (test : ℕ → Bool) (d : ℕ) → agree_below (λ k. test (48 + k)) (λ k. true) 10 ≡ true
    → digit_value d < 10 → test d ≡ true
digit_passes test d passes lt =
    let range = digit_range d lt in
    let same : 48 + (d - 48) ≡ d = omega arith in
    subst (λ d. test d ≡ true) same
    (agree_below_at (λ k. test (48 + k)) (λ k. true) 10 (d - 48) passes (omega (arith, range)))

pub digits_words : (ds : List ℕ) → AllDigits 10 ds → AreWordBytes ds
digits_words [] h = tt
digits_words (d ∷ ds) h = (digit_passes is_word_byte d refl h.0, digits_words ds h.1)

-- a byte that passes for no digit
pub none_of_digits : (p : ℕ → Bool) (ds : List ℕ) → agree_below (λ k. not (p (48 + k))) (λ k. true) 10 ≡ true
    → AllDigits 10 ds → AllByRecursion (λ b. p b ≡ false) ds
none_of_digits p [] none h = tt
none_of_digits p (d ∷ ds) none h =
    (not-true (p d) (digit_passes (λ d. not (p d)) d none h.0), none_of_digits p ds none h.1)

none_of_signed : (p : ℕ → Bool) (signed : Bool) (ds : List ℕ) → p 45 ≡ false
    → agree_below (λ k. not (p (48 + k))) (λ k. true) 10 ≡ true → AllDigits 10 ds
    → AllByRecursion (λ b. p b ≡ false) (sign_text signed ++ ds)
none_of_signed p true ds minus none h = (minus, none_of_digits p ds none h)
none_of_signed p false ds minus none h = none_of_digits p ds none h

pub digits_of : (n : ℕ) → n ≤ 2 ^ 64 → IsNumeral 10 (decimal n)
digits_of n le = (decimal_is_IsNumeral_wide n (omega (arith, le))).0

pub indicator_words : (w : IntegerWidth) → AreWordBytes (indicator w)
indicator_words Unknown = tt
indicator_words Zero = tt
indicator_words Eight = (refl, (refl, tt))
indicator_words Sixteen = (refl, (refl, tt))
indicator_words ThirtyTwo = (refl, (refl, tt))
indicator_words SixtyFour = (refl, (refl, tt))

-- ---- their number and its width

-- the part of a word up to its width
module _ (p : ℕ → Bool) (front : List ℕ) (is : p 95 ≡ true) (none : AllByRecursion (λ b. p b ≡ false) front) where
  bare_cut : (cut_at (front ++ []) (position p (front ++ []))).0 ≡ front
  bare_cut = ap (λ t. (cut_at t (position p t)).0) (append-nil front)
      ∙ ap (λ at. (cut_at front at).0) (position_none p front none)

  stated_cut : (rest : List ℕ) → (cut_at (front ++ 95 ∷ rest) (position p (front ++ 95 ∷ rest))).0 ≡ front
  stated_cut rest = ap (λ at. (cut_at (front ++ 95 ∷ rest) at).0) (position_some p front rest 95 none is)
      ∙ take_at front (95 ∷ rest) (length front) refl

  cut_front : (w : IntegerWidth) → (cut_at (front ++ indicator w) (position p (front ++ indicator w))).0 ≡ front
  cut_front Unknown = bare_cut
  cut_front Zero = bare_cut
  cut_front Eight = stated_cut (48 ∷ [])
  cut_front Sixteen = stated_cut (49 ∷ [])
  cut_front ThirtyTwo = stated_cut (50 ∷ [])
  cut_front SixtyFour = stated_cut (51 ∷ [])

parted_bare : (ds : List ℕ) → AllDigits 10 ds → parted (ds ++ []) ≡ Some (ds, Unknown)
parted_bare ds h = ap parted (append-nil ds)
    ∙ parted_none ds (sym (position_none (λ b. b == 95) ds (none_of_digits (λ b. b == 95) ds refl h)))

parted_stated : (ds : List ℕ) (w : IntegerWidth) (b : ℕ) → AllDigits 10 ds → width_by b ≡ Some w
    → parted (ds ++ 95 ∷ b ∷ []) ≡ Some (ds, w)
parted_stated ds w b h is =
    let rest = drop_at ds (95 ∷ b ∷ []) (length ds) refl in
    parted_some (ds ++ 95 ∷ b ∷ []) (length ds) w
    (sym (position_some (λ b. b == 95) ds (b ∷ []) 95 (none_of_digits (λ b. b == 95) ds refl h) refl))
    (sym (ap width_of rest ∙ is))
    ∙ ap (λ (ds : List ℕ). Some (ds, w)) (take_at ds (95 ∷ b ∷ []) (length ds) refl)

parted_number : (ds : List ℕ) (w : IntegerWidth) → AllDigits 10 ds
    → parted (ds ++ indicator w) ≡ Some (ds, read_width w)
parted_number ds Unknown h = parted_bare ds h
parted_number ds Zero h = parted_bare ds h
parted_number ds Eight h = parted_stated ds Eight 48 h refl
parted_number ds Sixteen h = parted_stated ds Sixteen 49 h refl
parted_number ds ThirtyTwo h = parted_stated ds ThirtyTwo 50 h refl
parted_number ds SixtyFour h = parted_stated ds SixtyFour 51 h refl

number_from_decimal : (n : ℕ) → n ≤ 2 ^ 64 → number_from (decimal n) ≡ Some n
number_from_decimal n le =
    ap (λ r. r >>= λ n. whole n.0 n.2) (ap number_of (sym (append-nil (decimal n))
    ∙ sym (append-nil (decimal n ++ [])))
    ∙ number_of-append (decimal n ++ []) [] n None (decimal_IsNumber n [] None le refl) tt)

magnitude_number : (n : ℕ) (w : IntegerWidth) → n ≤ 2 ^ 64 → magnitude (number n w) ≡ Some (n, read_width w)
magnitude_number n w le =
    ap (λ r. r >>= λ p. number_from p.0 >>= λ n. Some (n, p.1)) (parted_number (decimal n) w (digits_of n le).1)
    ∙ ap (λ r. r >>= λ n. Some (n, read_width w)) (number_from_decimal n le)

fitting_read : (n : ℕ) (w : IntegerWidth) → fits w n ≡ true → n < 2 ^ 64
    → fitting n (read_width w) ≡ Some (n, read_width w)
fitting_read n w h lt = cond-true (fits (read_width w) n) _ None (read_fits n w h lt)

pub unsigned_number : (n : ℕ) (w : IntegerWidth) → fits w n ≡ true → n < 2 ^ 64
    → unsigned (number n w) ≡ Some (n, read_width w)
unsigned_number n w h lt =
    ap (λ r. r >>= λ m. fitting m.0 m.1) (magnitude_number n w (omega (arith, lt))) ∙ fitting_read n w h lt

pub negated_number : (n : ℕ) (w : IntegerWidth) → fits w n ≡ true → n < 2 ^ 64
    → negated (number (n + 1) w) ≡ Some (n, read_width w)
negated_number n w h lt =
    ap (λ r. r >>= λ m. one_less m.0 m.1) (magnitude_number (n + 1) w (omega (arith, lt)))
    ∙ ap (λ k. one_less k (read_width w)) (add-one n) ∙ fitting_read n w h lt

-- digits without a sign are an integer that is not negative
pub integer_digits : (ds rest : List ℕ) → IsNumeral 10 ds
    → integer_of (ds ++ rest) ≡ (unsigned (ds ++ rest) >>= λ n. Some (integer n.0 n.1))
integer_digits [] rest h = absurd (omega (arith, h.0))
integer_digits (d ∷ ds) rest h =
    cond-false (d == 45) _ _ (not-true (d == 45) (digit_passes (λ d. not (d == 45)) d refl h.1.0))
    ∙ cond-false (d == 43) _ _ (not-true (d == 43) (digit_passes (λ d. not (d == 43)) d refl h.1.0))

pub tag_digits : (ds rest : List ℕ) → IsNumeral 10 ds → tag_number (ds ++ rest) ≡ unsigned (ds ++ rest)
tag_digits [] rest h = absurd (omega (arith, h.0))
tag_digits (d ∷ ds) rest h = cond-true (is_digit d) _ None (digit_passes is_digit d refl h.1.0)

-- ---- an integer is no float

no_special : (signed : Bool) (ds : List ℕ) → IsNumeral 10 ds
    → is_some (special (sign_text signed ++ ds)) ≡ false
no_special signed [] h = absurd (omega (arith, h.0))
no_special true (d ∷ ds) h =
    not-true _ (digit_passes (λ d. not (is_some (special (45 ∷ d ∷ ds)))) d refl h.1.0)
no_special false (d ∷ ds) h =
    not-true _ (digit_passes (λ d. not (is_some (special (d ∷ ds)))) d refl h.1.0)

unsigned_is : (signed : Bool) (ds : List ℕ) → IsNumeral 10 ds → decimals.unsigned (sign_text signed ++ ds) ≡ ds
unsigned_is signed [] h = absurd (omega (arith, h.0))
unsigned_is true (d ∷ ds) h = refl
unsigned_is false (d ∷ ds) h =
    rw (
      not-true (d == 45) (digit_passes (λ d. not (d == 45)) d refl h.1.0),
      not-true (d == 43) (digit_passes (λ d. not (d == 43)) d refl h.1.0),
    ) refl

abbrev digit_parts : List ℕ → Parts
digit_parts ds = record {
  whole = ds;
  point = false;
  fraction = [];
  exponent_negative = false;
  exponent = [];
  len = length (ds ++ []);
}

scanned_digits : (ds : List ℕ) → AllDigits 10 ds → scan_numeral ds ≡ digit_parts ds
scanned_digits ds h = ap scan_numeral (sym (append-nil ds)) ∙ scan_numeral-text_of (digit_parts ds) record {
  whole_digits = h;
  fraction_digits = tt;
  exponent_digits = tt;
  no_point = λ e. refl;
  no_exponent = λ e. refl;
  len_is = refl;
}

last_false : (a b : Bool) → (a && b && false) ≡ false
last_false true true = refl
last_false true false = refl
last_false false b = refl

no_decimal : (signed : Bool) (ds : List ℕ) → IsNumeral 10 ds → is_decimal (sign_text signed ++ ds) ≡ false
no_decimal signed ds h =
    let text = sign_text signed ++ ds in
    let parts : parts_of text ≡ digit_parts ds =
    ap scan_numeral (unsigned_is signed ds h) ∙ scanned_digits ds h.1 in
    ap (λ (p : Parts). (p.len == length (decimals.unsigned text)) && has_digits p
    && (p.point || nat_lt 0 (length p.exponent))) parts
    ∙ last_false (length (ds ++ []) == length (decimals.unsigned text)) (has_digits (digit_parts ds))

-- the second byte is no `x`
no_prefix : (ds : List ℕ) → AllDigits 10 ds → has_p (after_bytes (codes "0x") ds) ≡ false
no_prefix [] h = refl
no_prefix (d ∷ []) h = either (nat_eq 48 d)
  where
    either : (first : Bool) → has_p (if first && false then Some [] else None) ≡ false
    either true = refl
    either false = refl
no_prefix (d ∷ e ∷ ds) h =
    either (nat_eq 48 d) (nat_eq 120 e) (not-true _ (digit_passes (λ e. not (nat_eq 120 e)) e refl h.1.0))
  where
    either : (first second : Bool) → second ≡ false
        → has_p (if first && (second && true) then Some ds else None) ≡ false
    either true true none = absurd cc
    either true false none = refl
    either false second none = refl

no_hex : (signed : Bool) (ds : List ℕ) → IsNumeral 10 ds → is_hex (sign_text signed ++ ds) ≡ false
unfolding is_hex
no_hex signed ds h = ap (λ t. has_p (after_bytes (codes "0x") t)) (unsigned_is signed ds h) ∙ no_prefix ds h.1

pub no_float : (signed : Bool) (ds : List ℕ) (w : IntegerWidth) → IsNumeral 10 ds
    → is_float (sign_text signed ++ (ds ++ indicator w)) ≡ false
no_float signed ds w h =
    let front = sign_text signed ++ ds in
    let name = cut_front (λ b. b == 95) front refl (none_of_signed (λ b. b == 95) signed ds refl refl h.1) w in
    let digits = cut_front (λ b. (b == 95) || (b == 102)) front refl
    (none_of_signed (λ b. (b == 95) || (b == 102)) signed ds refl refl h.1) w in
    ap is_float (sym (append_assoc (sign_text signed) ds (indicator w)))
    ∙ ap₂ (λ name digits. is_some (special name) || is_decimal digits || is_hex name) name digits
    ∙ rw (no_special signed ds h, no_decimal signed ds h) (no_hex signed ds h)

-- ---- digits alone

digit_below : (d : ℕ) → is_digit d ≡ true → digit_value d < 10
digit_below d is =
    let low : 48 ≤ d = grind (arith, nat_tests, is) in
    let high : d ≤ 57 = grind (arith, nat_tests, is) in
    let same = digit_value_digit d (low, high) in
    omega (arith, same)

all_digits : (ds : List ℕ) → list_all is_digit ds ≡ true → AllDigits 10 ds
all_digits [] all = tt
all_digits (d ∷ ds) all =
    let parts = and_parts (is_digit d) (list_all is_digit ds) all in
    (digit_below d parts.0, all_digits ds parts.1)

pub digits_alone : (ds : List ℕ) → 0 < length ds → list_all is_digit ds ≡ true → IsNumeral 10 ds
digits_alone ds some all = (some, all_digits ds all)

-- digits are no float, with a minus before them or without
pub integer_no_float : (signed : Bool) (ds : List ℕ) → IsNumeral 10 ds → is_float (sign_text signed ++ ds) ≡ false
integer_no_float signed ds h =
    ap (λ rest. is_float (sign_text signed ++ rest)) (sym (append-nil ds)) ∙ no_float signed ds Unknown h

minus_first : (b : ℕ) (text digits : List ℕ) (minus : Bool) → (b == 45) ≡ minus
    → Some digits ≡ (if minus then Some text else None) → 45 ∷ digits ≡ b ∷ text
minus_first b text digits true is found = let same = eqb-true b 45 is in cc (same, found)
minus_first b text digits false is found = cc found

pub minus_no_float : (word digits : List ℕ) → Some digits ≡ after_byte 45 word → IsNumeral 10 digits
    → is_float word ≡ false
minus_no_float [] digits found h = cc found
minus_no_float (b ∷ text) digits found h =
    subst (λ word. is_float word ≡ false) (minus_first b text digits (b == 45) refl found)
    (integer_no_float true digits h)
