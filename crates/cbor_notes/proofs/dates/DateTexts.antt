-- The texts of dates (from the year 0 on), times of day and offsets from UTC: which digits and separators they have at
-- which place, and that a text with these is one of them. A year has a minus if and only if it is before 0, and dates
-- with the same `epoch_day` have the same text.
use Rattle.std.proofs.Common.{◌⊎◌, inl, inr, neg_ℤ, ◌*◌, ap, ◌∙◌, Option, Some, None, false, IsSome, IsSomeAnd, nat_abs}
use Rattle.std.proofs.Common.{to_z, of_z, w8, append_assoc, ◌<ℤ◌, Result, Ok, Err, IfOk, IfSome, ◌≡◌, ℕ, ◌+◌, ◌/◌, ◌%◌}
use Rattle.std.proofs.Common.{◌<◌, ◌≤◌, ℤ, pos, negsuc, ◌≤ℤ◌, unsigned_abs, List, [], ◌∷◌, ◌++◌, length, get_or, refl}
use Rattle.std.proofs.Common.{arith}
use Rattle.std.proofs.lemmas.Bool.Decides.{nat_tests}
use Rattle.std.specs.Int.Signed.{lt_z}
use Rattle.std.specs.Result.{result_ok}
use Rattle.std.proofs.lemmas.Slice.Eq.{text_from_reads}
use Rattle.std.proofs.NetLemmas.Arrays.{eight_items}
use Rattle.std.proofs.lemmas.Int.{to_z-of_z}
use Rattle.jiff.proofs.Family.{epoch_day_injective, epoch_day_same}
use Rattle.jiff.proofs.OnLiterals.{jiff_on_literals}
use Rattle.jiff.proofs.SpanFacts.{signed_arith}
use Rattle.jiff.specs.Types.{Date}
use Rattle.jiff.specs.Words.{IsDate, IsYear, IsYmd, days_in_month, epoch_day}
use Rattle.cbor_notes.specs.Date.{IsDateText, clock_text, date_text, two_digits, four_digits, grouped_signed, year_text}
use Rattle.cbor_notes.specs.DateTime.{IsOffset, ahead, behind}
use Rattle.cbor_notes.specs.Text.{grouped}

pub ten_items : (xs : List ℕ) → length xs ≡ 10
    → xs ≡ get_or xs 0 0 ∷ get_or xs 1 0 ∷ get_or xs 2 0 ∷ get_or xs 3 0 ∷ get_or xs 4 0 ∷ get_or xs 5 0 ∷ get_or xs 6 0
    ∷ get_or xs 7 0 ∷ get_or xs 8 0 ∷ get_or xs 9 0 ∷ []
ten_items xs h = text_from_reads xs _ h (
  refl,
  (refl, (refl, (refl, (refl, (refl, (refl, (refl, (refl, (refl, tt))))))))),
)

pub no_minus : (y : ℤ) → pos 0 ≤ℤ y → year_text y ≡ four_digits (unsigned_abs y)
no_minus (pos n) h = refl
no_minus (negsuc n) h = absurd (omega (arith, signed_arith))

-- a date from the year 0 on has no minus
pub date_text-ten : (date : Date) → pos 0 ≤ℤ date.year
    → date_text date ≡ two_digits (unsigned_abs date.year / 100) ++ two_digits (unsigned_abs date.year % 100)
    ++ (45 ∷ two_digits date.month) ++ (45 ∷ two_digits date.day)
unfolding date_text
date_text-ten date h = rw (no_minus date.year h) refl

-- a year has four digits
pub year_below : (y : ℤ) → IsYear y → unsigned_abs y < 10000
year_below (pos n) h = omega (arith, signed_arith)
year_below (negsuc n) h = omega (arith, signed_arith)

-- a time of day is eight characters
pub clock_text-eight : (hour minute second : ℕ)
    → clock_text hour minute second ≡ two_digits hour ++ (58 ∷ two_digits minute) ++ (58 ∷ two_digits second)
unfolding clock_text
clock_text-eight hour minute second = refl

-- days are counted from 1970-01-01
pub epoch_day-1970 : (date : Date) → IsYmd (pos 1970) (pos 1) (pos 1) date → epoch_day date ≡ pos 0
unfolding jiff_on_literals
epoch_day-1970 date is =
    let m : date.month ≡ 1 = cc in
    let d : date.day ≡ 1 = cc in
    rw (is.0, m, d) refl

-- one day has one date, and so one text
pub date_text_same : (a b : Date) → epoch_day a ≡ epoch_day b → date_text a ≡ date_text b
unfolding date_text
date_text_same a b e =
    let same = epoch_day_injective a b e in
    rw (same.0, same.1, same.2) refl

-- a year before 0 has a minus
pub with_minus : (y : ℤ) → y <ℤ pos 0 → year_text y ≡ (45 ∷ []) ++ four_digits (unsigned_abs y)
with_minus (pos n) h = absurd (omega (arith, signed_arith))
with_minus (negsuc n) h = refl

-- five pieces, appended one after the other
pub five_pieces : (t₀ t₁ t₂ t₃ t₄ a b c d e : List ℕ) → t₁ ≡ t₀ ++ a → t₂ ≡ t₁ ++ b → t₃ ≡ t₂ ++ c → t₄ ≡ t₃ ++ d
    → t₄ ++ e ≡ t₀ ++ (a ++ b ++ c ++ d ++ e)
five_pieces t₀ t₁ t₂ t₃ t₄ a b c d e p q r s = rw (s, r, q, p) (simp append_assoc)

-- what holds of the value of an `Ok` holds of what `ok` makes of it
pub IfSome-result_ok : {T E : Type 0} (r : Result T E) (P : T → Type 0) → IfOk r P → IfSome (result_ok r) P
IfSome-result_ok (Ok x) P h = h
IfSome-result_ok (Err e) P h = tt

-- a number that is not negative is its distance from zero
pub not_negative : (z : ℤ) → pos 0 ≤ℤ z → pos (unsigned_abs z) ≡ z
not_negative (pos n) h = refl
not_negative (negsuc n) h = absurd (omega (arith, signed_arith))

-- the parts of a date are what a constructor takes
pub civil_parts : (date : Date) → pos 0 ≤ℤ date.year
    → IsDate (pos (unsigned_abs date.year)) (pos date.month) (pos date.day)
civil_parts date h =
    let m = date.month_in in
    let d = date.day_in in
    rw (not_negative date.year h) (
      date.year_in,
      (omega (arith, signed_arith), omega (arith, signed_arith)),
      (omega (arith, signed_arith), omega (arith, signed_arith)),
    )

-- and gives that date's day
pub date_found : (found : Option Date) (date : Date) → pos 0 ≤ℤ date.year → IsSome found
    → IfSome found (IsYmd (pos (unsigned_abs date.year)) (pos date.month) (pos date.day))
    → IsSomeAnd found (λ answer. epoch_day answer ≡ epoch_day date)
date_found None date h some is = cc
date_found (Some answer) date h some is =
    let m : answer.month ≡ date.month = cc in
    let d : answer.day ≡ date.day = cc in
    epoch_day_same answer date (is.0 ∙ not_negative date.year h) m d

-- ten characters that are the digits of a date's parts are its text
pub text_of_parts : (text : List ℕ) (date : Date) (century year month day : ℕ) → length text ≡ 10
    → get_or text 4 0 ≡ 45 → get_or text 7 0 ≡ 45
    → get_or text 0 0 ∷ get_or text 1 0 ∷ [] ≡ two_digits century
    → get_or text 2 0 ∷ get_or text 3 0 ∷ [] ≡ two_digits year
    → get_or text 5 0 ∷ get_or text 6 0 ∷ [] ≡ two_digits month
    → get_or text 8 0 ∷ get_or text 9 0 ∷ [] ≡ two_digits day
    → year < 100 → IsYmd (pos (century * 100 + year)) (pos month) (pos day) date → IsDateText text date
text_of_parts text date century year month day ten first second a b e g small is =
    let here : pos 0 ≤ℤ date.year = rw is.0 (omega (arith, signed_arith)) in
    let y : unsigned_abs date.year ≡ century * 100 + year = ap unsigned_abs is.0 in
    let q : unsigned_abs date.year / 100 ≡ century = omega arith in
    let r : unsigned_abs date.year % 100 ≡ year = omega arith in
    let m : date.month ≡ month = cc in
    let d : date.day ≡ day = cc in
    (here, ten_items text ten ∙ rw (date_text-ten date here, q, r, m, d) cc)

-- eight characters that are digits with colons are the text of a time of day
pub clock_of_parts : (text : List ℕ) (hour minute second : ℕ) → length text ≡ 8
    → get_or text 2 0 ≡ 58 → get_or text 5 0 ≡ 58
    → get_or text 0 0 ∷ get_or text 1 0 ∷ [] ≡ two_digits hour
    → get_or text 3 0 ∷ get_or text 4 0 ∷ [] ≡ two_digits minute
    → get_or text 6 0 ∷ get_or text 7 0 ∷ [] ≡ two_digits second
    → text ≡ clock_text hour minute second
unfolding clock_text
clock_of_parts text hour minute second eight first last a b e =
    eight_items text eight ∙ cc

-- a month or day comes back from its bits
pub small_part : (z : ℤ) (n : ℕ) → z ≡ pos n → n < 128 → nat_abs (to_z w8 (of_z w8 z)) ≡ n
small_part z n e h = rw e (ap nat_abs (to_z-of_z w8 (pos n) (omega (arith, signed_arith))))

pub day_below : (date : Date) → date.day < 100
day_below date =
    let d = date.day_in in
    let m : days_in_month date.year date.month ≤ 31 = grind arith in
    omega arith

-- a year after a text, with its minus and without one
pub minus_first : (t₀ t₁ : List ℕ) (y : ℤ) (n : ℕ) → y <ℤ pos 0 → n ≡ unsigned_abs y → t₁ ≡ t₀ ++ (45 ∷ [])
    → t₁ ++ four_digits n ≡ t₀ ++ year_text y
minus_first t₀ t₁ y n h e f = rw (f, e, with_minus y h) (append_assoc t₀ (45 ∷ []) (four_digits (unsigned_abs y)))

pub digits_first : (t₀ t₁ : List ℕ) (y : ℤ) (n : ℕ) → pos 0 ≤ℤ y → n ≡ unsigned_abs y → t₁ ≡ t₀
    → t₁ ++ four_digits n ≡ t₀ ++ year_text y
digits_first t₀ t₁ y n h e f = rw (f, e, no_minus y h) refl

-- a number is grouped by its distance from zero and its sign
pub grouped_signed-is : (z : ℤ) → grouped (unsigned_abs z) (lt_z z (pos 0)) ≡ grouped_signed z
grouped_signed-is (pos n) =
    let up : lt_z (pos n) (pos 0) ≡ false = grind (arith, nat_tests) in
    rw up refl
grouped_signed-is (negsuc n) = refl

-- what an offset's text has at its places
pub record OffsetParts (text : List ℕ) (offset : ℤ) : Type 0 where
  pub hour : ℕ
  pub minute : ℕ
  pub hour_in : hour ≤ 23
  pub minute_in : minute ≤ 59
  pub length_is : length text ≡ 6
  pub colon : get_or text 3 0 ≡ 58
  pub hour_is : get_or text 1 0 ∷ get_or text 2 0 ∷ [] ≡ two_digits hour
  pub minute_is : get_or text 4 0 ∷ get_or text 5 0 ∷ [] ≡ two_digits minute
  pub sign_is : ((get_or text 0 0 ≡ 43) × (offset ≡ pos (3600 * hour + 60 * minute)))
      ⊎ ((get_or text 0 0 ≡ 45) × (offset ≡ neg_ℤ (pos (3600 * hour + 60 * minute))))

offset_parts : (text : List ℕ) (offset : ℤ) (sign hour minute : ℕ) → hour ≤ 23 → minute ≤ 59
    → text ≡ (sign ∷ two_digits hour) ++ (58 ∷ two_digits minute)
    → ((sign ≡ 43) × (offset ≡ pos (3600 * hour + 60 * minute)))
    ⊎ ((sign ≡ 45) × (offset ≡ neg_ℤ (pos (3600 * hour + 60 * minute)))) → OffsetParts text offset
offset_parts text offset sign hour minute h m is signed =
    let first : get_or text 0 0 ≡ sign = ap (λ t. get_or t 0 0) is in
    record {
      hour = hour;
      minute = minute;
      hour_in = h;
      minute_in = m;
      length_is = ap length is;
      colon = ap (λ t. get_or t 3 0) is;
      hour_is = ap (λ t. get_or t 1 0 ∷ get_or t 2 0 ∷ []) is;
      minute_is = ap (λ t. get_or t 4 0 ∷ get_or t 5 0 ∷ []) is;
      sign_is = elim signed [ inl plus ↦ inl (first ∙ plus.0, plus.1) | inr minus ↦ inr (first ∙ minus.0, minus.1) ];
    }

pub IsOffset-parts : (text : List ℕ) (offset : ℤ) → IsOffset text offset → OffsetParts text offset
IsOffset-parts text offset (ahead hour minute h m is o) = offset_parts text offset 43 hour minute h m is (inl (refl, o))
IsOffset-parts text offset (behind hour minute h m is o) =
    offset_parts text offset 45 hour minute h m is (inr (refl, o))

-- six characters that are a sign, digits and a colon
pub offset_text : (text : List ℕ) (sign hour minute : ℕ) → length text ≡ 6 → get_or text 0 0 ≡ sign
    → get_or text 3 0 ≡ 58
    → get_or text 1 0 ∷ get_or text 2 0 ∷ [] ≡ two_digits hour
    → get_or text 4 0 ∷ get_or text 5 0 ∷ [] ≡ two_digits minute
    → text ≡ (sign ∷ two_digits hour) ++ (58 ∷ two_digits minute)
offset_text text sign hour minute six first colon a b =
    text_from_reads text (get_or text 0 0 ∷ get_or text 1 0 ∷ get_or text 2 0 ∷ get_or text 3 0 ∷ get_or text 4 0
    ∷ get_or text 5 0 ∷ []) six (refl, (refl, (refl, (refl, (refl, (refl, tt)))))) ∙ cc
