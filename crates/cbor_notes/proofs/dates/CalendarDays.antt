-- The first `day_count` days of `calendar_day` are exactly the dates of `jiff`, with the same numbers (`day_number`):
-- each day is a date, and each date is one of the days.
use Rattle.std.proofs.Common.{◌≡◌, ℕ, zero, suc, ◌+◌, ◌<◌, ◌≤◌, ℤ, pos, neg_ℤ, ◌+ℤ◌, ◌-ℤ◌, ◌<ℤ◌, unsigned_abs, nat_lt}
use Rattle.std.proofs.Common.{refl, sym, ap, ◌∙◌, arith, rules}
use Rattle.std.proofs.lemmas.Bool.{cond_both, ltb-true, ltb-false}
use Rattle.jiff.proofs.Family.{days_from_civil-day, days_from_civil-max, days_from_civil-min}
use Rattle.jiff.proofs.Family.{days_from_civil-next_month, days_from_civil-next_year, epoch_day_injective}
use Rattle.jiff.proofs.Family.{epoch_day_range}
use Rattle.jiff.proofs.SpanFacts.{signed_arith}
use Rattle.jiff.specs.Types.{Date}
use Rattle.jiff.specs.Words.{IsEpochDay, days_in_month, epoch_day}
use Rattle.cbor_notes.proofs.dates.DateTexts.{not_negative}
use Rattle.cbor_notes.specs.Days.{IsDateOn, calendar_day, day_count, day_number, day_of, next_day}

month_long : (year : ℤ) (month : ℕ) → 1 ≤ days_in_month year month
month_long year month = grind arith

is_date : (date : Date) (number : ℤ) → epoch_day date ≡ number → IsDateOn number (day_of date)
is_date date number is = (date, refl, is)

later_in_month : (date : Date) → date.day < days_in_month date.year date.month
    → IsDateOn (epoch_day date +ℤ pos 1) (record { year = date.year; month = date.month; day = date.day + 1 })
later_in_month date h =
    let first = date.day_in in
    is_date (record {
      year = date.year;
      month = date.month;
      day = date.day + 1;
      year_in = date.year_in;
      month_in =
          date.month_in;
      day_in = (omega arith, omega arith);
    }) (epoch_day date +ℤ pos 1)
    (omega (
      arith,
      signed_arith,
      days_from_civil-day date.year date.month date.day (date.day + 1) first.0
          (omega arith),
    ))

next_month : (date : Date) → days_in_month date.year date.month ≤ date.day → date.month < 12
    → IsDateOn (epoch_day date +ℤ pos 1) (record { year = date.year; month = date.month + 1; day = 1 })
next_month date last h =
    let month_in = date.month_in in
    let day_in = date.day_in in
    is_date (record {
      year = date.year;
      month = date.month + 1;
      day = 1;
      year_in = date.year_in;
      month_in =
          (omega arith, omega arith);
      day_in = (omega arith, month_long date.year (date.month + 1));
    })
    (epoch_day date +ℤ pos 1)
    (days_from_civil-next_month date.year date.month date.day month_in.0 (omega arith))

-- only 9999-12-31 has no day after it
next_year : (date : Date) → days_in_month date.year date.month ≤ date.day → 12 ≤ date.month
    → epoch_day date <ℤ pos 2_932_896 → IsDateOn (epoch_day date +ℤ pos 1)
    (record { year = date.year +ℤ pos 1; month = 1; day = 1 })
next_year date last late before =
    let year_in = date.year_in in
    let month_in = date.month_in in
    let day_in = date.day_in in
    let month : date.month ≡ 12 = omega arith in
    let length : days_in_month date.year date.month ≡ 31 = rw month refl in
    let day : date.day ≡ 31 = omega arith in
    let year : date.year ≡ pos 9999 → ⊥ = λ e. let max : epoch_day date ≡ pos 2_932_896 =
    rw (e, month, day) days_from_civil-max in omega (arith, signed_arith) in
    is_date (record {
      year = date.year +ℤ pos 1;
      month = 1;
      day = 1;
      year_in =
          (omega (arith, signed_arith), omega (arith, signed_arith));
      month_in = (omega arith, omega arith);
      day_in =
          (omega arith, omega arith);
    }) (epoch_day date +ℤ pos 1)
    (rw (month, day) (days_from_civil-next_year date.year (date.year +ℤ pos 1) (omega (arith, signed_arith)) refl))

-- the day after a date is that of the next number
tomorrow : (date : Date) → epoch_day date <ℤ pos 2_932_896 → IsDateOn (epoch_day date +ℤ pos 1) (next_day (day_of date))
tomorrow date before =
    let P = IsDateOn (epoch_day date +ℤ pos 1) in
    cond_both (nat_lt date.day (days_in_month date.year date.month)) _ _ P
    (λ here. later_in_month date (ltb-true _ _ here))
    (λ last. cond_both (nat_lt date.month 12) _ _ P
    (λ month. next_month date (ltb-false _ _ last) (ltb-true _ _ month))
    (λ year. next_year date (ltb-false _ _ last) (ltb-false _ _ year) before))

-- each day of the calendar is a date
pub date_on : (n : ℕ) → n < day_count → IsDateOn (day_number n) (calendar_day n)
unfolding calendar_day
date_on zero h = is_date (record {
  year = neg_ℤ (pos 9999);
  month = 1;
  day = 1;
  year_in = search rules;
  month_in =
      search rules;
  day_in = search rules;
}) (day_number 0) days_from_civil-min
date_on (suc n) h =
    let today = date_on n (omega arith) in
    let next = tomorrow today.0 (rw today.2 (omega (arith, signed_arith))) in
    (next.0, next.1 ∙ ap next_day today.1, next.2 ∙ rw today.2 (omega (arith, signed_arith)))

-- the place of a date among them
abbrev pub place : ℤ → ℕ
place number = unsigned_abs (number -ℤ day_number 0)

pub place_in : (number : ℤ) → IsEpochDay number → (place number < day_count) × (day_number (place number) ≡ number)
place_in number range =
    let back = not_negative (number -ℤ day_number 0) (omega (arith, signed_arith)) in
    (omega (arith, signed_arith), omega (arith, signed_arith))

same_parts : (a b : Date) → epoch_day a ≡ epoch_day b → day_of a ≡ day_of b
same_parts a b e =
    let same = epoch_day_injective a b e in
    rw (same.0, same.1, same.2) refl

-- and each date is one of them
pub place_of : (date : Date) → (place (epoch_day date) < day_count)
    × (day_number (place (epoch_day date)) ≡ epoch_day date) × (day_of date ≡ calendar_day (place (epoch_day date)))
place_of date =
    let here = place_in (epoch_day date) (epoch_day_range date) in
    let on = date_on (place (epoch_day date)) here.0 in
    (here.0, here.1, same_parts date on.0 (sym here.1 ∙ sym on.2) ∙ on.1)
