-- `date_of_epoch`: the text of the date that is a number of days after 1970-01-01. `epoch_of_date`: the number of days,
-- from the text. `datetime_of_epoch`: the text of the moment in UTC that is a number of seconds after
-- 1970-01-01T00:00:00Z; the way back is in `DateTime.antt`. The dates, and the number of the day of each, are those of
-- `jiff`.
use Rattle.std.specs.Prelude.{◌≡◌, ℕ, ◌+◌, ◌*◌, ◌/◌, ◌%◌, ◌≤◌, suc, ℤ, pos, negsuc, ◌+ℤ◌, ◌*ℤ◌, ◌≤ℤ◌, int_le}
use Rattle.std.specs.Prelude.{unsigned_abs, Bool, true, false, ◌&&◌, if◌then◌else◌, Option, Some, None, option_map}
use Rattle.std.specs.Prelude.{List, [], ◌∷◌, ◌++◌, codes, bytes_eq}
use Rattle.std.specs.Int.{int_div_euclid, int_rem_euclid}
use Rattle.cbor_tokens.specs.Ascii.{digit_zero}
use Rattle.jiff.specs.Types.{Date}
use Rattle.jiff.specs.Words.{epoch_day}
use Rattle.cbor_notes.specs.Days.{CalendarDay, calendar_day, day_at, day_count, day_number, is_day_number}
use Rattle.cbor_notes.specs.Search.{first_found}
use Rattle.cbor_notes.specs.Text.{grouped}

-- a number below 100 in two digits
abbrev pub two_digits : ℕ → List ℕ
two_digits n = (digit_zero + n / 10) ∷ (digit_zero + n % 10) ∷ []

-- a number below 10,000 in four digits
abbrev pub four_digits : ℕ → List ℕ
four_digits n = two_digits (n / 100) ++ two_digits (n % 100)

-- a year in four digits, after a minus if it is before the year 0
abbrev pub year_text : ℤ → List ℕ
year_text (pos n) = four_digits n
year_text (negsuc n) = codes "-" ++ four_digits (suc n)

-- `2013-03-21`, of a year, a month and a day
abbrev pub civil_text : ℤ → ℕ → ℕ → List ℕ
civil_text year month day =
    year_text year ++ codes "-" ++ two_digits month ++ codes "-" ++ two_digits day

-- the same, of a date
unfoldable pub date_text : Date → List ℕ
date_text date = civil_text date.year date.month date.day

-- `20:04:00`
unfoldable pub clock_text : ℕ → ℕ → ℕ → List ℕ
clock_text hour minute second =
    two_digits hour ++ codes ":" ++ two_digits minute ++ codes ":" ++ two_digits second

-- the text is that of the date whose day has this number
abbrev pub IsDayText : ℤ → List ℕ → Type 0
IsDayText number text = (date : Date) × (epoch_day date ≡ number) × (text ≡ date_text date)

-- the text is that of a date from the year 0 on
abbrev pub IsDateText : List ℕ → Date → Type 0
IsDateText text date = (pos 0 ≤ℤ date.year) × (text ≡ date_text date)

-- a number, grouped, after a minus if it is below zero
abbrev pub grouped_signed : ℤ → List ℕ
grouped_signed (pos n) = grouped n false
grouped_signed (negsuc n) = grouped (suc n) true

-- the seconds from 1970-01-01T00:00:00 to a time on the day with this number, where each day has 86,400
abbrev pub day_seconds : ℤ → ℕ → ℕ → ℕ → ℤ
day_seconds number hour minute second =
    number *ℤ pos 86400 +ℤ pos (3600 * hour + 60 * minute + second)

-- the same, to a time on a date
abbrev pub civil_seconds : Date → ℕ → ℕ → ℕ → ℤ
civil_seconds date = day_seconds (epoch_day date)

-- the text is `2013-03-21T20:04:00Z`, of the moment in UTC that many seconds after 1970-01-01T00:00:00
pub record IsMomentText (seconds : ℤ) (text : List ℕ) : Type 0 where
  pub date : Date
  pub hour : ℕ
  pub minute : ℕ
  pub second : ℕ
  pub hour_in : hour ≤ 23
  pub minute_in : minute ≤ 59
  pub second_in : second ≤ 59
  pub seconds_are : seconds ≡ civil_seconds date hour minute second
  pub text_is : text ≡ date_text date ++ codes "T" ++ clock_text hour minute second ++ codes "Z"

-- the text of a day
abbrev pub day_text : CalendarDay → List ℕ
day_text day = civil_text day.year day.month day.day

-- the text of the day with this number, where there is one
unfoldable pub date_of_epoch : ℤ → Option (List ℕ)
date_of_epoch number = if is_day_number number then Some (day_text (day_at number)) else None

-- the text is that of a day from the year 0 on
abbrev pub is_day_text : List ℕ → CalendarDay → Bool
is_day_text text day = int_le (pos 0) day.year && bytes_eq text (day_text day)

-- the number of the day that the text is, grouped; all days are tried
unfoldable pub epoch_of_date : List ℕ → Option (List ℕ)
epoch_of_date text = first_found day_count (λ n.
    if is_day_text text (calendar_day n) then Some (grouped_signed (day_number n)) else None)

-- `20:04:00`, the time of day so far after midnight in seconds
abbrev pub time_text : ℕ → List ℕ
time_text seconds = clock_text (seconds / 3600) (seconds / 60 % 60) (seconds % 60)

-- the text of the moment `seconds` after 1970-01-01T00:00:00Z: whole days of 86,400 seconds give
-- its date, and the seconds that are left over its time of day
unfoldable pub datetime_of_epoch : ℤ → Option (List ℕ)
datetime_of_epoch seconds =
    let time = time_text (unsigned_abs (int_rem_euclid seconds (pos 86400))) in
    option_map (λ date. date ++ codes "T" ++ time ++ codes "Z")
    (date_of_epoch (int_div_euclid seconds (pos 86400)))
