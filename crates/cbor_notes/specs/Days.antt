-- The days of the calendar in order. They are the dates of `jiff`, with the same numbers, as the law `calendar_days` of
-- laws.rt states.
use Rattle.std.specs.Prelude.{◌≡◌, ℕ, zero, suc, ◌+◌, Bool, ◌&&◌, int_le, int_lt, unsigned_abs, ℤ, pos, neg_ℤ, ◌+ℤ◌}
use Rattle.std.specs.Prelude.{◌-ℤ◌, nat_lt, if◌then◌else◌}
use Rattle.jiff.specs.Types.{Date}
use Rattle.jiff.specs.Words.{days_in_month, epoch_day}

-- a day by its year, month and day of the month
pub record CalendarDay : Type 0 where
  pub year : ℤ
  pub month : ℕ
  pub day : ℕ

-- a date of `jiff` as a day of the calendar
abbrev pub day_of : Date → CalendarDay
day_of date = record { year = date.year; month = date.month; day = date.day }

-- the day is that of a date, whose number is this
abbrev pub IsDateOn : ℤ → CalendarDay → Type 0
IsDateOn number day = (date : Date) × (day_of date ≡ day) × (epoch_day date ≡ number)

-- the day after a day
abbrev pub next_day : CalendarDay → CalendarDay
next_day today =
    if nat_lt today.day (days_in_month today.year today.month)
    then record { year = today.year; month = today.month; day = today.day + 1 }
    else if nat_lt today.month 12 then record { year = today.year; month = today.month + 1; day = 1 }
    else record { year = today.year +ℤ pos 1; month = 1; day = 1 }

-- the day a number of days after -9999-01-01
unfoldable pub calendar_day : ℕ → CalendarDay
calendar_day zero = record { year = neg_ℤ (pos 9999); month = 1; day = 1 }
calendar_day (suc n) = next_day (calendar_day n)

-- how many days there are from -9999-01-01 to 9999-12-31
abbrev pub day_count : ℕ
day_count = 7_304_484

-- the number of the day a number of days after -9999-01-01, where 1970-01-01 has the number 0
abbrev pub day_number : ℕ → ℤ
day_number n = pos n -ℤ pos 4_371_587

-- there is a day with this number
abbrev pub is_day_number : ℤ → Bool
is_day_number number = int_le (day_number 0) number && int_lt number (day_number day_count)

-- the day with this number
abbrev pub day_at : ℤ → CalendarDay
day_at number = calendar_day (unsigned_abs (number -ℤ day_number 0))
