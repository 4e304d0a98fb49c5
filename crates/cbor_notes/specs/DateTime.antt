-- `epoch_of_datetime`: the seconds since 1970-01-01T00:00:00Z that a text of RFC 3339 names. The text has a date, a
-- time of day and an offset from UTC (`IsDateTimeText`). The way back is in `Date.antt`.
use Rattle.std.specs.Prelude.{IsTrue, ◌≡◌, ◌⊎◌, ℕ, ◌+◌, ◌*◌, ◌<◌, ◌≤◌, ℤ, pos, neg_ℤ, ◌-ℤ◌, ◌≤ℤ◌, int_le, Bool, ◌&&◌}
use Rattle.std.specs.Prelude.{◌||◌, Option, Some, None, option_map, option_and_then, List, [], ◌∷◌, ◌++◌, length, take}
use Rattle.std.specs.Prelude.{drop, take_while, get_or, replicate, codes, bytes_eq, nat_eq, ◌==◌, if◌then◌else◌}
use Rattle.std.specs.Char.{is_ascii_digit}
use Rattle.std.specs.Fmt.{signed_decimal}
use Rattle.std.specs.List.{ends_with, list_all}
use Rattle.std.specs.Option.{option_or}
use Rattle.cbor_tokens.specs.Ascii.{dot, digit_zero}
use Rattle.jiff.specs.Types.{Date}
use Rattle.cbor_notes.specs.Date.{civil_seconds, clock_text, date_text, day_seconds, day_text, two_digits}
use Rattle.cbor_notes.specs.Days.{CalendarDay, calendar_day, day_count, day_number}
use Rattle.cbor_notes.specs.Search.{first_found, first_minute}

-- `.` and one digit or more, or nothing, and the digits
pub data IsFraction (text digits : List ℕ) : Type 0 where
  no_fraction : text ≡ [] → digits ≡ [] → IsFraction text digits
  some_digits : text ≡ dot ∷ digits → 0 < length digits → IsTrue (list_all is_ascii_digit digits)
      → IsFraction text digits

-- a sign with hours and minutes, and the seconds that a clock is ahead of UTC, which are negative where
-- it is behind
pub data IsOffset (text : List ℕ) (offset : ℤ) : Type 0 where
  ahead : (hour minute : ℕ) → hour ≤ 23 → minute ≤ 59
      → text ≡ codes "+" ++ two_digits hour ++ codes ":" ++ two_digits minute
      → offset ≡ pos (3600 * hour + 60 * minute) → IsOffset text offset
  behind : (hour minute : ℕ) → hour ≤ 23 → minute ≤ 59
      → text ≡ codes "-" ++ two_digits hour ++ codes ":" ++ two_digits minute
      → offset ≡ neg_ℤ (pos (3600 * hour + 60 * minute)) → IsOffset text offset

-- `Z` or `z`, which is UTC itself, or such an offset from it
abbrev pub IsZone : List ℕ → ℤ → Type 0
IsZone text offset =
    (((text ≡ codes "Z") ⊎ (text ≡ codes "z")) × (offset ≡ pos 0)) ⊎ IsOffset text offset

-- the text is that of a date from the year 0 on, a time of day whose seconds may be 60, a fraction and
-- an offset; it names these seconds, and has these digits of a fraction
pub record IsDateTimeText (text : List ℕ) (seconds : ℤ) (digits : List ℕ) : Type 0 where
  pub date : Date
  pub hour : ℕ
  pub minute : ℕ
  pub second : ℕ
  pub offset : ℤ
  pub separator : List ℕ
  pub fraction : List ℕ
  pub zone : List ℕ
  pub year_in : pos 0 ≤ℤ date.year
  pub hour_in : hour ≤ 23
  pub minute_in : minute ≤ 59
  pub second_in : second ≤ 60
  pub separator_is : (separator ≡ codes "T") ⊎ (separator ≡ codes "t")
  pub fraction_is : IsFraction fraction digits
  pub zone_is : IsZone zone offset
  pub seconds_are : seconds ≡ civil_seconds date hour minute second -ℤ offset
  pub text_is : text ≡ date_text date ++ separator ++ clock_text hour minute second ++ fraction ++ zone

-- the first nine digits, filled up with zeros
abbrev pub nine_digits : List ℕ → List ℕ
nine_digits digits = take 9 (digits ++ replicate 9 digit_zero)

-- the fewest of 0, 3, 6 and 9 of nine digits after which all are zeros
abbrev pub shown : List ℕ → ℕ
shown nine =
    if ends_with nat_eq nine (replicate 9 digit_zero) then 0
    else if ends_with nat_eq nine (replicate 6 48) then 3
    else if ends_with nat_eq nine (replicate 3 48) then 6
    else 9

-- a fraction of a second, cut to nine digits: `.` and as many of them as are shown, or nothing
unfoldable pub fraction_text : List ℕ → List ℕ
fraction_text digits =
    let nine = nine_digits digits in
    if shown nine == 0 then [] else codes "." ++ take (shown nine) nine

-- seconds in decimal, and the fraction
abbrev pub epoch_text : ℤ → List ℕ → List ℕ
epoch_text seconds digits = signed_decimal seconds ++ fraction_text digits

-- The text of a moment, read from the left: date and time of day, fraction, zone.

-- the text is that of a day from the year 0 on and a time of that day, with `T` or `t` between them
abbrev pub is_civil_text : List ℕ → CalendarDay → List ℕ → Bool
is_civil_text text day time =
    int_le (pos 0) day.year
    && (bytes_eq text (day_text day ++ codes "T" ++ time) || bytes_eq text (day_text day ++ codes "t" ++ time))

-- the seconds from 1970-01-01T00:00:00 to the date and time that the text is; all of them are tried
unfoldable pub read_civil : List ℕ → Option ℤ
read_civil text = first_found day_count (λ n. first_minute (λ hour minute. first_found 61 (λ second.
    if is_civil_text text (calendar_day n) (clock_text hour minute second)
    then Some (day_seconds (day_number n) hour minute second) else None)))

-- the digits right after a dot, where the text begins with one
abbrev pub read_digits : List ℕ → List ℕ
read_digits text = if get_or text 0 0 == dot then take_while is_ascii_digit (drop 1 text) else []

-- a dot and the digits, or nothing where there are none
abbrev pub dotted : List ℕ → List ℕ
dotted [] = []
dotted (digit ∷ rest) = dot ∷ digit ∷ rest

-- `+01:30`, of a sign, hours and minutes
abbrev pub offset_text : List ℕ → ℕ → ℕ → List ℕ
offset_text sign hour minute = sign ++ two_digits hour ++ codes ":" ++ two_digits minute

-- the seconds that hours and minutes after a sign are, where the text is these
abbrev pub signed_seconds : List ℕ → ℕ → ℕ → Option ℤ
signed_seconds text hour minute =
    let seconds = pos (3600 * hour + 60 * minute) in
    option_or (if bytes_eq text (offset_text (codes "+") hour minute) then Some seconds else None)
    (if bytes_eq text (offset_text (codes "-") hour minute) then Some (neg_ℤ seconds) else None)

-- the seconds that the clock of the zone with this text is ahead of UTC; all hours and minutes are
-- tried
unfoldable pub read_zone : List ℕ → Option ℤ
read_zone text =
    option_or (if bytes_eq text (codes "Z") || bytes_eq text (codes "z") then Some (pos 0) else None)
    (first_minute (signed_seconds text))

-- the seconds from 1970-01-01T00:00:00Z to the moment that the text is, in decimal, with its fraction:
-- a date and a time of day are 19 characters, then comes the fraction, and then the zone
unfoldable pub epoch_of_datetime : List ℕ → Option (List ℕ)
epoch_of_datetime text =
    let rest = drop 19 text in
    let digits = read_digits rest in
    let zone = drop (length (dotted digits)) rest in
    option_and_then (λ seconds. option_map (λ offset. epoch_text (seconds -ℤ offset) digits) (read_zone zone))
    (read_civil (take 19 text))
