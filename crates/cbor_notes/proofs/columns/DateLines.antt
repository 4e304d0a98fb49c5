-- The texts that `date_of_epoch`, `datetime_of_epoch`, `epoch_of_date` and `epoch_of_datetime` return have no line
-- feed.
use Rattle.std.proofs.Common.{◌≡◌, ℕ, zero, suc, ◌/◌, ◌%◌, ◌==◌, true, false, ℤ, pos, negsuc, Option, Some, None}
use Rattle.std.proofs.Common.{IfSome, unwrap_or, List, [], ◌∷◌, ◌++◌, take, replicate, codes, decimal, refl, sym, subst}
use Rattle.std.proofs.Common.{arith}
use Rattle.std.specs.Char.{is_ascii_digit}
use Rattle.std.specs.Fmt.{signed_decimal}
use Rattle.std.specs.List.{list_all}
use Rattle.std.proofs.lemmas.Bool.Decides.{nat_tests}
use Rattle.std.proofs.lemmas.Option.{IfSome_then}
use Rattle.jiff.specs.Types.{Date}
use Rattle.cbor_notes.specs.Date.{IsMomentText, clock_text, date_of_epoch, date_text, datetime_of_epoch, epoch_of_date}
use Rattle.cbor_notes.specs.Date.{four_digits, grouped_signed, two_digits, year_text}
use Rattle.cbor_notes.specs.DateTime.{epoch_of_datetime, epoch_text, fraction_text, nine_digits, shown}
use Rattle.cbor_notes.proofs.dates.DateNotes.{date_of_epoch_is, datetime_of_epoch_is, epoch_of_date_is}
use Rattle.cbor_notes.proofs.dates.DateTimeNotes.{IsMomentNote, epoch_of_datetime_is}
use Rattle.cbor_notes.proofs.dates.DateTimeTexts.{fraction_digits}
use Rattle.cbor_notes.proofs.columns.OneLine.{Free, decimal_line, free_both, free_cond, from_test, grouped_line}

-- what is found has no line feed, and neither has nothing
line_of : (found : Option (List ℕ)) → IfSome found (Free 10) → Free 10 (unwrap_or found [])
line_of None free = tt
line_of (Some text) free = free

-- the pieces of a date and a time of day
two_line : (n : ℕ) → Free 10 (two_digits n)
two_line n = ((λ e. omega arith), ((λ e. omega arith), tt))

four_line : (n : ℕ) → Free 10 (four_digits n)
four_line n = free_both 10 (two_digits (n / 100)) (two_digits (n % 100)) (two_line (n / 100)) (two_line (n % 100))

year_line : (year : ℤ) → Free 10 (year_text year)
year_line (pos n) = four_line n
year_line (negsuc n) = free_both 10 (codes "-") (four_digits (suc n)) (from_test 10 (codes "-") refl)
    (four_line (suc n))

-- a sign after a text, and then two digits
digits_after : (text sign : List ℕ) (n : ℕ) → Free 10 text → Free 10 sign → Free 10 (text ++ sign ++ two_digits n)
digits_after text sign n free more =
    free_both 10 (text ++ sign) (two_digits n) (free_both 10 text sign free more) (two_line n)

date_line : (date : Date) → Free 10 (date_text date)
unfolding date_text
date_line date =
    let dash : Free 10 (codes "-") = from_test 10 (codes "-") refl in
    let month = digits_after (year_text date.year) (codes "-") date.month (year_line date.year) dash in
    digits_after (year_text date.year ++ codes "-" ++ two_digits date.month) (codes "-") date.day month dash

clock_line : (hour minute second : ℕ) → Free 10 (clock_text hour minute second)
unfolding clock_text
clock_line hour minute second =
    let colon : Free 10 (codes ":") = from_test 10 (codes ":") refl in
    let front = digits_after (two_digits hour) (codes ":") minute (two_line hour) colon in
    digits_after (two_digits hour ++ codes ":" ++ two_digits minute) (codes ":") second front colon

moment_line : (seconds : ℤ) (text : List ℕ) → IsMomentText seconds text → Free 10 text
moment_line seconds text is =
    let date = date_text is.date in
    let clock = clock_text is.hour is.minute is.second in
    let first = free_both 10 date (codes "T") (date_line is.date) (from_test 10 (codes "T") refl) in
    let second = free_both 10 (date ++ codes "T") clock first (clock_line is.hour is.minute is.second) in
    subst (Free 10) (sym is.text_is) (free_both 10 (date ++ codes "T" ++ clock) (codes "Z") second
    (from_test 10 (codes "Z") refl))

pub date_of_epoch_line : (day : ℤ) → Free 10 (unwrap_or (date_of_epoch day) [])
date_of_epoch_line day =
    line_of (date_of_epoch day) (IfSome_then (date_of_epoch day) (date_of_epoch_is day)
    (λ text is. subst (Free 10) (sym is.2) (date_line is.0)))

pub datetime_of_epoch_line : (seconds : ℤ) → Free 10 (unwrap_or (datetime_of_epoch seconds) [])
datetime_of_epoch_line seconds =
    line_of (datetime_of_epoch seconds) (IfSome_then (datetime_of_epoch seconds) (datetime_of_epoch_is seconds)
    (moment_line seconds))

-- numbers
signed_line : (number : ℤ) → Free 10 (grouped_signed number)
signed_line (pos n) = grouped_line n false
signed_line (negsuc n) = grouped_line (suc n) true

pub epoch_of_date_line : (text : List ℕ) → Free 10 (unwrap_or (epoch_of_date text) [])
epoch_of_date_line text =
    line_of (epoch_of_date text) (IfSome_then (epoch_of_date text) (epoch_of_date_is text)
    (λ day is. subst (Free 10) (sym is.2) (signed_line _)))

decimal_signed_line : (number : ℤ) → Free 10 (signed_decimal number)
decimal_signed_line (pos n) = decimal_line n
decimal_signed_line (negsuc n) =
    free_both 10 (codes "-") (decimal (suc n)) (from_test 10 (codes "-") refl) (decimal_line (suc n))

-- digits and the first of them
digits_free : (digits : List ℕ) → list_all is_ascii_digit digits ≡ true → Free 10 digits
digits_free [] all = tt
digits_free (digit ∷ rest) all = ((λ e. grind (arith, nat_tests)), digits_free rest (grind (arith, nat_tests)))

free_take : (c n : ℕ) (text : List ℕ) → Free c text → Free c (take n text)
free_take c zero text free = tt
free_take c (suc n) [] free = tt
free_take c (suc n) (b ∷ text) free = (free.0, free_take c n text free.1)

fraction_line : (digits : List ℕ) → list_all is_ascii_digit digits ≡ true → Free 10 (fraction_text digits)
unfolding fraction_text
fraction_line digits all =
    let zeros : Free 10 (replicate 9 48) = from_test 10 (replicate 9 48) refl in
    let nine : Free 10 (nine_digits digits) =
    free_take 10 9 (digits ++ replicate 9 48)
    (free_both 10 digits (replicate 9 48) (digits_free digits all) zeros) in
    let some = free_take 10 (shown (nine_digits digits)) (nine_digits digits) nine in
    free_cond 10 (shown (nine_digits digits) == 0) [] _ tt
    (free_both 10 (codes ".") (take (shown (nine_digits digits)) (nine_digits digits)) (from_test 10 (codes ".") refl)
    some)

epoch_line : (seconds : ℤ) (digits : List ℕ) → list_all is_ascii_digit digits ≡ true
    → Free 10 (epoch_text seconds digits)
epoch_line seconds digits all =
    free_both 10 (signed_decimal seconds) (fraction_text digits) (decimal_signed_line seconds)
    (fraction_line digits all)

note_line : (text answer : List ℕ) → IsMomentNote text answer → Free 10 answer
note_line text answer is =
    subst (Free 10) (sym is.3) (epoch_line is.0 is.1 (fraction_digits is.2.fraction is.1 is.2.fraction_is))

pub epoch_of_datetime_line : (text : List ℕ) → Free 10 (unwrap_or (epoch_of_datetime text) [])
epoch_of_datetime_line text =
    line_of (epoch_of_datetime text) (IfSome_then (epoch_of_datetime text) (epoch_of_datetime_is text) (note_line text))
