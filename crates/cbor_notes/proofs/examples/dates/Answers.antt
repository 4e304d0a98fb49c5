use Rattle.std.proofs.Common.{◌≡◌, ℤ, pos, negsuc, refl, ap}
use Rattle.std.specs.Fmt.{digits}
use Rattle.jiff.proofs.OnLiterals.{jiff_on_literals}
use Rattle.jiff.specs.Types.{Date}
use Rattle.jiff.specs.Words.{IsYmd, epoch_day}
use Rattle.cbor_notes.specs.Date.{clock_text, date_text, day_seconds, grouped_signed}
use Rattle.cbor_notes.proofs.examples.dates.Goals as goal

pub returns-clause-text : goal.returns-clause-text
unfolding date_text
returns-clause-text c = λ date is.
    let month : date.month ≡ 10 = cc in
    let day : date.day ≡ 9 = cc in
    rw (is.0, month, day) refl

number_in_1940 : (date : Date) → IsYmd (pos 1940) (pos 10) (pos 9) date → epoch_day date ≡ negsuc 10675
unfolding jiff_on_literals
number_in_1940 date is =
    let month : date.month ≡ 10 = cc in
    let day : date.day ≡ 9 = cc in
    rw (is.0, month, day) refl

pub returns-clause-day : goal.returns-clause-day
unfolding digits
returns-clause-day c = λ date is. ap grouped_signed (number_in_1940 date is)

pub returns-clause-leap_day : goal.returns-clause-leap_day
unfolding jiff_on_literals
returns-clause-leap_day c = λ date is.
    let month : date.month ≡ 2 = cc in
    let day : date.day ≡ 29 = cc in
    rw (is.0, month, day) refl

pub returns-clause-before_year_0 : goal.returns-clause-before_year_0
unfolding date_text
returns-clause-before_year_0 c = λ date is.
    let month : date.month ≡ 12 = cc in
    let day : date.day ≡ 31 = cc in
    rw (is.0, month, day) refl

number_in_2013 : (date : Date) → IsYmd (pos 2013) (pos 3) (pos 21) date → epoch_day date ≡ pos 15785
unfolding jiff_on_literals
number_in_2013 date is =
    let month : date.month ≡ 3 = cc in
    let day : date.day ≡ 21 = cc in
    rw (is.0, month, day) refl

pub returns-clause-seconds : goal.returns-clause-seconds
returns-clause-seconds c = λ date is. ap (λ (number : ℤ). day_seconds number 20 4 0) (number_in_2013 date is)

pub returns-clause-clock : goal.returns-clause-clock
unfolding clock_text
returns-clause-clock c = refl
