use Rattle.std.proofs.Common.{◌≡◌, ◌+◌, ◌*◌, ◌∷◌, [], ◌∙◌, ◌/◌, ◌%◌, ap, get_or, inl, inr, unsigned_abs, arith}
use Rattle.std.proofs.lemmas.Option.{IfSome_then}
use Rattle.cbor_notes.proofs.dates.DateTexts.{civil_parts, date_found, date_text-ten, day_below, text_of_parts}
use Rattle.cbor_notes.proofs.dates.DateTexts.{year_below}
use Rattle.cbor_notes.proofs.date.read_date.Goals as goal

pub returns-then-first-ne45-clause-only : goal.returns-then-first-ne45-clause-only
returns-then-first-ne45-clause-only c = λ date is.
    let e = is.1 ∙ date_text-ten date is.0 in
    elim c.then-first-ne45.either [
      | inl other ↦ other (ap (λ t. get_or t 4 0) e)
      | inr other ↦ other.1 (ap (λ t. get_or t 7 0) e)
    ]

pub returns-in_err-century-clause-only : goal.returns-in_err-century-clause-only
returns-in_err-century-clause-only c = λ date is.
    let e = is.1 ∙ date_text-ten date is.0 in
    let b = year_below date.year date.year_in in
    absurd (c.in_err-century.ensures.only (unsigned_abs date.year / 100) (omega arith)
    (ap (λ t. get_or t 0 0 ∷ get_or t 1 0 ∷ []) e))

pub returns-in_err-year-clause-only : goal.returns-in_err-year-clause-only
returns-in_err-year-clause-only c = λ date is.
    let e = is.1 ∙ date_text-ten date is.0 in
    absurd (c.in_err-year.ensures.only (unsigned_abs date.year % 100) (omega arith)
    (ap (λ t. get_or t 2 0 ∷ get_or t 3 0 ∷ []) e))

pub returns-in_err-month-clause-only : goal.returns-in_err-month-clause-only
returns-in_err-month-clause-only c = λ date is.
    let e = is.1 ∙ date_text-ten date is.0 in
    let m = date.month_in in
    absurd (c.in_err-month.ensures.only date.month (omega arith) (ap (λ t. get_or t 5 0 ∷ get_or t 6 0 ∷ []) e))

pub returns-in_err-day-clause-only : goal.returns-in_err-day-clause-only
returns-in_err-day-clause-only c = λ date is.
    let e = is.1 ∙ date_text-ten date is.0 in
    absurd (c.in_err-day.ensures.only date.day (day_below date) (ap (λ t. get_or t 8 0 ∷ get_or t 9 0 ∷ []) e))

pub returns-clause-only : goal.returns-clause-only
returns-clause-only c = λ date is.
    let e = is.1 ∙ date_text-ten date is.0 in
    let b = year_below date.year date.year_in in
    let m = date.month_in in
    let century = c.in_ok-century.ensures.only (unsigned_abs date.year / 100) (omega arith)
    (ap (λ t. get_or t 0 0 ∷ get_or t 1 0 ∷ []) e) in
    let year = c.in_ok-year.ensures.only (unsigned_abs date.year % 100) (omega arith)
    (ap (λ t. get_or t 2 0 ∷ get_or t 3 0 ∷ []) e) in
    let month = c.in_ok-month.ensures.only date.month (omega arith) (ap (λ t. get_or t 5 0 ∷ get_or t 6 0 ∷ []) e) in
    let day = c.in_ok-day.ensures.only date.day (day_below date) (ap (λ t. get_or t 8 0 ∷ get_or t 9 0 ∷ []) e) in
    let number : c.from.result * 100 + c.from-2.result ≡ unsigned_abs date.year = omega arith in
    let some = (rw (number, month, day) at c.calendar_date.ensures.some) (civil_parts date is.0) in
    date_found c.calendar_date.result date is.0 some (rw (number, month, day) at c.calendar_date.ensures.found)

pub returns-clause-found : goal.returns-clause-found
returns-clause-found c =
    let century = c.in_ok-century.ensures.found in
    let year = c.in_ok-year.ensures.found in
    let month = c.in_ok-month.ensures.found in
    let day = c.in_ok-day.ensures.found in
    IfSome_then c.calendar_date.result c.calendar_date.ensures.found (λ date is.
    text_of_parts c.args.text.now date c.in_ok-century.century c.in_ok-year.year c.in_ok-month.month c.in_ok-day.day
    c.told-text c.if-first-ne45.false c.if-second-ne45.false century.1 year.1 month.1 day.1 year.0
    (rw (c.from.ensures, c.from-2.ensures) at is))
