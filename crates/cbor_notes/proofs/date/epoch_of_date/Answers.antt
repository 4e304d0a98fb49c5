use Rattle.std.proofs.Common.{◌≡◌, ◌∙◌, ap, pos, unsigned_abs, to_z, of_z, w32, FitsSigned, sym, arith}
use Rattle.std.proofs.lemmas.Int.{to_z-of_z}
use Rattle.std.proofs.lemmas.Option.{IfSome_then}
use Rattle.std.specs.Int.Signed.{lt_z}
use Rattle.std.specs.String.{string_bytes}
use Rattle.jiff.proofs.SpanFacts.{signed_arith}
use Rattle.jiff.specs.Words.{epoch_day}
use Rattle.cbor_notes.specs.Text.{grouped}
use Rattle.cbor_notes.specs.Date.{epoch_of_date, grouped_signed}
use Rattle.cbor_notes.proofs.dates.DateTexts.{grouped_signed-is}
use Rattle.cbor_notes.proofs.dates.DateNotes.{epoch_of_date_is, epoch_of_date_some, no_text, same_text}
use Rattle.cbor_notes.proofs.date.epoch_of_date.Goals as goal

abbrev Written : goal.In_ok-push_grouped → Type 0
Written c = string_bytes c.push_grouped.new.text ≡ grouped_signed (epoch_day c.in-Some.date)

written : (c : goal.In_ok-push_grouped) → Written c
written c =
    let fits : FitsSigned w32 c.day_of_date-day.result = omega (arith, signed_arith) in
    let day : to_z w32 (of_z w32 c.day_of_date-day.result) ≡ epoch_day c.in-Some.date =
    to_z-of_z w32 c.day_of_date-day.result fits ∙ c.day_of_date-day.ensures.value in
    let size : c.from.result ≡ unsigned_abs (epoch_day c.in-Some.date) = c.from.ensures ∙ c.unsigned_abs.ensures.value
    ∙ ap unsigned_abs day in
    let text : string_bytes c.push_grouped.new.text ≡ grouped (unsigned_abs (epoch_day c.in-Some.date))
    (lt_z (epoch_day c.in-Some.date) (pos 0)) =
    rw (c.in_ok-text.ensures.bytes, size, day) at c.in_ok-push_grouped.ensures.text in
    text ∙ grouped_signed-is (epoch_day c.in-Some.date)

pub returns-clause-found : goal.returns-clause-found
returns-clause-found c = (c.in-Some.date, c.in-Some.ensures.found, written c)

pub returns-clause-only : goal.returns-clause-only
returns-clause-only c = λ date is. written c ∙ ap grouped_signed (c.in-Some.ensures.only date is)

pub returns-in_default-clause-value : goal.returns-in_default-clause-value
returns-in_default-clause-value c =
    let text = c.args.text.now in
    no_text (epoch_of_date text) (IfSome_then (epoch_of_date text) (epoch_of_date_is text)
    (λ day is. c.in_default.ensures.only is.0 is.1))

pub returns-clause-value : goal.returns-clause-value
returns-clause-value c =
    let text = c.args.text.now in
    same_text _ (epoch_of_date text)
    (IfSome_then (epoch_of_date text) (epoch_of_date_is text) (λ day is. returns-clause-only c is.0 is.1 ∙ sym is.2))
    (epoch_of_date_some text c.in-Some.date c.in-Some.ensures.found)
