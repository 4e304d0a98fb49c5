use Rattle.std.proofs.Common.{◌≡◌, ◌∙◌, rules, refl, sym}
use Rattle.std.proofs.lemmas.Option.{IfSome_then}
use Rattle.std.specs.String.{string_bytes}
use Rattle.cbor_notes.specs.DateTime.{epoch_of_datetime, epoch_text}
use Rattle.cbor_notes.proofs.dates.DateNotes.{no_text, same_text}
use Rattle.cbor_notes.proofs.dates.DateTimeNotes.{epoch_of_datetime_is, epoch_of_datetime_some}
use Rattle.cbor_notes.proofs.datetime.epoch_of_datetime.Goals as goal

pub returns-in_default-clause-only : goal.returns-in_default-clause-only
returns-in_default-clause-only c = λ seconds digits is. c.in_default.ensures.only seconds digits
    (rw c.as_bytes.ensures.value is)

written : (c : goal.In_ok-push_fraction) → string_bytes c.push_fraction.new.text ≡ epoch_text c.in-Some.seconds
    c.in-Some.fraction.now
written c = search rules

pub returns-clause-only : goal.returns-clause-only
returns-clause-only c = λ seconds digits is.
    let only = c.in-Some.ensures.only seconds digits (rw c.as_bytes.ensures.value is) in
    written c ∙ rw (only.0, only.1) refl

pub returns-in_default-clause-value : goal.returns-in_default-clause-value
returns-in_default-clause-value c =
    let text = c.args.text.now in
    no_text (epoch_of_datetime text)
    (IfSome_then (epoch_of_datetime text) (epoch_of_datetime_is text)
    (λ answer is. returns-in_default-clause-only c is.0 is.1 is.2))

pub returns-clause-value : goal.returns-clause-value
returns-clause-value c =
    let text = c.args.text.now in
    same_text _ (epoch_of_datetime text)
    (IfSome_then (epoch_of_datetime text) (epoch_of_datetime_is text)
    (λ answer is. returns-clause-only c is.0 is.1 is.2 ∙ sym is.3))
    (epoch_of_datetime_some text c.in-Some.seconds c.in-Some.fraction.now
    (rw c.as_bytes.ensures.value at c.in-Some.ensures.found))
