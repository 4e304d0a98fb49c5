use Rattle.std.proofs.Common.{◌≡◌, ◌∙◌, sym, FitsSigned, w64}
use Rattle.std.proofs.lemmas.Int.{to_z-of_z}
use Rattle.std.proofs.lemmas.Option.{IfSome_then}
use Rattle.jiff.proofs.Family.{epoch_day_range}
use Rattle.jiff.specs.Words.{IsEpochDay, epoch_day}
use Rattle.std.specs.String.{string_bytes}
use Rattle.cbor_notes.specs.Date.{date_of_epoch, date_text}
use Rattle.cbor_notes.proofs.dates.DateTexts.{date_text_same}
use Rattle.cbor_notes.proofs.dates.DateNotes.{date_of_epoch-out, date_of_epoch_is, date_of_epoch_some, same_text}
use Rattle.cbor_notes.proofs.date.date_of_epoch.Goals as goal

pub returns-in_default-clause-only : goal.returns-in_default-clause-only
returns-in_default-clause-only c = λ date is.
    let fits : FitsSigned w64 c.args.day = c.ranges.day in
    let in_range : IsEpochDay c.args.day = rw (← is) (epoch_day_range date) in
    let range = simp to_z-of_z at c.in_default.ensures.range in
    let never = range.1 in_range in
    cc

pub returns-clause-found : goal.returns-clause-found
returns-clause-found c =
    let fits : FitsSigned w64 c.args.day = c.ranges.day in
    let day = simp to_z-of_z at c.in-Some.ensures.found in
    let text : string_bytes c.push_date.new.text ≡ date_text c.in-Some.date =
    rw c.in_ok-text.ensures.bytes at c.in_ok-push_date.ensures.text in
    (c.in-Some.date, day, text)

pub returns-clause-only : goal.returns-clause-only
returns-clause-only c = λ date is.
    let fits : FitsSigned w64 c.args.day = c.ranges.day in
    let day : epoch_day c.in-Some.date ≡ c.args.day = simp to_z-of_z at c.in-Some.ensures.found in
    let text : string_bytes c.push_date.new.text ≡ date_text c.in-Some.date =
    rw c.in_ok-text.ensures.bytes at c.in_ok-push_date.ensures.text in
    text ∙ date_text_same c.in-Some.date date (day ∙ sym is)

pub returns-in_default-clause-value : goal.returns-in_default-clause-value
returns-in_default-clause-value c =
    let fits : FitsSigned w64 c.args.day = c.ranges.day in
    let range = simp to_z-of_z at c.in_default.ensures.range in
    sym (date_of_epoch-out c.args.day (λ in_range. let never = range.1 in_range in cc))

pub returns-clause-value : goal.returns-clause-value
returns-clause-value c =
    let fits : FitsSigned w64 c.args.day = c.ranges.day in
    let day : epoch_day c.in-Some.date ≡ c.args.day = simp to_z-of_z at c.in-Some.ensures.found in
    same_text _ (date_of_epoch c.args.day)
    (IfSome_then (date_of_epoch c.args.day) (date_of_epoch_is c.args.day)
    (λ text is. returns-clause-only c is.0 is.1 ∙ sym is.2))
    (date_of_epoch_some c.args.day (rw (← day) (epoch_day_range c.in-Some.date)))
