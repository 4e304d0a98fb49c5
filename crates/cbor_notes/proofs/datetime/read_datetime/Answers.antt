use Rattle.std.proofs.Common.{◌≡◌, ◌++◌, ◌⊎◌, ◌∷◌, [], ◌∙◌, sym, ap, inl, inr, drop, length, take, pos, ◌+ℤ◌, ◌-ℤ◌}
use Rattle.std.proofs.Common.{◌*ℤ◌, to_z, of_z, w32, w64, FitsSigned, arith}
use Rattle.std.proofs.lemmas.Int.{to_z-of_z}
use Rattle.std.proofs.lemmas.List.{take-append-drop}
use Rattle.jiff.specs.Words.{epoch_day}
use Rattle.cbor_notes.specs.Date.{clock_text, date_text}
use Rattle.cbor_notes.proofs.dates.DateTimeTexts.{datetime_pieces, five_parts, time_parts, zone_fits}
use Rattle.cbor_notes.proofs.datetime.read_datetime.Goals as goal
use Rattle.cbor_notes.proofs.datetime.read_datetime.Goals.{}
use Rattle.cbor_notes.proofs.datetime.read_datetime.Goals.{
  else-separator-ne84-via-then-separator-ne84+else-separator-ne116,
}
use Rattle.cbor_notes.proofs.datetime.read_datetime.Goals.{else-separator-ne84-via-else-separator-ne84}

pub returns-in_err-date-clause-only : goal.returns-in_err-date-clause-only
returns-in_err-date-clause-only c = λ seconds digits is.
    let p = datetime_pieces c.args.text.now seconds digits is in
    let short = c.in_err-date.ensures.cases in
    absurd (omega (arith, p.long))

pub returns-in_err-date-2-clause-only : goal.returns-in_err-date-2-clause-only
returns-in_err-date-2-clause-only c = λ seconds digits is.
    let p = datetime_pieces c.args.text.now seconds digits is in
    let chunk = c.in_ok-date.ensures.cases in
    absurd (c.in_err-date-2.ensures.only is.date (is.year_in, chunk.0 ∙ p.date_is))

pub returns-in_err-separator-clause-only : goal.returns-in_err-separator-clause-only
returns-in_err-separator-clause-only c = λ seconds digits is.
    let p = datetime_pieces c.args.text.now seconds digits is in
    let chunk = c.in_ok-date.ensures.cases in
    let empty = c.in_err-separator.ensures.cases in
    absurd (omega (arith, ap length (chunk.1 ∙ p.time_is)))

pub returns-then-separator-ne116-clause-only : goal.returns-then-separator-ne116-clause-only
returns-then-separator-ne116-clause-only c = λ seconds digits is.
    let p = datetime_pieces c.args.text.now seconds digits is in
    let parts = time_parts _ _ _ _ _ c.in_ok-separator.ensures.cases.0 (c.in_ok-date.ensures.cases.1 ∙ p.time_is) in
    elim p.separator_is [
      | inl upper ↦ absurd (c.if-separator-ne84.true (parts.0 ∙ upper))
      | inr lower ↦ absurd (c.if-separator-ne116.true (parts.0 ∙ lower))
    ]

pub returns-in_err-clock-clause-only : goal.returns-in_err-clock-clause-only
returns-in_err-clock-clause-only c = λ seconds digits is.
    let p = datetime_pieces c.args.text.now seconds digits is in
    let parts = time_parts _ _ _ _ _ c.in_ok-separator.ensures.cases.0 (c.in_ok-date.ensures.cases.1 ∙ p.time_is) in
    let short = c.in_err-clock.ensures.cases in
    absurd (omega (arith, p.clock_long, ap length parts.1))

pub returns-in_err-clock-2-clause-only : goal.returns-in_err-clock-2-clause-only
returns-in_err-clock-2-clause-only c = λ seconds digits is.
    let p = datetime_pieces c.args.text.now seconds digits is in
    let parts = time_parts _ _ _ _ _ c.in_ok-separator.ensures.cases.0 (c.in_ok-date.ensures.cases.1 ∙ p.time_is) in
    let chunk = c.in_ok-clock.ensures.cases in
    absurd (c.in_err-clock-2.ensures.only is.hour is.minute is.second is.hour_in is.minute_in is.second_in
    (chunk.0 ∙ ap (take 8) parts.1 ∙ p.clock_is))

pub returns-in_err-digits-clause-only : goal.returns-in_err-digits-clause-only
returns-in_err-digits-clause-only c = λ seconds digits is.
    let p = datetime_pieces c.args.text.now seconds digits is in
    let parts = time_parts _ _ _ _ _ c.in_ok-separator.ensures.cases.0 (c.in_ok-date.ensures.cases.1 ∙ p.time_is) in
    let chunk = c.in_ok-clock.ensures.cases in
    absurd (c.in_err-digits.ensures.only is.fraction digits is.zone is.offset is.fraction_is is.zone_is
    (chunk.1 ∙ ap (drop 8) parts.1 ∙ p.rest_is))

pub returns-in_err-offset-clause-only : goal.returns-in_err-offset-clause-only
returns-in_err-offset-clause-only c = λ seconds digits is.
    let p = datetime_pieces c.args.text.now seconds digits is in
    let parts = time_parts _ _ _ _ _ c.in_ok-separator.ensures.cases.0 (c.in_ok-date.ensures.cases.1 ∙ p.time_is) in
    let chunk = c.in_ok-clock.ensures.cases in
    let split = c.in_ok-digits.ensures.only is.fraction digits is.zone is.offset is.fraction_is is.zone_is
    (chunk.1 ∙ ap (drop 8) parts.1 ∙ p.rest_is) in
    absurd (c.in_err-offset.ensures.only is.offset (rw split.1 is.zone_is))

abbrev Seconds : goal.After-moment_seconds → Type 0
Seconds c =
    to_z w64 (of_z w64 c.moment_seconds.result)
    ≡ (epoch_day c.in_ok-date-2.date *ℤ pos 86400 +ℤ pos c.in_ok-clock-2.clock) -ℤ c.in_ok-offset.offset

seconds_are : (c : goal.After-moment_seconds) → Seconds c
seconds_are c =
    let fits : FitsSigned w64 c.moment_seconds.result = record { sfits = c.moment_seconds.type_inv } in
    let small = zone_fits c.in_ok-digits.zone.now c.in_ok-offset.offset c.in_ok-offset.ensures.found in
    to_z-of_z w64 c.moment_seconds.result fits ∙ c.moment_seconds.ensures
    ∙ ap (λ o. (epoch_day c.in_ok-date-2.date *ℤ pos 86400 +ℤ pos c.in_ok-clock-2.clock) -ℤ o)
    (to_z-of_z w32 c.in_ok-offset.offset small)

pub returns-clause-found : goal.returns-clause-found
returns-clause-found c =
    let text = c.args.text.now in
    let chunk = c.in_ok-date.ensures.cases in
    let day = c.in_ok-date-2.ensures.found in
    let after = c.in_ok-clock.ensures.cases in
    let clock = c.in_ok-clock-2.ensures.found in
    let split = c.in_ok-digits.ensures.found in
    let sep = c.in_ok-separator.separator.now in
    let which : (sep ∷ [] ≡ 84 ∷ []) ⊎ (sep ∷ [] ≡ 116 ∷ []) = elim c.else-separator-ne84.branch [
      | else-separator-ne84-via-then-separator-ne84+else-separator-ne116 w ↦ inr
          (ap (λ s. s ∷ []) w.if-separator-ne116.false)
      | else-separator-ne84-via-else-separator-ne84 w ↦ inl (ap (λ s. s ∷ []) w.if-separator-ne84.false)
    ] in
    let first : text ≡ date_text c.in_ok-date-2.date ++ c.in_ok-date.rest.now =
    sym (take-append-drop 10 text) ∙ ap (λ t. t ++ drop 10 text) (sym chunk.0 ∙ day.1)
    ∙ ap (λ t. date_text c.in_ok-date-2.date ++ t) (sym chunk.1) in
    let third : c.in_ok-separator.rest.now ≡ clock_text clock.0 clock.1 clock.2 ++ c.in_ok-clock.rest.now =
    sym (take-append-drop 8 c.in_ok-separator.rest.now)
    ∙ ap (λ t. t ++ drop 8 c.in_ok-separator.rest.now) (sym after.0 ∙ clock.6)
    ∙ ap (λ t. clock_text clock.0 clock.1 clock.2 ++ t) (sym after.1) in
    record {
      date = c.in_ok-date-2.date;
      hour = clock.0;
      minute = clock.1;
      second = clock.2;
      offset = c.in_ok-offset.offset;
      separator = sep ∷ [];
      fraction = split.0;
      zone = c.in_ok-digits.zone.now;
      year_in = day.0;
      hour_in = clock.3;
      minute_in = clock.4;
      second_in = clock.5;
      separator_is = which;
      fraction_is = split.1;
      zone_is = c.in_ok-offset.ensures.found;
      seconds_are = seconds_are c ∙ ap (λ n. (epoch_day c.in_ok-date-2.date *ℤ pos 86400 +ℤ pos n) -ℤ
          c.in_ok-offset.offset) clock.7;
      text_is = five_parts text (date_text c.in_ok-date-2.date) (sep ∷ []) (clock_text clock.0 clock.1 clock.2) split.0
          c.in_ok-digits.zone.now c.in_ok-date.rest.now c.in_ok-separator.rest.now c.in_ok-clock.rest.now first
          c.in_ok-separator.ensures.cases.0 third split.2;
    }

pub returns-clause-only : goal.returns-clause-only
returns-clause-only c = λ seconds digits is.
    let p = datetime_pieces c.args.text.now seconds digits is in
    let date_chunk = c.in_ok-date.ensures.cases in
    let parts = time_parts _ _ _ _ _ c.in_ok-separator.ensures.cases.0 (date_chunk.1 ∙ p.time_is) in
    let chunk = c.in_ok-clock.ensures.cases in
    let day = c.in_ok-date-2.ensures.only is.date (is.year_in, date_chunk.0 ∙ p.date_is) in
    let clock = c.in_ok-clock-2.ensures.only is.hour is.minute is.second is.hour_in is.minute_in is.second_in
    (chunk.0 ∙ ap (take 8) parts.1 ∙ p.clock_is) in
    let split = c.in_ok-digits.ensures.only is.fraction digits is.zone is.offset is.fraction_is is.zone_is
    (chunk.1 ∙ ap (drop 8) parts.1 ∙ p.rest_is) in
    let offset = c.in_ok-offset.ensures.only is.offset (rw split.1 is.zone_is) in
    (seconds_are c ∙ rw (day, clock, offset) (sym is.seconds_are), split.0)
