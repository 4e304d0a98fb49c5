use Rattle.std.proofs.Common.{sym, ◌+◌, ◌*◌, ◌∙◌, ap, inl, inr, pos, w32, arith}
use Rattle.cbor_notes.specs.DateTime.{ahead, behind}
use Rattle.std.proofs.lemmas.Int.{to_z_pos}
use Rattle.cbor_notes.proofs.dates.DateTexts.{IsOffset-parts, offset_text}
use Rattle.cbor_notes.proofs.dates.DateTimeTexts.{negated}
use Rattle.cbor_notes.proofs.datetime.read_offset.Goals as goal

pub returns-then-colon-ne58-clause-only : goal.returns-then-colon-ne58-clause-only
returns-then-colon-ne58-clause-only c = λ offset is.
    let p = IsOffset-parts c.args.text.now offset is in
    absurd (c.if-colon-ne58.true p.colon)

pub returns-in_err-hour-clause-only : goal.returns-in_err-hour-clause-only
returns-in_err-hour-clause-only c = λ offset is.
    let p = IsOffset-parts c.args.text.now offset is in
    absurd (c.in_err-hour.ensures.only p.hour (omega (arith, p.hour_in)) p.hour_is)

pub returns-in_err-minute-clause-only : goal.returns-in_err-minute-clause-only
returns-in_err-minute-clause-only c = λ offset is.
    let p = IsOffset-parts c.args.text.now offset is in
    absurd (c.in_err-minute.ensures.only p.minute (omega (arith, p.minute_in)) p.minute_is)

pub returns-then-hour-gt23-clause-only : goal.returns-then-hour-gt23-clause-only
returns-then-hour-gt23-clause-only c = λ offset is.
    let p = IsOffset-parts c.args.text.now offset is in
    let a = c.in_ok-hour.ensures.only p.hour (omega (arith, p.hour_in)) p.hour_is in
    let b = c.in_ok-minute.ensures.only p.minute (omega (arith, p.minute_in)) p.minute_is in
    elim c.then-hour-gt23.either [
      | inl past ↦ absurd (omega arith)
      | inr past ↦ absurd (omega arith)
    ]

pub returns-in-43-clause-found : goal.returns-in-43-clause-found
returns-in-43-clause-found c =
    let a = c.in_ok-hour.ensures.found in
    let b = c.in_ok-minute.ensures.found in
    ahead c.in_ok-hour.hour c.in_ok-minute.minute c.if-hour-gt23.false c.if-minute-gt59.false
    (offset_text c.args.text.now 43 c.in_ok-hour.hour c.in_ok-minute.minute c.told-text c.in-43.is c.if-colon-ne58.false
    a.1 b.1)
    (to_z_pos w32 _ (omega arith) ∙ ap pos (omega arith))

pub returns-in-43-clause-only : goal.returns-in-43-clause-only
returns-in-43-clause-only c = λ offset is.
    let p = IsOffset-parts c.args.text.now offset is in
    let a = c.in_ok-hour.ensures.only p.hour (omega (arith, p.hour_in)) p.hour_is in
    let b = c.in_ok-minute.ensures.only p.minute (omega (arith, p.minute_in)) p.minute_is in
    elim p.sign_is [
      | inl s ↦ to_z_pos w32 _ (omega arith) ∙ ap pos (omega arith) ∙ sym s.1
      | inr s ↦ absurd (omega (arith, s.0))
    ]

pub returns-in-45-clause-found : goal.returns-in-45-clause-found
returns-in-45-clause-found c =
    let a = c.in_ok-hour.ensures.found in
    let b = c.in_ok-minute.ensures.found in
    behind c.in_ok-hour.hour c.in_ok-minute.minute c.if-hour-gt23.false c.if-minute-gt59.false
    (offset_text c.args.text.now 45 c.in_ok-hour.hour c.in_ok-minute.minute c.told-text c.in-45.is c.if-colon-ne58.false
    a.1 b.1)
    (negated (c.from.result * 3600 + c.from-2.result * 60) (3600 * c.in_ok-hour.hour + 60 * c.in_ok-minute.minute)
    (omega arith) (omega arith))

pub returns-in-45-clause-only : goal.returns-in-45-clause-only
returns-in-45-clause-only c = λ offset is.
    let p = IsOffset-parts c.args.text.now offset is in
    let a = c.in_ok-hour.ensures.only p.hour (omega (arith, p.hour_in)) p.hour_is in
    let b = c.in_ok-minute.ensures.only p.minute (omega (arith, p.minute_in)) p.minute_is in
    elim p.sign_is [
      | inl s ↦ absurd (omega (arith, s.0))
      | inr s ↦ negated (c.from.result * 3600 + c.from-2.result * 60) (3600 * p.hour + 60 * p.minute) (omega arith)
          (omega arith) ∙ sym s.1
    ]

pub returns-in_default-clause-only : goal.returns-in_default-clause-only
returns-in_default-clause-only c = λ offset is.
    let p = IsOffset-parts c.args.text.now offset is in
    let d = c.in_default in
    elim p.sign_is [
      | inl s ↦ absurd (omega (arith, s.0))
      | inr s ↦ absurd (omega (arith, s.0))
    ]
