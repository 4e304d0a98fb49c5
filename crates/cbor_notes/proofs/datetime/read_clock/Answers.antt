use Rattle.std.proofs.Common.{◌∷◌, [], ◌∙◌, ap, get_or, inl, inr, arith}
use Rattle.cbor_notes.proofs.dates.DateTexts.{clock_of_parts, clock_text-eight}
use Rattle.cbor_notes.proofs.datetime.read_clock.Goals as goal

pub returns-then-first-ne58-clause-only : goal.returns-then-first-ne58-clause-only
returns-then-first-ne58-clause-only c = λ hour minute second h m s is.
    let e = is ∙ clock_text-eight hour minute second in
    elim c.then-first-ne58.either [
      | inl other ↦ other (ap (λ t. get_or t 2 0) e)
      | inr other ↦ other.1 (ap (λ t. get_or t 5 0) e)
    ]

pub returns-in_err-hour-clause-only : goal.returns-in_err-hour-clause-only
returns-in_err-hour-clause-only c = λ hour minute second h m s is.
    let e = is ∙ clock_text-eight hour minute second in
    absurd (c.in_err-hour.ensures.only hour (omega arith) (ap (λ t. get_or t 0 0 ∷ get_or t 1 0 ∷ []) e))

pub returns-in_err-minute-clause-only : goal.returns-in_err-minute-clause-only
returns-in_err-minute-clause-only c = λ hour minute second h m s is.
    let e = is ∙ clock_text-eight hour minute second in
    absurd (c.in_err-minute.ensures.only minute (omega arith) (ap (λ t. get_or t 3 0 ∷ get_or t 4 0 ∷ []) e))

pub returns-in_err-second-clause-only : goal.returns-in_err-second-clause-only
returns-in_err-second-clause-only c = λ hour minute second h m s is.
    let e = is ∙ clock_text-eight hour minute second in
    absurd (c.in_err-second.ensures.only second (omega arith) (ap (λ t. get_or t 6 0 ∷ get_or t 7 0 ∷ []) e))

pub returns-then-hour-gt23-clause-only : goal.returns-then-hour-gt23-clause-only
returns-then-hour-gt23-clause-only c = λ hour minute second h m s is.
    let e = is ∙ clock_text-eight hour minute second in
    let a = c.in_ok-hour.ensures.only hour (omega arith) (ap (λ t. get_or t 0 0 ∷ get_or t 1 0 ∷ []) e) in
    let b = c.in_ok-minute.ensures.only minute (omega arith) (ap (λ t. get_or t 3 0 ∷ get_or t 4 0 ∷ []) e) in
    let d = c.in_ok-second.ensures.only second (omega arith) (ap (λ t. get_or t 6 0 ∷ get_or t 7 0 ∷ []) e) in
    elim c.then-hour-gt23.either [
      | inl past ↦ absurd (omega arith)
      | inr (inl past) ↦ absurd (omega arith)
      | inr (inr past) ↦ absurd (omega arith)
    ]

pub returns-clause-only : goal.returns-clause-only
returns-clause-only c = λ hour minute second h m s is.
    let e = is ∙ clock_text-eight hour minute second in
    let a = c.in_ok-hour.ensures.only hour (omega arith) (ap (λ t. get_or t 0 0 ∷ get_or t 1 0 ∷ []) e) in
    let b = c.in_ok-minute.ensures.only minute (omega arith) (ap (λ t. get_or t 3 0 ∷ get_or t 4 0 ∷ []) e) in
    let d = c.in_ok-second.ensures.only second (omega arith) (ap (λ t. get_or t 6 0 ∷ get_or t 7 0 ∷ []) e) in
    omega arith

pub returns-clause-found : goal.returns-clause-found
returns-clause-found c =
    let hour = c.in_ok-hour.ensures.found in
    let minute = c.in_ok-minute.ensures.found in
    let second = c.in_ok-second.ensures.found in
    let text = clock_of_parts c.args.text.now c.in_ok-hour.hour c.in_ok-minute.minute c.in_ok-second.second c.told-text
    c.if-first-ne58.false c.if-last-ne58.false hour.1 minute.1 second.1 in (
      c.in_ok-hour.hour,
      c.in_ok-minute.minute,
      c.in_ok-second.second,
      omega arith,
      omega arith,
      omega arith,
      text,
      omega arith,
    )
