use Rattle.std.proofs.Common.{◌≡◌, ◌∙◌, sym, ◌+ℤ◌, FitsSigned, w64, arith}
use Rattle.std.proofs.lemmas.Result.{IfOk-weaker}
use Rattle.std.proofs.lemmas.Int.{to_z-of_z}
use Rattle.jiff.proofs.SpanFacts.{signed_arith, date_add-days, can_add-days}
use Rattle.jiff.specs.Words.{epoch_day}
use Rattle.cbor_notes.proofs.dates.DateTexts.{IfSome-result_ok, epoch_day-1970}
use Rattle.cbor_notes.proofs.date.date_of_day.Goals as goal

pub returns-clause-found : goal.returns-clause-found
returns-clause-found c =
    let fits : FitsSigned w64 c.args.day = c.ranges.day in
    let only = simp to_z-of_z at c.days.ensures in
    let zero = epoch_day-1970 c.date.result c.date.ensures in
    let start : epoch_day c.date.result +ℤ c.args.day ≡ c.args.day = rw zero (omega (arith, signed_arith)) in
    let added = IfOk-weaker c.checked_add.result _ (λ d. epoch_day d ≡ c.args.day)
    (λ d e. e ∙ date_add-days c.date.result c.args.day c.days.result only ∙ start) c.checked_add.ensures.value in
    rw c.ok.ensures.value (IfSome-result_ok c.checked_add.result _ added)

pub returns-clause-range : goal.returns-clause-range
returns-clause-range c =
    let fits : FitsSigned w64 c.args.day = c.ranges.day in
    let only = simp to_z-of_z at c.days.ensures in
    let zero = epoch_day-1970 c.date.result c.date.ensures in
    let start : epoch_day c.date.result +ℤ c.args.day ≡ c.args.day = rw zero (omega (arith, signed_arith)) in
    let can = rw start at (can_add-days c.date.result c.args.day c.days.result only) in
    let s = c.checked_add.ensures.succeeds in
    let v = c.ok.ensures.variant in
    (λ some. can.0 (s.0 (sym v ∙ some)), λ day. v ∙ s.1 (can.1 day))
