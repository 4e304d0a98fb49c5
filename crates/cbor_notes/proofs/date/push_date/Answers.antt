use Rattle.std.proofs.Common.{◌≡◌, ◌∙◌, to_z, of_z, w16, arith}
use Rattle.std.proofs.lemmas.Int.{to_z-of_z}
use Rattle.std.proofs.lemmas.Result.{on_ok_weaker}
use Rattle.jiff.proofs.SpanFacts.{signed_arith}
use Rattle.cbor_notes.specs.Date.{date_text}
use Rattle.cbor_notes.proofs.dates.DateTexts.{day_below, five_pieces, small_part}
use Rattle.cbor_notes.proofs.date.push_date.Goals as goal

pub returns : goal.returns
unfolding date_text
returns c =
    let month_in = c.args.date.month_in in
    let day_in = day_below c.args.date in
    let year : to_z w16 (of_z w16 c.year.result) ≡ c.args.date.year =
    to_z-of_z w16 c.year.result (omega (arith, signed_arith)) ∙ c.year.ensures in
    let month = small_part c.month.result c.args.date.month c.month.ensures (omega arith) in
    let day = small_part c.day.result c.args.date.day c.day.ensures (omega arith) in
    record {
      text =
          on_ok_weaker c.push_two_digits-2.result
          (λ e. (rw day at e) ∙ five_pieces _ _ _ _ _ _ _ _ _ _ (rw year at c.in_ok-push_year.ensures.text)
          (rw (c.in_ok-push.ensures.ascii (omega arith)) at c.in_ok-push.ensures.bytes)
          (rw month at c.in_ok-push_two_digits.ensures.text)
          (rw (c.in_ok-push-2.ensures.ascii (omega arith)) at c.in_ok-push-2.ensures.bytes))
          c.push_two_digits-2.ensures.text;
    }
