use Rattle.std.proofs.Common.{◌∙◌, arith}
use Rattle.std.proofs.lemmas.Result.{on_ok_weaker}
use Rattle.cbor_notes.specs.Date.{clock_text}
use Rattle.cbor_notes.proofs.dates.DateTexts.{five_pieces}
use Rattle.cbor_notes.proofs.datetime.push_clock.Goals as goal

pub returns : goal.returns
unfolding clock_text
returns c = record {
  text =
      on_ok_weaker c.push_two_digits-3.result
      (λ e. e ∙ five_pieces _ _ _ _ _ _ _ _ _ _ c.in_ok-push_two_digits.ensures.text
      (rw (c.in_ok-push.ensures.ascii (omega arith)) at c.in_ok-push.ensures.bytes)
      c.in_ok-push_two_digits-2.ensures.text
      (rw (c.in_ok-push-2.ensures.ascii (omega arith)) at c.in_ok-push-2.ensures.bytes))
      c.push_two_digits-3.ensures.text;
}
