use Rattle.std.proofs.Common.{◌≡◌, ◌<ℤ◌, ◌≤ℤ◌, ◌∙◌, ap, pos, unsigned_abs, FitsSigned, w16, arith}
use Rattle.std.proofs.lemmas.Int.{to_z-of_z}
use Rattle.std.proofs.lemmas.Result.{on_ok_weaker}
use Rattle.std.specs.String.{string_bytes}
use Rattle.jiff.proofs.SpanFacts.{signed_arith}
use Rattle.cbor_notes.proofs.dates.DateTexts.{digits_first, minus_first}
use Rattle.cbor_notes.proofs.date.push_year.Goals as goal
use Rattle.cbor_notes.proofs.date.push_year.Goals.{then-year-lt0+in_ok-push, else-year-lt0}

pub returns : goal.returns
returns c =
    let fits : FitsSigned w16 c.args.year = c.ranges.year in
    let size : c.unsigned_abs.result ≡ unsigned_abs c.args.year = simp to_z-of_z at c.unsigned_abs.ensures.value in
    elim c.if-year-lt0.branch [
      | then-year-lt0+in_ok-push w ↦
          let negative : c.args.year <ℤ pos 0 = omega (arith, signed_arith) in
          let first = ap string_bytes w.text-is ∙ (rw (w.in_ok-push.ensures.ascii (omega arith)) at
          w.in_ok-push.ensures.bytes) in
          record {
            text = on_ok_weaker c.push_four_digits.result
                (λ q. q ∙ minus_first _ _ c.args.year _ negative size first) c.push_four_digits.ensures.text;
          }
      | else-year-lt0 w ↦
          let here : pos 0 ≤ℤ c.args.year = omega (arith, signed_arith) in
          record {
            text = on_ok_weaker c.push_four_digits.result
                (λ q. q ∙ digits_first _ _ c.args.year _ here size (ap string_bytes w.text-is))
                c.push_four_digits.ensures.text;
          }
    ]
