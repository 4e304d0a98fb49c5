use Rattle.std.proofs.Common.{◌≡◌, ◌∙◌, FitsSigned, w32, arith}
use Rattle.std.proofs.lemmas.Int.{to_z-of_z}
use Rattle.jiff.proofs.SpanFacts.{signed_arith}
use Rattle.jiff.specs.Words.{epoch_day}
use Rattle.cbor_notes.proofs.datetime.moment_seconds.Goals as goal

pub overflow_sub-result : goal.overflow_sub-result
overflow_sub-result c =
    let bound = c.day_of_date.ensures.bound in
    let fits : FitsSigned w32 c.day_of_date.result = omega (arith, signed_arith) in
    let day : c.from.result ≡ epoch_day c.args.date = c.from.ensures ∙ to_z-of_z w32 c.day_of_date.result fits
    ∙ c.day_of_date.ensures.value in
    let offset : c.from-3.result ≡ c.args.offset = c.from-3.ensures ∙ to_z-of_z w32 c.args.offset c.ranges.offset in
    omega (arith, signed_arith)

pub returns : goal.returns
returns c =
    let bound = c.day_of_date.ensures.bound in
    let fits : FitsSigned w32 c.day_of_date.result = omega (arith, signed_arith) in
    let day : c.from.result ≡ epoch_day c.args.date = c.from.ensures ∙ to_z-of_z w32 c.day_of_date.result fits
    ∙ c.day_of_date.ensures.value in
    let offset : c.from-3.result ≡ c.args.offset = c.from-3.ensures ∙ to_z-of_z w32 c.args.offset c.ranges.offset in
    omega (arith, signed_arith)
