-- The digits or the word are a text of the number.
use Rattle.std.specs.String.{string_bytes}
use Rattle.cbor_floats.specs.Decimal.{IsTextOf}
use Rattle.cbor_tokens.proofs.texts.Appending.{appends_of}
use Rattle.cbor_notation_writer.proofs.straight.Wrote.{appends_wrote}
use Rattle.cbor_json.proofs.print.numbers.push_number.Goals as goal

pub returns : goal.returns
returns c =
    let text = c.number_text.result.now in
    appends_wrote c.push_str.result _ _ text (λ t. IsTextOf t c.args.x) c.number_text.ensures
    (appends_of c.push_str.result (string_bytes c.args.out.now) _ text c.push_str.ensures.bytes)
