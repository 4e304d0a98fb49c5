-- A number below ten is written as one digit.
use Rattle.std.proofs.Common.{◌∷◌, [], ◌++◌, ap, sym, ◌∙◌, arith}
use Rattle.std.proofs.lemmas.Fmt.{decimal_digit}
use Rattle.std.specs.Prelude.{encode_utf8}
use Rattle.std.specs.String.{string_bytes}
use Rattle.cbor_tokens.proofs.texts.Appending.{appends_as, appends_of}
use Rattle.cbor_notation_writer.proofs.scalars.push_decimal.Goals as goal

pub returns-then-value-lt10 : goal.returns-then-value-lt10
returns-then-value-lt10 c =
    let out = string_bytes c.args.out.now in
    let new = string_bytes c.push.new.self in
    let digit = c.push.ensures.ascii (omega (arith, c.from.ensures)) ∙ ap (λ n. n ∷ []) c.from.ensures
    ∙ sym (decimal_digit c.args.value c.if-value-lt10.true) in
    appends_as c.push.result out new (encode_utf8 c.from.result) _ (λ e. e ∙ ap (λ x. out ++ x) digit)
    (appends_of c.push.result out new (encode_utf8 c.from.result) c.push.ensures.bytes)
