-- A negative integer whose number has no successor in 64 bits is written in full, too.
use Rattle.std.proofs.Common.{◌≡◌, ◌∷◌, [], ◌++◌, ◌+◌, ap, ◌∙◌, append_assoc, arith}
use Rattle.std.specs.Fmt.{decimal}
use Rattle.std.specs.String.{string_bytes}
use Rattle.cbor_grammar.specs.NotationText.{indicator}
use Rattle.cbor_tokens.proofs.texts.Appending.{begins_two, appends_last}
use Rattle.cbor_notation_writer.proofs.scalars.push_negative.Goals as goal

pub returns-in_ok-push_str-in-None : goal.returns-in_ok-push_str-in-None
returns-in_ok-push_str-in-None c =
    let out = string_bytes c.args.out.now in
    let minus : string_bytes c.push.new.self ≡ out ++ 45 ∷ [] =
    c.in_ok-push.ensures.bytes ∙ ap (λ x. out ++ x) (c.in_ok-push.ensures.ascii (omega arith)) in
    let digits = c.in_ok-push_str-in-None.ensures.bytes in
    let begun = begins_two out (string_bytes c.push.new.self) _ _ (string_bytes c.push_str.new.self) minus digits in
    let text = c.format.ensures.text ∙ ap (λ n. decimal (n + 1)) c.from.ensures in
    let shown : string_bytes c.push_str.new.self ≡ (out ++ 45 ∷ []) ++ decimal (c.args.value + 1) =
    digits ∙ ap (λ x. x ++ c.format.result.now) minus ∙ ap (λ x. (out ++ 45 ∷ []) ++ x) text in
    let after = ap (λ x. x ++ indicator c.args.width) shown in
    let whole = append_assoc (out ++ 45 ∷ []) (decimal (c.args.value + 1)) (indicator c.args.width)
    ∙ append_assoc out (45 ∷ []) (decimal (c.args.value + 1) ++ indicator c.args.width) in
    appends_last c.push_indicator.result out (string_bytes c.push_str.new.self) (string_bytes c.push_indicator.new.out)
    (indicator c.args.width) _ begun (λ e. e ∙ after ∙ whole) c.push_indicator.ensures
