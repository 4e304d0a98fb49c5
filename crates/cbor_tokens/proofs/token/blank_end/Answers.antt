-- The longest blank of the text from the place on.
use Rattle.std.proofs.Common.{◌∙◌, ap, drop, sym, true, arith}
use Rattle.std.proofs.lemmas.List.{drop-drop}
use Rattle.cbor_tokens.specs.TokenReading.{after_blank}
use Rattle.cbor_tokens.proofs.tokens.Blanks.{longest_blank_at}
use Rattle.cbor_tokens.proofs.token.blank_end.Goals as goal

pub returns-clause-longest : goal.returns-clause-longest
returns-clause-longest c =
    let text = c.args.text.now in
    let rest = c.split_at.ensures.back in
    longest_blank_at true text c.args.at _ (omega arith) (sym (drop-drop c.blank_len.result c.args.at text)
    ∙ sym (ap (drop c.blank_len.result) rest) ∙ c.blank_len.ensures.rest ∙ ap (after_blank true) rest)
