-- Digits are no float, with a minus before them or without.
use Rattle.std.proofs.Common.{false}
use Rattle.cbor_edn_grammar.proofs.Digits.{integer_no_float, minus_no_float}
use Rattle.cbor_edn_tokens.proofs.float.is_plain_integer.Goals as goal

pub returns-in-Some : goal.returns-in-Some
returns-in-Some c = λ is. minus_no_float c.args.word.now _ c.in-Some.ensures.gives (c.is_numeral.ensures is)

pub returns-in-None : goal.returns-in-None
returns-in-None c = λ is. integer_no_float false _ (c.is_numeral-in-None.ensures is)
