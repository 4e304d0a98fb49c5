-- The digits up to the first apostrophe are decoded, or there is none.
use Rattle.cbor_edn_grammar.proofs.DigitReads.{digits_none}
use Rattle.cbor_edn_tokens.proofs.digits.digits_front.Goals as goal

pub returns-in-None-clause-gives : goal.returns-in-None-clause-gives
returns-in-None-clause-gives c = digits_none c.args.base c.args.text.now c.in-None.ensures.at
