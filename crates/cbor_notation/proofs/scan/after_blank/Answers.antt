-- What follows a blank is what the definition leaves of the text.
use Rattle.std.proofs.Common.{◌∙◌}
use Rattle.std.proofs.lemmas.List.{take_rest}
use Rattle.cbor_notation.proofs.scan.after_blank.Goals as goal

pub returns-clause-gives : goal.returns-clause-gives
returns-clause-gives c = take_rest c.args.text.now c.blank_len.result ∙ c.blank_len.ensures.rest
