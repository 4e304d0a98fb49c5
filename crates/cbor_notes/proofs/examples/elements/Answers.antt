use Rattle.std.proofs.Common.{refl}
use Rattle.std.specs.Fmt.{digits}
use Rattle.hex.specs.Hex.{encode_with}
use Rattle.cbor_notes.specs.Element.{element_text}
use Rattle.cbor_notes.proofs.examples.elements.Goals as goal

pub returns-clause-negative : goal.returns-clause-negative
unfolding digits encode_with element_text
returns-clause-negative c = refl

pub returns-clause-least : goal.returns-clause-least
unfolding digits encode_with element_text
returns-clause-least c = refl

pub returns-clause-turned : goal.returns-clause-turned
unfolding digits encode_with element_text
returns-clause-turned c = refl

pub returns-clause-float : goal.returns-clause-float
unfolding digits encode_with element_text
returns-clause-float c = refl

pub returns-clause-too_long : goal.returns-clause-too_long
unfolding digits encode_with element_text
returns-clause-too_long c = refl
