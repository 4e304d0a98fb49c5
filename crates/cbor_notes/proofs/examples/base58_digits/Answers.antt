use Rattle.std.proofs.Common.{refl}
use Rattle.cbor_notes.specs.Base58.{base58_of}
use Rattle.cbor_notes.proofs.examples.base58_digits.Goals as goal

pub returns-clause-zeros : goal.returns-clause-zeros
unfolding base58_of
returns-clause-zeros c = refl

pub returns-clause-two_digits : goal.returns-clause-two_digits
unfolding base58_of
returns-clause-two_digits c = refl
