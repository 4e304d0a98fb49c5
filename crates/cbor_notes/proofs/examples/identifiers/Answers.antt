use Rattle.std.proofs.Common.{refl}
use Rattle.std.specs.Fmt.{digits}
use Rattle.base64.proofs.OnLiterals.{base64_on_literals}
use Rattle.uuid.proofs.OnLiterals.{uuid_on_literals}
use Rattle.cbor_notes.specs.Base58.{base58_of}
use Rattle.cbor_notes.proofs.examples.identifiers.Goals as goal

pub returns-clause-nil : goal.returns-clause-nil
unfolding digits base58_of uuid_on_literals base64_on_literals
returns-clause-nil c = refl

pub returns-clause-max : goal.returns-clause-max
unfolding digits base58_of uuid_on_literals base64_on_literals
returns-clause-max c = refl

pub returns-clause-example : goal.returns-clause-example
unfolding digits base58_of uuid_on_literals base64_on_literals
returns-clause-example c = refl

pub returns-clause-base16 : goal.returns-clause-base16
unfolding digits base58_of uuid_on_literals base64_on_literals
returns-clause-base16 c = refl

pub returns-clause-base64 : goal.returns-clause-base64
unfolding digits base58_of uuid_on_literals base64_on_literals
returns-clause-base64 c = refl
