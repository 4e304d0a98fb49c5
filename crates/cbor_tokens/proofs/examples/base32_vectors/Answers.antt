use Rattle.std.proofs.Common.{refl}
use Rattle.cbor_tokens.specs.Base32.{encode}
use Rattle.cbor_tokens.proofs.examples.base32_vectors.Goals as goal

pub returns-clause-upper : goal.returns-clause-upper
unfolding encode
returns-clause-upper c = refl

pub returns-clause-hex : goal.returns-clause-hex
unfolding encode
returns-clause-hex c = refl
