use Rattle.std.proofs.Common.{refl}
use Rattle.base64.specs.Rfc4648.{encode_symbols}
use Rattle.cbor_tokens.proofs.examples.base64_vectors.Goals as goal

pub returns-clause-vectors : goal.returns-clause-vectors
unfolding encode_symbols
returns-clause-vectors c = refl

pub returns-clause-standard : goal.returns-clause-standard
unfolding encode_symbols
returns-clause-standard c = refl

pub returns-clause-url_safe : goal.returns-clause-url_safe
unfolding encode_symbols
returns-clause-url_safe c = refl
