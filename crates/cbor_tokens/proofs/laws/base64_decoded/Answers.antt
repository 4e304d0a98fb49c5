use Rattle.cbor_tokens.proofs.bases.Base64Digits.{decoded_found, decoded_every}
use Rattle.cbor_tokens.proofs.laws.base64_decoded.Goals as goal

pub returns-clause-found : goal.returns-clause-found
returns-clause-found c = decoded_found

pub returns-clause-every : goal.returns-clause-every
returns-clause-every c = decoded_every
