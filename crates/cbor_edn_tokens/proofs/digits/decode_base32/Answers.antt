use Rattle.cbor_tokens.specs.Base32.{standard}
use Rattle.cbor_edn_tokens.proofs.Decoded.{base32_law}
use Rattle.cbor_edn_tokens.proofs.digits.decode_base32.Goals as goal

pub returns : goal.returns
returns c = base32_law standard c.args.digits.now c.base32_decode.result c.base32_decode.ensures.found
    c.base32_decode.ensures.none
