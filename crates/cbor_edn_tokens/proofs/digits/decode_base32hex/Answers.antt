use Rattle.cbor_tokens.specs.Base32.{extended_hex}
use Rattle.cbor_edn_tokens.proofs.Decoded.{base32_law}
use Rattle.cbor_edn_tokens.proofs.digits.decode_base32hex.Goals as goal

pub returns : goal.returns
returns c = base32_law extended_hex c.args.digits.now c.base32hex_decode.result c.base32hex_decode.ensures.found
    c.base32hex_decode.ensures.none
