use Rattle.cbor_edn_tokens.proofs.Decoded.{base64_law}
use Rattle.cbor_edn_tokens.proofs.digits.decode_base64.Goals as goal

pub returns : goal.returns
returns c = base64_law c.args.digits.now c.base64_any_decode.result c.base64_any_decode.ensures.found
    c.base64_any_decode.ensures.none
