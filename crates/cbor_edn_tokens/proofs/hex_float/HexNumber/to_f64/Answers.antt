use Rattle.std.proofs.Common.{ap, ◌∙◌}
use lib.Ieee.{binary64, neg}
use Rattle.cbor_edn_tokens.proofs.HexFloats.{rounded_positive, rounded_negative}
use Rattle.cbor_edn_tokens.proofs.hex_float.HexNumber.to_f64.Goals as goal

pub returns-then-self : goal.returns-then-self
returns-then-self c = λ number is.
    ap neg (c.f64_from_bits_with_nan-size.ensures ∙ c.nearest-bits.ensures.bits number.digits is.digits)
    ∙ rounded_negative binary64 c.args.self number is c.if-self.true

pub returns-else-self : goal.returns-else-self
returns-else-self c = λ number is.
    c.f64_from_bits_with_nan-size.ensures ∙ c.nearest-bits.ensures.bits number.digits is.digits
    ∙ rounded_positive binary64 c.args.self number is c.if-self.false
