-- An integer by its bits is that of the number.
use Rattle.std.proofs.Common.{leb, sym, ap, ◌^◌, ◌∙◌}
use Rattle.cbor_rules.specs.mirror.DoubleSizes.{signed}
use Rattle.cbor_rules.proofs.DoubleSizes.{integer_is}
use Rattle.cbor_rules.proofs.reduced.integer_of.Goals as goal

pub returns : goal.returns
returns c =
    c.signed.ensures ∙ ap (signed (leb (2 ^ 63) c.args.bits)) c.size_of_bits-size.ensures ∙ sym (integer_is c.args.bits)
