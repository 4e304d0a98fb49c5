-- The size of a double, by its exponent.
use Rattle.std.proofs.Common.{sym, refl, arith}
use Rattle.cbor_rules.proofs.DoubleSizes.{size_zero, size_small, size_huge, fraction_whole, fraction_none}
use Rattle.cbor_rules.proofs.DoubleSizes.{integer_whole}
use Rattle.cbor_rules.proofs.reduced.size_of_bits.Goals as goal

pub returns-then-bits-eq0 : goal.returns-then-bits-eq0
returns-then-bits-eq0 c = sym (size_zero c.args.bits c.if-bits-eq0.true)

pub returns-then-exponent-lt1023 : goal.returns-then-exponent-lt1023
returns-then-exponent-lt1023 c = sym (size_small c.args.bits (omega arith) c.if-exponent-lt1023.true)

pub returns-then-digits-unit-eq0 : goal.returns-then-digits-unit-eq0
returns-then-digits-unit-eq0 c =
    sym (fraction_whole c.args.bits _ (omega arith) c.if-exponent-lt1075.true refl c.if-digits-unit-eq0.true)

pub returns-else-digits-unit-eq0 : goal.returns-else-digits-unit-eq0
returns-else-digits-unit-eq0 c =
    sym (fraction_none c.args.bits _ (omega arith) c.if-exponent-lt1075.true refl c.if-digits-unit-eq0.false)

pub returns-then-exponent-lt1087 : goal.returns-then-exponent-lt1087
returns-then-exponent-lt1087 c = sym (integer_whole c.args.bits (omega arith) c.if-exponent-lt1087.true)

pub returns-else-exponent-lt1087 : goal.returns-else-exponent-lt1087
returns-else-exponent-lt1087 c = sym (size_huge c.args.bits (omega arith))
