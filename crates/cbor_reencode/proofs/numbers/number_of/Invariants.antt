-- The number of all digits is that of those which are left after those which were read.
use Rattle.std.proofs.Common.{◌≡◌, drop}
use Rattle.cbor_reencode.specs.Reduction.{big_endian}
use Rattle.cbor_reencode.proofs.numbers.number_of.Given as goal

abbrev pub invariant-loop-digit : goal.invariant-loop-digit
invariant-loop-digit l = big_endian l.number (drop l.digit-index l.digits) ≡ big_endian 0 l.digits
