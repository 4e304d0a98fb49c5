-- What is left without zeros in front is what all bytes are.
use Rattle.std.proofs.Common.{◌≡◌, length}
use Rattle.cbor_reencode.specs.Reduction.{without_zeros}
use Rattle.cbor_reencode.proofs.numbers.without_zeros.Given as goal

abbrev pub invariant-zeros : goal.invariant-zeros
invariant-zeros l = without_zeros l.rest ≡ without_zeros l.digits

abbrev pub decreases-zeros : goal.decreases-zeros
decreases-zeros l = length l.rest
