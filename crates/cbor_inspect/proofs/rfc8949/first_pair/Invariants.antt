use Rattle.std.proofs.Common.{◌-◌, drop}
use Rattle.cbor_inspect.specs.Rfc8949.{NoPair}
use Rattle.cbor_inspect.proofs.rfc8949.first_pair.Given as goal

-- if none is in the bytes that are left, none is in all of them
abbrev pub invariant-bytes : goal.invariant-bytes
invariant-bytes l = NoPair (drop l.at l.bytes) → NoPair l.bytes

abbrev pub decreases-bytes : goal.decreases-bytes
decreases-bytes l = l.last - l.at
