use Rattle.std.proofs.Common.{◌≡◌, take}
use Rattle.std.specs.Int.Digits.{number_from_digits}
use Rattle.cbor_notes.proofs.element.big_endian_number.Given as goal

-- the number of the bytes so far
abbrev pub invariant-loop-byte : goal.invariant-loop-byte
invariant-loop-byte l = l.number ≡ number_from_digits 256 (take l.byte-index l.bytes)
