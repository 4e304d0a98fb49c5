-- What is held is a copy of the bytes so far.
use Rattle.std.proofs.Common.{◌≡◌, take}
use Rattle.cbor_bytes.proofs.skip.held.Held.new.Given as goal

abbrev pub invariant-loop-byte : goal.invariant-loop-byte
invariant-loop-byte l = l.held ≡ take l.byte-index l.bytes
