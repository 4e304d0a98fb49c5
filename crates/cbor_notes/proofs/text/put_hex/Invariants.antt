use Rattle.std.proofs.Common.{◌≡◌, ◌+◌, ◌*◌, ◌++◌, length, take}
use Rattle.hex.specs.Hex.{encode_lower}
use Rattle.cbor_notes.proofs.text.put_hex.Given as goal

-- the digits of the bytes so far are written, two for each
abbrev pub invariant-loop-byte : goal.invariant-loop-byte
invariant-loop-byte l = record {
  written : l.out ≡ l.initial.out ++ encode_lower (take l.byte-index l.bytes);
  len : length l.out ≡ length l.initial.out + 2 * l.byte-index;
}
