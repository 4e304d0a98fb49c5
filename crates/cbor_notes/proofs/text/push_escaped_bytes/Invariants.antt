use Rattle.std.proofs.Common.{◌≡◌, ◌≤◌, ◌*◌, length, take}
use Rattle.std.specs.List.{flat_map}
use Rattle.cbor_notes.specs.Text as spec
use Rattle.cbor_notes.proofs.text.push_escaped_bytes.Given as goal

-- the bytes so far are written, in at most four characters each
abbrev pub invariant-loop-byte : goal.invariant-loop-byte
invariant-loop-byte l = record {
  written : l.escaped ≡ flat_map spec.escaped_byte (take l.byte-index l.piece);
  short : length l.escaped ≤ 4 * l.byte-index;
}
