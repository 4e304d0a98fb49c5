use Rattle.std.proofs.Common.{◌≡◌, ◌++◌, ◌+◌, ◌*◌, ◌≤◌, length}
use Rattle.std.specs.String.{string_bytes, string_len, string_capacity}
use Rattle.hex.specs.Hex.{encode_lower}
use Rattle.cbor_tokens.proofs.hex_digits.push_hex.Given as goal

-- what is written and the digits of the rest are the whole, and memory is reserved for these
abbrev pub invariant-pieces : goal.invariant-pieces
invariant-pieces l = record {
  whole : string_bytes l.text ++ encode_lower l.rest ≡ string_bytes l.fn.text ++ encode_lower l.fn.bytes;
  room : string_len l.text + 2 * length l.rest ≤ string_capacity l.text;
}

abbrev pub decreases-pieces : goal.decreases-pieces
decreases-pieces l = length l.rest
