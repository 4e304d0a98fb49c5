use Rattle.std.proofs.Common.{◌≡◌, ◌++◌, length, codes}
use Rattle.std.specs.Io.{StartsWith}
use Rattle.std.specs.String.{string_bytes}
use Rattle.std.specs.List.{flat_map}
use Rattle.cbor_notes.specs.Text as spec
use Rattle.cbor_notes.proofs.text.write_quoted_bytes.Given as goal

-- what is written and the rest escaped are the whole, and the old text is still in front
abbrev pub invariant-pieces : goal.invariant-pieces
invariant-pieces l = record {
  whole : string_bytes l.text ++ flat_map spec.escaped_byte l.rest
      ≡ (string_bytes l.fn.text ++ codes "\"") ++ flat_map spec.escaped_byte l.fn.bytes;
  front : StartsWith (string_bytes l.text) (string_bytes l.fn.text);
}

abbrev pub decreases-pieces : goal.decreases-pieces
decreases-pieces l = length l.rest
