use Rattle.std.proofs.Common.{◌≡◌, ◌++◌}
use Rattle.std.specs.String.{string_bytes}
use Rattle.std.specs.List.{flat_map}
use Rattle.cbor_notes.specs.Text as spec
use Rattle.cbor_notes.proofs.text.write_escaped_text.Given as goal

-- the characters so far are written after the earlier text
abbrev pub invariant-loop-character : goal.invariant-loop-character
invariant-loop-character l = string_bytes l.escaped ≡ string_bytes l.initial.escaped
    ++ flat_map spec.escaped_char l.yielded
