use Rattle.std.proofs.Common.{◌≡◌, ◌++◌}
use Rattle.std.specs.String.{string_bytes}
use Rattle.std.specs.List.{flat_map}
use Rattle.cbor_tokens.specs.Escapes.{shown_char}
use Rattle.cbor_tokens.proofs.escapes.hidden.push_shown.Given as goal

-- the characters so far are written after the earlier text
abbrev pub invariant-loop-character : goal.invariant-loop-character
invariant-loop-character l = string_bytes l.out ≡ string_bytes l.initial.out ++ flat_map shown_char l.yielded
