use Rattle.std.proofs.Common.{◌≡◌, ◌++◌, take}
use Rattle.std.specs.String.{string_bytes}
use Rattle.cbor_notes.proofs.datetime.push_digits.Given as goal

-- the digits so far are written after the earlier text
abbrev pub invariant-loop-digit : goal.invariant-loop-digit
invariant-loop-digit l = string_bytes l.text ≡ string_bytes l.initial.text ++ take l.digit-index l.digits
