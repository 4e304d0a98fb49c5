-- What is found is whether one of the bytes so far is escaped.
use Rattle.std.proofs.Common.{◌≡◌, if◌then◌else◌, take}
use Rattle.std.specs.List.{list_any}
use Rattle.cbor_tokens.specs.Ascii.{quote}
use Rattle.cbor_tokens.specs.Token.{is_special}
use Rattle.cbor_notation_writer.proofs.scalars.has_escaped.Given as goal

-- whether one of the bytes so far is one
abbrev pub invariant-bytes : goal.invariant-bytes
invariant-bytes l = l.found ≡ (if list_any (is_special quote) (take l.byte-index l.byte-items) then 1 else 0)
