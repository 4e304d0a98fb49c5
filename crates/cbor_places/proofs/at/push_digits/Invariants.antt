-- The digits so far are written.
use Rattle.std.proofs.Common.{◌≡◌, ◌++◌, take}
use Rattle.std.specs.String.{string_bytes}
use Rattle.cbor_places.specs.Heads.{head_digits}
use Rattle.cbor_places.proofs.at.push_digits.Given as goal

abbrev pub invariant-digits : goal.invariant-digits
invariant-digits l = string_bytes l.out ≡ string_bytes l.initial.out ++ head_digits (take l.byte-index l.digits)
