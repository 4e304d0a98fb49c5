-- The number of the digits so far, continued by those that are left, is the number of all.
use Rattle.std.proofs.Common.{◌≡◌, ◌^◌, ◌<◌, drop}
use Rattle.cbor_notation.specs.mirror.NotationReading.{numeral}
use Rattle.cbor_notation.proofs.notation.Tokens.{hex_after}
use Rattle.cbor_diag.proofs.parse.notation.word.hex_number.Given as goal

abbrev pub invariant-digits : goal.invariant-digits
invariant-digits l = record {
  so_far : hex_after l.number (drop l.byte-index l.digits) ≡ numeral 16 l.digits;
  small : l.number < 16 ^ l.byte-index;
}
