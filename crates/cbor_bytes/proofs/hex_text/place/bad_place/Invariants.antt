-- All bytes kept so far are digits.
use Rattle.std.proofs.Common.{length}
use Rattle.std.specs.List.{AllPass}
use Rattle.hex.specs.Hex.{is_hex_digit}
use Rattle.cbor_grammar.proofs.hex.Kept.{Walked}
use Rattle.cbor_bytes.proofs.hex_text.place.bad_place.Given as goal

abbrev pub invariant-kept : goal.invariant-kept
invariant-kept l = Walked (AllPass is_hex_digit) l.text l.rest

abbrev pub decreases-kept : goal.decreases-kept
decreases-kept l = length l.rest
