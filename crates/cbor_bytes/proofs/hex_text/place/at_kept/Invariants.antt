-- The bytes so far keep nothing.
use Rattle.std.proofs.Common.{[], length}
use Rattle.cbor_grammar.specs.mirror.HexPlaces.{Keeps}
use Rattle.cbor_bytes.proofs.hex_text.place.at_kept.Given as goal

abbrev pub invariant-dropped : goal.invariant-dropped
invariant-dropped l = Keeps l.text l.rest []

abbrev pub decreases-dropped : goal.decreases-dropped
decreases-dropped l = length l.rest
