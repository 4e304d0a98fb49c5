-- The values so far, and those of the rest, are those of all items; so for keys that stand twice.
use Rattle.std.proofs.Common.{◌≡◌, ◌-◌, ◌||◌, length, map}
use Rattle.cbor_grammar.specs.Embedded.{sequence, sequence_of}
use Rattle.cbor_fits.specs.View.{view}
use Rattle.cbor_fits.specs.Reads.{front_read, listed, after}
use Rattle.cbor_fits.proofs.Decodes.{twice}
use Rattle.cbor_fits.proofs.read.read_items.Given as goal

abbrev pub invariant-items : goal.invariant-items
invariant-items l =
    (listed (sequence 1 l.bytes)
    ≡ after (map view l.data.items) (listed (sequence_of front_read (length l.bytes - l.counter) l.rest)))
    × ((l.fn.reader.key_twice || twice (sequence 1 l.bytes))
    ≡ (l.reader.key_twice || twice (sequence_of front_read (length l.bytes - l.counter) l.rest)))
