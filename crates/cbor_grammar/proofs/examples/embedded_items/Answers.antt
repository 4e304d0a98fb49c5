-- The items embedded in a few bytes are computed.
use Rattle.std.proofs.Common.{refl}
use Rattle.cbor_grammar.specs.Reading.{read_wide, read_argument, head_of, read_head, read_content, parts_from}
use Rattle.cbor_grammar.specs.Reading.{counted_item}
use Rattle.cbor_grammar.specs.Embedded.{sequence_of}
use Rattle.cbor_grammar.proofs.examples.embedded_items.Goals as goal

pub returns : goal.returns
unfolding read_wide read_argument head_of read_head read_content parts_from counted_item sequence_of
returns c = record {
  whole = refl;
  too_long = refl;
  too_deep = refl;
  in_sequence = refl;
}
