-- The dumps of a few items are computed.
use Rattle.std.proofs.Common.{refl}
use Rattle.std.specs.Fmt.{digits}
use Rattle.hex.specs.Hex.{encode_with}
use Rattle.base64.specs.Rfc4648.{encode_symbols}
use Rattle.cbor_notes.specs.Element.{element_text}
use Rattle.cbor_grammar.specs.Reading.{read_wide, read_argument, head_of, read_head, read_content, parts_from}
use Rattle.cbor_grammar.specs.Reading.{counted_item}
use Rattle.cbor_grammar.specs.Embedded.{sequence_of}
use Rattle.cbor_dump.specs.Notes.{value_note}
use Rattle.cbor_dump.specs.Dump.{lines_at}
use Rattle.cbor_dump.proofs.examples.dumps.Goals as goal

pub returns : goal.returns
unfolding digits encode_with encode_symbols read_wide read_argument head_of read_head read_content parts_from
    counted_item sequence_of element_text value_note lines_at
returns c = record {
  chunks = refl;
  nothing = refl;
  pieces = refl;
  elements = refl;
  sequence = refl;
  shared = refl;
}
