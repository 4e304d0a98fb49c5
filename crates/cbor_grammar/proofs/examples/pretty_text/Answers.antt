-- The pretty texts of a few items are computed.
use Rattle.std.proofs.Common.{refl}
use Rattle.std.specs.Fmt.{digits}
use Rattle.hex.specs.Hex.{encode_with}
use Rattle.base64.specs.Rfc4648.{encode_symbols}
use Rattle.cbor_grammar.specs.Reading.{read_wide, read_argument, head_of, read_head, read_content, parts_from}
use Rattle.cbor_grammar.specs.Reading.{counted_item}
use Rattle.cbor_grammar.specs.Embedded.{sequence_of}
use Rattle.cbor_grammar.specs.NotationText.{text_at}
use Rattle.cbor_grammar.specs.Normal.{normal_at}
use Rattle.cbor_grammar.proofs.examples.pretty_text.Goals as goal

pub returns : goal.returns
unfolding digits encode_with encode_symbols read_wide read_argument head_of read_head read_content parts_from
    counted_item sequence_of text_at normal_at
returns c = record {
  estimate = refl;
  row = refl;
  lines = refl;
  «open» = refl;
  empty = refl;
}
