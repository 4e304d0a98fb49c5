-- Reading shows that a few texts are these strings.
use Rattle.std.proofs.Common.{codes, refl}
use Rattle.hex.specs.Hex.{decode_pairs}
use Rattle.base64.specs.Rfc4648.{encode_symbols}
use Rattle.cbor_tokens.specs.Base32.{encode}
use Rattle.cbor_notation.specs.mirror.NotationReading.{read_item, read_core, start_of, read_members, members_from}
use Rattle.cbor_notation.specs.mirror.NotationReading.{read_piece, read_pieces, read_string, from_fives, from_sixes}
use Rattle.cbor_notation.specs.mirror.NotationReading.{base32_of, base64_of}
use Rattle.cbor_notation.proofs.notation.OneReading.{is_read}
use Rattle.cbor_notation.proofs.examples.notation_strings.Goals as goal

pub returns : goal.returns
unfolding read_item read_core start_of read_members members_from read_piece read_pieces read_string from_fives
    from_sixes base32_of base64_of encode encode_symbols decode_pairs
returns c = record {
  spaced = is_read 1 (codes "h'/x/0 1'") _ refl;
  base32 = is_read 1 (codes "b32'MZXW6==='") _ refl;
  base32hex = is_read 1 (codes "h32'CPNMU==='") _ refl;
  base64 = is_read 1 (codes "b64'/x/0'") _ refl;
  escaped = is_read 1 (codes "'it\\'s'") _ refl;
  embedded = is_read 2 (codes "<<1, >>") _ refl;
  no_chunks = is_read 1 (codes "(_ )") _ refl;
  no_bytes = is_read 1 (codes "''_") _ refl;
  no_texts = is_read 1 (codes "\"\"_") _ refl;
}
