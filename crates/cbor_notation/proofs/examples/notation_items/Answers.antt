-- Reading shows that a few texts are these items.
use Rattle.std.proofs.Common.{codes, refl}
use Rattle.hex.specs.Hex.{decode_pairs}
use Rattle.base64.specs.Rfc4648.{encode_symbols}
use Rattle.cbor_tokens.specs.Base32.{encode}
use Rattle.cbor_notation.specs.mirror.NotationReading.{read_item, read_core, start_of, read_members, members_from}
use Rattle.cbor_notation.specs.mirror.NotationReading.{read_piece, read_pieces, read_string, from_fives, from_sixes}
use Rattle.cbor_notation.specs.mirror.NotationReading.{base32_of, base64_of}
use Rattle.cbor_notation.proofs.notation.OneReading.{is_read}
use Rattle.cbor_notation.proofs.examples.notation_items.Goals as goal

pub returns : goal.returns
unfolding read_item read_core start_of read_members members_from read_piece read_pieces read_string from_fives
    from_sixes base32_of base64_of encode encode_symbols decode_pairs
returns c = record {
  blanks = is_read 1 (codes "/x/ 1 //") _ refl;
  hex = is_read 1 (codes "0x18") _ refl;
  octal = is_read 1 (codes "0o30") _ refl;
  binary = is_read 1 (codes "0b11_1") _ refl;
  zeros = is_read 1 (codes "001_00") _ refl;
  negative = is_read 1 (codes "-0x18") _ refl;
  least = is_read 1 (codes "-256_0") _ refl;
  tag = is_read 2 (codes "32( 1 )") _ refl;
  last_comma = is_read 2 (codes "[1, ]") _ refl;
  no_member = is_read 1 (codes "[/x/, ]") _ refl;
  open_map = is_read 2 (codes "{_ 1: 2}") _ refl;
  simple = is_read 1 (codes "simple(032)") _ refl;
  float = is_read 1 (codes "float'3C00'") _ refl;
}
