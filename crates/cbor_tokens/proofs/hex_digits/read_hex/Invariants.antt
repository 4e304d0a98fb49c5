use Rattle.cbor_tokens.proofs.texts.HexTables.{HasRead}
use Rattle.cbor_tokens.proofs.hex_digits.read_hex.Given as goal

abbrev pub invariant-bytes : goal.invariant-bytes
invariant-bytes l = HasRead l.digits l.bytes l.i l.all
