use Rattle.cbor_tokens.proofs.texts.HexLemmas.{two_digits}
use Rattle.cbor_notes.proofs.ascii_buffer.AsciiBuffer.push_hex.Goals as goal

pub returns : goal.returns
returns c =
    two_digits c.args.byte c.args.self.now c.push.new.self c.push-2.new.self c.from.result c.from-2.result
    c.from.ensures c.from-2.ensures c.push.ensures c.push-2.ensures
