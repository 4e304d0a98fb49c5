use Rattle.std.proofs.Common.{sym}
use Rattle.cbor_dump.proofs.dump.Digits.{length-hex}
use Rattle.cbor_dump.proofs.hex_style.HexStyle.count.Goals as goal

pub returns-in-Content : goal.returns-in-Content
returns-in-Content c = rw c.in-Content.is (sym (length-hex c.args.bytes.now))
