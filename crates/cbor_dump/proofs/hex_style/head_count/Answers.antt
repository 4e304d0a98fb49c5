use Rattle.std.proofs.Common.{arith}
use Rattle.cbor_dump.proofs.dump.Digits.{length-head_short, length-head_long}
use Rattle.cbor_dump.proofs.hex_style.head_count.Goals as goal

pub returns-then-bytes-gt1 : goal.returns-then-bytes-gt1
returns-then-bytes-gt1 c = length-head_long c.args.bytes.now (omega (arith, c.if-bytes-gt1.true))

pub returns : goal.returns
returns c = length-head_short c.args.bytes.now (omega (arith, c.if-bytes-gt1.false))
