-- Of a byte string that is cut, the bytes that are not here are due.
use Rattle.std.proofs.Common.{arith}
use Rattle.cbor_bytes.proofs.skipping.Scans.{bytes_wait}
use Rattle.cbor_bytes.proofs.skip.due.unfinished.Goals as goal

pub returns-in-Bytes : goal.returns-in-Bytes
returns-in-Bytes c = bytes_wait c.args.kind c.args.left c.args.chunked c.args.bytes.now c.in-Bytes.is (omega arith)
