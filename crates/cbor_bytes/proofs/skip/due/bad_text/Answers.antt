-- A text that is not UTF-8 is a fault where its last byte is, and not before.
use Rattle.std.proofs.Common.{arith}
use Rattle.cbor_bytes.proofs.skipping.Scans.{bad_text_waits, bad_text_shows}
use Rattle.cbor_bytes.proofs.skip.due.bad_text.Goals as goal

pub returns-then-len-more : goal.returns-then-len-more
returns-then-len-more c = bad_text_waits c.args.more c.args.bytes.now (omega arith)

pub returns : goal.returns
returns c = bad_text_shows c.args.more c.args.bytes.now (omega arith)
