-- Where bytes stop being UTF-8, those before are whole characters.
use Rattle.cbor_bytes.proofs.skipping.Scans.{whole_chars_are}
use Rattle.cbor_bytes.proofs.utf8.whole_chars.Goals as goal

pub returns-in-Err : goal.returns-in-Err
returns-in-Err c = rw c.valid_up_to.ensures (whole_chars_are c.args.bytes.now _ c.in-Err.ensures.cases.1)
