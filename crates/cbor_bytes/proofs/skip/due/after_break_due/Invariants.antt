-- What is due of the chunks that are left is what is due of the string, and each chunk shortens the rest.
use Rattle.std.proofs.Common.{◌≤◌, length}
use Rattle.cbor_bytes.specs.mirror.Skipping.{Goes, skip_chunks}
use Rattle.cbor_bytes.proofs.skip.due.after_break_due.Given as goal

abbrev pub decreases-chunks : goal.decreases-chunks
decreases-chunks l = length l.rest

abbrev pub invariant-chunks : goal.invariant-chunks
invariant-chunks l = record {
  goes : Goes (skip_chunks l.kind) (skip_chunks l.kind) l.bytes l.rest;
  shorter : length l.rest ≤ length l.bytes;
}
