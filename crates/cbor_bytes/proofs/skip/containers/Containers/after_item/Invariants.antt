-- What is due of the open containers that are left is what is due of the item.
use Rattle.std.proofs.Common.{◌+◌, ◌*◌, length}
use Rattle.cbor_bytes.specs.mirror.Skipping.{Goes, skip_open}
use Rattle.cbor_bytes.proofs.skip.containers.Containers.after_item.Given as goal

abbrev pub decreases-turns : goal.decreases-turns
decreases-turns l = 2 * length l.rest + length l.self.outer

abbrev pub invariant-turns : goal.invariant-turns
invariant-turns l = record {
  goes : Goes (skip_open l.fn.self.outer l.fn.self.top) (skip_open l.self.outer l.top) l.bytes l.rest;
}
