-- What is filled is what the reader gave, and no call failed. Memory is bounded, so the input is.
use Rattle.std.proofs.Common.{◌≡◌, ◌-◌, ◌^◌, ◌≤◌, take, vec_len, vec_items}
use Rattle.std.specs.Io.KnownBytes.{Consumes}
use Rattle.cbor_view.specs.Counting.{inner_of, failures_of}
use Rattle.cbor_view.proofs.run.read_to_end.Given as goal

abbrev pub invariant-loop-bytes : goal.invariant-loop-bytes
invariant-loop-bytes g l = record {
  within : l.filled ≤ vec_len l.bytes;
  given : Consumes (g.R.Read.remaining (inner_of l.initial.input)) (g.R.Read.remaining (inner_of l.input))
      (take l.filled (vec_items l.bytes));
  failures : failures_of l.input ≡ failures_of l.initial.input;
}

abbrev pub decreases-loop-bytes : goal.decreases-loop-bytes
decreases-loop-bytes g l = 2 ^ 64 - l.filled
