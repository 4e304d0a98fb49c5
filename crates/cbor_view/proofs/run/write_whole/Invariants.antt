-- What is written was taken, and no call failed.
use Rattle.std.proofs.Common.{◌≡◌, ◌-◌, ◌≤◌, length, take}
use Rattle.cbor_view.specs.Counting.{failures_of}
use Rattle.cbor_view.specs.Running.{Gains}
use Rattle.cbor_view.proofs.run.write_whole.Given as goal

abbrev pub invariant-loop-written : goal.invariant-loop-written
invariant-loop-written g l = record {
  within : l.written ≤ length l.bytes;
  taken : Gains g.W.Write.contents l.initial.output l.output (take l.written l.bytes);
  failures : failures_of l.output ≡ failures_of l.initial.output;
}

abbrev pub decreases-loop-written : goal.decreases-loop-written
decreases-loop-written g l = length l.bytes - l.written
