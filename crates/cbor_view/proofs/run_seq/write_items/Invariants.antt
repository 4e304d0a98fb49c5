-- What is written is the output of the items before the rest.
use Rattle.std.proofs.Common.{ℕ, List, length}
use Rattle.cbor_view.specs.Running.{Writes}
use Rattle.cbor_view.specs.Sequence.{IsOutputOfFirst}
use Rattle.cbor_view.proofs.run_seq.write_items.Given as goal

abbrev pub invariant-sequence : goal.invariant-sequence
invariant-sequence g l = record {
  before : (written : List ℕ) × IsOutputOfFirst l.to l.bytes written l.rest
      × Writes g.W.Write.contents l.initial.output l.output written;
}

abbrev pub decreases-sequence : goal.decreases-sequence
decreases-sequence g l = length l.rest
