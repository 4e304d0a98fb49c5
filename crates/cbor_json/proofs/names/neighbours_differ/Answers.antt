-- In sorted texts, no two neighbours are equal.
use Rattle.std.proofs.Common.{arith}
use Rattle.json.proofs.Unique.Keys.{AreDistinct-from_places, DifferAt-from_sorted}
use Rattle.cbor_json.proofs.names.neighbours_differ.Goals as goal

pub returns : goal.returns
returns c = λ asked. AreDistinct-from_places c.args.texts.now
    (DifferAt-from_sorted c.args.texts.now c.requires (λ k h. c.later.invariant k (omega arith)))
