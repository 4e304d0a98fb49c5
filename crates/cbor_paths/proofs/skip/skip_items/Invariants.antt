-- The items so far are those of the bytes before.
use Rattle.std.proofs.Common.{◌≡◌, List, ◌-◌, ◌≤◌, length, drop, IsTrue}
use Rattle.cbor_grammar.specs.Item.{Item}
use Rattle.cbor_paths.specs.Sequence.{ItemsThen, IsSequence}
use Rattle.cbor_paths.proofs.skip.skip_items.Given as goal

abbrev pub invariant-items : goal.invariant-items
invariant-items l = record {
  within : l.used ≤ length l.bytes;
  items : (items : List Item) × ItemsThen l.bytes items (drop l.used l.bytes);
  later : IsSequence l.bytes → IsSequence (drop l.used l.bytes);
  first : IsTrue l.one → l.used ≡ 0;
}

abbrev pub decreases-items : goal.decreases-items
decreases-items l = length l.bytes - l.used
