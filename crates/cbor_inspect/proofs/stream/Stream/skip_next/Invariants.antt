use Rattle.std.proofs.Common.{◌≡◌, List, length, IsTrue}
use Rattle.cbor_grammar.specs.Item.{Item}
use Rattle.cbor_paths.specs.Sequence.{ItemsThen, IsSequence}
use Rattle.cbor_inspect.proofs.stream.Stream.skip_next.Given as goal

-- items were passed; if all bytes are items, so are those that follow
abbrev pub invariant-items : goal.invariant-items
invariant-items l = record {
  items : (items : List Item) × ItemsThen l.initial.self items l.self;
  later : IsSequence l.initial.self → IsSequence l.self;
  first : IsTrue l.one → l.self ≡ l.initial.self;
}

abbrev pub decreases-items : goal.decreases-items
decreases-items l = length l.self
