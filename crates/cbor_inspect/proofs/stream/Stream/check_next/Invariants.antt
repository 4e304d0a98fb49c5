use Rattle.std.proofs.Common.{◌≡◌, List, length, IsTrue}
use Rattle.cbor_grammar.specs.Item.{Item}
use Rattle.cbor_inspect.specs.Rfc8949.{ItemsThen8949, IsSequence8949}
use Rattle.cbor_inspect.proofs.stream.Stream.check_next.Given as goal

-- items by RFC 8949 were passed; if all bytes are such items, so are those that follow
abbrev pub invariant-items : goal.invariant-items
invariant-items l = record {
  items : (items : List Item) × ItemsThen8949 l.initial.self items l.self;
  later : IsSequence8949 l.initial.self → IsSequence8949 l.self;
  first : IsTrue l.one → l.self ≡ l.initial.self;
}

abbrev pub decreases-items : goal.decreases-items
decreases-items l = length l.self
