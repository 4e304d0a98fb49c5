-- The copies so far are the items so far.
use Rattle.std.proofs.Common.{◌≡◌, map, take}
use Rattle.cbor_diag.specs.declared.syntax.DataItem.{DataItem}
use Rattle.cbor_grammar.specs.Item.{Item}
use Rattle.cbor_diag.specs.View.{view}
use Rattle.cbor_diag.proofs.syntax.+copy.Given as goal

abbrev pub invariant-clone::clone_items-items : goal.invariant-clone::clone_items-items
invariant-clone::clone_items-items l = map view l.copies.items ≡ map view (take l.item-index l.item-items)

abbrev pub invariant-clone::clone_pairs-pairs : goal.invariant-clone::clone_pairs-pairs
invariant-clone::clone_pairs-pairs l =
    let both : DataItem × DataItem → Item × Item = λ p. (view p.0, view p.1) in
    map both l.copies.items ≡ map both (take l.key-index l.key-items)
