-- For `dialect.rt`: the `Atom` of the definitions that a `Leaf` of the code stands for (`atom_of`). `FitsLeaf`: if the
-- leaf is a float, its bits fit its width.
use Rattle.cbor_grammar.specs.Item.{Atom, integer, negative, float, simple}
use Rattle.cbor_grammar.specs.WellFormed.{FitsFloat}
use Rattle.cbor_notation_writer.specs.declared.parts.Leaf.{Leaf}
use Rattle.cbor_notation_writer.specs.declared.parts.Leaf.TheVariants as leaf

abbrev pub atom_of : Leaf → Atom
atom_of (leaf.Integer value width) = integer value width
atom_of (leaf.Negative value width) = negative value width
atom_of (leaf.Float bits width) = float bits width
atom_of (leaf.Simple value takes_two) = simple value

-- the bits of a float fit its width
abbrev pub FitsLeaf : Leaf → Type 0
FitsLeaf (leaf.Float bits width) = FitsFloat width bits
FitsLeaf other = Unit {0}
