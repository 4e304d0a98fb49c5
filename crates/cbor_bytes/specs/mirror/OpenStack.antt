-- For `skip/packed.rt`: a `Packed` keeps the kinds and the counts of the open containers in two arrays. `with_counts`
-- joins them into the list of what is still to come in each container. No public clause names these definitions.
use Rattle.std.specs.Prelude.{ℕ, List, [], ◌∷◌, Some, None}
use Rattle.cbor_bytes.specs.declared.skip.to_come.Kind.{Kind}
use Rattle.cbor_bytes.specs.declared.skip.to_come.Kind.TheVariants as kind
use Rattle.cbor_bytes.specs.declared.skip.to_come.ToCome.{ToCome}
use Rattle.cbor_bytes.specs.declared.skip.to_come.ToCome.TheVariants as to_come

-- what is to come of that kind, and as many
abbrev pub to_come_of : Kind → ℕ → ToCome
to_come_of kind.Items n = to_come.Items (Some n)
to_come_of kind.Pairs n = to_come.Pairs (Some n)
to_come_of kind.Value n = to_come.Value (Some n)
to_come_of kind.ItemsToBreak n = to_come.Items None
to_come_of kind.PairsToBreak n = to_come.Pairs None
to_come_of kind.ValueToBreak n = to_come.Value None

-- the kinds, each with its number
abbrev pub with_counts : List Kind → List ℕ → List ToCome
with_counts [] counts = []
with_counts (k ∷ ks) [] = []
with_counts (k ∷ ks) (n ∷ ns) = to_come_of k n ∷ with_counts ks ns
