-- The texts are those of the names so far.
use Rattle.std.proofs.Common.{◌≡◌, ℕ, List, take}
use Rattle.cbor_json.specs.mirror.Walking.{AreAt}
use Rattle.cbor_json.proofs.walking.Ordered.{texts_of}
use Rattle.cbor_json.proofs.names.are_distinct_sorted.Given as goal

abbrev pub invariant-names : goal.invariant-names
invariant-names l = (ns : List (List ℕ)) → AreAt l.text l.names ns → texts_of l.texts.items ≡ take l.index ns
