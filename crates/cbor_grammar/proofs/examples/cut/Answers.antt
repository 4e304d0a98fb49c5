-- That three inputs are cut is shown part by part.
use Rattle.std.proofs.Common.{[], ◌∷◌, refl, arith, inl}
use Rattle.cbor_grammar.specs.declared.width.IntegerWidth.TheVariants.{Zero}
use Rattle.cbor_grammar.specs.declared.strings.StringKind.TheVariants.{Bytes, Text}
use Rattle.cbor_grammar.specs.Refused.{cut_head, nothing, in_content, in_chunk, in_part, part, in_map}
use Rattle.cbor_grammar.specs.Examples.{small}
use Rattle.cbor_grammar.proofs.examples.cut.Goals as goal

pub returns-clause-head : goal.returns-clause-head
returns-clause-head c = in_chunk Bytes (88 ∷ []) (omega arith) ([], 88 ∷ [], refl, refl)
    (inl (refl, cut_head 0 (omega arith) refl (omega arith)))

pub returns-clause-content : goal.returns-clause-content
returns-clause-content c = in_content Text (omega arith) (3, Zero, (omega arith, 255 ∷ [], refl, omega arith))

-- the key 1 is whole, and nothing is in the value's place
pub returns-clause-value : goal.returns-clause-value
returns-clause-value c =
    in_part part [] (omega arith)
    (in_map 1 1 Zero (1 ∷ []) (omega arith, 1 ∷ [], refl, refl)
    (1 ∷ [], [], small 1, refl, (omega arith, (omega arith, [], refl, refl)), refl) (omega arith))
    (nothing (omega arith))
