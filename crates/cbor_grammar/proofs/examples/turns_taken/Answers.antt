-- The turns of a few cut or wrong inputs are counted part by part.
use Rattle.std.proofs.Common.{◌≡◌, ℕ, zero, suc, ◌+◌, [], ◌∷◌, refl, arith}
use Rattle.cbor_grammar.specs.declared.error.Error.TheVariants.{TooDeep}
use Rattle.cbor_grammar.specs.declared.width.IntegerWidth.TheVariants.{Zero}
use Rattle.cbor_grammar.specs.Item.{item, array, no_items}
use Rattle.std.specs.Prelude.{Some}
use Rattle.cbor_grammar.specs.Refused.{Cut, nothing, in_part, part, in_array, Fault, too_deep, bad_part}
use Rattle.cbor_grammar.specs.Turns.{fault_spent}
use Rattle.cbor_grammar.specs.Examples.{small, nested_bytes}
use Rattle.cbor_grammar.proofs.examples.turns_taken.Goals as goal

pub returns-clause-nothing : goal.returns-clause-nothing
returns-clause-nothing c = (nothing (omega arith), refl)

-- the inner array is whole, and nothing is in the second member's place
pub returns-clause-member : goal.returns-clause-member
returns-clause-member c =
    let cut : Cut 1 (0x82 ∷ 0x81 ∷ 1 ∷ []) = in_part part [] (omega arith)
    (in_array 2 1 Zero (0x81 ∷ 1 ∷ []) (omega arith, 0x81 ∷ 1 ∷ [], refl, refl) (
      0x81 ∷ 1 ∷ [],
      [],
      array (item (small 1) no_items) (Some Zero),
      refl,
      (
        omega arith,
        (
          omega arith,
          1 ∷ [],
          refl,
          (1 ∷ [], [], refl, (omega arith, (omega arith, [], refl, refl)), refl),
        ),
      ),
      refl,
    ) (omega arith))
    (nothing (omega arith)) in
    (cut, refl)

deep : (n level : ℕ) → level + n ≡ 129 → (f : Fault level (nested_bytes n) TooDeep) × (fault_spent f ≡ n)
deep zero level levels = (too_deep (omega arith), refl)
deep (suc n) level levels =
    let f = deep n (level + 1) (omega arith) in
    let sum : 1 + fault_spent f.0 ≡ suc n = omega (arith, f.1) in (
      bad_part part (nested_bytes n) (omega arith)
          (in_array 1 0 Zero [] (omega arith, nested_bytes n, refl, refl) refl (omega arith)) tt f.0,
      sum,
    )

pub returns-clause-too_deep : goal.returns-clause-too_deep
returns-clause-too_deep c = deep 128 1 (omega arith)
