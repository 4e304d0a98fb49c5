-- If a tag is that of a typed array, its elements have 1 to 16 bytes (`element_size`). If the size of an element is at
-- least 1, `element_cut` takes at least one byte off any bytes that are left.
use Rattle.std.proofs.Common.{ℕ, ◌≤◌, true, false, cond, min, List, length, Option, Some, None, arith}
use Rattle.cbor_notes.specs.Element.{element_size, is_typed_array, size}
use Rattle.cbor_notes.proofs.texts.ElementLemmas.{size_small}
use Rattle.cbor_dump.proofs.dump.Pieces.{Cuts}

-- an element, if there are any, has from 1 to 16 bytes
abbrev pub Small : Option ℕ → Type 0
Small None = Unit {0}
Small (Some n) = (1 ≤ n) × (n ≤ 16)

pub element_small : (t : ℕ) → Small (element_size t)
element_small t =
    elim (is_typed_array t) as (λ v. Small (cond v (Some (size t)) None)) [
      | true ↦ size_small t
      | false ↦ tt
    ]

-- elements are cut off the front
abbrev pub element_cut : ℕ → List ℕ → ℕ
element_cut n rest = min (length rest) n

pub element_cuts : (n : ℕ) → 1 ≤ n → Cuts (element_cut n)
element_cuts n some bytes h = omega arith
