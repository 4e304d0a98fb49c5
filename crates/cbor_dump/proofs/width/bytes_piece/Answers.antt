-- An element of a typed array is no longer than a line of bytes.
use Rattle.std.proofs.Common.{◌∙◌, sym, subst, arith}
use Rattle.cbor_dump.proofs.dump.Elements.{Small, element_small}
use Rattle.cbor_dump.proofs.width.bytes_piece.Goals as goal

pub returns-in-Some-element_size-clause-short : goal.returns-in-Some-element_size-clause-short
returns-in-Some-element_size-clause-short c =
    let size = sym c.element_size.ensures.size ∙ c.in-Some-element_size.is in
    let small = subst Small size (element_small c.in-Some.tag.0) in
    omega (arith, small.1)
