-- The elements of a typed array are short enough for a line.
use Rattle.std.proofs.Common.{◌∙◌, sym, subst}
use Rattle.cbor_dump.proofs.dump.Elements.{Small, element_small}
use Rattle.cbor_dump.proofs.writer.Writer.tagged_content.Goals as goal

pub elements-requires-clause-few : goal.elements-requires-clause-few
elements-requires-clause-few c =
    (subst Small (sym c.element_size.ensures.size ∙ c.in-Some-element_size.is) (element_small c.in-Some.tag.0)).1
