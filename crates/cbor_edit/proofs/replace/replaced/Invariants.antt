-- What stands in place of a span is the part, with what is around it there.
use Rattle.cbor_edit.specs.Edited.{Edited, bytes_of}
use Rattle.cbor_edit.proofs.replace.replaced.Given as goal

abbrev pub invariant-strings : goal.invariant-strings
invariant-strings l =
    Edited (bytes_of l.place.span l.bytes) l.part (bytes_of l.patch.span l.bytes) l.patch.new.items
