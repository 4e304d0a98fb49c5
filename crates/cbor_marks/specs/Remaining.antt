-- `rest_of`: the text that remains of a text with its marks.
use Rattle.std.specs.Prelude.{ℕ, List}
use Rattle.cbor_marks.specs.declared.marked.Marked.{Marked}

-- the text that remains
abbrev pub rest_of : Marked → List ℕ
rest_of marked = marked.text.now
