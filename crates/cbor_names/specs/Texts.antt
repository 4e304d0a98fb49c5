-- `text_of`: the bytes of a text in the tables of names (`Names`). The tables have all their texts in one string, and a
-- `TextRange` says where a text begins and ends in it.
use Rattle.std.specs.Prelude.{ℕ, List, slice_range}
use Rattle.std.specs.String.{string_bytes}
use Rattle.cbor_names.specs.declared.table.Names.{Names}
use Rattle.cbor_names.specs.declared.table.TextRange.{TextRange}

-- the bytes of the text between two places
abbrev pub text_of : Names → TextRange → List ℕ
text_of names range = slice_range (string_bytes names.texts) range.start range.end
