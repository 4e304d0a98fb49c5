-- The two kinds of strings, and what each may hold (RFC 7049 section 2.1).
use Rattle.std.specs.Prelude.{ℕ, List, codes, IsUtf8}
use Rattle.cbor_grammar.specs.declared.strings.StringKind.{StringKind}
use Rattle.cbor_grammar.specs.declared.strings.StringKind.TheVariants.{Bytes, Text}

-- Byte strings are of major type 2 and hold any bytes, text strings are of major type 3 and hold UTF-8.
abbrev pub major_of : StringKind → ℕ
major_of Bytes = 2
major_of Text = 3

abbrev pub IsContent : StringKind → List ℕ → Type 0
IsContent Bytes content = Unit {0}
IsContent Text content = IsUtf8 content

-- In notation an indefinite string of no chunks keeps its kind (RFC 8949 section 8.1).
abbrev pub no_chunks : StringKind → List ℕ
no_chunks Bytes = codes "''_"
no_chunks Text = codes "\"\"_"
