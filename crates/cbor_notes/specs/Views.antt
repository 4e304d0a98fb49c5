-- For `element.rt`: the kind of elements that a variant of the code's own enum `Kind` stands for (`kind_view`). For
-- `text.rt`: the bytes with which a character that needs an escape may begin (`begins_escape`).
use Rattle.std.specs.Prelude.{ℕ, Bool, ◌==◌, ◌||◌, nat_lt}
use Rattle.cbor_tokens.specs.Ascii.{quote, backslash}
use Rattle.cbor_notes.specs.declared.element.Kind.TheVariants as own_kind
use Rattle.cbor_notes.specs.declared.element.Kind as declared_kind
use Rattle.cbor_notes.specs.Element.{Kind, unsigned, signed, float}

abbrev pub kind_view : declared_kind.Kind → Kind
kind_view own_kind.Unsigned = unsigned
kind_view own_kind.Signed = signed
kind_view own_kind.Float = float

-- A character that is escaped in a text begins with such a byte: 194 begins U+0080 to U+00BF.
abbrev pub begins_escape : ℕ → Bool
begins_escape b = nat_lt b 32 || (b == quote) || (b == backslash) || (b == 127) || (b == 194)
