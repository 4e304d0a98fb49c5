-- For `major.rt`: the number of each value of the enum `Major` (`major_number`).
use Rattle.std.specs.Prelude.{ℕ}
use Rattle.cbor_grammar.specs.declared.major.Major.{Major}
use Rattle.cbor_grammar.specs.declared.major.Major.TheVariants as major

-- the number of a major type (RFC 7049 section 2.1)
abbrev pub major_number : Major → ℕ
major_number major.Unsigned = 0
major_number major.Negative = 1
major_number major.Bytes = 2
major_number major.Text = 3
major_number major.Array = 4
major_number major.Map = 5
major_number major.Tag = 6
major_number major.Special = 7
