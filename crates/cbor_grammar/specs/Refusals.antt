-- The text (`text_of`) and the number (`number_of`) of each `Error`.
use Rattle.std.specs.Prelude.{ℕ, List, codes}
use Rattle.cbor_grammar.specs.declared.error.Error.{Error}
use Rattle.cbor_grammar.specs.declared.error.Error.TheVariants.{Memory, CutShort, Head, Utf8, TooDeep, Remaining}
use Rattle.cbor_grammar.specs.declared.error.Error.TheVariants.{OddHex}
use Rattle.cbor_grammar.specs.declared.error.Error.TheVariants.{BadHex, Notation, PastWidth}

abbrev pub text_of : Error → List ℕ
text_of Memory = codes "out of memory"
text_of CutShort = codes "the item is cut short"
text_of Head = codes "no item can have this head"
text_of Utf8 = codes "a text is not UTF-8"
text_of TooDeep = codes "nested deeper than 128 levels"
text_of Remaining = codes "bytes remain after the item"
text_of OddHex = codes "an odd number of hex digits"
text_of BadHex = codes "not a hex digit"
text_of Notation = codes "not diagnostic notation"
text_of PastWidth = codes "a number does not fit its width"

-- the variants counted from 1
abbrev pub number_of : Error → ℕ
number_of Memory = 1
number_of CutShort = 2
number_of Head = 3
number_of Utf8 = 4
number_of TooDeep = 5
number_of Remaining = 6
number_of OddHex = 7
number_of BadHex = 8
number_of Notation = 9
number_of PastWidth = 10
