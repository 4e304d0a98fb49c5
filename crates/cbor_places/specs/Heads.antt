-- The line that `cborcat --at` shows for a head (`head_line`): the bytes of the head in hex, and what it is in words,
-- such as `array(2)` (`IsHeadWords`). A head that is a whole item is shown in EDN.
use Rattle.std.specs.Prelude.{◌≡◌, ℕ, List, [], ◌∷◌, ◌++◌, codes}
use Rattle.std.specs.Fmt.{decimal}
use Rattle.std.specs.List.{flat_map}
use Rattle.hex.specs.Hex.{encode_lower}
use Rattle.cbor_tokens.specs.Ascii.{line_feed, space}
use Rattle.cbor_grammar.specs.declared.argument.Argument.{Argument}
use Rattle.cbor_grammar.specs.declared.argument.Argument.TheVariants.{Number, Indefinite}
use Rattle.cbor_grammar.specs.declared.head.ItemHead.{ItemHead}
use Rattle.cbor_grammar.specs.declared.head.ItemHead.TheVariants.{String, Array, Map, Tag}
use Rattle.cbor_grammar.specs.declared.strings.StringKind.{StringKind}
use Rattle.cbor_grammar.specs.declared.strings.StringKind.TheVariants.{Bytes, Text}
use Rattle.cbor_grammar.specs.Facts.{IsItem}
use Rattle.cbor_grammar.specs.Item.{Item}
use Rattle.cbor_edn_writer.specs.Written.{IsEdnText, line_style}

-- each byte in hex, and a blank after it
abbrev pub byte_digits : ℕ → List ℕ
byte_digits b = encode_lower (b ∷ []) ++ space ∷ []

abbrev pub head_digits : List ℕ → List ℕ
head_digits bytes = flat_map byte_digits bytes

-- a word and a count; of an indefinite length there is none
abbrev pub counted : List ℕ → Argument → List ℕ
counted word (Number n w) = word ++ (codes "(" ++ (decimal n ++ codes ")"))
counted word Indefinite = word ++ codes "(*)"

abbrev pub kind_word : StringKind → List ℕ
kind_word Bytes = codes "bytes"
kind_word Text = codes "text"

-- what a head of these bytes is; one that is all of an item is that item in EDN
abbrev pub IsHeadWords : List ℕ → ItemHead → List ℕ → Type 0
IsHeadWords bytes (String kind length) words = words ≡ counted (kind_word kind) length
IsHeadWords bytes (Array count) words = words ≡ counted (codes "array") count
IsHeadWords bytes (Map count) words = words ≡ counted (codes "map") count
IsHeadWords bytes (Tag n w) words = words ≡ codes "tag(" ++ (decimal n ++ codes ")")
IsHeadWords bytes other words = (i : Item) × IsItem bytes i × IsEdnText line_style i words

-- the line of a head of these bytes, which is that
abbrev pub head_line : List ℕ → List ℕ → List ℕ
head_line bytes words = head_digits bytes ++ (codes "# " ++ (words ++ line_feed ∷ []))
