-- Pretty notation, for contracts that cite it: an item laid out by the rule of 60 columns, or on one line, or with a
-- line for each member. `NotationText` defines the text, and `Estimate` the length that the rule compares.
use Rattle.std.specs.Prelude.{ℕ, ◌+◌, ◌++◌, List, codes}
use Rattle.cbor_grammar.specs.declared.width.IntegerWidth.{IntegerWidth}
use Rattle.cbor_grammar.specs.declared.encoding.Encoding.{Encoding}
use Rattle.cbor_grammar.specs.declared.layout.Layout.TheVariants.{Pretty}
use Rattle.cbor_grammar.specs.declared.layout.ContainerStyle.{ContainerStyle}
use Rattle.cbor_grammar.specs.declared.layout.ContainerStyle.TheVariants.{OneLine, MultiLine}
use Rattle.cbor_grammar.specs.declared.strings.StringKind.TheVariants.{Bytes}
use Rattle.cbor_grammar.specs.Item as spec
use Rattle.cbor_grammar.specs.Item.{Chunk, Item, atom, array, tagged, string, chunked_string}
use Rattle.cbor_grammar.specs.Embedded.{sequence}
use Rattle.cbor_grammar.specs.NotationText.{number, in_encoding, below, array_text, map_text, sequence_listed}
use Rattle.cbor_grammar.specs.NotationText.{chunks_text, text_at_level}

-- an item at this level, its byte strings in this encoding, its lines with this many blanks
abbrev pub pretty : Encoding → ℕ → ℕ → Item → List ℕ
pretty e level indent i = text_at_level level (in_encoding (Pretty indent) e) i

-- a container at this level, its members laid out so, however long it is; an item that has none as it is
abbrev pub laid_out : ContainerStyle → Encoding → ℕ → ℕ → Item → List ℕ
laid_out l e level indent (array is w) =
    array_text (text_at_level (level + 1)) (in_encoding (Pretty indent) e) l is w
laid_out l e level indent (spec.map ps w) =
    map_text (text_at_level (level + 1)) (in_encoding (Pretty indent) e) l ps w
laid_out l e level indent (atom (chunked_string kind cs)) = chunks_text kind e l cs
laid_out l e level indent i = pretty e level indent i

-- on one line, and with a line for each member
abbrev pub in_one_line : Encoding → ℕ → ℕ → Item → List ℕ
in_one_line e level indent i = laid_out (OneLine indent) e level indent i

abbrev pub in_lines : Encoding → ℕ → ℕ → Item → List ℕ
in_lines e level indent i = laid_out (MultiLine indent) e level indent i

-- tag 63 over a byte string (RFC 8742)
abbrev pub encoded_sequence : IntegerWidth → Chunk → Item
encoded_sequence w b = tagged 63 w (atom (string Bytes b))

-- its text at this level, the items in the bytes laid out so, however long they are
abbrev pub sequence_laid_out : ContainerStyle → Encoding → ℕ → ℕ → IntegerWidth → List ℕ → List ℕ
sequence_laid_out l e level indent w b =
    let c = below 63 (in_encoding (Pretty indent) e) in
    let items = sequence_listed (text_at_level (level + 2)) c l (sequence (level + 2) b) in
    number 63 w ++ (codes "(" ++ (items ++ codes ")"))

abbrev pub sequence_in_one_line : Encoding → ℕ → ℕ → IntegerWidth → List ℕ → List ℕ
sequence_in_one_line e level indent w b = sequence_laid_out (OneLine indent) e level indent w b

abbrev pub sequence_in_lines : Encoding → ℕ → ℕ → IntegerWidth → List ℕ → List ℕ
sequence_in_lines e level indent w b = sequence_laid_out (MultiLine indent) e level indent w b
