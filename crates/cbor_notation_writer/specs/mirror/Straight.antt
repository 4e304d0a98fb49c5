-- For `from_bytes.rt` and `outermost.rt`: an item was read, and its text was appended to the old text (`Printed`;
-- `Written`, for one of several texts). Also the texts of the parts of an item at a place of a dialect, such as
-- `TextsHere`, `StringThere` and `BeforeChunk`.
use Rattle.std.specs.Prelude.{◌≡◌, ℕ, zero, suc, ◌+◌, ◌*◌, ◌≤◌, List, ◌++◌, true, false, Ok}
use Rattle.cbor_grammar.specs.declared.layout.Layout.{Layout}
use Rattle.cbor_grammar.specs.declared.encoding.Encoding.TheVariants.{Base16}
use Rattle.cbor_grammar.specs.declared.strings.StringContent.{StringContent}
use Rattle.cbor_grammar.specs.declared.strings.StringContent.TheVariants as content
use Rattle.cbor_grammar.specs.declared.strings.StringKind.TheVariants.{Text}
use Rattle.cbor_grammar.specs.declared.width.IntegerWidth.{IntegerWidth}
use Rattle.cbor_grammar.specs.Item.{Chunk, Item}
use Rattle.cbor_grammar.specs.NotationText.{in_encoding, indent_of, text_at_level}
use Rattle.cbor_grammar.specs.Reading.{Read}
use Rattle.cbor_grammar.specs.WellFormed.{levels_left}
use Rattle.cbor_grammar.specs.mirror.StringView.{borrowed_chunk}
use Rattle.cbor_notation_writer.specs.Dialect.{Leaves, Texts, ContentText, TextWith, TextsOf}
use Rattle.cbor_grammar.specs.declared.layout.Content.{Content}
use Rattle.cbor_grammar.specs.declared.layout.ContainerStyle.{ContainerStyle}
use Rattle.cbor_grammar.specs.declared.strings.StringKind.{StringKind}
use Rattle.cbor_notation_writer.specs.declared.parts.Container.TheVariants.{Chunks}
use Rattle.cbor_grammar.specs.declared.layout.ContainerStyle.{ContainerStyle}
use Rattle.cbor_grammar.specs.declared.strings.StringKind.{StringKind}
use Rattle.cbor_notation_writer.specs.declared.parts.Container.TheVariants.{Chunks}

-- Reading gives an item before the rest, and its text, or one of its texts, is written after the old one.
abbrev pub Printed : (Item → List ℕ) → Read Item → List ℕ → List ℕ → List ℕ → Type 0
Printed text read rest old new = (i : Item) × (read ≡ Ok (i, rest)) × (new ≡ old ++ text i)

abbrev pub Written : (Item → Texts) → Read Item → List ℕ → List ℕ → List ℕ → Type 0
Written texts read rest old new =
    (i : Item) × (read ≡ Ok (i, rest)) × (t : List ℕ) × texts i t × (new ≡ old ++ t)

-- each level is indented by four blanks at most
abbrev pub IsLaidOut : {Place : Type 0} → Leaves Place → Place → Type 0
IsLaidOut d p = indent_of (d.layout p) ≤ 4 * d.level p

-- the texts of an item in a container there
abbrev pub TextsBelow : {Place : Type 0} → Leaves Place → Place → Place → Item → Texts
TextsBelow d p = TextsOf d (levels_left (d.level p + 1))

-- the texts of an item whose place is known to be this one
abbrev pub TextsHere : {Place : Type 0} → Leaves Place → Place → Item → Texts
TextsHere d p = TextWith d (levels_left (d.level p + 1)) (TextsBelow d p) p

-- a string of definite length, by its bytes
abbrev pub chunk : IntegerWidth → List ℕ → Chunk
chunk w b = record { bytes = b; width = w }

-- the texts of the bytes of a byte string there, and of a string of definite length
abbrev pub ContentThere : {Place : Type 0} → Leaves Place → Content → Place → Chunk → Texts
ContentThere d shown p b = ContentText d (levels_left (d.level p + 1)) (TextsBelow d p) shown p b

abbrev pub StringThere : {Place : Type 0} → Leaves Place → Place → IntegerWidth → StringContent → Texts
StringThere d p w (content.Bytes bytes) =
    let b = borrowed_chunk w (content.Bytes bytes) in ContentThere d (d.content p b.bytes) p b
StringThere d p w (content.Text text) = d.string p Text (borrowed_chunk w (content.Text text))

-- what is written before a chunk after this many others, and after the last
abbrev pub BeforeChunk : {Place : Type 0} → Leaves Place → Place → StringKind → ContainerStyle → ℕ → Texts
BeforeChunk d p kind l zero t = (o : List ℕ) × d.opening p (Chunks kind) l o × (t ≡ o ++ d.start (Chunks kind) l true)
BeforeChunk d p kind l (suc held) t = t ≡ d.start (Chunks kind) l false

abbrev pub AfterChunks : {Place : Type 0} → Leaves Place → Place → StringKind → ContainerStyle → ℕ → Texts
AfterChunks d p kind l zero t = d.no_parts p kind t
AfterChunks d p kind l (suc held) t = d.closing p (Chunks kind) l t

-- the text of an item at the outermost level in this layout
abbrev pub text_in : Layout → Item → List ℕ
text_in layout i = text_at_level 1 (in_encoding layout Base16) i
