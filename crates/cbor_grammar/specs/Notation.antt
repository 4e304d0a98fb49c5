-- Which texts encode an item in diagnostic notation (RFC 7049 section 6; docs/NOTATION.md has the rules in plain
-- words). A text is the list of its bytes in UTF-8.
use Rattle.std.specs.Prelude.{◌≡◌, ℕ, zero, suc, ◌+◌, ◌<◌, List, [], ◌∷◌, ◌++◌, length, codes, Option, Some, None, Ok}
use Rattle.std.specs.Prelude.{Bool, true, false, nat_lt, ◌==◌, if◌then◌else◌, ◌⊎◌}
use Rattle.hex.specs.Hex.{decode_of}
use Rattle.cbor_tokens.specs.AreBytes.{AreBytes}
use Rattle.cbor_tokens.specs.Ascii.{quote, apostrophe}
use Rattle.cbor_tokens.specs.Base32.{base32, base32hex}
use Rattle.cbor_tokens.specs.Base64.{standard, url_safe}
use Rattle.cbor_tokens.specs.Token.{Blank, IsNumber, AreDigits, in_quotes, DigitsBetween}
use Rattle.cbor_grammar.specs.declared.width.IntegerWidth.{IntegerWidth}
use Rattle.cbor_grammar.specs.declared.width.IntegerWidth.TheVariants.{Unknown, Zero, Eight, Sixteen, ThirtyTwo}
use Rattle.cbor_grammar.specs.declared.width.IntegerWidth.TheVariants.{SixtyFour}
use Rattle.cbor_grammar.specs.declared.width.FloatWidth.{FloatWidth}
use Rattle.cbor_grammar.specs.declared.width.FloatWidth.TheVariants as float_width
use Rattle.cbor_grammar.specs.Item as spec
use Rattle.cbor_grammar.specs.Item.{Chunk, Atom, integer, negative, string, chunked_string}
use Rattle.cbor_grammar.specs.Item.{float, simple, Item, atom, array, tagged, Items, no_items, item, Pairs, no_pairs}
use Rattle.cbor_grammar.specs.Item.{pair}
use Rattle.cbor_grammar.specs.Head.{FitsWidth}
use Rattle.cbor_grammar.specs.WellFormed.{deepest}
use Rattle.cbor_grammar.specs.declared.strings.StringKind.{StringKind}
use Rattle.cbor_grammar.specs.declared.strings.StringKind.TheVariants.{Bytes, Text}
use Rattle.cbor_grammar.specs.StringKind.{IsContent, no_chunks}
use Rattle.cbor_grammar.specs.Written.{encoded_items}

-- whitespace and comments, perhaps none
abbrev pub IsBlank : List ℕ → Type 0
IsBlank = Blank true

-- one whitespace character or more, and no comment
abbrev pub IsSpace : List ℕ → Type 0
IsSpace text = (0 < length text) × Blank false text

-- such a text with a blank before it and one after it
abbrev pub Blanked : (List ℕ → Type 0) → List ℕ → Type 0
Blanked Core text = (before core after : List ℕ) × (text ≡ before ++ (core ++ after)) × IsBlank before × Core core
    × IsBlank after

-- such a text between an opening and a closing one
abbrev pub Between : List ℕ → List ℕ → (List ℕ → Type 0) → List ℕ → Type 0
Between opening closing Inner text = (inner : List ℕ) × (text ≡ opening ++ (inner ++ closing)) × Inner inner

-- Numbers

-- the width that an indicator from 0 to 3 states
abbrev pub width_of : ℕ → IntegerWidth
width_of indicator = if indicator == 0 then Eight else if indicator == 1 then Sixteen else if indicator == 2
    then ThirtyTwo else SixtyFour

-- the width of a number: the stated one; without an indicator that of the first byte for a number up to
-- 23, and an unstated one for any other
abbrev pub number_width : ℕ → Option ℕ → IntegerWidth
number_width n (Some indicator) = width_of indicator
number_width n None = if nat_lt n 24 then Zero else Unknown

-- a number n or the number after n, which is written, where n and its width are such
abbrev pub HasWidth : ℕ → Option ℕ → IntegerWidth → Type 0
HasWidth n indicator w = (w ≡ number_width n indicator) × FitsWidth w n

-- an integer or a tag's number
abbrev pub NumberOf : List ℕ → ℕ → IntegerWidth → Type 0
NumberOf text n w = (indicator : Option ℕ) × IsNumber text n indicator × HasWidth n indicator w

-- a negative integer: `-`, and at once the number after the one that is encoded
abbrev pub NegativeOf : List ℕ → ℕ → IntegerWidth → Type 0
NegativeOf text n w = (digits : List ℕ) × (indicator : Option ℕ) × (text ≡ codes "-" ++ digits)
    × IsNumber digits (n + 1) indicator × HasWidth n indicator w

-- Lists

-- what closes a list: its closing, or a last comma, whitespace and the closing
abbrev pub Closes : List ℕ → List ℕ → Type 0
Closes closing text = (text ≡ closing) ⊎ ((space : List ℕ) × (text ≡ codes "," ++ (space ++ closing)) × IsSpace space)

-- what follows a member: further members, each after a comma, and then what closes the list
abbrev pub Further : {X : Type 0} → (List ℕ → X → Type 0) → List ℕ → List ℕ → List X → Type 0
Further Member closing text [] = Closes closing text
Further Member closing text (x ∷ xs) = (first rest : List ℕ) × (text ≡ codes "," ++ (first ++ rest)) × Member first x
    × Further Member closing rest xs

-- what follows the opening of a list: its members, separated by commas, and what closes it; or no
-- member, a blank, and what closes it
abbrev pub Members : {X : Type 0} → (List ℕ → X → Type 0) → List ℕ → List ℕ → List X → Type 0
Members Member closing text [] = (blank end : List ℕ) × (text ≡ blank ++ end) × IsBlank blank × Closes closing end
Members Member closing text (x ∷ xs) = (first rest : List ℕ) × (text ≡ first ++ rest) × Member first x
    × Further Member closing rest xs

-- a list from its opening to its close
abbrev pub Listed : {X : Type 0} → (List ℕ → X → Type 0) → List ℕ → List ℕ → List ℕ → List X → Type 0
Listed Member opening closing text xs = (rest : List ℕ) × (text ≡ opening ++ rest) × Members Member closing rest xs

-- the members of an array, and those of a map
abbrev pub list_of : Items → List Item
list_of no_items = []
list_of (item i is) = i ∷ list_of is

abbrev pub pairs_list : Pairs → List (Item × Item)
pairs_list no_pairs = []
pairs_list (pair k v ps) = (k, v) ∷ pairs_list ps

-- a key, `:` and its value
abbrev pub PairOf : (List ℕ → Item → Type 0) → List ℕ → Item × Item → Type 0
PairOf Read text p = (key value : List ℕ) × (text ≡ key ++ (codes ":" ++ value)) × Read key p.0 × Read value p.1

-- A bracket and nothing where the length is definite, whose width is unstated then; a bracket and at once `_`
-- where it is not.
abbrev pub Opens : List ℕ → Option IntegerWidth → List ℕ → Type 0
Opens bracket (Some w) opening = (w ≡ Unknown) × (opening ≡ bracket)
Opens bracket None opening = opening ≡ bracket ++ codes "_"

-- Strings

-- content between two quotes that are this byte, escaped (`in_quotes`)
abbrev pub QuotedBy : ℕ → List ℕ → List ℕ → Type 0
QuotedBy quote text content = text ≡ quote ∷ (in_quotes quote content ++ quote ∷ [])

-- digits between quotes, with blanks before, between and after them, after such a prefix
abbrev pub DigitsIn : Bool → List ℕ → List ℕ → List ℕ → Type 0
DigitsIn comments prefix text digits = (content : List ℕ) × (text ≡ prefix ++ (content ++ codes "'"))
    × DigitsBetween comments content digits

-- A notation of bytes: digits that encode the bytes, a text in apostrophes, or items whose encodings, joined, are the
-- bytes. In base 64 a `/` is a digit, so there is no comment.
pub data Notation (Read : List ℕ → Item → Type 0) : List ℕ → List ℕ → Type 0 where
  in_base16 : {text bytes : List ℕ} (digits : List ℕ) → DigitsIn true (codes "h'") text digits
      → decode_of digits ≡ Ok bytes → Notation Read text bytes
  in_base32 : {text bytes : List ℕ} (digits : List ℕ) → DigitsIn true (codes "b32'") text digits → AreBytes bytes
      → digits ≡ base32 bytes → Notation Read text bytes
  in_base32hex : {text bytes : List ℕ} (digits : List ℕ) → DigitsIn true (codes "h32'") text digits → AreBytes bytes
      → digits ≡ base32hex bytes → Notation Read text bytes
  in_base64 : {text bytes : List ℕ} (digits : List ℕ) → DigitsIn false (codes "b64'") text digits → AreBytes bytes
      → (digits ≡ url_safe bytes) ⊎ (digits ≡ standard bytes) → Notation Read text bytes
  as_text : {text bytes : List ℕ} → QuotedBy apostrophe text bytes → Notation Read text bytes
  as_items : {text bytes : List ℕ} (is : Items) → Listed Read (codes "<<") (codes ">>") text (list_of is)
      → bytes ≡ encoded_items is → Notation Read text bytes

-- a piece of a string: a notation of bytes, or in a text string a text, too
abbrev pub PieceOf : StringKind → (List ℕ → Item → Type 0) → List ℕ → List ℕ → Type 0
PieceOf Bytes Read text bytes = Notation Read text bytes
PieceOf Text Read text bytes = QuotedBy quote text bytes ⊎ Notation Read text bytes

-- one piece or more, with blanks between them, and what they are together
pub data Joined (Piece : List ℕ → List ℕ → Type 0) : List ℕ → List ℕ → Type 0 where
  one : {text bytes : List ℕ} → Piece text bytes → Joined Piece text bytes
  more : {text bytes : List ℕ} (first blank rest bytes_first bytes_rest : List ℕ) → text ≡ first ++ (blank ++ rest)
      → bytes ≡ bytes_first ++ bytes_rest
      → Piece first bytes_first → IsBlank blank → Joined Piece rest bytes_rest → Joined Piece text bytes

-- a text string begins with a text
abbrev pub BeginsAs : StringKind → List ℕ → Type 0
BeginsAs Bytes text = Unit {0}
BeginsAs Text text = (rest : List ℕ) × (text ≡ codes "\"" ++ rest)

-- a string: its pieces, which together are UTF-8 in a text string; the width of its length is unstated
abbrev pub StringOf : StringKind → (List ℕ → Item → Type 0) → List ℕ → Chunk → Type 0
StringOf kind Read text c = (c.width ≡ Unknown) × BeginsAs kind text × Joined (PieceOf kind Read) text c.bytes
    × IsContent kind c.bytes

-- the chunks of an indefinite string, each with blanks round it
abbrev pub ChunksOf : StringKind → (List ℕ → Item → Type 0) → List ℕ → List Chunk → Type 0
ChunksOf kind Read text cs = Listed (λ member c. Blanked (λ core. StringOf kind Read core c) member) (codes "(_")
    (codes ")") text cs

-- `(_ )`, without a chunk, is a byte string
abbrev pub ShowsKind : StringKind → List Chunk → Type 0
ShowsKind kind [] = kind ≡ Bytes
ShowsKind kind (c ∷ cs) = Unit {0}

-- Simple values and floats

abbrev pub NamedSimple : List ℕ → ℕ → Type 0
NamedSimple text n =
    ((text ≡ codes "false") × (n ≡ 20)) ⊎ ((text ≡ codes "true") × (n ≡ 21))
    ⊎ ((text ≡ codes "null") × (n ≡ 22)) ⊎ ((text ≡ codes "undefined") × (n ≡ 23))

-- a name, or decimal digits in parentheses
abbrev pub SimpleOf : List ℕ → ℕ → Type 0
SimpleOf text n = NamedSimple text n ⊎ Between (codes "simple(") (codes ")")
    (λ digits. AreDigits 10 digits n × (n < 256)) text

-- how many hex digits the bits of a float take
abbrev pub FloatDigits : FloatWidth → ℕ → Type 0
FloatDigits float_width.Unknown count = ⊥
FloatDigits float_width.Sixteen count = count ≡ 4
FloatDigits float_width.ThirtyTwo count = count ≡ 8
FloatDigits float_width.SixtyFour count = count ≡ 16

abbrev pub FloatOf : List ℕ → ℕ → FloatWidth → Type 0
FloatOf text bits w = Between (codes "float'") (codes "'")
    (λ digits. AreDigits 16 digits bits × FloatDigits w (length digits)) text

-- Items

-- an item that holds no item, but for those in `<<` `>>`, without the blanks round it
abbrev pub AtomCore : (List ℕ → Item → Type 0) → List ℕ → Atom → Type 0
AtomCore Read text (integer n w) = NumberOf text n w
AtomCore Read text (negative n w) = NegativeOf text n w
AtomCore Read text (string kind c) = StringOf kind Read text c
AtomCore Read text (chunked_string kind cs) = ((cs ≡ []) × (text ≡ no_chunks kind))
    ⊎ (ShowsKind kind cs × ChunksOf kind Read text cs)
AtomCore Read text (float bits w) = FloatOf text bits w
AtomCore Read text (simple n) = SimpleOf text n

-- an item without the blanks round it, whose members are read so
abbrev pub Core : (List ℕ → Item → Type 0) → List ℕ → Item → Type 0
Core Read text (atom a) = AtomCore Read text a
Core Read text (array is w) = (opening : List ℕ) × Opens (codes "[") w opening
    × Listed Read opening (codes "]") text (list_of is)
Core Read text (spec.map ps w) = (opening : List ℕ) × Opens (codes "{") w opening
    × Listed (PairOf Read) opening (codes "}") text (pairs_list ps)
Core Read text (tagged t w i) = (number inner : List ℕ) × (text ≡ number ++ (codes "(" ++ (inner ++ codes ")")))
    × NumberOf number t w × Read inner i

-- The text, all of it, is this item, with `left` levels left for it and the items in it, those in `<<`
-- `>>` too: a blank, the item's core and a blank.
unfoldable pub Reads : ℕ → List ℕ → Item → Type 0
Reads zero text i = ⊥
Reads (suc left) text i = Blanked (λ core. Core (Reads left) core i) text

-- The text is this item, and nothing in it is deeper than this limit. The outermost item is at
-- level 1, so all levels up to the limit are left for it.
abbrev pub ReadsUnder : ℕ → List ℕ → Item → Type 0
ReadsUnder limit text i = Reads limit text i

-- The text is this item, and nothing in it is deeper than the deepest level.
abbrev pub IsNotation : List ℕ → Item → Type 0
IsNotation text i = ReadsUnder deepest text i
