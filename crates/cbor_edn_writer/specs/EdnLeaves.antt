-- EDN as a dialect of notation (`edn_leaves`): how numbers and strings are written, what is written around members,
-- which comments stand beside an item, and which byte strings are written as the items in them.
use Rattle.std.specs.Prelude.{◌≡◌, ◌⊎◌, ◌+◌, ◌-◌, ℕ, ◌^◌, List, [], ◌∷◌, ◌++◌, length, codes, Bool, true, false}
use Rattle.std.specs.Prelude.{Option, Some, None, option_and_then, ◌&&◌, ◌||◌, if◌then◌else◌, nat_lt, min}
use Rattle.std.specs.Prelude.{◌==◌, not}
use Rattle.std.specs.Borrow.{Bor}
use Rattle.std.specs.List.{list_any, Contains}
use Rattle.hex.specs.Hex.{encode_lower}
use Rattle.cbor_floats.specs.declared.float.EncodedFloat.{EncodedFloat}
use Rattle.cbor_floats.specs.declared.float.EncodedFloat.TheVariants.{Half, Single, Double}
use Rattle.cbor_floats.specs.Decimal.{IsTextOf}
use Rattle.cbor_floats.specs.Value.{value_of, IsEncodingOf, IsShortest}
use Rattle.cbor_grammar.specs.declared.argument.Argument.{Argument}
use Rattle.cbor_grammar.specs.declared.argument.Argument.TheVariants.{Number, Indefinite}
use Rattle.cbor_grammar.specs.declared.layout.ContainerStyle.{ContainerStyle}
use Rattle.cbor_grammar.specs.declared.layout.ContainerStyle.TheVariants as style
use Rattle.cbor_grammar.specs.declared.layout.Layout.{Layout}
use Rattle.cbor_grammar.specs.declared.layout.Layout.TheVariants.{Compact, Pretty}
use Rattle.cbor_grammar.specs.declared.strings.StringKind.{StringKind}
use Rattle.cbor_grammar.specs.declared.strings.StringKind.TheVariants as kind
use Rattle.cbor_grammar.specs.declared.width.FloatWidth.{FloatWidth}
use Rattle.cbor_grammar.specs.declared.width.FloatWidth.TheVariants as float_width
use Rattle.cbor_grammar.specs.declared.width.IntegerWidth.{IntegerWidth}
use Rattle.cbor_grammar.specs.declared.width.IntegerWidth.TheVariants as width
use Rattle.cbor_grammar.specs.Item.{Chunk, Atom, integer, negative, float, simple}
use Rattle.cbor_grammar.specs.NotationText.{number, indicator, float_text, simple_text, last_line}
use Rattle.cbor_grammar.specs.StringKind.{no_chunks}
use Rattle.cbor_notation_writer.specs.Dialect.{Leaves, Texts}
use Rattle.cbor_notation_writer.specs.declared.parts.Container.{Container}
use Rattle.cbor_notation_writer.specs.declared.parts.Container.TheVariants.{Array, Map, Chunks, Embedded}
use Rattle.cbor_notation_writer.specs.mirror.LayoutView.{before_member, after_member}
use Rattle.cbor_notes.specs.declared.note.Note.{Note}
use Rattle.cbor_edn_writer.specs.declared.print.line.Line.{Line}
use Rattle.cbor_edn_writer.specs.declared.print.place.EdnPlace.{EdnPlace}
use Rattle.cbor_tokens.specs.Escapes.{escaped_text}
use Rattle.cbor_inside.specs.Rule.{content_under}
use Rattle.cbor_edn_writer.specs.OwnNotes.{time_note, text_note, IsBytesNote, IsSimpleNote}

-- ---- widths

-- the width where it is longer than the number needs
abbrev pub longer : ℕ → IntegerWidth → IntegerWidth
longer n width.Eight = if nat_lt n 24 then width.Eight else width.Unknown
longer n width.Sixteen = if nat_lt n (2 ^ 8) then width.Sixteen else width.Unknown
longer n width.ThirtyTwo = if nat_lt n (2 ^ 16) then width.ThirtyTwo else width.Unknown
longer n width.SixtyFour = if nat_lt n (2 ^ 32) then width.SixtyFour else width.Unknown
longer n w = width.Unknown

-- the width that stands beside a number: each, or only one that is longer than the number needs
abbrev pub marked : Bool → ℕ → IntegerWidth → IntegerWidth
marked all n w = if all then w else longer n w

-- what stands after a string of this length
abbrev pub length_mark : ℕ → IntegerWidth → List ℕ
length_mark n w = indicator (longer n w)

-- ---- notes

-- a byte that no note has: a slash, and all but the printable ASCII characters
abbrev pub ends_note : ℕ → Bool
ends_note b = nat_lt b 32 || nat_lt 126 b || (b == 47)

-- a note: printable ASCII characters, and no slash
abbrev pub IsNote : List ℕ → Type 0
IsNote note = list_any ends_note note ≡ false

-- between slashes a note is a comment: `//` and `/*` would begin other ones
abbrev pub begins_note : List ℕ → Bool
begins_note [] = false
begins_note (b ∷ note) = not (b == 42)

-- a text that a note may have
abbrev pub is_note : List ℕ → Bool
is_note note = begins_note note && not (list_any ends_note note)

-- such a text as a comment before an item, or after one; of another text nothing
abbrev pub comment_before : List ℕ → List ℕ
comment_before note = if is_note note then codes "/" ++ (note ++ codes "/ ") else []

abbrev pub comment_after : List ℕ → List ℕ
comment_after note = if is_note note then codes " /" ++ (note ++ codes "/") else []

-- What the writer itself may say of an item. The predicate holds for each text that it may say. It holds for `None` if
-- the writer may say nothing.
abbrev pub Said : Type 1
Said = Option (List ℕ) → Type 0

-- what it says, as a comment after the item
abbrev pub own_comment : Option (List ℕ) → List ℕ
own_comment None = []
own_comment (Some said) = comment_after said

-- In a style with notes, the comment is one that the predicate allows. In another style there is none.
abbrev pub NoteAfter : EdnPlace → Said → Texts
NoteAfter p says t =
    ((p.style.notes ≡ false) × (t ≡ []))
    ⊎ ((p.style.notes ≡ true) × (said : Option (List ℕ)) × says said × (t ≡ own_comment said))

abbrev pub Noted : EdnPlace → Said → List ℕ → Texts
Noted p says core t = (note : List ℕ) × NoteAfter p says note × (t ≡ core ++ note)

-- ---- a caller's notes

-- what the note that was found says: what to write before an item, and after one, and whether a byte string is shown
-- as the items in it
abbrev pub text_before : Option (Bor Note) → List ℕ
text_before None = []
text_before (Some n) = comment_before n.now.before.now

abbrev pub text_after : Option (Bor Note) → List ℕ
text_after None = []
text_after (Some n) = comment_after n.now.after.now

abbrev pub is_encoded : Option (Bor Note) → Bool
is_encoded None = false
is_encoded (Some n) = n.now.encoded

-- whether it has a text after the item
abbrev pub has_after : Option (Bor Note) → Bool
has_after None = false
has_after (Some n) = is_note n.now.after.now

-- comments are written in a style with notes
abbrev pub note_before : EdnPlace → List ℕ
note_before p = if p.style.notes then text_before p.found else []

abbrev pub note_after : EdnPlace → List ℕ
note_after p = if p.style.notes then text_after p.found else []

-- one of these texts, or it between such notes, or only after the first
abbrev pub Beside : EdnPlace → Texts → Texts
Beside p texts t = texts t ⊎ ((core : List ℕ) × texts core × (t ≡ note_before p ++ (core ++ note_after p)))

abbrev pub After : EdnPlace → Texts → Texts
After p texts t = texts t ⊎ ((core : List ℕ) × texts core × (t ≡ note_before p ++ core))

-- it is one of these notes, and its item begins at this place of the outermost bytes
abbrev pub IsGiven : List Note → ℕ → Option (Bor Note) → Type 0
IsGiven notes start None = Unit {0}
IsGiven notes start (Some n) = Contains notes n.now × (n.now.start ≡ start)

-- the same place with the note that is given there, or without one, and how many notes are on items before it
abbrev pub FoundAt : EdnPlace → ℕ → EdnPlace → Type 0
FoundAt p start q = (found : Option (Bor Note)) × IsGiven p.notes.now start found
    × (passed : ℕ) × (q ≡ record p { found = found; start = start; passed = passed })

-- What the place of an item becomes, which has no note yet: it may get one, and what is known of its line. That is any,
-- so a container may be on one line or on several.
abbrev pub LaidOut : EdnPlace → EdnPlace → Type 0
LaidOut p q = (line : Line) × ((q ≡ record p { line = line })
    ⊎ ((start : ℕ) × FoundAt (record p { line = line }) start q))

-- The same where notes are given, and this many bytes are left from the item on: the item begins that many before the
-- end, and the note that it may get is given for that place.
abbrev pub NotedAt : EdnPlace → ℕ → EdnPlace → Type 0
NotedAt p left q = (line : Line) × FoundAt (record p { line = line }) (p.end - left) q

-- How many bytes the width of an argument is, after the first byte of its head.
abbrev pub argument_bytes : IntegerWidth → ℕ
argument_bytes width.Eight = 1
argument_bytes width.Sixteen = 2
argument_bytes width.ThirtyTwo = 4
argument_bytes width.SixtyFour = 8
argument_bytes w = 0

-- a place of the bytes, which is below 2 ^ 64
abbrev pub saturated : ℕ → ℕ
saturated n = min n (2 ^ 64 - 1)

-- where a byte string with this head ends that begins there
abbrev pub end_of_string : Argument → ℕ → ℕ
end_of_string (Number n w) start = saturated (saturated (start + (1 + argument_bytes w)) + n)
end_of_string Indefinite start = start

-- where the bytes that the items in a container are read from end
abbrev pub end_in : Container → EdnPlace → ℕ
end_in (Embedded len) p = end_of_string len p.start
end_in c p = p.end

-- ---- floats

-- the bits as they are encoded; an unstated width is 64 bits
abbrev pub encoded_float : ℕ → FloatWidth → EncodedFloat
encoded_float bits float_width.Sixteen = Half bits
encoded_float bits float_width.ThirtyTwo = Single bits
encoded_float bits w = Double bits

abbrev pub float_indicator : FloatWidth → List ℕ
float_indicator float_width.Sixteen = codes "_1"
float_indicator float_width.ThirtyTwo = codes "_2"
float_indicator w = codes "_3"

-- the indicator of a float's width stands beside the number if and only if each does, or a shorter width has the number
abbrev pub HasIndicator : Bool → EncodedFloat → Type 0
HasIndicator all f = (all ≡ true) ⊎ ¬ (IsShortest f (value_of f))

abbrev pub LacksIndicator : Bool → EncodedFloat → Type 0
LacksIndicator all f = (all ≡ false) × IsShortest f (value_of f)

-- a text of the number, and the width where that stands
pub record NumberText (all : Bool) (bits : ℕ) (w : FloatWidth) (t : List ℕ) : Type 0 where
  pub usual : IsEncodingOf (encoded_float bits w) (value_of (encoded_float bits w))
  pub text : List ℕ
  pub number : IsTextOf text (value_of (encoded_float bits w))
  pub is : ((t ≡ text ++ float_indicator w) × HasIndicator all (encoded_float bits w))
      ⊎ ((t ≡ text) × LacksIndicator all (encoded_float bits w))

-- a float whose bits are not those of its number, as a NaN with a payload, by its bits
abbrev pub BitsText : ℕ → FloatWidth → Texts
BitsText bits w t =
    ¬ (IsEncodingOf (encoded_float bits w) (value_of (encoded_float bits w))) × (t ≡ float_text bits w)

-- a float by its number, or by its bits where these are not those of its number
abbrev pub FloatText : Bool → ℕ → FloatWidth → Texts
FloatText all bits w t = NumberText all bits w t ⊎ BitsText bits w t

-- ---- what holds no item

-- of an integer its date
abbrev pub says_time : EdnPlace → Bool → ℕ → Said
says_time p below_zero n said = said ≡ option_and_then (λ tag. time_note tag below_zero n) p.tag

-- of a text the seconds or days since 1970, and of bytes what their tag makes of them, or their characters
abbrev pub says_string : EdnPlace → StringKind → List ℕ → Said
says_string p kind.Bytes b said = IsBytesNote p.tag (has_after p.found) b said
says_string p kind.Text b said = said ≡ option_and_then (λ tag. text_note tag b) p.tag

abbrev pub EdnLeaf : EdnPlace → Atom → Texts
EdnLeaf p (integer n w) t = Noted p (says_time p false n) (number n (marked p.style.widths n w)) t
EdnLeaf p (negative n w) t =
    Noted p (says_time p true n) (codes "-" ++ number (n + 1) (marked p.style.widths n w)) t
EdnLeaf p (float bits w) t = FloatText p.style.widths bits w t
EdnLeaf p (simple n) t = Noted p (IsSimpleNote n) (simple_text n) t
EdnLeaf p other t = ⊥

-- a string between quotes, and the width of its length
abbrev pub quoted_string : StringKind → Chunk → List ℕ
quoted_string kind.Bytes c = codes "h'" ++ (encode_lower c.bytes ++ (codes "'" ++ length_mark (length c.bytes) c.width))
quoted_string kind.Text c = codes "\"" ++ (escaped_text c.bytes ++ (codes "\"" ++ length_mark (length c.bytes) c.width))

-- ---- lists

-- on one line there are always blanks
abbrev pub spaced : ContainerStyle → ContainerStyle
spaced style.Compact = style.OneLine 0
spaced l = l

-- what states the length of a list: the width of the count, or an underscore
abbrev pub count_mark : Argument → List ℕ
count_mark (Number n w) = indicator (longer n w)
count_mark Indefinite = codes "_"

-- a blank after it, or the line end of the members
abbrev pub gap : ContainerStyle → List ℕ
gap (style.MultiLine indent) = []
gap l = codes " "

abbrev pub with_gap : ContainerStyle → List ℕ → List ℕ
with_gap l [] = []
with_gap l (b ∷ bs) = (b ∷ bs) ++ gap l

abbrev pub edn_opening : Container → ContainerStyle → List ℕ
edn_opening (Array count) l = codes "[" ++ with_gap l (count_mark count)
edn_opening (Map count) l = codes "{" ++ with_gap l (count_mark count)
edn_opening (Chunks kind) l = codes "(" ++ with_gap l (codes "_")
edn_opening (Embedded len) l = codes "<<"

abbrev pub embedded_mark : Argument → List ℕ
embedded_mark (Number n w) = length_mark n w
embedded_mark Indefinite = []

abbrev pub edn_closing : Container → ContainerStyle → List ℕ
edn_closing (Array count) l = last_line l ++ codes "]"
edn_closing (Map count) l = last_line l ++ codes "}"
edn_closing (Chunks kind) l = last_line l ++ codes ")"
edn_closing (Embedded len) l = last_line l ++ (codes ">>" ++ embedded_mark len)

-- ---- the dialect

-- the layout of a whole text
abbrev pub layout_of : Bool → Layout
layout_of lines = if lines then Pretty 0 else Compact

-- the style of a container where this is known of its line
abbrev pub style_on : Line → Layout → ContainerStyle
style_on line Compact = style.Compact
style_on line (Pretty indent) = if line.breaks then style.MultiLine indent else style.OneLine indent

abbrev pub edn_leaves : Leaves EdnPlace
edn_leaves = record {
  At = LaidOut;
  level = λ p. p.level;
  layout = λ p. p.layout;
  style = λ p size. style_on p.line p.layout;
  content = λ p b. content_under (p.style.embedded || is_encoded p.found) p.level p.tag b;
  joins = λ p kind. false;
  inside = λ c layout p. record {
    alloc = p.alloc;
    level = p.level + 1;
    layout = layout;
    style = p.style;
    tag = None;
    notes = p.notes;
    end = end_in c p;
    start = p.start;
    passed = p.passed;
    found = None;
    line = p.line;
    marks = p.marks;
  };
  next = λ p. p;
  value = λ k p. p;
  below = λ n p. record {
    alloc = p.alloc;
    level = p.level + 1;
    layout = p.layout;
    style = p.style;
    tag = Some n;
    notes = p.notes;
    end = p.end;
    start = p.start;
    passed = p.passed;
    found = None;
    line = p.line;
    marks = p.marks;
  };
  leaf = λ p a. Beside p (EdnLeaf p a);
  string = λ p kind c. Beside p (Noted p (says_string p kind c.bytes) (quoted_string kind c));
  part = λ p kind c t. t ≡ quoted_string kind c;
  no_parts = λ p kind. After p (λ t. t ≡ no_chunks kind);
  opening = λ p c l. After p (λ t. t ≡ edn_opening c l);
  closing = λ p c l t. t ≡ edn_closing c l;
  rest = λ p c b t. t ≡ [];
  tag = λ p n w. After p (λ t. t ≡ number n (marked p.style.widths n w) ++ codes "(");
  tag_end = λ p n t. t ≡ codes ")";
  start = λ c l first. before_member (spaced l) first;
  end = λ c l. after_member l;
  colon = λ l. codes ": ";
}
