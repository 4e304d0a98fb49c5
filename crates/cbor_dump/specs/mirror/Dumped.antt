-- For `walk.rt`: an item was read and its lines were written (`Dumped`; `DumpedBehind`, after its head; `Wrote`, for
-- the lines alone), and which lines these are. No public clause names these definitions.
use Rattle.std.specs.Prelude.{◌≡◌, ℕ, ◌+◌, ◌<◌, ◌≤◌, List, [], ◌∷◌, ◌++◌, Option, Some, None, Ok, codes}
use Rattle.std.specs.List.{flat_map}
use Rattle.std.specs.Option.{option_to_list}
use Rattle.std.specs.String.{string_bytes}
use Rattle.cbor_notes.specs.Layout.{DumpLine, layout, line_text}
use Rattle.cbor_grammar.specs.declared.tags.Tag.{Tag}
use Rattle.cbor_dump.specs.declared.context.DumpContext.{DumpContext}
use Rattle.cbor_dump.specs.declared.walk.Walk.{Walk}
use Rattle.cbor_dump.specs.declared.writer.Writer.{Writer}
use Rattle.cbor_grammar.specs.declared.argument.Argument.{Argument}
use Rattle.cbor_grammar.specs.declared.argument.Argument.TheVariants.{Number, Indefinite}
use Rattle.cbor_dump.specs.Comments.{unsigned_comment, negative_comment, float_comment, simple_comment}
use Rattle.cbor_dump.specs.Comments.{counted_comment, tag_comment}
use Rattle.cbor_dump.specs.Dump.{Context, head_line, string_word, lines_at_level, parts_lines, items_lines}
use Rattle.cbor_dump.specs.Dump.{pairs_lines}
use Rattle.cbor_dump.specs.Dump.{notes, note_lines, top, whole_note, sequence_notes, shared_in}
use Rattle.cbor_grammar.specs.Embedded.{sequence}
use Rattle.cbor_grammar.specs.Head.{opening}
use Rattle.cbor_grammar.specs.Item.{Item, Items, Pairs}
use Rattle.cbor_grammar.specs.declared.head.ItemHead.TheVariants as item_head
use Rattle.cbor_grammar.specs.declared.head.ItemHead.{ItemHead}
use Rattle.cbor_grammar.specs.Reading.{Read, read_item}
use Rattle.cbor_dump.specs.Notes.{value_note}
use Rattle.cbor_grammar.specs.StringKind.{major_of}
use Rattle.cbor_grammar.specs.WellFormed.{deepest, levels_left}
use Rattle.cbor_grammar.specs.Written.{encoded_head, encoded_float, encoded_simple}
use Rattle.cbor_grammar.specs.mirror.Lengths.{argument_count}
use Rattle.cbor_grammar.specs.mirror.AtLevel.{read_behind}

-- ---- where an item is

abbrev pub tag_number : Option Tag → Option ℕ
tag_number (Some t) = Some t.0
tag_number None = None

abbrev pub context_view : DumpContext → Context
context_view c = record { depth = c.depth; encoding = c.encoding; tag = tag_number c.tag; shared = c.shared }

-- an item is less deep than its level, which is at most one past the deepest
abbrev pub IsContext : DumpContext → Type 0
IsContext c = (c.depth < c.level) × (c.level ≤ deepest + 1)

-- ---- the lines of what is there, `known` values being shared before it

-- an item, without the notes on it
abbrev pub item_lines : DumpContext → ℕ → Item → List DumpLine
item_lines c known i = parts_lines (lines_at_level (c.level + 1)) (context_view c) known i

-- the lines of items in order, with the notes on them
abbrev pub items_there : DumpContext → ℕ → Items → List DumpLine
items_there c known is = items_lines (lines_at_level c.level (context_view c)) known is

abbrev pub pairs_there : DumpContext → ℕ → Pairs → List DumpLine
pairs_there c known ps = pairs_lines (lines_at_level c.level (context_view c)) known ps

-- an item that is embedded in the one there
abbrev pub embedded_lines : DumpContext → Item → List DumpLine
embedded_lines c = lines_at_level (c.level + 1) top 0

-- the notes on the item there, right below a tag
abbrev pub notes_there : DumpContext → ℕ → Item → List DumpLine
notes_there c t i =
    flat_map (note_lines c.depth) (notes (levels_left (c.level + 1)) (embedded_lines c) c.shared t i)

-- the same of a tag other than those of what is embedded
abbrev pub value_note_there : DumpContext → ℕ → Item → List DumpLine
value_note_there c t i = flat_map (note_lines c.depth) (option_to_list (value_note c.shared t i))

abbrev pub whole_note_there : DumpContext → List ℕ → List DumpLine
whole_note_there c b = note_lines c.depth (whole_note (embedded_lines c) (read_item (levels_left (c.level + 1)) b))

abbrev pub sequence_notes_there : DumpContext → List ℕ → List DumpLine
sequence_notes_there c b =
    flat_map (note_lines c.depth)
    (sequence_notes (levels_left (c.level + 1)) (embedded_lines c) (sequence (c.level + 1) b))

-- ---- heads

abbrev pub argument_bytes : ℕ → Argument → List ℕ
argument_bytes major (Number n w) = encoded_head major n w
argument_bytes major Indefinite = opening major ∷ []

-- the bytes that a dump shows of a head, and what it says of them
abbrev pub head_bytes : ItemHead → List ℕ
head_bytes (item_head.Integer n w) = encoded_head 0 n w
head_bytes (item_head.Negative n w) = encoded_head 1 n w
head_bytes (item_head.String kind a) = argument_bytes (major_of kind) a
head_bytes (item_head.Array a) = argument_bytes 4 a
head_bytes (item_head.Map a) = argument_bytes 5 a
head_bytes (item_head.Tag n w) = encoded_head 6 n w
head_bytes (item_head.Float bits w) = encoded_float bits w
head_bytes (item_head.Simple n) = encoded_simple n

abbrev pub head_said : ItemHead → List ℕ
head_said (item_head.Integer n w) = unsigned_comment n
head_said (item_head.Negative n w) = negative_comment n
head_said (item_head.String kind a) = counted_comment (string_word kind) (argument_count a)
head_said (item_head.Array a) = counted_comment (codes "array") (argument_count a)
head_said (item_head.Map a) = counted_comment (codes "map") (argument_count a)
head_said (item_head.Tag n w) = tag_comment n
head_said (item_head.Float bits w) = float_comment (encoded_float bits w)
head_said (item_head.Simple n) = simple_comment n

abbrev pub line_of_head : ℕ → ItemHead → DumpLine
line_of_head depth h = head_line depth (head_bytes h) (head_said h)

-- The bytes are those of the head. Those of a simple value may be two where a dump shows one.
abbrev pub IsHead : ItemHead → List ℕ → Type 0
IsHead (item_head.Simple n) b = Unit {0}
IsHead h b = b ≡ head_bytes h

-- ---- what is written

-- a line after what stands before each line
abbrev pub line_after : List ℕ → ℕ → DumpLine → List ℕ
line_after prefix width line = prefix ++ line_text width line

abbrev pub own_line : Writer → DumpLine → List ℕ
own_line w = line_after (string_bytes w.prefix) w.width

-- these lines are written after the old text
pub record Wrote (old new : Writer) (lines : List DumpLine) : Type 0 where
  pub text : string_bytes new.out ≡ string_bytes old.out ++ flat_map (own_line old) lines
  pub width : new.width ≡ old.width
  pub prefix : string_bytes new.prefix ≡ string_bytes old.prefix

-- Reading gives an item before the rest. Its lines are written, and what it shares is counted.
pub record Dumped (c : DumpContext) (read : Read Item) (rest : List ℕ) (old new : Walk) : Type 0 where
  pub item : Item
  pub reads : read ≡ Ok (item, rest)
  pub wrote : Wrote old.writer new.writer (item_lines c old.shared item)
  pub shared : new.shared ≡ old.shared + shared_in item

-- The same behind a head, whose line was written before.
pub record DumpedBehind (c : DumpContext) (h : ItemHead) (b rest : List ℕ) (old new : Walk) : Type 0 where
  pub item : Item
  pub reads : read_behind c.level h b ≡ Ok (item, rest)
  pub lines : List DumpLine
  pub parts : item_lines c old.shared item ≡ line_of_head c.depth h ∷ lines
  pub wrote : Wrote old.writer new.writer lines
  pub shared : new.shared ≡ old.shared + shared_in item

-- the dump of an item at this level
abbrev pub dump_at : ℕ → Item → List ℕ
dump_at level i = layout (lines_at_level level top 0 i)
