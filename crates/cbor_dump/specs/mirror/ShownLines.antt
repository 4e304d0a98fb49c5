-- For `comment.rt`, `hex_style.rt` and `lines.rt`: the text of a `Comment` of the code (`comment_text`), the hex digits
-- of bytes in a `HexStyle` (`style_hex`), and the line of a dump with both (`shown_line`). No public clause names these
-- definitions.
use Rattle.std.specs.Prelude.{ℕ, List, [], Some, codes, unwrap_or}
use Rattle.hex.specs.Hex.{encode_lower}
use Rattle.cbor_notes.specs.Element.{element_text}
use Rattle.cbor_notes.specs.Layout.{DumpLine}
use Rattle.cbor_grammar.specs.declared.major.Major.{Major}
use Rattle.cbor_grammar.specs.declared.major.Major.TheVariants as major
use Rattle.cbor_dump.specs.declared.comment.Comment.{Comment}
use Rattle.cbor_dump.specs.declared.comment.Comment.TheVariants as comment
use Rattle.cbor_dump.specs.declared.hex_style.HexStyle.{HexStyle}
use Rattle.cbor_dump.specs.declared.hex_style.HexStyle.TheVariants.{Head, Content}
use Rattle.cbor_dump.specs.Comments.{unsigned_comment, negative_comment, float_comment, simple_comment}
use Rattle.cbor_dump.specs.Comments.{counted_comment}
use Rattle.cbor_dump.specs.Comments.{tag_comment, bytes_comment, text_comment, empty_comment, break_comment}
use Rattle.cbor_dump.specs.Dump.{head_hex}

-- the word of a string or a container
abbrev pub major_word : Major → List ℕ
major_word major.Bytes = codes "bytes"
major_word major.Text = codes "text"
major_word major.Array = codes "array"
major_word major.Map = codes "map"
major_word _ = []

-- the comment of a head with a number
abbrev pub head_comment : Major → ℕ → List ℕ
head_comment major.Unsigned n = unsigned_comment n
head_comment major.Negative n = negative_comment n
head_comment major.Tag n = tag_comment n
head_comment m n = counted_comment (major_word m) (Some n)

-- what a comment says
abbrev pub comment_text : Comment → List ℕ
comment_text (comment.Head m n) = head_comment m n
comment_text (comment.Counted m count) = counted_comment (major_word m) count
comment_text (comment.Float bytes) = float_comment bytes.now
comment_text (comment.Simple n) = simple_comment n
comment_text comment.Break = break_comment
comment_text comment.Empty = empty_comment
comment_text (comment.Bytes encoding whole piece) = bytes_comment encoding whole.now piece.now
comment_text (comment.Text piece) = text_comment piece.now
comment_text (comment.Element tag piece) = unwrap_or (element_text tag.0 piece.now) []
comment_text (comment.Note text) = text.now

-- the digits of bytes in a style
abbrev pub style_hex : HexStyle → List ℕ → List ℕ
style_hex Head bytes = head_hex bytes
style_hex Content bytes = encode_lower bytes

abbrev pub shown_line : ℕ → HexStyle → List ℕ → Comment → DumpLine
shown_line depth style bytes said = record { depth = depth; hex = style_hex style bytes; comment = comment_text said }
