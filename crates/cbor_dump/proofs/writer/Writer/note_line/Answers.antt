-- A line of a note has no digits, and the text as its comment.
use Rattle.std.proofs.Common.{◌≡◌, [], Bor, ℕ, List, refl}
use Rattle.hex.specs.Hex.{encode_with}
use Rattle.cbor_dump.specs.declared.comment.Comment.TheVariants as comment
use Rattle.cbor_dump.specs.declared.hex_style.HexStyle.TheVariants.{Content}
use Rattle.cbor_dump.specs.Dump.{note_line}
use Rattle.cbor_dump.specs.mirror.ShownLines.{shown_line}
use Rattle.cbor_dump.proofs.writer.Writer.note_line.Goals as goal

-- no bytes are no digits
shown_note : (depth : ℕ) (text : Bor (List ℕ))
    → shown_line depth Content [] (comment.Note text) ≡ note_line depth text.now
unfolding encode_with
shown_note depth text = refl

pub returns : goal.returns
returns c = rw (shown_note c.args.depth c.args.text) at c.line.ensures
