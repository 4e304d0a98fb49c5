-- The note is `two bytes`.
use Rattle.std.proofs.Common.{Some, codes, inr, refl}
use Rattle.std.specs.String.{string_bytes}
use Rattle.cbor_edn_writer.specs.OwnNotes.{IsSimpleNote}
use Rattle.cbor_edn_writer.proofs.writing.Appended.{own_wrote}
use Rattle.cbor_edn_writer.proofs.print.notes.push_simple_note.Goals as goal

pub returns-then-value-lt32 : goal.returns-then-value-lt32
returns-then-value-lt32 c =
    own_wrote c.push_comment_after-result.result c.args.place.now (IsSimpleNote c.args.value)
    (Some (codes "two bytes")) (string_bytes c.args.out.now) (string_bytes c.push_comment_after-result.new.out)
    c.if-not-place.false (inr (c.if-value-lt32.true, refl)) c.push_comment_after-result.ensures
