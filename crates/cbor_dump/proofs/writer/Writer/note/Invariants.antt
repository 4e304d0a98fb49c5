-- What is written and the lines of the texts that are left are the whole note.
use Rattle.std.proofs.Common.{◌+◌, map, drop}
use Rattle.std.specs.String.{string_bytes}
use Rattle.cbor_dump.specs.Dump.{note_line, note_lines}
use Rattle.cbor_dump.specs.mirror.NotesView.{note_view}
use Rattle.cbor_dump.proofs.dump.Walks.{Left}
use Rattle.cbor_dump.proofs.writer.Writer.note.Given as goal

-- the texts that are left, and those that are written, are the whole
abbrev pub invariant-below : goal.invariant-below
invariant-below l =
    Left l.fn.self l.self (map (note_line (l.depth + 1)) (map string_bytes (drop l.text-index l.text-items)))
    (note_lines l.depth (note_view l.note))
