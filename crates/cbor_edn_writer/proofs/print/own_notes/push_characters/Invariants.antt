use Rattle.std.proofs.Common.{◌≡◌, ◌++◌, take}
use Rattle.std.specs.List.{flat_map}
use Rattle.std.specs.String.{string_bytes}
use Rattle.cbor_edn_writer.specs.OwnNotes.{escaped_character}
use Rattle.cbor_edn_writer.proofs.print.own_notes.push_characters.Given as goal

-- the characters so far are written
abbrev pub invariant-loop-character : goal.invariant-loop-character
invariant-loop-character l =
    string_bytes l.note ≡ string_bytes l.initial.note
    ++ flat_map escaped_character (take l.character-index l.characters)
