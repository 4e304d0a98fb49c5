-- Four lines of a dump (`head`, `number`, `bare` and `deep`), for the examples of `examples.rt`.
use Rattle.std.specs.Prelude.{[], codes}
use Rattle.cbor_notes.specs.Layout.{DumpLine}

abbrev pub head : DumpLine
head = record { depth = 0; hex = codes "d8 20"; comment = codes "tag" }

abbrev pub number : DumpLine
number = record { depth = 1; hex = codes "01"; comment = codes "one" }

-- a line without digits
abbrev pub bare : DumpLine
bare = record { depth = 1; hex = []; comment = codes "note" }

abbrev pub deep : DumpLine
deep = record { depth = 2; hex = codes "ff"; comment = codes "break" }
