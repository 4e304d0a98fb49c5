-- What EDN writes of the content of a byte string at a level that is shown in some way (`ContentTextAt`).
use Rattle.std.specs.Prelude.{ℕ, ◌+◌, List}
use Rattle.cbor_grammar.specs.declared.layout.Content.{Content}
use Rattle.cbor_grammar.specs.Item.{Chunk}
use Rattle.cbor_grammar.specs.WellFormed.{levels_left}
use Rattle.cbor_notation_writer.specs.Dialect.{ContentText, TextsOf}
use Rattle.cbor_edn_writer.specs.EdnLeaves.{edn_leaves}
use Rattle.cbor_edn_writer.specs.declared.print.place.EdnPlace.{EdnPlace}

-- the texts of it; items in it are written as EDN, with the levels that are left there
abbrev pub ContentTextAt : ℕ → Content → EdnPlace → Chunk → List ℕ → Type 0
ContentTextAt level shows p b t =
    ContentText edn_leaves (levels_left (level + 1)) (TextsOf edn_leaves (levels_left (level + 1))) shows p b t
