-- All lines of the dump of a well-formed item, at any level, are plain (`IsPlain`): their digits have no `#` and no
-- line feed, and their comments have no line feed.
use Rattle.std.proofs.Common.{ℕ, ◌≤◌, List, arith}
use Rattle.std.specs.List.{AllByRecursion}
use Rattle.cbor_notes.specs.Columns.{IsPlain}
use Rattle.cbor_notes.specs.Layout.{DumpLine}
use Rattle.cbor_grammar.specs.Item.{Item}
use Rattle.cbor_dump.specs.Dump.{lines_at_level, top}
use Rattle.cbor_grammar.specs.WellFormed.{levels_left, WellFormed}
use Rattle.cbor_dump.proofs.dump.Fits.{IsGood, plain_of}
use Rattle.cbor_dump.proofs.dump.ItemsFit.{item_fits}
use Rattle.cbor_grammar.proofs.text.Parts.{well_level}

module _ (level : ℕ) (i : Item) (some : 1 ≤ level) (well : WellFormed level i) where
  abbrev all : List DumpLine
  all = lines_at_level level top 0 i

  good : AllByRecursion IsGood all
  good = item_fits (levels_left level) level top 0 i (omega (arith, well_level level i well)) (omega (arith, some)) well

  pub plain : AllByRecursion IsPlain all
  plain = plain_of all good
