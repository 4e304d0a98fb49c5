-- `Shows`: the output of a viewer for an item: all of it (`IsForm` of `Forms.antt`), or parts of it if there is a path.
-- `ChecksSo`: whether the `End` of a check by RFC 8949 is true of the bytes that remain.
use Rattle.std.specs.Prelude.{ℕ, List, [], ◌∷◌}
use Rattle.cbor_grammar.specs.Item.{Item}
use Rattle.cbor_paths.specs.declared.end.End.{End}
use Rattle.cbor_paths.specs.declared.end.End.TheVariants as end
use Rattle.cbor_paths.specs.declared.step.Step.{Step}
use Rattle.cbor_paths.specs.Ends.{EndsSo}
use Rattle.cbor_paths.specs.Sequence.{ShowsEach}
use Rattle.cbor_inspect.specs.declared.items.Show.{Show}
use Rattle.cbor_inspect.specs.Forms.{IsForm}
use Rattle.cbor_inspect.specs.Rfc8949.{BeginsNo8949}

-- what is written of a whole item, or with steps of items that are its parts
abbrev pub ShowsPart : Show → List Step → Item → List ℕ → Type 0
ShowsPart show [] i output = IsForm show i output
ShowsPart show (s ∷ steps) i output =
    (parts : List Item) × ShowsEach (IsForm show) parts output

-- the path to the part that is written
abbrev pub steps_of : Show → List Step
steps_of show = show.steps.now

-- what is written of an item: all of it, or the parts that the path leads to
abbrev pub Shows : Show → Item → List ℕ → Type 0
Shows show i output = ShowsPart show (steps_of show) i output

-- what an end says of a check by RFC 8949: the same as of a call that writes, or that the next item is none by it
abbrev pub ChecksSo : List ℕ → End → Type 0
ChecksSo rest (end.TwoByteSimple at) = BeginsNo8949 rest at
ChecksSo rest other = EndsSo rest other
