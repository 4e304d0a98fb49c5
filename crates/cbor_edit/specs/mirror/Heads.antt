-- For `container.rt` and `replace.rt`: `HasHead` says that a head of a major type and an argument begins at a place in
-- bytes, and at which place it ends.
use Rattle.std.specs.Prelude.{◌≡◌, ℕ, ◌+◌, ◌≤◌, List, ◌++◌, length, drop}
use Rattle.cbor_grammar.specs.declared.argument.Argument.{Argument}
use Rattle.cbor_grammar.specs.Reading.{FitsArgument}
use Rattle.cbor_edit.specs.Members.{argument_head}

-- a head of this major type and argument begins at a place, and ends at `inner`
pub record HasHead (b : List ℕ) (start major : ℕ) (a : Argument) (inner : ℕ) : Type 0 where
  pub fits : FitsArgument a
  pub whole : drop start b ≡ argument_head major a ++ drop inner b
  pub place : inner ≡ start + length (argument_head major a)
  pub within : inner ≤ length b
