-- `Rules`: loaded CDDL as functions that `Fits.antt` uses. They give the node, list, rule, literal or pattern for an
-- index, and the value that bytes encode.
use Rattle.std.specs.Prelude.{ℕ, List, Bool, Option}
use Rattle.cbor_cddl.specs.declared.schema.Node.{Node}
use Rattle.cbor_cddl.specs.declared.schema.List as nodes
use Rattle.cbor_cddl.specs.declared.schema.Span.{Span}
use Rattle.cbor_fits.specs.Value.{Value}

pub record Rules : Type 0 where
  -- the type or the group at an index
  pub node : ℕ → Node
  -- the indices of a list
  pub list : nodes.List → List ℕ
  -- the index of the type or the group of a rule
  pub body : ℕ → ℕ
  -- whether this is a group
  pub is_group : Node → Bool
  -- the content of a literal string
  pub literal : Span → List ℕ
  -- whether a text matches the pattern of the node at an index
  pub is_match : ℕ → List ℕ → Bool
  -- the item that bytes encode, if they encode one
  pub decoded : List ℕ → Option Value
  -- the array of the items that bytes encode one after the other
  pub decoded_sequence : List ℕ → Option Value
