-- The data model of CBOR (RFC 8949, section 2): what an item says, however it is encoded. Integers, floats and simple
-- values are apart: 1 is not 1.0. A float has no width, and a string has no chunks.
use Rattle.std.specs.Prelude.{ℕ, List, [], ◌∷◌, ℤ, Float}

mutual
  pub data Value : Type 0 where
    integer : ℤ → Value
    float : Float → Value
    simple : ℕ → Value
    bytes : List ℕ → Value
    text : List ℕ → Value
    array : Values → Value
    map : Pairs → Value
    tagged : ℕ → Value → Value

  pub data Values : Type 0 where
    no_values : Values
    value : Value → Values → Values

  pub data Pairs : Type 0 where
    no_pairs : Pairs
    pair : Value → Value → Pairs → Pairs

-- the members of an array, as a list
abbrev pub list_of : Values → List Value
list_of no_values = []
list_of (value x xs) = x ∷ list_of xs

abbrev pub values_of : List Value → Values
values_of [] = no_values
values_of (x ∷ xs) = value x (values_of xs)

-- the keys of a map with their values, as a list
abbrev pub list_of_pairs : Pairs → List (Value × Value)
list_of_pairs no_pairs = []
list_of_pairs (pair k x ps) = (k, x) ∷ list_of_pairs ps

abbrev pub pairs_of : List (Value × Value) → Pairs
pairs_of [] = no_pairs
pairs_of (p ∷ ps) = pair p.0 p.1 (pairs_of ps)
