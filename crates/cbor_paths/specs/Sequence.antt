-- Sequences of items (RFC 8742): `IsSequence`, and `IsStrictSequence`, in which no simple value below 24 takes two
-- bytes. `IsShownOfFirst`: the output is what a viewer writes for some items at the front of the input, in order, and a
-- given rest follows these items.
use Rattle.std.specs.Prelude.{◌≡◌, ◌⊎◌, ℕ, List, [], ◌∷◌, ◌++◌}
use Rattle.cbor_grammar.specs.Item.{Item}
use Rattle.cbor_grammar.specs.Facts.{IsItem, IsStrictItem, BeginsWithItem}

-- the input is these items, each after the one before it, and then the rest
abbrev pub ItemsThen : List ℕ → List Item → List ℕ → Type 0
ItemsThen input [] rest = input ≡ rest
ItemsThen input (i ∷ is) rest =
    (front after : List ℕ) × (input ≡ front ++ after) × IsItem front i × ItemsThen after is rest

-- the input is one item, and then the rest
abbrev pub OneThen : List ℕ → List ℕ → Type 0
OneThen input rest = (i : Item) × (front : List ℕ) × (input ≡ front ++ rest) × IsItem front i

-- the input is the rest, or one item and then the rest
abbrev pub OneAtMost : List ℕ → List ℕ → Type 0
OneAtMost input rest = (input ≡ rest) ⊎ OneThen input rest

-- the input is items, one after the other, and nothing else
abbrev pub IsSequence : List ℕ → Type 0
IsSequence input = (items : List Item) × ItemsThen input items []

-- the bytes are these items, one after the other and nothing else, and no simple value below 24 takes two bytes
abbrev pub AreStrictItems : List ℕ → List Item → Type 0
AreStrictItems b [] = b ≡ []
AreStrictItems b (i ∷ is) =
    (front after : List ℕ) × (b ≡ front ++ after) × IsStrictItem front i × AreStrictItems after is

-- the bytes are such items
abbrev pub IsStrictSequence : List ℕ → Type 0
IsStrictSequence b = (items : List Item) × AreStrictItems b items

-- the output is what is written of each of these items, in order
abbrev pub ShowsEach : (Item → List ℕ → Type 0) → List Item → List ℕ → Type 0
ShowsEach Shows [] output = output ≡ []
ShowsEach Shows (i ∷ is) output =
    (first more : List ℕ) × (output ≡ first ++ more) × Shows i first × ShowsEach Shows is more

-- the output is what is written of the item at the front of the input, which takes that many bytes
abbrev pub ShowsFront : (Item → List ℕ → Type 0) → List ℕ → List ℕ → ℕ → Type 0
ShowsFront Shows input output used = (i : Item) × BeginsWithItem input i used × Shows i output

-- The output is what is written of some items at the front of the input, all in order, and this rest follows them.
pub record IsShownOfFirst (Shows : Item → List ℕ → Type 0) (input output rest : List ℕ) : Type 0 where
  pub items : List Item
  pub input_is : ItemsThen input items rest
  pub output_is : ShowsEach Shows items output
