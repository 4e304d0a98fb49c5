-- Hex with comments as the encoding of an item. `IsHexOf`: its digits encode this item. `IsHexRefused`: why they encode
-- no item. `IsHexFault`: the place of the first wrong digit.
use Rattle.std.specs.Prelude.{◌≡◌, ℕ, ◌+◌, ◌%◌, ◌<◌, List, [], ◌∷◌, ◌++◌, length, take, drop, slice_index, false, Ok}
use Rattle.std.specs.Prelude.{◌⊎◌}
use Rattle.std.specs.List.{AllPass}
use Rattle.hex.specs.Hex.{decode_of, is_hex_digit}
use Rattle.cbor_tokens.specs.Uncommented.{uncommented}
use Rattle.cbor_grammar.specs.declared.error.Error.{Error}
use Rattle.cbor_grammar.specs.declared.error.Error.TheVariants as refusal
use Rattle.cbor_grammar.specs.Item.{Item}
use Rattle.cbor_grammar.specs.Facts.{IsItem, IsNoItem}

-- the digits are those of an item's bytes
abbrev pub IsHexOf : List ℕ → Item → Type 0
IsHexOf text i = (b : List ℕ) × (decode_of (uncommented text) ≡ Ok b) × IsItem b i

-- why a text is not an item in hex: an odd number of digits, else a character that is
-- no digit, else what its bytes are
abbrev pub IsHexRefused : List ℕ → Error → Type 0
IsHexRefused text refusal.OddHex = length (uncommented text) % 2 ≡ 1
IsHexRefused text refusal.BadHex = (length (uncommented text) % 2 ≡ 0) × ¬ (AllPass is_hex_digit (uncommented text))
IsHexRefused text e = (b : List ℕ) × (decode_of (uncommented text) ≡ Ok b) × IsNoItem b e

-- The byte at that place of the text is kept: what is kept of the text is what is kept before the place, this
-- byte, and what is kept after it.
pub record IsKeptAt (text : List ℕ) (place : ℕ) : Type 0 where
  pub within : place < length text
  pub kept : uncommented text
      ≡ uncommented (take place text) ++ slice_index text place ∷ uncommented (drop (place + 1) text)

-- that byte, where n bytes are kept before it
pub record IsKeptByte (text : List ℕ) (n place : ℕ) : Type 0 where
  pub here : IsKeptAt text place
  pub before : length (uncommented (take place text)) ≡ n

-- each kept byte is a digit, and their number is even
abbrev pub AreHexDigits : List ℕ → Type 0
AreHexDigits text = (length (uncommented text) % 2 ≡ 0) × AllPass is_hex_digit (uncommented text)

-- The digits are wrong, for this reason and first at this place: the kept bytes before it are digits, and the one at
-- it is none, or is the last of an odd number.
pub record IsHexFault (text : List ℕ) (error : Error) (place : ℕ) : Type 0 where
  pub digits : (error ≡ refusal.OddHex) ⊎ (error ≡ refusal.BadHex)
  pub refused : IsHexRefused text error
  pub kept : IsKeptAt text place
  pub before : AllPass is_hex_digit (uncommented (take place text))
  pub here : (is_hex_digit (slice_index text place) ≡ false) ⊎ (uncommented (drop (place + 1) text) ≡ [])
