-- Definitions of where an EDN item begins and ends, without lemmas. `IsBegun` says that a text begins with the first
-- byte of an item. `Follows` says that a text does not go on with the last word or number of the item before it, and
-- that no `+` joins a string to that item.
use Rattle.std.proofs.Common.{◌≡◌, ℕ, List, [], ◌∷◌, Bool, true, false, ◌==◌, ◌||◌}
use Rattle.cbor_edn_grammar.specs.Strings.{joined}
use Rattle.cbor_edn_grammar.specs.Word.{is_digit, is_letter}

-- what comes after an item: a blank, a comma, a colon, or what closes a list
abbrev pub ends_item : ℕ → Bool
ends_item b =
    (b == 10) || (b == 32) || (b == 41) || (b == 44) || (b == 58) || (b == 62) || (b == 93) || (b == 125)

abbrev pub is_ended : List ℕ → Bool
is_ended [] = true
is_ended (b ∷ rest) = ends_item b

-- what follows an item: nothing that goes on with its last word or number, and no `+` that joins a string to it
pub record Follows (rest : List ℕ) : Type 0 where
  pub ended : is_ended rest ≡ true
  pub alone : (joined rest).0 ≡ false

-- the first byte of an item: no blank, no comma, and nothing that closes a list or joins strings
abbrev pub begins_item : ℕ → Bool
begins_item b = is_digit b || is_letter b || (b == 34) || (b == 39) || (b == 40) || (b == 45) || (b == 60)
    || (b == 91) || (b == 123)

abbrev pub IsBegun : List ℕ → Type 0
IsBegun [] = ⊥
IsBegun (b ∷ text) = begins_item b ≡ true
