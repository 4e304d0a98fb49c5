-- Base 64 as people paste it: RFC 4648, sections 4 and 5, in either alphabet, with padding or without, with blanks and
-- line ends between the digits.
use Rattle.std.specs.Prelude.{◌≡◌, ℕ, ◌==◌, ◌||◌, Bool, not, if◌then◌else◌, List, filter, map}
use Rattle.cbor_tokens.specs.AreBytes.{AreBytes}
use Rattle.cbor_tokens.specs.Base64.{encoding}
use Rattle.cbor_edn_grammar.specs.Digits.{is_padded, to_standard, to_url_safe}

-- blanks and line ends
abbrev pub is_blank : ℕ → Bool
is_blank b = (b == 32) || ((b == 9) || ((b == 13) || (b == 10)))

-- what of a text is no blank and no line end
abbrev pub digits_of : List ℕ → List ℕ
digits_of text = filter (λ b. not (is_blank b)) text

-- each digit as one alphabet has it: as the standard one, or else as that for URLs
abbrev pub in_one_alphabet : Bool → List ℕ → List ℕ
in_one_alphabet is_standard digits = if is_standard then map to_standard digits else map to_url_safe digits

-- The digits encode these bytes. RFC 4648 pads in the standard alphabet, and need not in that for URLs: so each digit
-- is read as the one alphabet has it where the digits have padding, and as the other has it where they have none.
abbrev pub Encodes : List ℕ → List ℕ → Type 0
Encodes digits bytes =
    AreBytes bytes × (in_one_alphabet (is_padded digits) digits ≡ encoding (not (is_padded digits)) bytes)
