-- The encoding of bytes in base 64: RFC 4648, section 4, and section 5 without padding.
use Rattle.std.specs.Prelude.{ℕ, Bool, true, false, ◌==◌, ◌||◌, if◌then◌else◌, Option, List, codes}
use Rattle.cbor_tokens.specs.Ascii.{plus, slash, equals_sign}
use Rattle.base64.specs.Rfc4648.{encode}
use Rattle.base64.specs.GeneralPurpose.{decoded_of}
use Rattle.base64.specs.Engines as engines

-- the digits 0 to 63 of the standard alphabet, and of the one that is safe in URLs
abbrev pub standard_alphabet : List ℕ
standard_alphabet = codes "ABCDEFGHIJKLMNOPQRSTUVWXYZabcdefghijklmnopqrstuvwxyz0123456789+/"

abbrev pub url_safe_alphabet : List ℕ
url_safe_alphabet = codes "ABCDEFGHIJKLMNOPQRSTUVWXYZabcdefghijklmnopqrstuvwxyz0123456789-_"

-- the encoding in the standard alphabet, with `=` up to a multiple of four characters
abbrev pub standard : List ℕ → List ℕ
standard = encode standard_alphabet equals_sign true

-- the encoding in the alphabet that is safe in URLs, without padding
abbrev pub url_safe : List ℕ → List ℕ
url_safe = encode url_safe_alphabet equals_sign false

-- `+`, `/` and `=`, which only the standard encoding has
abbrev pub is_standard_only : ℕ → Bool
is_standard_only digit = (digit == plus) || (digit == slash) || (digit == equals_sign)

-- the encoding that is safe in URLs, or the standard one
abbrev pub encoding : Bool → List ℕ → List ℕ
encoding url bytes = if url then url_safe bytes else standard bytes

-- the bytes that digits encode, in the alphabet that is safe in URLs, without padding, or else in the
-- standard one with padding; None where they encode nothing in that one
unfoldable pub decoded : Bool → List ℕ → Option (List ℕ)
decoded url digits =
    if url then decoded_of engines.url_safe_no_pad digits else decoded_of engines.standard digits
