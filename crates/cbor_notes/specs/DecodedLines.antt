-- The lines that show, in comments, what a text in base 64 encodes.
use Rattle.std.specs.Prelude.{ℕ, ◌-◌, ◌*◌, Bool, Option, option_map, List, ◌++◌, map, min, length, replicate, codes}
use Rattle.std.specs.Int.{div_ceil}
use Rattle.std.specs.List.{range_with_len}
use Rattle.std.specs.Fork.{slice_chunk}
use Rattle.hex.specs.Hex.{encode_lower}
use Rattle.cbor_tokens.specs.Ascii.{space}
use Rattle.cbor_tokens.specs.Base64.{decoded}
use Rattle.cbor_notes.specs.Text.{quoted_bytes}

-- the line of a piece of bytes: its hex digits, filled up with blanks to the width, and after ` # `
-- the bytes between quotes
unfoldable pub decoded_line : ℕ → List ℕ → List ℕ
decoded_line width piece =
    encode_lower piece ++ replicate (width - 2 * length piece) space ++ codes " # " ++ quoted_bytes piece

-- one line for each piece of sixteen bytes; the last piece may be shorter; the hex digits of each line are as wide as
-- those of the first
unfoldable pub decoded_lines : List ℕ → List (List ℕ)
decoded_lines bytes =
    map (λ n. decoded_line (2 * min 16 (length bytes)) (slice_chunk bytes 16 n))
    (range_with_len 0 (div_ceil (length bytes) 16))

-- the lines of the bytes that a text encodes, in the alphabet that is safe in URLs or in the standard
-- one; None where it encodes nothing
unfoldable pub base64_lines : Bool → List ℕ → Option (List (List ℕ))
base64_lines url text = option_map decoded_lines (decoded url text)
