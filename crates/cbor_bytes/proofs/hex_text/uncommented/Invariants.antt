-- What is gathered and what the lines that are left keep is what all lines keep.
use Rattle.std.proofs.Common.{◌≡◌, ◌++◌, length}
use Rattle.cbor_tokens.specs.Uncommented.{uncommented}
use Rattle.cbor_bytes.proofs.hex_text.uncommented.Given as goal

abbrev pub invariant-lines : goal.invariant-lines
invariant-lines l = l.digits.items ++ uncommented l.rest ≡ uncommented l.text

abbrev pub decreases-lines : goal.decreases-lines
decreases-lines l = length l.rest
