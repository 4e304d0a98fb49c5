-- `head_hex` shows a head of one byte as two digits, and a longer one with a blank after the first byte. So its length
-- is twice the number of bytes, and 1 more if there are several bytes.
use Rattle.std.proofs.Common.{◌≡◌, ℕ, ◌+◌, ◌*◌, ◌≤◌, ◌<◌, List, ◌++◌, length, take, drop, codes, sym, arith}
use Rattle.std.proofs.Common.{length-append, length-drop, length-take-le}
use Rattle.std.proofs.lemmas.Bool.Decides.{nat_tests}
use Rattle.hex.specs.Hex.{encode_lower, lower_digits}
use Rattle.hex.proofs.HexLemmas.{length-encode_with}
use Rattle.cbor_dump.specs.Dump.{head_hex}

-- one byte alone
pub head_short : (bytes : List ℕ) → length bytes ≤ 1 → head_hex bytes ≡ encode_lower bytes
head_short bytes short = grind (arith, nat_tests)

-- a byte, a blank, and others
pub head_long : (bytes : List ℕ) → 1 < length bytes
    → head_hex bytes ≡ encode_lower (take 1 bytes) ++ codes " " ++ encode_lower (drop 1 bytes)
head_long bytes long = grind (arith, nat_tests)

pub length-hex : (bytes : List ℕ) → length (encode_lower bytes) ≡ 2 * length bytes
length-hex bytes = length-encode_with lower_digits bytes

pub length-head_short : (bytes : List ℕ) → length bytes ≤ 1 → 2 * length bytes ≡ length (head_hex bytes)
length-head_short bytes short = rw (head_short bytes short) (sym (length-hex bytes))

pub length-head_long : (bytes : List ℕ) → 1 < length bytes → 2 * length bytes + 1 ≡ length (head_hex bytes)
length-head_long bytes long =
    let first = length-hex (take 1 bytes) in
    let rest = length-hex (drop 1 bytes) in
    let one : length (take 1 bytes) ≡ 1 = length-take-le 1 bytes (omega arith) in
    let others = length-drop 1 bytes in
    rw (head_long bytes long) (simp length-append (omega (arith, first, rest, one, others)))
