-- If hex digits have bytes (`base16_of`), the crate `hex` decodes them (`decode_of`) to these bytes. If an even number
-- of digits has no bytes, one of them is no hex digit.
use Rattle.std.proofs.Common.{◌≡◌, ℕ, ◌%◌, List, length, Some, None, Result, Ok, Err, ap}
use Rattle.std.specs.List.{AllPass}
use Rattle.hex.specs.Hex.{decode_of, is_hex_digit}
use Rattle.hex.specs.declared.error.FromHexError.{FromHexError}
use Rattle.hex.proofs.HexLemmas.{decode_of-digits}
use Rattle.cbor_tokens.specs.HexDigits.{base16_bytes, base16_of}

found : (bytes : List ℕ) (r : Result (List ℕ) FromHexError) → base16_bytes r ≡ Some bytes → r ≡ Ok bytes
found bytes (Ok other) is = cc is
found bytes (Err e) is = cc is

-- digits that have bytes decode
pub decoded : (digits bytes : List ℕ) → base16_of digits ≡ Some bytes → decode_of digits ≡ Ok bytes
decoded digits bytes is = found bytes (decode_of digits) is

-- of an even number of digits that have no bytes, one is no digit
pub not_digits : (digits : List ℕ) → base16_of digits ≡ None → length digits % 2 ≡ 0
    → ¬ (AllPass is_hex_digit digits)
not_digits digits none even all =
    let read = decode_of-digits digits even all in
    let some : base16_of digits ≡ Some read.0 = ap base16_bytes read.1 in
    cc (none, some)
