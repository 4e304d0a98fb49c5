-- The names of tags: those of RFC 7049 section 2.4, of RFC 8742, 8746, 8943 and 9164, and some of the IANA
-- registry of CBOR tags. Every other tag has none.
use Rattle.std.specs.Prelude.{ℕ, ◌==◌, List, Option, Some, None, codes, if◌then◌else◌}

-- typed arrays (RFC 8746 section 2.1); tag 76 would be i8, little endian, and is reserved
abbrev pub array_name : ℕ → Option (List ℕ)
array_name n =
    if n == 64 then Some (codes "typed array of u8") else
    if n == 65 then Some (codes "typed array of u16, big endian") else
    if n == 66 then Some (codes "typed array of u32, big endian") else
    if n == 67 then Some (codes "typed array of u64, big endian") else
    if n == 68 then Some (codes "typed array of u8, clamped") else
    if n == 69 then Some (codes "typed array of u16, little endian") else
    if n == 70 then Some (codes "typed array of u32, little endian") else
    if n == 71 then Some (codes "typed array of u64, little endian") else
    if n == 72 then Some (codes "typed array of i8") else
    if n == 73 then Some (codes "typed array of i16, big endian, twos-complement") else
    if n == 74 then Some (codes "typed array of i32, big endian, twos-complement") else
    if n == 75 then Some (codes "typed array of i64, big endian, twos-complement") else
    if n == 77 then Some (codes "typed array of i16, little endian, twos-complement") else
    if n == 78 then Some (codes "typed array of i32, little endian, twos-complement") else
    if n == 79 then Some (codes "typed array of i64, little endian, twos-complement") else
    if n == 80 then Some (codes "typed array of f16, big endian") else
    if n == 81 then Some (codes "typed array of f32, big endian") else
    if n == 82 then Some (codes "typed array of f64, big endian") else
    if n == 83 then Some (codes "typed array of f128, big endian") else
    if n == 84 then Some (codes "typed array of f16, little endian") else
    if n == 85 then Some (codes "typed array of f32, little endian") else
    if n == 86 then Some (codes "typed array of f64, little endian") else
    if n == 87 then Some (codes "typed array of f128, little endian") else
    None

abbrev pub tag_name : ℕ → Option (List ℕ)
tag_name n =
    if n == 0 then Some (codes "standard datetime string") else
    if n == 1 then Some (codes "epoch datetime value") else
    if n == 2 then Some (codes "positive bignum") else
    if n == 3 then Some (codes "negative bignum") else
    if n == 4 then Some (codes "decimal fraction") else
    if n == 5 then Some (codes "bigfloat") else
    if n == 21 then Some (codes "suggested base64url encoding") else
    if n == 22 then Some (codes "suggested base64 encoding") else
    if n == 23 then Some (codes "suggested base16 encoding") else
    if n == 24 then Some (codes "encoded cbor data item") else
    if n == 28 then Some (codes "shareable value") else
    if n == 29 then Some (codes "reference to shared value") else
    if n == 32 then Some (codes "uri") else
    if n == 33 then Some (codes "base64url encoded text") else
    if n == 34 then Some (codes "base64 encoded text") else
    if n == 35 then Some (codes "regex") else
    if n == 36 then Some (codes "mime message") else
    if n == 37 then Some (codes "uuid") else
    if n == 52 then Some (codes "ipv4 address and/or prefix") else
    if n == 54 then Some (codes "ipv6 address and/or prefix") else
    if n == 63 then Some (codes "encoded cbor sequence") else
    if n == 100 then Some (codes "epoch date value") else
    if n == 260 then Some (codes "network address") else
    if n == 1004 then Some (codes "standard date string") else
    if n == 55799 then Some (codes "self describe cbor") else
    array_name n
