-- A text lacks a character (`Free`) if its parts lack it. Hex, base 64, numbers, `quoted_bytes`, `escaped_text` and the
-- names of tags (`tag_name`) have no line feed.
use lib.Utf8.{encode}
use Rattle.std.proofs.Common.{◌≡◌, ◌≢◌, ℕ, zero, suc, ◌+◌, ◌*◌, ◌/◌, ◌%◌, ◌==◌, ◌<◌, ◌||◌, ◌&&◌, Bool, true, false, not}
use Rattle.std.proofs.Common.{cond, nat_le, ltb, List, [], ◌∷◌, ◌++◌, length, get_or, replicate, codes, decimal, Option}
use Rattle.std.proofs.Common.{Some, None, inl, inr, refl, sym, subst, arith}
use Rattle.std.specs.List.{AllByRecursion, flat_map, list_all}
use Rattle.std.specs.Str.{chars}
use Rattle.std.specs.Fmt.{digits, digits_onto, digit_glyph}
use Rattle.std.proofs.lemmas.Bool.{cases_eq}
use Rattle.std.proofs.lemmas.Bool.Decides.{nat_tests}
use Rattle.base64.specs.Rfc4648.{encode_symbols, padding_len}
use Rattle.hex.specs.Hex.{encode_lower, encode_with, lower_digits}
use Rattle.cbor_tokens.specs.Base64.{standard, url_safe}
use Rattle.cbor_tokens.specs.Uncommented.{Lacks}
use Rattle.cbor_notes.specs.TagNames.{array_name, tag_name}
use Rattle.cbor_notes.specs.Text.{escaped_byte, quoted_bytes, escaped_char, escaped_text, is_control, comma_before}
use Rattle.cbor_notes.specs.Text.{in_groups, minus_if, grouped}

-- no character of the text is this one
abbrev pub Free : ℕ → List ℕ → Type 0
Free c text = AllByRecursion (λ b. b ≢ c) text

pub from_test : (c : ℕ) (text : List ℕ) → list_all (λ b. not (b == c)) text ≡ true → Free c text
from_test c [] h = tt
from_test c (b ∷ text) h = ((λ e. grind (arith, nat_tests)), from_test c text (grind (arith, nat_tests)))

pub free_both : (c : ℕ) (xs ys : List ℕ) → Free c xs → Free c ys → Free c (xs ++ ys)
free_both c [] ys h k = k
free_both c (x ∷ xs) ys h k = (h.0, free_both c xs ys h.1 k)

pub free_flat : {X : Type 0} (c : ℕ) (f : X → List ℕ) → ((x : X) → Free c (f x)) → (xs : List X)
    → Free c (flat_map f xs)
free_flat c f each [] = tt
free_flat c f each (x ∷ xs) = free_both c (f x) (flat_map f xs) (each x) (free_flat c f each xs)

pub free_same : (c b n : ℕ) → b ≢ c → Free c (replicate n b)
free_same c b zero other = tt
free_same c b (suc n) other = (other, free_same c b n other)

pub free_cond : (c : ℕ) (b : Bool) (x y : List ℕ) → Free c x → Free c y → Free c (cond b x y)
free_cond c b x y h k = elim b as (λ v. Free c (cond v x y)) [ true ↦ h | false ↦ k ]

lacks_at : (c : ℕ) (text : List ℕ) → Free c text → (k d : ℕ) → k < length text → get_or text k d ≢ c
lacks_at c [] free k d h = absurd (omega arith)
lacks_at c (b ∷ text) free zero d h = free.0
lacks_at c (b ∷ text) free (suc k) d h = lacks_at c text free.1 k d (omega arith)

pub lacks_of : (c : ℕ) (text : List ℕ) → Free c text → Lacks c text
lacks_of c text free = lacks_at c text free

-- a digit of a table, and 0 past its end
pub free_digit : (c : ℕ) (table : List ℕ) (k : ℕ) → 0 ≢ c → Free c table → get_or table k 0 ≢ c
free_digit c [] k other free = other
free_digit c (x ∷ table) zero other free = free.0
free_digit c (x ∷ table) (suc k) other free = free_digit c table k other free.1

free_with : (c : ℕ) (table : List ℕ) → 0 ≢ c → Free c table → (bytes : List ℕ) → Free c (encode_with table bytes)
unfolding encode_with
free_with c table other free [] = tt
free_with c table other free (b ∷ bytes) = (
  free_digit c table (b / 16) other free,
  (free_digit c table (b % 16) other free, free_with c table other free bytes),
)

pub free_hex : (c : ℕ) → 0 ≢ c → Free c lower_digits → (bytes : List ℕ) → Free c (encode_lower bytes)
free_hex c other free bytes = free_with c lower_digits other free bytes

pub zero_other : ◌≢◌ {A = ℕ} 0 10
zero_other e = cc e

pub hex_line : (bytes : List ℕ) → Free 10 (encode_lower bytes)
hex_line bytes = free_hex 10 zero_other (from_test 10 lower_digits refl) bytes

-- base 64
pub free_symbols : (table : List ℕ) → Free 10 table → (bytes : List ℕ) → Free 10 (encode_symbols table bytes)
unfolding encode_symbols
free_symbols table free [] = tt
free_symbols table free (a ∷ []) = (
  free_digit 10 table (a / 4) zero_other free,
  (free_digit 10 table (a % 4 * 16) zero_other free, tt),
)
free_symbols table free (a ∷ b ∷ []) = (
  free_digit 10 table (a / 4) zero_other free,
  (free_digit 10 table (a % 4 * 16 + b / 16) zero_other free, (free_digit 10 table (b % 16 * 4) zero_other free, tt)),
)
free_symbols table free (a ∷ b ∷ c ∷ rest) =
    let last = free_symbols table free rest in (
      free_digit 10 table (a / 4) zero_other free,
      (
        free_digit 10 table (a % 4 * 16 + b / 16) zero_other free,
        (
          free_digit 10 table (b % 16 * 4 + c / 64) zero_other free,
          (free_digit 10 table (c % 64) zero_other free, last),
        ),
      ),
    )

padding_other : ◌≢◌ {A = ℕ} 61 10
padding_other e = cc e

pub standard_line : (bytes : List ℕ) → Free 10 (standard bytes)
standard_line bytes =
    free_both 10 (encode_symbols (codes "ABCDEFGHIJKLMNOPQRSTUVWXYZabcdefghijklmnopqrstuvwxyz0123456789+/") bytes)
    (replicate (padding_len (length bytes)) 61)
    (free_symbols (codes "ABCDEFGHIJKLMNOPQRSTUVWXYZabcdefghijklmnopqrstuvwxyz0123456789+/")
    (from_test 10 (codes "ABCDEFGHIJKLMNOPQRSTUVWXYZabcdefghijklmnopqrstuvwxyz0123456789+/") refl) bytes)
    (free_same 10 61 (padding_len (length bytes)) padding_other)

pub url_safe_line : (bytes : List ℕ) → Free 10 (url_safe bytes)
url_safe_line bytes =
    free_both 10 (encode_symbols (codes "ABCDEFGHIJKLMNOPQRSTUVWXYZabcdefghijklmnopqrstuvwxyz0123456789-_") bytes) []
    (free_symbols (codes "ABCDEFGHIJKLMNOPQRSTUVWXYZabcdefghijklmnopqrstuvwxyz0123456789-_")
    (from_test 10 (codes "ABCDEFGHIJKLMNOPQRSTUVWXYZabcdefghijklmnopqrstuvwxyz0123456789-_") refl) bytes) tt

-- numbers
free_glyph : (upper : Bool) (d : ℕ) → digit_glyph upper d ≢ 10
free_glyph upper d e = elim upper [ true ↦ grind (arith, nat_tests) | false ↦ grind (arith, nat_tests) ]

free_onto : (k base : ℕ) (upper : Bool) (n : ℕ) (text : List ℕ) → Free 10 text
    → Free 10 (digits_onto k base upper n text)
free_onto zero base upper n text free = free
free_onto (suc k) base upper n text free =
    let more : Free 10 (digit_glyph upper (n % base) ∷ text) = (free_glyph upper (n % base), free) in
    free_cond 10 (n / base == 0) (digit_glyph upper (n % base) ∷ text)
    (digits_onto k base upper (n / base) (digit_glyph upper (n % base) ∷ text)) more
    (free_onto k base upper (n / base) (digit_glyph upper (n % base) ∷ text) more)

pub digits_line : (base : ℕ) (n : ℕ) → Free 10 (digits base false n)
unfolding digits
digits_line base n = free_onto 64 base false n [] tt

pub decimal_line : (n : ℕ) → Free 10 (decimal n)
decimal_line n = digits_line 10 n

groups_line : (ds : List ℕ) → Free 10 ds → Free 10 (in_groups ds)
groups_line [] free = tt
groups_line (d ∷ ds) free = (
  free.0,
  free_both 10 (comma_before ds) (in_groups ds)
      (free_cond 10 _ (codes ",") [] (from_test 10 (codes ",") refl) tt) (groups_line ds free.1),
)

pub grouped_line : (n : ℕ) (negative : Bool) → Free 10 (grouped n negative)
grouped_line n negative =
    free_both 10 (minus_if negative) (in_groups (decimal n))
    (free_cond 10 negative (codes "-") [] (from_test 10 (codes "-") refl) tt)
    (groups_line (decimal n) (decimal_line n))

-- bytes between quotes
byte_line : (b : ℕ) → Free 10 (escaped_byte b)
byte_line b =
    elim (cases_eq b 10) [
      | inl feed ↦ subst (λ x. Free 10 (escaped_byte x)) (sym feed) (from_test 10 (codes "\\n") refl)
      | inr other ↦
          free_cond 10 (b == 9) (codes "\\t") _ (from_test 10 (codes "\\t") refl)
          (free_cond 10 (b == 13) (codes "\\r") _ (from_test 10 (codes "\\r") refl)
          (free_cond 10 (b == 10) (codes "\\n") _ (from_test 10 (codes "\\n") refl)
          (free_cond 10 ((b == 39) || (b == 34) || (b == 92)) (codes "\\" ++ b ∷ []) _
          (free_both 10 (codes "\\") (b ∷ []) (from_test 10 (codes "\\") refl) (other, tt))
          (free_cond 10 (nat_le 32 b && nat_le b 126) (b ∷ []) (codes "\\x" ++ encode_lower (b ∷ [])) (other, tt)
          (free_both 10 (codes "\\x") (encode_lower (b ∷ [])) (from_test 10 (codes "\\x") refl) (hex_line (b ∷ [])))))))
    ]

pub quoted_line : (bytes : List ℕ) → Free 10 (quoted_bytes bytes)
quoted_line bytes =
    free_both 10 (codes "\"" ++ flat_map escaped_byte bytes) (codes "\"")
    (free_both 10 (codes "\"") (flat_map escaped_byte bytes) (from_test 10 (codes "\"") refl)
    (free_flat 10 escaped_byte byte_line bytes)) (from_test 10 (codes "\"") refl)

-- texts
utf8_line : (c : ℕ) → c ≢ 10 → Free 10 (encode c)
unfolding encode
utf8_line c other =
    free_cond 10 (ltb c 128) (c ∷ []) _ (other, tt)
    (free_cond 10 (ltb c 2048) _ _ ((λ e. omega arith), ((λ e. omega arith), tt))
    (free_cond 10 (ltb c 65536) _ _ ((λ e. omega arith), ((λ e. omega arith), ((λ e. omega arith), tt)))
    ((λ e. omega arith), ((λ e. omega arith), ((λ e. omega arith), ((λ e. omega arith), tt))))))

char_line : (c : ℕ) → Free 10 (escaped_char c)
char_line c =
    elim (cases_eq c 10) [
      | inl feed ↦ subst (λ x. Free 10 (escaped_char x)) (sym feed) (from_test 10 (codes "\\n") refl)
      | inr other ↦
          free_cond 10 (c == 9) (codes "\\t") _ (from_test 10 (codes "\\t") refl)
          (free_cond 10 (c == 13) (codes "\\r") _ (from_test 10 (codes "\\r") refl)
          (free_cond 10 (c == 10) (codes "\\n") _ (from_test 10 (codes "\\n") refl)
          (free_cond 10 ((c == 34) || (c == 92)) (codes "\\" ++ c ∷ []) _
          (free_both 10 (codes "\\") (c ∷ []) (from_test 10 (codes "\\") refl) (other, tt))
          (free_cond 10 (is_control c) (codes "\\u{" ++ digits 16 false c ++ codes "}") (encode c)
          (free_both 10 (codes "\\u{" ++ digits 16 false c) (codes "}")
          (free_both 10 (codes "\\u{") (digits 16 false c) (from_test 10 (codes "\\u{") refl) (digits_line 16 c))
          (from_test 10 (codes "}") refl))
          (utf8_line c other)))))
    ]

pub escaped_line : (text : List ℕ) → Free 10 (escaped_text text)
escaped_line text = free_flat 10 escaped_char char_line (chars text)

-- names of tags
pub data FreeName : Option (List ℕ) → Type 0 where
  named : {name : List ℕ} → Free 10 name → FreeName (Some name)
  unnamed : FreeName None

named_test : (name : List ℕ) → list_all (λ b. not (b == 10)) name ≡ true → FreeName (Some name)
named_test name h = named (from_test 10 name h)

if_name : (b : Bool) (x y : Option (List ℕ)) → FreeName x → FreeName y → FreeName (cond b x y)
if_name b x y h k = elim b as (λ v. FreeName (cond v x y)) [ true ↦ h | false ↦ k ]

array_name_free : (n : ℕ) → FreeName (array_name n)
array_name_free n =
    (if_name (n == 64) (Some (codes "typed array of u8")) _ (named_test (codes "typed array of u8") refl)
    (if_name (n == 65) (Some (codes "typed array of u16, big endian")) _
    (named_test (codes "typed array of u16, big endian") refl)
    (if_name (n == 66) (Some (codes "typed array of u32, big endian")) _
    (named_test (codes "typed array of u32, big endian") refl)
    (if_name (n == 67) (Some (codes "typed array of u64, big endian")) _
    (named_test (codes "typed array of u64, big endian") refl)
    (if_name (n == 68) (Some (codes "typed array of u8, clamped")) _
    (named_test (codes "typed array of u8, clamped") refl)
    (if_name (n == 69) (Some (codes "typed array of u16, little endian")) _
    (named_test (codes "typed array of u16, little endian") refl)
    (if_name (n == 70) (Some (codes "typed array of u32, little endian")) _
    (named_test (codes "typed array of u32, little endian") refl)
    (if_name (n == 71) (Some (codes "typed array of u64, little endian")) _
    (named_test (codes "typed array of u64, little endian") refl)
    (if_name (n == 72) (Some (codes "typed array of i8")) _ (named_test (codes "typed array of i8") refl)
    (if_name (n == 73) (Some (codes "typed array of i16, big endian, twos-complement")) _
    (named_test (codes "typed array of i16, big endian, twos-complement") refl)
    (if_name (n == 74) (Some (codes "typed array of i32, big endian, twos-complement")) _
    (named_test (codes "typed array of i32, big endian, twos-complement") refl)
    (if_name (n == 75) (Some (codes "typed array of i64, big endian, twos-complement")) _
    (named_test (codes "typed array of i64, big endian, twos-complement") refl)
    (if_name (n == 77) (Some (codes "typed array of i16, little endian, twos-complement")) _
    (named_test (codes "typed array of i16, little endian, twos-complement") refl)
    (if_name (n == 78) (Some (codes "typed array of i32, little endian, twos-complement")) _
    (named_test (codes "typed array of i32, little endian, twos-complement") refl)
    (if_name (n == 79) (Some (codes "typed array of i64, little endian, twos-complement")) _
    (named_test (codes "typed array of i64, little endian, twos-complement") refl)
    (if_name (n == 80) (Some (codes "typed array of f16, big endian")) _
    (named_test (codes "typed array of f16, big endian") refl)
    (if_name (n == 81) (Some (codes "typed array of f32, big endian")) _
    (named_test (codes "typed array of f32, big endian") refl)
    (if_name (n == 82) (Some (codes "typed array of f64, big endian")) _
    (named_test (codes "typed array of f64, big endian") refl)
    (if_name (n == 83) (Some (codes "typed array of f128, big endian")) _
    (named_test (codes "typed array of f128, big endian") refl)
    (if_name (n == 84) (Some (codes "typed array of f16, little endian")) _
    (named_test (codes "typed array of f16, little endian") refl)
    (if_name (n == 85) (Some (codes "typed array of f32, little endian")) _
    (named_test (codes "typed array of f32, little endian") refl)
    (if_name (n == 86) (Some (codes "typed array of f64, little endian")) _
    (named_test (codes "typed array of f64, little endian") refl)
    (if_name (n == 87) (Some (codes "typed array of f128, little endian")) _
    (named_test (codes "typed array of f128, little endian") refl) unnamed)))))))))))))))))))))))

pub tag_name_free : (n : ℕ) → FreeName (tag_name n)
tag_name_free n =
    (if_name (n == 0) (Some (codes "standard datetime string")) _ (named_test (codes "standard datetime string") refl)
    (if_name (n == 1) (Some (codes "epoch datetime value")) _ (named_test (codes "epoch datetime value") refl)
    (if_name (n == 2) (Some (codes "positive bignum")) _ (named_test (codes "positive bignum") refl)
    (if_name (n == 3) (Some (codes "negative bignum")) _ (named_test (codes "negative bignum") refl)
    (if_name (n == 4) (Some (codes "decimal fraction")) _ (named_test (codes "decimal fraction") refl)
    (if_name (n == 5) (Some (codes "bigfloat")) _ (named_test (codes "bigfloat") refl)
    (if_name (n == 21) (Some (codes "suggested base64url encoding")) _
    (named_test (codes "suggested base64url encoding") refl)
    (if_name (n == 22) (Some (codes "suggested base64 encoding")) _
    (named_test (codes "suggested base64 encoding") refl)
    (if_name (n == 23) (Some (codes "suggested base16 encoding")) _
    (named_test (codes "suggested base16 encoding") refl)
    (if_name (n == 24) (Some (codes "encoded cbor data item")) _ (named_test (codes "encoded cbor data item") refl)
    (if_name (n == 28) (Some (codes "shareable value")) _ (named_test (codes "shareable value") refl)
    (if_name (n == 29) (Some (codes "reference to shared value")) _
    (named_test (codes "reference to shared value") refl)
    (if_name (n == 32) (Some (codes "uri")) _ (named_test (codes "uri") refl)
    (if_name (n == 33) (Some (codes "base64url encoded text")) _ (named_test (codes "base64url encoded text") refl)
    (if_name (n == 34) (Some (codes "base64 encoded text")) _ (named_test (codes "base64 encoded text") refl)
    (if_name (n == 35) (Some (codes "regex")) _ (named_test (codes "regex") refl)
    (if_name (n == 36) (Some (codes "mime message")) _ (named_test (codes "mime message") refl)
    (if_name (n == 37) (Some (codes "uuid")) _ (named_test (codes "uuid") refl)
    (if_name (n == 52) (Some (codes "ipv4 address and/or prefix")) _
    (named_test (codes "ipv4 address and/or prefix") refl)
    (if_name (n == 54) (Some (codes "ipv6 address and/or prefix")) _
    (named_test (codes "ipv6 address and/or prefix") refl)
    (if_name (n == 63) (Some (codes "encoded cbor sequence")) _ (named_test (codes "encoded cbor sequence") refl)
    (if_name (n == 100) (Some (codes "epoch date value")) _ (named_test (codes "epoch date value") refl)
    (if_name (n == 260) (Some (codes "network address")) _ (named_test (codes "network address") refl)
    (if_name (n == 1004) (Some (codes "standard date string")) _ (named_test (codes "standard date string") refl)
    (if_name (n == 55799) (Some (codes "self describe cbor")) _ (named_test (codes "self describe cbor") refl)
    (array_name_free n))))))))))))))))))))))))))
