-- The texts of comments on addresses, UUIDs, elements of typed arrays and decoded bytes have no line feed: `ipv4_text`,
-- `ipv6_text`, `mac_text`, `uuid_lines`, `base58_of`, `element_text`, `decoded_lines` and `base64_lines`.
use Rattle.std.proofs.Common.{◌≡◌, ◌≢◌, ℕ, zero, suc, ◌+◌, ◌-◌, ◌*◌, ◌^◌, ◌==◌, Bool, true, false, not, cond, List, []}
use Rattle.std.proofs.Common.{◌∷◌, ◌++◌, map, length, take, drop, if◌then◌else◌, replicate, slice_index, codes, decimal}
use Rattle.std.proofs.Common.{Option, Some, None, unwrap_or, option_map, nat_lt, refl, arith}
use Rattle.std.specs.Fmt.{digits}
use Rattle.std.specs.Int.Digits.{number_from_digits}
use Rattle.std.specs.List.{AllByRecursion, join_with_byte, list_all}
use Rattle.hex.specs.Hex.{encode_lower}
use Rattle.uuid.specs.Parts.{variant_of, version_of}
use Rattle.uuid.specs.Text.{by_index, digit_place, hex_digit, hyphen, hyphenated_text, is_hyphen_place, lower, nibble}
use Rattle.uuid.specs.Uuid.{version_num}
use Rattle.uuid.specs.declared.Variant.{Variant}
use Rattle.uuid.specs.declared.Variant.TheVariants.{NCS, RFC4122, Microsoft, Future}
use Rattle.uuid.specs.declared.Version.{Version}
use Rattle.uuid.specs.declared.Version.TheVariants.{Nil, Mac, Dce, Md5, Random, Sha1, SortMac, SortRand, Custom, Max}
use Rattle.cbor_tokens.specs.Ascii.{dot, colon}
use Rattle.cbor_notes.specs.Address.{groups_text, hex_text, ipv4_text, ipv6_text, mac_text, shortened}
use Rattle.cbor_notes.specs.Base58.{base58_of, characters}
use Rattle.cbor_notes.specs.DecodedLines.{base64_lines, decoded_line, decoded_lines}
use Rattle.cbor_notes.specs.Element.{big_endian, element_text, kind, signed_text, value, value_text, word}
use Rattle.cbor_notes.specs.Identifier.{fields_line, base16_line, base58_line, base64_line, uuid_lines, variant_name}
use Rattle.cbor_notes.specs.Identifier.{version_name}
use Rattle.cbor_notes.specs.Text.{grouped, quoted_bytes}
use Rattle.cbor_notes.specs.Element.{Kind}
use Rattle.cbor_notes.specs.Element.{unsigned, signed, float}
use Rattle.cbor_notes.proofs.columns.OneLine.{Free, from_test, free_both, free_cond, free_digit, free_same}
use Rattle.cbor_notes.proofs.columns.OneLine.{free_symbols, zero_other, decimal_line, digits_line, grouped_line}
use Rattle.cbor_notes.proofs.columns.OneLine.{hex_line, quoted_line}

-- words without a line feed, as one sees by computing
abbrev Plain : List ℕ → Type 0
Plain words = list_all (λ b. not (b == 10)) words ≡ true

-- what holds of every image holds of all that a list is turned into
all_map : {X Y : Type 0} (P : Y → Type 0) (f : X → Y) → ((x : X) → P (f x)) → (xs : List X)
    → AllByRecursion P (map f xs)
all_map P f each [] = tt
all_map P f each (x ∷ xs) = (each x, all_map P f each xs)

-- a text and fixed words after an earlier text
free_words : (front text words : List ℕ) → Free 10 front → Free 10 text → Plain words → Free 10 (front ++ text ++ words)
free_words front text words before free plain =
    free_both 10 (front ++ text) words (free_both 10 front text before free) (from_test 10 words plain)

-- a text between two fixed words
free_between : (before text after : List ℕ) → Plain before → Free 10 text → Plain after
    → Free 10 (before ++ text ++ after)
free_between before text after plain free = free_words before text after (from_test 10 before plain) free

-- addresses
free_joined : {X : Type 0} (between : ℕ) (f : X → List ℕ) → between ≢ 10 → ((x : X) → Free 10 (f x)) → (xs : List X)
    → Free 10 (join_with_byte between (map f xs))
free_joined between f other each [] = tt
free_joined between f other each (x ∷ []) = each x
free_joined between f other each (x ∷ y ∷ xs) =
    free_both 10 (f x) (between ∷ join_with_byte between (map f (y ∷ xs))) (each x)
    (other, free_joined between f other each (y ∷ xs))

dot_other : dot ≢ 10
dot_other e = cc e

colon_other : colon ≢ 10
colon_other e = cc e

pub ipv4_line : (octets : List ℕ) → Free 10 (ipv4_text octets)
ipv4_line octets = free_joined dot decimal dot_other decimal_line octets

pub mac_line : (octets : List ℕ) → Free 10 (mac_text octets)
mac_line octets = free_joined colon (λ octet. encode_lower (octet ∷ [])) colon_other (λ octet. hex_line (octet ∷ []))
    octets

segments_line : (groups : List ℕ) → Free 10 (groups_text groups)
segments_line groups = free_joined colon (digits 16 false) colon_other (digits_line 16) groups

shortened_line : (groups : List ℕ) (start count : ℕ) → Free 10 (shortened groups start count)
shortened_line groups start count =
    free_both 10 (groups_text (take start groups) ++ codes "::") (groups_text (drop (start + count) groups))
    (free_both 10 (groups_text (take start groups)) (codes "::") (segments_line (take start groups))
    (from_test 10 (codes "::") refl))
    (segments_line (drop (start + count) groups))

hex_text_line : (groups : List ℕ) → Free 10 (hex_text groups)
unfolding hex_text
hex_text_line groups = free_cond 10 _ (shortened groups _ _) (groups_text groups) (shortened_line groups _ _)
    (segments_line groups)

pub ipv6_line : (octets : List ℕ) → Free 10 (ipv6_text octets)
unfolding ipv6_text
ipv6_line octets =
    free_cond 10 _ (codes "::ffff:" ++ ipv4_text (drop 12 octets)) (hex_text _)
    (free_both 10 (codes "::ffff:") (ipv4_text (drop 12 octets)) (from_test 10 (codes "::ffff:") refl)
    (ipv4_line (drop 12 octets)))
    (hex_text_line _)

-- identifiers
variant_plain : (v : Variant) → Plain (variant_name v)
variant_plain NCS = refl
variant_plain RFC4122 = refl
variant_plain Microsoft = refl
variant_plain Future = refl

version_plain : (v : Option Version) → Plain (version_name v)
version_plain None = refl
version_plain (Some Nil) = refl
version_plain (Some Mac) = refl
version_plain (Some Dce) = refl
version_plain (Some Md5) = refl
version_plain (Some Random) = refl
version_plain (Some Sha1) = refl
version_plain (Some SortMac) = refl
version_plain (Some SortRand) = refl
version_plain (Some Custom) = refl
version_plain (Some Max) = refl

fields_free : (bytes : List ℕ) → Free 10 (fields_line bytes)
fields_free bytes =
    let variant = variant_name (variant_of (slice_index bytes 8)) in
    let version = version_name (version_of bytes) in
    let number = decimal (version_num bytes) in
    let one = codes "uuid(variant(" ++ variant ++ codes "), version(" in
    free_words (one ++ number ++ codes ", ") version (codes "))")
    (free_words one number (codes ", ")
    (free_between (codes "uuid(variant(") variant (codes "), version(") refl
    (from_test 10 variant (variant_plain (variant_of (slice_index bytes 8)))) refl)
    (decimal_line (version_num bytes)) refl)
    (from_test 10 version (version_plain (version_of bytes))) refl

other_cond : (c : ℕ) (b : Bool) (x y : ℕ) → x ≢ c → y ≢ c → cond b x y ≢ c
other_cond c b x y h k = elim b as (λ v. cond v x y ≢ c) [ true ↦ h | false ↦ k ]

free_by_index : (n : ℕ) (f : ℕ → ℕ) → ((k : ℕ) → f k ≢ 10) → Free 10 (by_index n f)
unfolding by_index
free_by_index zero f each = tt
free_by_index (suc n) f each = free_both 10 (by_index n f) (f n ∷ []) (free_by_index n f each) (each n, tt)

hyphen_other : hyphen ≢ 10
hyphen_other e = cc e

hex_digit_other : (d : ℕ) → hex_digit lower d ≢ 10
hex_digit_other d = other_cond 10 (nat_lt d 10) (48 + d) (97 + d - 10) (λ e. omega arith) (λ e. omega arith)

hyphenated_line : (bytes : List ℕ) → Free 10 (hyphenated_text lower bytes)
hyphenated_line bytes =
    free_by_index 36 (λ k. if is_hyphen_place k then hyphen else hex_digit lower (nibble bytes (digit_place k)))
    (λ k. other_cond 10 (is_hyphen_place k) hyphen (hex_digit lower (nibble bytes (digit_place k))) hyphen_other
    (hex_digit_other (nibble bytes (digit_place k))))

pub base58_of_line : (bytes : List ℕ) → Free 10 (base58_of bytes)
unfolding base58_of
base58_of_line bytes =
    free_both 10 (replicate _ 49) (map (slice_index characters) _) (free_same 10 49 _ (λ e. cc e))
    (all_map (λ b. b ≢ 10) (slice_index characters)
    (λ k. free_digit 10 characters k zero_other (from_test 10 characters refl)) _)

base64_free : (bytes : List ℕ) → Free 10 (base64_line bytes)
base64_free bytes =
    let table = codes "ABCDEFGHIJKLMNOPQRSTUVWXYZabcdefghijklmnopqrstuvwxyz0123456789+/" in
    free_between (codes "base64(") _ (codes ")") refl
    (free_both 10 _ [] (free_symbols table (from_test 10 table refl) bytes) tt) refl

base16_free : (bytes : List ℕ) → Free 10 (base16_line bytes)
base16_free bytes = free_between (codes "base16(") (hyphenated_text lower bytes) (codes ")") refl
    (hyphenated_line bytes) refl

base58_free : (bytes : List ℕ) → Free 10 (base58_line bytes)
base58_free bytes = free_between (codes "base58(") (base58_of bytes) (codes ")") refl (base58_of_line bytes) refl

pub uuid_lines_line : (bytes : List ℕ) → AllByRecursion (Free 10) (uuid_lines bytes)
uuid_lines_line bytes = (fields_free bytes, (base16_free bytes, (base58_free bytes, (base64_free bytes, tt))))

-- elements
word_plain : (k : Kind) → Plain (word k)
word_plain unsigned = refl
word_plain signed = refl
word_plain float = refl

signed_line : (bytes number : ℕ) → Free 10 (signed_text bytes number)
signed_line bytes number =
    free_cond 10 (nat_lt number (2 ^ (8 * bytes - 1))) (grouped number false) (grouped (2 ^ (8 * bytes) - number) true)
    (grouped_line number false) (grouped_line (2 ^ (8 * bytes) - number) true)

value_line : (k : Kind) (bytes : List ℕ) → Free 10 (value k bytes)
value_line unsigned bytes = grouped_line (number_from_digits 256 bytes) false
value_line signed bytes = signed_line (length bytes) (number_from_digits 256 bytes)
value_line float bytes = hex_line bytes

value_text_line : (k : Kind) (bytes : List ℕ) → Free 10 (value_text k bytes)
value_text_line k bytes =
    free_words (word k ++ codes "(") (value k bytes) (codes ")")
    (free_both 10 (word k) (codes "(") (from_test 10 (word k) (word_plain k)) (from_test 10 (codes "(") refl))
    (value_line k bytes) refl

free_if : (b : Bool) (text : List ℕ) → Free 10 text → Free 10 (unwrap_or (cond b (Some text) None) [])
free_if true text free = free
free_if false text free = tt

pub element_line : (tag : ℕ) (bytes : List ℕ) → Free 10 (unwrap_or (element_text tag bytes) [])
unfolding element_text
element_line tag bytes = free_if _ (value_text (kind tag) (big_endian tag bytes))
    (value_text_line (kind tag) (big_endian tag bytes))

-- decoded lines
decoded_line_line : (width : ℕ) (piece : List ℕ) → Free 10 (decoded_line width piece)
unfolding decoded_line
decoded_line_line width piece =
    free_both 10 (encode_lower piece ++ replicate (width - 2 * length piece) 32 ++ codes " # ") (quoted_bytes piece)
    (free_words (encode_lower piece) (replicate (width - 2 * length piece) 32) (codes " # ") (hex_line piece)
    (free_same 10 32 _ (λ e. cc e)) refl)
    (quoted_line piece)

pub decoded_lines_line : (bytes : List ℕ) → AllByRecursion (Free 10) (decoded_lines bytes)
unfolding decoded_lines
decoded_lines_line bytes = all_map (Free 10) _ (λ n. decoded_line_line _ _) _

lines_if : (found : Option (List ℕ)) → AllByRecursion (Free 10) (unwrap_or (option_map decoded_lines found) [])
lines_if None = tt
lines_if (Some bytes) = decoded_lines_line bytes

pub base64_lines_line : (url : Bool) (text : List ℕ) → AllByRecursion (Free 10) (unwrap_or (base64_lines url text) [])
unfolding base64_lines
base64_lines_line url text = lines_if _
