-- What the writer itself says of a number or a string in a note after it: of a number below tag 1 or 100 the date
-- (`time_note`), of a date's text the seconds or days since 1970 (`text_note`), of bytes the big number, UUID, address
-- or elements that their tag makes them (`IsTaggedNote`), or their characters (`characters_note`).
use Rattle.std.specs.Prelude.{◌≡◌, ◌⊎◌, ℕ, ◌+◌, ◌^◌, ◌<◌, ℤ, pos, negsuc, Bool, true, false, not, ◌&&◌, ◌||◌}
use Rattle.std.specs.Prelude.{◌==◌, nat_le, nat_lt, if◌then◌else◌, Option, Some, None, option_map, option_and_then}
use Rattle.std.specs.Prelude.{List, [], ◌++◌, length, codes, decimal, flat_map, encode_utf8}
use Rattle.std.specs.Int.Digits.{number_from_digits}
use Rattle.std.specs.List.{list_all}
use Rattle.uuid.specs.Text.{hyphenated_text, lower}
use Rattle.cbor_tokens.specs.Ascii.{apostrophe, backslash}
use Rattle.cbor_notes.specs.Address.{ipv4_text, ipv6_text, mac_text}
use Rattle.cbor_notes.specs.Date.{date_of_epoch, datetime_of_epoch, epoch_of_date}
use Rattle.cbor_notes.specs.DateTime.{epoch_of_datetime}
use Rattle.cbor_inside.specs.Rule.{says_what_bytes_are}
use Rattle.cbor_edn_writer.specs.Elements.{IsElementsNote}

-- ---- dates

-- the number, or -1 minus it; none from 2 ^ 63 on
abbrev pub signed_number : Bool → ℕ → Option ℤ
signed_number negative n = if nat_lt n (2 ^ 63) then Some (if negative then negsuc n else pos n) else None

-- of an integer right below tag 1 the moment that many seconds after 1970-01-01T00:00:00Z (RFC 8949, section 3.4.2),
-- and below tag 100 the day that many days after that date (RFC 8943)
abbrev pub time_note : ℕ → Bool → ℕ → Option (List ℕ)
time_note tag negative n =
    if tag == 1 then option_and_then datetime_of_epoch (signed_number negative n)
    else if tag == 100 then option_and_then date_of_epoch (signed_number negative n)
    else None

abbrev pub epoch_note : Option (List ℕ) → Option (List ℕ)
epoch_note number = option_map (λ digits. codes "epoch " ++ digits) number

-- of a text right below tag 0 the seconds since 1970 that it names (RFC 8949, section 3.4.1), and below tag 1004 the
-- days (RFC 8943)
abbrev pub text_note : ℕ → List ℕ → Option (List ℕ)
text_note tag text =
    if tag == 0 then epoch_note (epoch_of_datetime text)
    else if tag == 1004 then epoch_note (epoch_of_date text)
    else None

-- ---- bytes below a tag

-- the digits of a number of at most 16 bytes, and a negative one is -1 minus that number; none below -(2 ^ 128 - 1)
abbrev pub big_number : Bool → List ℕ → Option (List ℕ)
big_number negative b =
    if nat_lt 16 (length b) then None
    else if not negative then Some (decimal (number_from_digits 256 b))
    else if nat_lt (number_from_digits 256 b + 1) (2 ^ 128)
    then Some (codes "-" ++ decimal (number_from_digits 256 b + 1))
    else None

-- hex digits in groups of 8, 4, 4, 4 and 12
abbrev pub uuid_note : List ℕ → Option (List ℕ)
uuid_note b = if length b == 16 then Some (hyphenated_text lower b) else None

-- an IPv4 address has 4 bytes and an IPv6 address 16 (tags 52 and 54, RFC 9164; both and a MAC address of 6, tag 260)
abbrev pub address : ℕ → List ℕ → Option (List ℕ)
address tag b =
    if not (tag == 54) && (length b == 4) then Some (ipv4_text b)
    else if not (tag == 52) && (length b == 16) then Some (ipv6_text b)
    else if (tag == 260) && (length b == 6) then Some (mac_text b)
    else None

-- below tags 2 and 3 (RFC 8949, section 3.4.3), 37, 52, 54 and 260
abbrev pub tagged_note : ℕ → List ℕ → Option (List ℕ)
tagged_note tag b =
    if (tag == 2) || (tag == 3) then big_number (tag == 3) b
    else if tag == 37 then uuid_note b
    else address tag b

-- below those of typed arrays a note is of their elements
abbrev pub is_array : ℕ → Bool
is_array tag = nat_le 64 tag && nat_le tag 87

-- ---- characters

-- a byte that is a printable character of ASCII
abbrev pub is_character : ℕ → Bool
is_character b = nat_le 32 b && nat_lt b 127

-- at least one such byte, and at most 64
abbrev pub are_characters : List ℕ → Bool
are_characters b = nat_lt 0 (length b) && nat_le (length b) 64 && list_all is_character b

-- the character with this number, in UTF-8; `'` and `\` have a backslash before them
abbrev pub escaped_character : ℕ → List ℕ
escaped_character b = (if (b == apostrophe) || (b == backslash) then codes "\\" else []) ++ encode_utf8 b

-- the characters that bytes are, between apostrophes
abbrev pub characters_note : List ℕ → Option (List ℕ)
characters_note b =
    if are_characters b then Some (codes "'" ++ (flat_map escaped_character b ++ codes "'")) else None

-- ---- byte strings

-- what is said of bytes right below this tag: their elements, or what the tag makes of them
abbrev pub IsTaggedNote : ℕ → List ℕ → Option (List ℕ) → Type 0
IsTaggedNote tag b said =
    ((is_array tag ≡ true) × IsElementsNote tag b said) ⊎ ((is_array tag ≡ false) × (said ≡ tagged_note tag b))

-- And of bytes where a caller has a note after them, or has none: their characters stand there only without one.
abbrev pub IsUntaggedNote : Bool → List ℕ → Option (List ℕ) → Type 0
IsUntaggedNote has_other b said = said ≡ (if has_other then None else characters_note b)

abbrev pub IsBytesNote : Option ℕ → Bool → List ℕ → Option (List ℕ) → Type 0
IsBytesNote None has_other b said = IsUntaggedNote has_other b said
IsBytesNote (Some tag) has_other b said =
    ((says_what_bytes_are tag ≡ true) × IsTaggedNote tag b said)
    ⊎ ((says_what_bytes_are tag ≡ false) × IsUntaggedNote has_other b said)

-- of a simple value only that it takes two bytes, which RFC 8949 does not allow below 32
abbrev pub IsSimpleNote : ℕ → Option (List ℕ) → Type 0
IsSimpleNote n said = (said ≡ None) ⊎ ((n < 32) × (said ≡ Some (codes "two bytes")))
