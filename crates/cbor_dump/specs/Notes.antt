-- `value_note`: the note of a dump on the value of a tag, such as the date of a number of days. It comes below the
-- lines of the value. The notes on embedded items (tags 24 and 63) are in `Dump.antt`.
use Rattle.std.specs.Prelude.{ℕ, ◌-◌, ◌%◌, ◌==◌, nat_lt, pos, negsuc, Bool, true, Option, Some, None, List, [], ◌∷◌}
use Rattle.std.specs.Prelude.{◌++◌, length, replicate, codes, decimal, false, nat_eq, if◌then◌else◌}
use Rattle.std.specs.List.{ends_with}
use Rattle.cbor_notes.specs.Address.{ipv4_text, ipv6_text, mac_text}
use Rattle.cbor_notes.specs.Date.{date_of_epoch, epoch_of_date, datetime_of_epoch}
use Rattle.cbor_notes.specs.DateTime.{epoch_of_datetime}
use Rattle.cbor_notes.specs.DecodedLines.{base64_lines}
use Rattle.cbor_notes.specs.Element.{element_size}
use Rattle.cbor_notes.specs.Identifier.{fields_line, base16_line, base58_line, base64_line}
use Rattle.cbor_notes.specs.Text.{grouped, escaped_text}
use Rattle.cbor_notes.specs.Url.{is_url}
use Rattle.cbor_dump.specs.declared.addresses.Family.{Family}
use Rattle.cbor_dump.specs.declared.addresses.Family.TheVariants.{IPv4, IPv6}
use Rattle.cbor_grammar.specs.Item.{integer, negative, string, float, simple, Item, atom, array, Items, no_items, item}
use Rattle.cbor_grammar.specs.declared.strings.StringKind.TheVariants.{Bytes, Text}
use Rattle.cbor_dump.specs.Comments.{in_brackets}

-- a note: its text, and the texts one deeper that belong to it
pub record Note : Type 0 where
  pub text : List ℕ
  pub below : List (List ℕ)

-- a note with nothing below it
abbrev pub plain_note : List ℕ → Note
plain_note text = record { text = text; below = [] }

-- a text in brackets after a word, or `otherwise` where there is no text
abbrev pub word_or : List ℕ → List ℕ → Option (List ℕ) → List ℕ
word_or word otherwise (Some text) = in_brackets word text
word_or word otherwise None = otherwise

-- ---- dates and times

-- tag 0: the number of seconds from 1970 to a date and time (RFC 3339)
abbrev pub datetime_note : Item → List ℕ
datetime_note (atom (string Text c)) = word_or (codes "epoch") (codes "error parsing datetime")
    (epoch_of_datetime c.bytes)
datetime_note _ = codes "invalid type for datetime"

-- tag 1: the date and time of some seconds since 1970; a negative integer is -1 less the number that is encoded
abbrev pub epoch_datetime_note : Item → List ℕ
epoch_datetime_note (atom (integer n w)) =
    word_or (codes "datetime") (codes "offset is too large") (datetime_of_epoch (pos n))
epoch_datetime_note (atom (negative n w)) =
    word_or (codes "datetime") (codes "offset is too large") (datetime_of_epoch (negsuc n))
epoch_datetime_note (atom (float bits w)) = codes "epoch datetime of a float is not computed"
epoch_datetime_note _ = codes "invalid type for epoch datetime"

-- tag 100: the date of some days since 1970-01-01
abbrev pub epoch_date_note : Item → List ℕ
epoch_date_note (atom (integer n w)) = word_or (codes "date") (codes "date offset is too large for this tool")
    (date_of_epoch (pos n))
epoch_date_note (atom (negative n w)) = word_or (codes "date") (codes "date offset is too large for this tool")
    (date_of_epoch (negsuc n))
epoch_date_note _ = codes "invalid type for epoch date"

-- tag 1004: the number of days from 1970-01-01 to a date
abbrev pub date_note : Item → List ℕ
date_note (atom (string Text c)) = word_or (codes "epoch") (codes "error parsing date") (epoch_of_date c.bytes)
date_note _ = codes "invalid type for date"

-- ---- shared values

-- tag 28: the value's number, which is how many such tags began before it
abbrev pub shareable_note : ℕ → List ℕ
shareable_note number = in_brackets (codes "reference") (grouped number false)

-- tag 29: the number of a shared value, and whether that was shared before
abbrev pub reference_note : ℕ → Item → List ℕ
reference_note known (atom (integer n w)) =
    in_brackets (codes "reference-to") (grouped n false)
    ++ (if nat_lt n known then [] else codes ", not previously shared")
reference_note known _ = codes "invalid type for shared ref"

-- ---- texts that encode something

-- tag 32: whether the text is a URL
abbrev pub url_words : Bool → List ℕ
url_words valid =
    (if valid then codes "valid" else codes "invalid") ++ codes " URL (checked against URL Standard, not RFC 3986)"

abbrev pub url_note : Item → List ℕ
url_note (atom (string Text c)) = url_words (is_url c.bytes)
url_note _ = codes "invalid type for uri"

-- tags 33 and 34: what a text in base 64 encodes
abbrev pub base64_name : Bool → List ℕ
base64_name url = if url then codes "base64url" else codes "base64"

abbrev pub decoded_note : List ℕ → Option (List (List ℕ)) → Note
decoded_note name (Some lines) = record { text = name ++ codes " decoded"; below = lines }
decoded_note name None = plain_note (codes "invalid data for " ++ name)

abbrev pub base64_note : Bool → Item → Note
base64_note url (atom (string Text c)) = decoded_note (base64_name url) (base64_lines url c.bytes)
base64_note url _ = plain_note (codes "invalid type for " ++ base64_name url)

-- tag 37: the fields of a UUID, and its bytes in other bases
abbrev pub uuid_fields : List ℕ → Note
uuid_fields bytes = record {
  text = fields_line bytes;
  below = base16_line bytes ∷ base58_line bytes ∷ base64_line bytes ∷ [];
}

abbrev pub uuid_note : Item → Note
uuid_note (atom (string Bytes c)) =
    if length c.bytes == 16 then uuid_fields c.bytes else plain_note (codes "invalid data length for uuid")
uuid_note _ = plain_note (codes "invalid type for uuid")

-- ---- network addresses (RFC 9164)

abbrev pub family_name : Family → List ℕ
family_name IPv4 = codes "IPv4"
family_name IPv6 = codes "IPv6"

-- how many bytes an address has
abbrev pub family_size : Family → ℕ
family_size IPv4 = 4
family_size IPv6 = 16

abbrev pub address_text : Family → List ℕ → List ℕ
address_text IPv4 = ipv4_text
address_text IPv6 = ipv6_text

-- the family's name, what is shown of it, and that between brackets
abbrev pub shown : Family → List ℕ → List ℕ → List ℕ
shown f what text = in_brackets (family_name f ++ codes " " ++ what) text

abbrev pub invalid_address : List ℕ
invalid_address = codes "invalid type for network address"

abbrev pub invalid_length : Family → List ℕ
invalid_length f = codes "invalid data length for " ++ family_name f ++ codes " address"

-- an address alone
abbrev pub plain_address : Family → List ℕ → List ℕ
plain_address f bytes =
    if length bytes == family_size f then shown f (codes "address") (address_text f bytes) else invalid_length f

-- a prefix: the first bytes of an address, without the zeros at its end
abbrev pub prefix_note : Family → ℕ → List ℕ → List ℕ
prefix_note f len bytes =
    if ends_with nat_eq bytes (0 ∷ []) then codes "invalid prefix, ends with zero byte"
    else if nat_lt (family_size f) (length bytes) then invalid_length f
    else shown f (codes "prefix")
    (address_text f (bytes ++ replicate (family_size f - length bytes) 0) ++ codes "/" ++ decimal len)

-- the zone of an address: there is none, it has this text, or what is in its place is not a zone
pub data Zone : Type 0 where
  no_zone : Zone
  zone_text : List ℕ → Zone
  not_zone : Zone

-- a zone is a number or a name
abbrev pub zone_at : Items → Zone
zone_at no_items = no_zone
zone_at (item (atom (integer n w)) is) = zone_text (decimal n)
zone_at (item (atom (string Text c)) is) = zone_text (escaped_text c.bytes)
zone_at _ = not_zone

-- an address with the length of its prefix, and perhaps a zone
abbrev pub with_length : Family → List ℕ → ℕ → Zone → List ℕ
with_length f bytes len (zone_text z) = shown f (codes "address-and-zone-and-prefix")
    (address_text f bytes ++ codes "%" ++ z ++ codes "/" ++ decimal len)
with_length f bytes len no_zone = shown f (codes "address-and-prefix")
    (address_text f bytes ++ codes "/" ++ decimal len)
with_length f bytes len not_zone = invalid_address

-- an address with a zone and no such length
abbrev pub with_zone : Family → List ℕ → Zone → List ℕ
with_zone f bytes (zone_text z) = shown f (codes "address-and-zone") (address_text f bytes ++ codes "%" ++ z)
with_zone f bytes _ = invalid_address

-- the simple value null (RFC 7049 section 2.3)
abbrev pub null_value : ℕ
null_value = 22

-- what follows an address: the length of its prefix or null, and perhaps a zone
abbrev pub interface_note : Family → List ℕ → Items → List ℕ
interface_note f bytes (item (atom (integer len w)) is) = with_length f bytes len (zone_at is)
interface_note f bytes (item (atom (simple n)) is) =
    if n == null_value then with_zone f bytes (zone_at is) else invalid_address
interface_note f bytes _ = invalid_address

-- a prefix by its length and its bytes, or an address by its bytes and what follows them
abbrev pub members_note : Family → Items → List ℕ
members_note f (item (atom (integer len w)) (item (atom (string Bytes c)) is)) = prefix_note f len c.bytes
members_note f (item (atom (string Bytes c)) is) =
    if length c.bytes == family_size f then interface_note f c.bytes is else invalid_length f
members_note f _ = invalid_address

-- tags 52 and 54
abbrev pub address_note : Family → Item → List ℕ
address_note f (atom (string Bytes c)) = plain_address f c.bytes
address_note f (array is w) = members_note f is
address_note f _ = invalid_address

-- tag 260: an address; its length says of which kind
abbrev pub network_address : List ℕ → List ℕ
network_address bytes =
    if length bytes == 4 then in_brackets (codes "IPv4 address") (ipv4_text bytes)
    else if length bytes == 6 then in_brackets (codes "MAC address") (mac_text bytes)
    else if length bytes == 16 then in_brackets (codes "IPv6 address") (ipv6_text bytes)
    else codes "invalid data length for network address"

abbrev pub network_note : Item → List ℕ
network_note (atom (string Bytes c)) = network_address c.bytes
network_note _ = invalid_address

-- ---- typed arrays (RFC 8746)

-- why a value is not a typed array with elements of this size; whole elements are shown, and need no note
abbrev pub typed_array_note : Option ℕ → Item → Option Note
typed_array_note None _ = None
typed_array_note (Some size) (atom (string Bytes c)) =
    if length c.bytes % size == 0 then None else Some (plain_note (codes "invalid data length for typed array"))
typed_array_note (Some size) _ = Some (plain_note (codes "invalid type for typed array"))

-- ---- the note of each tag

-- The note on a value right below a tag, where `known` values were shared before the tag. The notes of tags 24 and 63
-- depend on more than the value: `notes` of Dump.antt has them.
unfoldable pub value_note : ℕ → ℕ → Item → Option Note
value_note known t i =
    if t == 0 then Some (plain_note (datetime_note i))
    else if t == 1 then Some (plain_note (epoch_datetime_note i))
    else if t == 28 then Some (plain_note (shareable_note known))
    else if t == 29 then Some (plain_note (reference_note known i))
    else if t == 32 then Some (plain_note (url_note i))
    else if t == 33 then Some (base64_note true i)
    else if t == 34 then Some (base64_note false i)
    else if t == 37 then Some (uuid_note i)
    else if t == 52 then Some (plain_note (address_note IPv4 i))
    else if t == 54 then Some (plain_note (address_note IPv6 i))
    else if t == 100 then Some (plain_note (epoch_date_note i))
    else if t == 260 then Some (plain_note (network_note i))
    else if t == 1004 then Some (plain_note (date_note i))
    else typed_array_note (element_size t) i
