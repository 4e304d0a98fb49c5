-- No text of a `value_note` has a line feed (`FreeNote`). For `src/notes`: the parts of a note on a UUID, a reference
-- or an address prefix make the note of the definitions, and the days and seconds of the calendar fit in 64 bits.
use Rattle.std.proofs.Common.{◌≡◌, ◌<◌, ◌≤◌, ℕ, ℤ, ◌≤ℤ◌, neg_ℤ, ◌+◌, ◌/◌, ◌-◌, ◌%◌, ◌==◌, Bool, true, false, cond}
use Rattle.std.proofs.Common.{nat_lt, nat_eq, pos, negsuc, List, [], ◌∷◌, ◌++◌, length, map, take, drop, replicate}
use Rattle.std.proofs.Common.{codes, decimal, if◌then◌else◌, Option, Some, None, IfSome, unwrap_or, FitsSigned, w64}
use Rattle.std.proofs.Common.{refl, sym, ap, ◌∙◌, arith}
use Rattle.std.proofs.Math.Seq.{take-append-add}
use Rattle.std.specs.Prelude.{slice_index_or}
use Rattle.std.proofs.lemmas.Bool.{eq-eqb, lt-ltb, le-ltb}
use Rattle.std.proofs.lemmas.List.{drop-replicate, take-replicate}
use Rattle.std.proofs.lemmas.Int.{ints}
use Rattle.std.specs.Array.{IsWholeChunk}
use Rattle.std.specs.Int.{int_div_euclid}
use Rattle.std.specs.List.{AllByRecursion, ends_with, remove}
use Rattle.cbor_notes.specs.Address.{ipv4_text, ipv6_text, mac_text}
use Rattle.cbor_notes.specs.Date.{date_of_epoch, epoch_of_date, datetime_of_epoch}
use Rattle.cbor_notes.specs.DateTime.{epoch_of_datetime}
use Rattle.cbor_notes.specs.DecodedLines.{base64_lines}
use Rattle.cbor_notes.specs.Element.{element_size}
use Rattle.cbor_notes.specs.Identifier.{uuid_lines, fields_line, base16_line, base58_line, base64_line as base64_text}
use Rattle.cbor_notes.specs.Text.{grouped}
use Rattle.cbor_notes.specs.Url.{is_url}
use Rattle.cbor_notes.proofs.columns.CommentTexts.{ipv4_line, ipv6_line, mac_line, uuid_lines_line, base64_lines_line}
use Rattle.cbor_notes.proofs.columns.DateLines.{date_of_epoch_line, datetime_of_epoch_line, epoch_of_date_line}
use Rattle.cbor_notes.proofs.columns.DateLines.{epoch_of_datetime_line}
use Rattle.cbor_notes.proofs.columns.OneLine.{Free, from_test, free_both, free_cond, decimal_line, grouped_line}
use Rattle.cbor_notes.proofs.columns.OneLine.{escaped_line}
use Rattle.cbor_dump.proofs.dump.CommentLines.{brackets_line}
use Rattle.cbor_grammar.specs.declared.width.IntegerWidth.{IntegerWidth}
use Rattle.cbor_dump.specs.Comments.{in_brackets}
use Rattle.cbor_grammar.specs.Item.{Chunk, Item, Items, atom, integer, negative, string, float, simple, array, item}
use Rattle.cbor_grammar.specs.declared.strings.StringKind.TheVariants.{Bytes, Text}
use Rattle.cbor_dump.specs.Notes.{Note, plain_note, Zone, no_zone, zone_text, not_zone}
use Rattle.cbor_dump.specs.declared.addresses.Family.{Family}
use Rattle.cbor_dump.specs.declared.addresses.Family.TheVariants.{IPv4, IPv6}
use Rattle.cbor_dump.specs.Notes.{null_value}
use Rattle.cbor_dump.specs.Notes.{word_or, datetime_note, epoch_datetime_note, epoch_date_note, date_note}
use Rattle.cbor_dump.specs.Notes.{shareable_note, reference_note, url_words, url_note, base64_name, decoded_note}
use Rattle.cbor_dump.specs.Notes.{base64_note, uuid_fields, uuid_note, family_name, family_size, address_text, shown}
use Rattle.cbor_dump.specs.Notes.{invalid_address, invalid_length, plain_address, prefix_note, zone_at, with_length}
use Rattle.cbor_dump.specs.Notes.{with_zone, interface_note, members_note, address_note, network_address}
use Rattle.cbor_dump.specs.Notes.{network_note}
use Rattle.cbor_dump.specs.Notes.{typed_array_note, value_note}

-- ---- what the functions of a note meet

-- sixteen bytes are those of a UUID
pub uuid_is : (i : Item) (c : Chunk) (bytes octets : List ℕ) → i ≡ atom (string Bytes c) → bytes ≡ c.bytes
    → IsWholeChunk bytes octets 16 → uuid_note i ≡ uuid_fields octets
uuid_is i c bytes octets seen are whole =
    let long : (length c.bytes == 16) ≡ true = eq-eqb (length c.bytes) 16 (rw (sym are) whole.long) in
    rw (seen, long, whole.same, are) refl

-- the first of its four texts, and below it the others
pub first_some : {X : Type 0} (show : X → List ℕ) (lines : List X) (octets : List ℕ)
    → map show lines ≡ uuid_lines octets → 0 < length lines
first_some show [] octets e = absurd cc
first_some show (x ∷ xs) octets e = omega arith

pub fields_are : {X : Type 0} (show : X → List ℕ) (lines : List X) (octets : List ℕ) (first : X) (others : List X)
    → map show lines ≡ uuid_lines octets → first ≡ slice_index_or lines 0 first → others ≡ remove lines 0
    → record { text = show first; below = map show others } ≡ uuid_fields octets
fields_are show [] octets first others e is rest = absurd cc
fields_are show (x ∷ xs) octets first others e is rest =
    let text : show x ≡ fields_line octets = cc in
    let below : map show xs ≡ base16_line octets ∷ base58_line octets ∷ base64_text octets ∷ [] = cc in
    rw (is, rest, text, below) refl

pub reference_is : (known n : ℕ) (w : IntegerWidth) (i : Item) (note unknown whole : List ℕ) → i ≡ atom (integer n w)
    → note ≡ in_brackets (codes "reference-to") (grouped n false)
    → unknown ≡ (if nat_lt n known then [] else codes ", not previously shared") → whole ≡ note ++ unknown
    → whole ≡ reference_note known i
reference_is known n w i note unknown whole seen front back is = rw (seen, is, front, back) refl

pub unknown_if : (n known : ℕ) (unknown : List ℕ) → n < known → unknown ≡ []
    → unknown ≡ (if nat_lt n known then [] else codes ", not previously shared")
unknown_if n known unknown less is = rw (lt-ltb n known less) is

pub unknown_else : (n known : ℕ) (unknown : List ℕ) → known ≤ n → unknown ≡ codes ", not previously shared"
    → unknown ≡ (if nat_lt n known then [] else codes ", not previously shared")
unknown_else n known unknown most is = rw (le-ltb n known most) is

-- the bytes of an address, those after them being zeros that are left away
pub filled_up : (bytes octets : List ℕ) (size n : ℕ) → octets ≡ bytes → n ≡ size → length bytes ≤ size → size ≤ 16
    → take n (octets ++ drop (length bytes) (replicate 16 0)) ≡ bytes ++ replicate (size - length bytes) 0
filled_up bytes octets size n are is short small =
    let sum : n ≡ length bytes + (size - length bytes) = omega arith in
    rw (are, sum, drop-replicate {X = ℕ} (length bytes) 16 0)
    (take-append-add bytes (replicate (16 - length bytes) 0) (size - length bytes)
    ∙ ap (λ zeros. bytes ++ zeros) (take-replicate (size - length bytes) (16 - length bytes) 0 (omega arith)))

pub size_small : (f : Family) → family_size f ≤ 16
size_small IPv4 = omega arith
size_small IPv6 = omega arith

pub prefix_is : (f : Family) (len : ℕ) (bytes : List ℕ) → ends_with nat_eq bytes (0 ∷ []) ≡ false
    → length bytes ≤ family_size f
    → prefix_note f len bytes ≡ shown f (codes "prefix")
    (address_text f (bytes ++ replicate (family_size f - length bytes) 0) ++ codes "/" ++ decimal len)
prefix_is f len bytes other short = rw (other, le-ltb (family_size f) (length bytes) short) refl

-- the days of the calendar are numbers of 64 bits
pub day_fits_64 : (day : ℤ) → neg_ℤ (pos 4_371_587) ≤ℤ day → day ≤ℤ pos 2_932_896 → FitsSigned w64 day
day_fits_64 day low high = omega (arith, ints)

-- and so are the moments
pub moment_fits_64 : (seconds : ℤ) → neg_ℤ (pos 4_371_587) ≤ℤ int_div_euclid seconds (pos 86400)
    → int_div_euclid seconds (pos 86400) ≤ℤ pos 2_932_896 → FitsSigned w64 seconds
moment_fits_64 (pos a) low high = let day : a / 86400 ≤ 2932896 = omega (arith, ints) in omega (arith, ints)
moment_fits_64 (negsuc a) low high = let day : a / 86400 ≤ 4371586 = omega (arith, ints) in omega (arith, ints)

-- ---- no text of a note has a line feed

abbrev pub FreeNote : Note → Type 0
FreeNote note = Free 10 note.text × AllByRecursion (Free 10) note.below

note_cond : (b : Bool) (x y : Note) → FreeNote x → FreeNote y → FreeNote (cond b x y)
note_cond true x y h k = h
note_cond false x y h k = k

some_cond : (b : Bool) (x y : Option Note) → IfSome x FreeNote → IfSome y FreeNote → IfSome (cond b x y) FreeNote
some_cond true x y h k = h
some_cond false x y h k = k

plain_cond : (b : Bool) (text : List ℕ) (y : Option Note) → Free 10 text → IfSome y FreeNote
    → IfSome (cond b (Some (plain_note text)) y) FreeNote
plain_cond b text y h k = some_cond b (Some (plain_note text)) y (h, tt) k

word_line : (word otherwise : List ℕ) (found : Option (List ℕ)) → Free 10 word → Free 10 otherwise
    → Free 10 (unwrap_or found []) → Free 10 (word_or word otherwise found)
word_line word otherwise (Some text) h k l = brackets_line word text h l
word_line word otherwise None h k l = k

-- dates and times
datetime_line : (i : Item) → Free 10 (datetime_note i)
datetime_line (atom (string Text c)) =
    word_line (codes "epoch") (codes "error parsing datetime") (epoch_of_datetime c.bytes)
    (from_test 10 (codes "epoch") refl)
    (from_test 10 (codes "error parsing datetime") refl) (epoch_of_datetime_line c.bytes)
datetime_line _ = from_test 10 (codes "invalid type for datetime") refl

moment_line : (n : ℤ) → Free 10 (word_or (codes "datetime") (codes "offset is too large") (datetime_of_epoch n))
moment_line n =
    word_line (codes "datetime") (codes "offset is too large") (datetime_of_epoch n)
    (from_test 10 (codes "datetime") refl)
    (from_test 10 (codes "offset is too large") refl) (datetime_of_epoch_line n)

epoch_datetime_line : (i : Item) → Free 10 (epoch_datetime_note i)
epoch_datetime_line (atom (integer n w)) = moment_line (pos n)
epoch_datetime_line (atom (negative n w)) = moment_line (negsuc n)
epoch_datetime_line (atom (float bits w)) = from_test 10 (codes "epoch datetime of a float is not computed") refl
epoch_datetime_line _ = from_test 10 (codes "invalid type for epoch datetime") refl

day_line : (n : ℤ) → Free 10 (word_or (codes "date") (codes "date offset is too large for this tool") (date_of_epoch n))
day_line n =
    word_line (codes "date") (codes "date offset is too large for this tool") (date_of_epoch n)
    (from_test 10 (codes "date") refl)
    (from_test 10 (codes "date offset is too large for this tool") refl) (date_of_epoch_line n)

epoch_date_line : (i : Item) → Free 10 (epoch_date_note i)
epoch_date_line (atom (integer n w)) = day_line (pos n)
epoch_date_line (atom (negative n w)) = day_line (negsuc n)
epoch_date_line _ = from_test 10 (codes "invalid type for epoch date") refl

date_line : (i : Item) → Free 10 (date_note i)
date_line (atom (string Text c)) =
    word_line (codes "epoch") (codes "error parsing date") (epoch_of_date c.bytes) (from_test 10 (codes "epoch") refl)
    (from_test 10 (codes "error parsing date") refl) (epoch_of_date_line c.bytes)
date_line _ = from_test 10 (codes "invalid type for date") refl

-- shared values
shareable_line : (number : ℕ) → Free 10 (shareable_note number)
shareable_line number = brackets_line (codes "reference") (grouped number false) (from_test 10 (codes "reference") refl)
    (grouped_line number false)

reference_line : (known : ℕ) (i : Item) → Free 10 (reference_note known i)
reference_line known (atom (integer n w)) =
    free_both 10 (in_brackets (codes "reference-to") (grouped n false))
    (if nat_lt n known then [] else codes ", not previously shared")
    (brackets_line (codes "reference-to") (grouped n false) (from_test 10 (codes "reference-to") refl)
    (grouped_line n false))
    (free_cond 10 (nat_lt n known) [] (codes ", not previously shared") tt
    (from_test 10 (codes ", not previously shared") refl))
reference_line known _ = from_test 10 (codes "invalid type for shared ref") refl

-- texts that encode something
words_line : (valid : Bool) → Free 10 (url_words valid)
words_line true = from_test 10 (url_words true) refl
words_line false = from_test 10 (url_words false) refl

url_line : (i : Item) → Free 10 (url_note i)
url_line (atom (string Text c)) = words_line (is_url c.bytes)
url_line _ = from_test 10 (codes "invalid type for uri") refl

base64_name_line : (url : Bool) → Free 10 (base64_name url)
base64_name_line url = free_cond 10 url (codes "base64url") (codes "base64") (from_test 10 (codes "base64url") refl)
    (from_test 10 (codes "base64") refl)

decoded_line : (name : List ℕ) (found : Option (List (List ℕ))) → Free 10 name
    → AllByRecursion (Free 10) (unwrap_or found []) → FreeNote (decoded_note name found)
decoded_line name (Some lines) h k = (free_both 10 name (codes " decoded") h (from_test 10 (codes " decoded") refl), k)
decoded_line name None h k = (
  free_both 10 (codes "invalid data for ") name
      (from_test 10 (codes "invalid data for ") refl) h,
  tt,
)

base64_line : (url : Bool) (i : Item) → FreeNote (base64_note url i)
base64_line url (atom (string Text c)) = decoded_line (base64_name url) (base64_lines url c.bytes)
    (base64_name_line url) (base64_lines_line url c.bytes)
base64_line url _ = (
  free_both 10 (codes "invalid type for ") (base64_name url)
      (from_test 10 (codes "invalid type for ") refl) (base64_name_line url),
  tt,
)

uuid_line : (i : Item) → FreeNote (uuid_note i)
uuid_line (atom (string Bytes c)) =
    note_cond (length c.bytes == 16) (uuid_fields c.bytes) (plain_note (codes "invalid data length for uuid"))
    (uuid_lines_line c.bytes)
    (from_test 10 (codes "invalid data length for uuid") refl, tt)
uuid_line _ = (from_test 10 (codes "invalid type for uuid") refl, tt)

-- network addresses
name_line : (f : Family) → Free 10 (family_name f)
name_line IPv4 = from_test 10 (codes "IPv4") refl
name_line IPv6 = from_test 10 (codes "IPv6") refl

text_line : (f : Family) (bytes : List ℕ) → Free 10 (address_text f bytes)
text_line IPv4 bytes = ipv4_line bytes
text_line IPv6 bytes = ipv6_line bytes

shown_line : (f : Family) (what text : List ℕ) → Free 10 what → Free 10 text → Free 10 (shown f what text)
shown_line f what text h k =
    brackets_line (family_name f ++ codes " " ++ what) text
    (free_both 10 (family_name f ++ codes " ") what
    (free_both 10 (family_name f) (codes " ") (name_line f) (from_test 10 (codes " ") refl)) h) k

invalid_line : Free 10 invalid_address
invalid_line = from_test 10 invalid_address refl

length_line : (f : Family) → Free 10 (invalid_length f)
length_line IPv4 = from_test 10 (invalid_length IPv4) refl
length_line IPv6 = from_test 10 (invalid_length IPv6) refl

plain_line : (f : Family) (bytes : List ℕ) → Free 10 (plain_address f bytes)
plain_line f bytes =
    free_cond 10 (length bytes == family_size f) (shown f (codes "address") (address_text f bytes)) (invalid_length f)
    (shown_line f (codes "address") (address_text f bytes) (from_test 10 (codes "address") refl) (text_line f bytes))
    (length_line f)

-- the length of a prefix after a text
slash_line : (text : List ℕ) (len : ℕ) → Free 10 text → Free 10 (text ++ codes "/" ++ decimal len)
slash_line text len free = free_both 10 (text ++ codes "/") (decimal len)
    (free_both 10 text (codes "/") free (from_test 10 (codes "/") refl)) (decimal_line len)

-- a zone after a text
percent_line : (text zone : List ℕ) → Free 10 text → Free 10 zone → Free 10 (text ++ codes "%" ++ zone)
percent_line text zone free h = free_both 10 (text ++ codes "%") zone
    (free_both 10 text (codes "%") free (from_test 10 (codes "%") refl)) h

prefix_line : (f : Family) (len : ℕ) (bytes : List ℕ) → Free 10 (prefix_note f len bytes)
prefix_line f len bytes =
    let filled = address_text f (bytes ++ replicate (family_size f - length bytes) 0) in
    free_cond 10 (ends_with nat_eq bytes (0 ∷ [])) (codes "invalid prefix, ends with zero byte") _
    (from_test 10 (codes "invalid prefix, ends with zero byte") refl)
    (free_cond 10 (nat_lt (family_size f) (length bytes)) (invalid_length f)
    (shown f (codes "prefix") (filled ++ codes "/" ++ decimal len)) (length_line f)
    (shown_line f (codes "prefix") (filled ++ codes "/" ++ decimal len) (from_test 10 (codes "prefix") refl)
    (slash_line filled len (text_line f (bytes ++ replicate (family_size f - length bytes) 0)))))

abbrev FreeZone : Zone → Type 0
FreeZone (zone_text z) = Free 10 z
FreeZone _ = Unit

zone_line : (is : Items) → FreeZone (zone_at is)
zone_line (item (atom (integer n w)) is) = decimal_line n
zone_line (item (atom (string Text c)) is) = escaped_line c.bytes
zone_line _ = tt

with_length_line : (f : Family) (bytes : List ℕ) (len : ℕ) (zone : Zone) → FreeZone zone
    → Free 10 (with_length f bytes len zone)
with_length_line f bytes len (zone_text z) h =
    let text = address_text f bytes ++ codes "%" ++ z in
    shown_line f (codes "address-and-zone-and-prefix") (text ++ codes "/" ++ decimal len)
    (from_test 10 (codes "address-and-zone-and-prefix") refl)
    (slash_line text len (percent_line (address_text f bytes) z (text_line f bytes) h))
with_length_line f bytes len no_zone h =
    shown_line f (codes "address-and-prefix") (address_text f bytes ++ codes "/" ++ decimal len)
    (from_test 10 (codes "address-and-prefix") refl)
    (slash_line (address_text f bytes) len (text_line f bytes))
with_length_line f bytes len not_zone h = invalid_line

with_zone_line : (f : Family) (bytes : List ℕ) (zone : Zone) → FreeZone zone
    → Free 10 (with_zone f bytes zone)
with_zone_line f bytes (zone_text z) h =
    shown_line f (codes "address-and-zone") (address_text f bytes ++ codes "%" ++ z)
    (from_test 10 (codes "address-and-zone") refl)
    (percent_line (address_text f bytes) z (text_line f bytes) h)
with_zone_line f bytes _ h = invalid_line

interface_line : (f : Family) (bytes : List ℕ) (is : Items) → Free 10 (interface_note f bytes is)
interface_line f bytes (item (atom (integer len w)) is) = with_length_line f bytes len (zone_at is) (zone_line is)
interface_line f bytes (item (atom (simple n)) is) =
    free_cond 10 (n == null_value) (with_zone f bytes (zone_at is)) invalid_address
    (with_zone_line f bytes (zone_at is) (zone_line is)) invalid_line
interface_line f bytes _ = invalid_line

members_line : (f : Family) (is : Items) → Free 10 (members_note f is)
members_line f (item (atom (integer len w)) (item (atom (string Bytes c)) is)) = prefix_line f len c.bytes
members_line f (item (atom (string Bytes c)) is) =
    free_cond 10 (length c.bytes == family_size f) (interface_note f c.bytes is) (invalid_length f)
    (interface_line f c.bytes is) (length_line f)
members_line f _ = invalid_line

address_line : (f : Family) (i : Item) → Free 10 (address_note f i)
address_line f (atom (string Bytes c)) = plain_line f c.bytes
address_line f (array is w) = members_line f is
address_line f _ = invalid_line

network_bytes_line : (bytes : List ℕ) → Free 10 (network_address bytes)
network_bytes_line bytes =
    free_cond 10 (length bytes == 4) (in_brackets (codes "IPv4 address") (ipv4_text bytes)) _
    (brackets_line (codes "IPv4 address") (ipv4_text bytes) (from_test 10 (codes "IPv4 address") refl)
    (ipv4_line bytes))
    (free_cond 10 (length bytes == 6) (in_brackets (codes "MAC address") (mac_text bytes)) _
    (brackets_line (codes "MAC address") (mac_text bytes) (from_test 10 (codes "MAC address") refl) (mac_line bytes))
    (free_cond 10 (length bytes == 16) (in_brackets (codes "IPv6 address") (ipv6_text bytes))
    (codes "invalid data length for network address")
    (brackets_line (codes "IPv6 address") (ipv6_text bytes) (from_test 10 (codes "IPv6 address") refl)
    (ipv6_line bytes))
    (from_test 10 (codes "invalid data length for network address") refl)))

network_line : (i : Item) → Free 10 (network_note i)
network_line (atom (string Bytes c)) = network_bytes_line c.bytes
network_line _ = invalid_line

-- typed arrays
typed_array_line : (size : Option ℕ) (i : Item) → IfSome (typed_array_note size i) FreeNote
typed_array_line None _ = tt
typed_array_line (Some size) (atom (string Bytes c)) =
    some_cond (length c.bytes % size == 0) None (Some (plain_note (codes "invalid data length for typed array"))) tt
    (from_test 10 (codes "invalid data length for typed array") refl, tt)
typed_array_line (Some size) _ = (from_test 10 (codes "invalid type for typed array") refl, tt)

pub value_note_line : (known t : ℕ) (i : Item) → IfSome (value_note known t i) FreeNote
unfolding value_note
value_note_line known t i =
    plain_cond (t == 0) (datetime_note i) _ (datetime_line i)
    (plain_cond (t == 1) (epoch_datetime_note i) _ (epoch_datetime_line i)
    (plain_cond (t == 28) (shareable_note known) _ (shareable_line known)
    (plain_cond (t == 29) (reference_note known i) _ (reference_line known i)
    (plain_cond (t == 32) (url_note i) _ (url_line i)
    (some_cond (t == 33) (Some (base64_note true i)) _ (base64_line true i)
    (some_cond (t == 34) (Some (base64_note false i)) _ (base64_line false i)
    (some_cond (t == 37) (Some (uuid_note i)) _ (uuid_line i)
    (plain_cond (t == 52) (address_note IPv4 i) _ (address_line IPv4 i)
    (plain_cond (t == 54) (address_note IPv6 i) _ (address_line IPv6 i)
    (plain_cond (t == 100) (epoch_date_note i) _ (epoch_date_line i)
    (plain_cond (t == 260) (network_note i) _ (network_line i)
    (plain_cond (t == 1004) (date_note i) (typed_array_note (element_size t) i) (date_line i)
    (typed_array_line (element_size t) i)))))))))))))
