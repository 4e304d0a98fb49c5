-- The item that the content of `ip'..'` (`ip_item`) or `IP'..'` (`tagged_ip`) denotes in EDN (RFC 9164 sections 3 and
-- 4): a byte string for an IPv4 or IPv6 address, and an array for an address prefix. `IP'` puts a tag around it.
use Rattle.std.specs.Prelude.{ℕ, zero, suc, ◌+◌, ◌-◌, ◌%◌, ◌^◌, List, [], ◌∷◌, length, take, drop, position}
use Rattle.std.specs.Prelude.{Option, Some, None, Bool, true, ◌==◌, ◌&&◌, if◌then◌else◌, nat_lt, nat_le, slice_index}
use Rattle.std.specs.List.{list_any}
use Rattle.std.specs.Net.Addr.{octets_of}
use Rattle.std.specs.Net.Reader.{read_ipv4, read_ipv6, whole_value}
use Rattle.cbor_grammar.specs.declared.width.IntegerWidth.TheVariants.{Unknown}
use Rattle.cbor_grammar.specs.declared.strings.StringKind.TheVariants.{Bytes}
use Rattle.cbor_grammar.specs.Item.{Item, integer, atom, array, tagged, items_of}
use Rattle.cbor_edn_grammar.specs.Reading.{◌>>=◌}
use Rattle.cbor_edn_grammar.specs.Number.{number_from}
use Rattle.cbor_edn_grammar.specs.Strings.{string_item}

-- ---- addresses (RFC 3986 section 3.2.2)

-- an address of IPv6 has a colon
abbrev pub is_ipv6 : List ℕ → Bool
is_ipv6 text = list_any (λ b. b == 58) text

-- the four bytes of the IPv4 address that all of a text writes
unfoldable pub ipv4_bytes : List ℕ → Option (List ℕ)
ipv4_bytes text = whole_value (read_ipv4 text)

-- the sixteen bytes of the IPv6 address that it writes
unfoldable pub ipv6_bytes : List ℕ → Option (List ℕ)
ipv6_bytes text = whole_value (read_ipv6 text) >>= λ segments. Some (octets_of segments)

-- the bytes of an address, of IPv6 or else of IPv4
abbrev pub address_bytes : Bool → List ℕ → Option (List ℕ)
address_bytes six text = if six then ipv6_bytes text else ipv4_bytes text

-- a byte string, its length in the shortest width
abbrev pub bytes_item : List ℕ → Option Item
bytes_item bytes = string_item Bytes bytes (Some Unknown)

abbrev pub address_item : Bool → List ℕ → Option Item
address_item six text = address_bytes six text >>= bytes_item

-- ---- prefixes

-- how many bits an address has
abbrev pub address_bits : Bool → ℕ
address_bits six = if six then 128 else 32

-- the length of a prefix in bits, if an address has that many
abbrev pub fitting_bits : Bool → ℕ → Option ℕ
fitting_bits six n = if nat_le n (address_bits six) then Some n else None

-- the same in decimal digits, without a zero in front of others
abbrev pub bit_count : Bool → List ℕ → Option ℕ
bit_count six digits = if (slice_index digits 0 == 48) && nat_lt 1 (length digits) then None
    else (number_from digits >>= fitting_bits six)

-- no bit is set after the first n
abbrev pub is_clear_after : ℕ → List ℕ → Bool
is_clear_after n [] = true
is_clear_after n (b ∷ bytes) = (b % 2 ^ (8 - n) == 0) && is_clear_after (n - 8) bytes

-- the number of bytes without the zeros at the end
abbrev pub used : List ℕ → ℕ
used [] = 0
used (b ∷ bytes) = if (b == 0) && (used bytes == 0) then 0 else suc (used bytes)

-- an array of a count of bits and an item
abbrev pub pair_of : ℕ → Item → Item
pair_of n i = array (items_of (atom (integer n Unknown) ∷ i ∷ [])) (Some Unknown)

-- the count of bits and the bytes that they are in, without the zeros at the end
abbrev pub prefix_array : ℕ → List ℕ → Option Item
prefix_array n bytes = bytes_item (take (used bytes) bytes) >>= λ i. Some (pair_of n i)

-- the first n bits of an address, which has no bit set after them
abbrev pub prefix_of : List ℕ → ℕ → Option Item
prefix_of bytes n = if is_clear_after n bytes then prefix_array n bytes else None

abbrev pub prefix_item : Bool → List ℕ → List ℕ → Option Item
prefix_item six text digits = address_bytes six text >>= λ bytes. bit_count six digits >>= prefix_of bytes

-- ---- the content of `ip'..'`

-- an address, or a prefix where there is a slash at this index; this many levels are left for the items in it
abbrev pub parted_item : ℕ → List ℕ → Option ℕ → Option Item
parted_item left content None = address_item (is_ipv6 content) content
parted_item zero content (Some n) = None
parted_item (suc left) content (Some n) = prefix_item (is_ipv6 content) (take n content) (drop (n + 1) content)

unfoldable pub ip_item : ℕ → List ℕ → Option Item
ip_item left content = parted_item left content (position (λ b. b == 47) content)

-- the tag of the version
abbrev pub ip_tag : List ℕ → ℕ
ip_tag content = if is_ipv6 content then 54 else 52

-- the same below that tag, if a level is left for it
unfoldable pub tagged_ip : ℕ → List ℕ → Option Item
tagged_ip zero content = None
tagged_ip (suc left) content = ip_item left content >>= λ i. Some (tagged (ip_tag content) Unknown i)
