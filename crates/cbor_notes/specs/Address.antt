-- Network addresses as text in comments. IPv6 is written as RFC 5952, sections 4 and 5, recommends.
use Rattle.std.specs.Prelude.{◌≡◌, ℕ, ◌+◌, ◌≤◌, ◌==◌, nat_le, max, Bool, false, List, [], ◌∷◌, ◌++◌, length, take, drop}
use Rattle.std.specs.Prelude.{map, replicate, if◌then◌else◌, codes, decimal, bytes_eq}
use Rattle.std.specs.Fmt.{digits}
use Rattle.std.specs.List.{join_with_byte, prefix_len}
use Rattle.std.specs.Net.Addr.{segments_of}
use Rattle.hex.specs.Hex.{encode_lower}
use Rattle.cbor_tokens.specs.Ascii.{dot, colon}

-- the four octets in decimal, with dots between them
abbrev pub ipv4_text : List ℕ → List ℕ
ipv4_text octets = join_with_byte dot (map decimal octets)

-- the six octets as two hex digits of lower case each, with colons between them
abbrev pub mac_text : List ℕ → List ℕ
mac_text octets = join_with_byte colon (map (λ octet. encode_lower (octet ∷ [])) octets)

-- groups of 16 bits in hex of lower case without leading zeros, with colons between them
abbrev pub groups_text : List ℕ → List ℕ
groups_text groups = join_with_byte colon (map (digits 16 false) groups)

-- `::` in place of `count` groups from the place `start` on
abbrev pub shortened : List ℕ → ℕ → ℕ → List ℕ
shortened groups start count =
    groups_text (take start groups) ++ codes "::" ++ groups_text (drop (start + count) groups)

-- there are `count` zero groups from the place `start` on
abbrev pub IsZeroRun : List ℕ → ℕ → ℕ → Type 0
IsZeroRun groups start count =
    (start + count ≤ length groups) × (take count (drop start groups) ≡ replicate count 0)

-- a run of zero groups than which none is longer, and before which none as long begins
pub record IsFirstLongestRun (groups : List ℕ) (start count : ℕ) : Type 0 where
  pub run : IsZeroRun groups start count
  pub longest : (s n : ℕ) → IsZeroRun groups s n → n ≤ count
  pub first : (s : ℕ) → IsZeroRun groups s count → start ≤ s

-- how many zero groups come first
abbrev pub zeros_first : List ℕ → ℕ
zeros_first groups = prefix_len (λ group. group == 0) groups

-- how many groups the longest run of zero groups has
abbrev pub longest_run : List ℕ → ℕ
longest_run [] = 0
longest_run (group ∷ rest) = max (zeros_first (group ∷ rest)) (longest_run rest)

-- the first place with that number of zero groups from there on, and no more
abbrev pub first_run : ℕ → List ℕ → ℕ
first_run count [] = 0
first_run count (group ∷ rest) =
    if zeros_first (group ∷ rest) == count then 0 else first_run count rest + 1

-- eight groups, the first longest run of at least two zero groups written `::`
unfoldable pub hex_text : List ℕ → List ℕ
hex_text groups =
    if nat_le 2 (longest_run groups)
    then shortened groups (first_run (longest_run groups) groups) (longest_run groups)
    else groups_text groups

-- the first 96 bits of an address that maps an IPv4 address: 80 zeros and 16 ones
abbrev pub ipv4_prefix : List ℕ
ipv4_prefix = replicate 10 0 ++ 255 ∷ 255 ∷ []

-- the sixteen octets begin with that prefix
abbrev pub is_mapped : List ℕ → Bool
is_mapped octets = bytes_eq (take 12 octets) ipv4_prefix

-- the sixteen octets: `::ffff:` and an IPv4 address after that prefix, else the eight groups
unfoldable pub ipv6_text : List ℕ → List ℕ
ipv6_text octets =
    if is_mapped octets then codes "::ffff:" ++ ipv4_text (drop 12 octets)
    else hex_text (segments_of octets)

-- the text of an address without that prefix has `::` for the first longest run of zero groups,
-- where that run is of at least two
abbrev pub ShortensFirstLongestRun : List ℕ → List ℕ → Type 0
ShortensFirstLongestRun octets text =
    is_mapped octets ≡ false
    → (start count : ℕ) → IsFirstLongestRun (segments_of octets) start count → 2 ≤ count
    → text ≡ shortened (segments_of octets) start count
