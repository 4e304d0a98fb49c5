-- Items (`IsItem8949`) and sequences (`IsSequence8949`) by RFC 8949. Its section 3.3 forbids simple values below 32 in
-- two bytes (0xf8 and the value), which RFC 7049 allows.
use Rattle.std.specs.Prelude.{◌≡◌, ℕ, ◌+◌, ◌<◌, ◌≤◌, List, [], ◌∷◌, ◌++◌, length, take, slice_index}
use Rattle.cbor_grammar.specs.Item.{Item}
use Rattle.cbor_grammar.specs.Facts.{IsItem, BeginsWithItem}
use Rattle.cbor_rules.specs.Keeps.{KeepsRules}
use Rattle.cbor_rules.specs.Sets.{rfc_8949}

-- The bytes, all of them, are this item by the rules of RFC 8949.
abbrev pub IsItem8949 : List ℕ → Item → Type 0
IsItem8949 b i = IsItem b i × KeepsRules rfc_8949 b

-- the bytes are such an item
abbrev pub Is8949 : List ℕ → Type 0
Is8949 b = (i : Item) × IsItem8949 b i

-- the input is these items, each by RFC 8949 and after the one before it, and then the rest
abbrev pub ItemsThen8949 : List ℕ → List Item → List ℕ → Type 0
ItemsThen8949 input [] rest = input ≡ rest
ItemsThen8949 input (i ∷ is) rest =
    (front after : List ℕ) × (input ≡ front ++ after) × IsItem8949 front i × ItemsThen8949 after is rest

-- the input is such items, one after the other, and nothing else
abbrev pub IsSequence8949 : List ℕ → Type 0
IsSequence8949 input = (items : List Item) × ItemsThen8949 input items []

-- at this place a byte below 32 follows 0xf8
abbrev pub IsTwoByteSimple : List ℕ → ℕ → Type 0
IsTwoByteSimple b at =
    (at + 1 < length b) × (slice_index b at ≡ 0xf8) × (slice_index b (at + 1) < 32)

-- the bytes begin with an item that is none by RFC 8949, and has such two bytes at this place
abbrev pub BeginsNo8949 : List ℕ → ℕ → Type 0
BeginsNo8949 b at =
    (i : Item) × (n : ℕ) × BeginsWithItem b i n × ¬ (Is8949 (take n b)) × IsTwoByteSimple (take n b) at

-- no two bytes that follow each other are such a value, at a head or not
abbrev pub NoPair : List ℕ → Type 0
NoPair [] = Unit {0}
NoPair (first ∷ []) = Unit {0}
NoPair (first ∷ (n ∷ b)) = (first ≡ 0xf8 → 32 ≤ n) × NoPair (n ∷ b)
