-- For `utf8.rt`: the bytes that begin a character of several bytes (`BeginsLonger`), and those that follow the first
-- (`MayFollow`, `Continues`), by the table of RFC 3629, section 4. `NoCharFirst`: the bytes begin with no complete
-- character. No public clause names these definitions.
use Rattle.std.specs.Prelude.{◌≡◌, ℕ, ◌<◌, ◌≤◌, List, length, take, IsUtf8}

-- a character of several bytes begins with this byte
abbrev pub BeginsLonger : ℕ → Type 0
BeginsLonger first = (194 ≤ first) × (first < 245)

-- a byte that is not the first of its character
abbrev pub Continues : ℕ → Type 0
Continues byte = (128 ≤ byte) × (byte < 192)

-- the byte after the first of such a character
abbrev pub MayFollow : ℕ → ℕ → Type 0
MayFollow first second = Continues second × (first ≡ 224 → 160 ≤ second) × (first ≡ 237 → second < 160)
    × (first ≡ 240 → 144 ≤ second) × (first ≡ 244 → second < 144)

-- no front of the bytes is UTF-8, but for the empty one
abbrev pub NoCharFirst : List ℕ → Type 0
NoCharFirst b = (n : ℕ) → 0 < n → n ≤ length b → ¬ (IsUtf8 (take n b))
