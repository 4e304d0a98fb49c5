-- Hidden characters, which no terminal and no log should get as they are: control characters, those that end a line
-- or change the direction of a text, and the byte order mark. A text is the list of its bytes in UTF-8.
use Rattle.std.specs.Prelude.{◌≡◌, ◌≢◌, ◌⊎◌, ℕ, ◌+◌, ◌<◌, ◌≤◌, Bool, true, List, length, slice_index}

-- Three bytes in a row begin with such a character: U+0000 to U+001F, except a line feed where lines may end; U+007F;
-- U+0080 to U+009F; U+061C; U+200E and U+200F; U+2028 to U+202E; U+2066 to U+2069; U+FEFF.
abbrev pub Hides : Bool → ℕ → ℕ → ℕ → Type 0
Hides lines a b c = ((a < 32) × ((lines ≡ true) → a ≢ 10)) ⊎ (a ≡ 127) ⊎ ((a ≡ 0xc2) × (b < 0xa0))
    ⊎ ((a ≡ 0xd8) × (b ≡ 0x9c))
    ⊎ ((a ≡ 0xe2) × (b ≡ 0x80) × (0x8e ≤ c) × (c ≤ 0x8f))
    ⊎ ((a ≡ 0xe2) × (b ≡ 0x80) × (0xa8 ≤ c) × (c ≤ 0xae))
    ⊎ ((a ≡ 0xe2) × (b ≡ 0x81) × (0xa6 ≤ c) × (c ≤ 0xa9))
    ⊎ ((a ≡ 0xef) × (b ≡ 0xbb) × (c ≡ 0xbf))

-- no character that begins with this byte is one
abbrev pub NeverHides : Bool → ℕ → Type 0
NeverHides lines a = (b c : ℕ) → ¬ (Hides lines a b c)

-- no such character begins at this place of the text
abbrev pub ShownAt : Bool → List ℕ → ℕ → Type 0
ShownAt lines text k =
    ¬ (Hides lines (slice_index text k) (slice_index text (k + 1)) (slice_index text (k + 2)))

-- no such character begins with, or at, these places of the text
abbrev pub HidesNone : Bool → List ℕ → ℕ → ℕ → Type 0
HidesNone lines text from to = (k : ℕ) → from ≤ k → k < to → NeverHides lines (slice_index text k)

abbrev pub ShownBetween : Bool → List ℕ → ℕ → ℕ → Type 0
ShownBetween lines text from to = (k : ℕ) → from ≤ k → k < to → ShownAt lines text k

-- the text has no such character
abbrev pub IsShown : Bool → List ℕ → Type 0
IsShown lines text = (k : ℕ) → k < length text → ShownAt lines text k
