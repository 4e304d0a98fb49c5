-- `IsText`: an input is UTF-8 (RFC 3629) without control characters, except tabs, line feeds and carriage returns.
-- `unmarked`: a text without its byte order mark. A text is the list of its bytes in UTF-8.
use Rattle.std.specs.Prelude.{◌≡◌, ◌≢◌, ◌⊎◌, ◌==◌, ◌&&◌, ℕ, ◌+◌, ◌<◌, List, if◌then◌else◌, length, slice_index, drop}
use Rattle.std.specs.Prelude.{IsUtf8}

-- Two bytes, one after the other, begin with a control character that is no tab, line feed or carriage return:
-- U+0000 to U+001F, but for U+0009, U+000A and U+000D; U+007F; U+0080 to U+009F, which begin with the byte c2.
abbrev pub Controls : ℕ → ℕ → Type 0
Controls a b = ((a < 32) × (a ≢ 9) × (a ≢ 10) × (a ≢ 13)) ⊎ (a ≡ 127) ⊎ ((a ≡ 0xc2) × (b < 0xa0))

-- no such character begins at this place
abbrev pub IsPlainAt : List ℕ → ℕ → Type 0
IsPlainAt text k = ¬ (Controls (slice_index text k) (slice_index text (k + 1)))

-- the bytes are all text: UTF-8 without control characters, but for tabs and line ends
abbrev pub IsText : List ℕ → Type 0
IsText text = IsUtf8 text × ((k : ℕ) → k < length text → IsPlainAt text k)

-- how many bytes a byte order mark takes (U+FEFF, the bytes ef bb bf), if the text begins with one
abbrev pub mark_len : List ℕ → ℕ
mark_len text =
    if (slice_index text 0 == 0xef) && ((slice_index text 1 == 0xbb) && (slice_index text 2 == 0xbf)) then 3 else 0

-- a text without it
abbrev pub unmarked : List ℕ → List ℕ
unmarked text = drop (mark_len text) text
