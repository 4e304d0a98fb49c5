-- The pieces of a string in a dump: each has its own line. `byte_pieces` cuts bytes into pieces of 16.
-- `text_pieces` cuts a text of more than 24 bytes between characters, into pieces of at most 16 bytes.
use Rattle.std.specs.Prelude.{ℕ, zero, suc, nat_lt, nat_le, ◌||◌, Bool, List, [], ◌∷◌, length, min, max, take, drop}
use Rattle.std.specs.Prelude.{slice_index, if◌then◌else◌}

-- cut off a front again and again, at most n times, where `cut` says
abbrev pub pieces_of : (List ℕ → ℕ) → ℕ → List ℕ → List (List ℕ)
pieces_of cut n [] = []
pieces_of cut zero (b ∷ bytes) = []
pieces_of cut (suc n) (b ∷ bytes) =
    take (cut (b ∷ bytes)) (b ∷ bytes) ∷ pieces_of cut n (drop (cut (b ∷ bytes)) (b ∷ bytes))

-- how many bytes a line shows
abbrev pub piece_size : ℕ
piece_size = 16

abbrev pub byte_pieces : List ℕ → List (List ℕ)
byte_pieces bytes = pieces_of (λ rest. min (length rest) piece_size) (length bytes) bytes

-- a byte of UTF-8 that begins a character
abbrev pub begins_character : ℕ → Bool
begins_character b = nat_lt b 128 || nat_le 192 b

-- the last place up to n where a character of the text begins, and 0 if there is none
abbrev pub last_start : List ℕ → ℕ → ℕ
last_start text zero = 0
last_start text (suc n) = if begins_character (slice_index text (suc n)) then suc n else last_start text n

-- where a text is cut: after at most 16 bytes, before a character; of bytes that are no text at least one is
-- cut off
abbrev pub text_cut : List ℕ → ℕ
text_cut text = if nat_le (length text) piece_size then length text else max 1 (last_start text piece_size)

-- how many bytes of text are on one line
abbrev pub short_text : ℕ
short_text = 24

abbrev pub text_pieces : List ℕ → List (List ℕ)
text_pieces [] = []
text_pieces (b ∷ text) =
    if nat_le (length (b ∷ text)) short_text then (b ∷ text) ∷ []
    else pieces_of text_cut (length (b ∷ text)) (b ∷ text)
