-- `IsWidthless`: one text is another without some of its encoding indicators that state a width (`_0` to `_3`, and
-- `_i`). A blank after such an indicator may be left out, too.
use Rattle.std.specs.Prelude.{◌≡◌, ◌⊎◌, ℕ, ◌≤◌, List, ◌++◌, length, slice_index, codes}
use Rattle.cbor_screen.specs.Tokens.{InTokens}

-- an indicator of EDN that states a width: `_` (95), and a digit from 0 to 3 or `i` (105)
abbrev pub IsIndicator : List ℕ → Type 0
IsIndicator text = (length text ≡ 2) × (slice_index text 0 ≡ 95)
    × ((slice_index text 1 ≡ 105) ⊎ ((48 ≤ slice_index text 1) × (slice_index text 1 ≤ 51)))

-- it is as it was, or the indicator at its end is left out, with the blank behind that of a count
abbrev pub IsWidthlessToken : List ℕ → List ℕ → Type 0
IsWidthlessToken token added = (added ≡ token)
    ⊎ ((indicator : List ℕ) × IsIndicator indicator
    × ((token ≡ added ++ indicator) ⊎ (token ≡ added ++ (indicator ++ codes " "))))

-- the second is the first without some indicators
abbrev pub IsWidthless : List ℕ → List ℕ → Type 0
IsWidthless text added = InTokens IsWidthlessToken text added
