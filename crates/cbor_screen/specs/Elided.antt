-- `IsElided`: one text is another with some long strings cut. `...` stands for the part of a string that is left out,
-- and a note after the string says how many bytes it has.
use Rattle.std.specs.Prelude.{◌≡◌, ◌⊎◌, ℕ, ◌<◌, List, ◌++◌, length, codes}
use Rattle.std.specs.Fmt.{decimal}
use Rattle.cbor_screen.specs.Tokens.{InTokens}

-- A token of which a part is left out.
pub record Cut : Type 0 where
  pub front : List ℕ
  pub gone : List ℕ
  pub rest : List ℕ
  -- how many bytes the string has
  pub bytes : ℕ

-- the token as it was
abbrev pub whole : Cut → List ℕ
whole cut = cut.front ++ cut.gone ++ cut.rest

-- the token as it is shown: with three points, and with a note of how many bytes the string has
abbrev pub shown : Cut → List ℕ
shown cut = cut.front ++ codes "..." ++ cut.rest ++ codes " /" ++ decimal cut.bytes ++ codes " bytes/"

-- it is as it was, or a part is left out of a string of more than `most` bytes
abbrev pub IsElidedToken : ℕ → List ℕ → List ℕ → Type 0
IsElidedToken most token added = (added ≡ token)
    ⊎ ((cut : Cut) × (token ≡ whole cut) × (added ≡ shown cut) × (most < cut.bytes) × (most < length token))

-- the second is the first with some long strings cut
abbrev pub IsElided : ℕ → List ℕ → List ℕ → Type 0
IsElided most text added = InTokens (IsElidedToken most) text added
