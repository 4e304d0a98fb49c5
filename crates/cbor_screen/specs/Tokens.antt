-- `InTokens`: a text is split into tokens, and a second text shows each of them in a way that a given relation allows.
-- `Elided.antt` and `Widthless.antt` give such relations.
use Rattle.std.specs.Prelude.{◌≡◌, ℕ, List, [], ◌∷◌, ◌++◌}

-- A token, and what is shown of it.
pub record Piece : Type 0 where
  pub token : List ℕ
  pub added : List ℕ

-- tokens, one after the other
abbrev pub tokens_of : List Piece → List ℕ
tokens_of [] = []
tokens_of (piece ∷ pieces) = piece.token ++ tokens_of pieces

-- what is shown of them
abbrev pub shown_of : List Piece → List ℕ
shown_of [] = []
shown_of (piece ∷ pieces) = piece.added ++ shown_of pieces

-- each is shown in one of these ways
abbrev pub AreShown : (List ℕ → List ℕ → Type 0) → List Piece → Type 0
AreShown IsShown [] = Unit {0}
AreShown IsShown (piece ∷ pieces) = IsShown piece.token piece.added × AreShown IsShown pieces

-- the second is the first with each token shown in one of these ways
abbrev pub InTokens : (List ℕ → List ℕ → Type 0) → List ℕ → List ℕ → Type 0
InTokens IsShown text added =
    (pieces : List Piece) × (tokens_of pieces ≡ text) × (shown_of pieces ≡ added) × AreShown IsShown pieces
