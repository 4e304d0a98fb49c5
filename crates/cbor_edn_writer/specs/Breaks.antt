-- Which texts of EDN have line feeds only outside of quotes and comments (`BreaksApart`). `Within` says whether a
-- character is in quotes, in a comment or in neither.
use Rattle.std.specs.Prelude.{◌≡◌, ℕ, ◌==◌, List, [], ◌∷◌, if◌then◌else◌}

-- what a character of a text is within: neither quotes nor a comment, or one of these; a text or bytes also right
-- after a backslash
pub data Within : Type 0 where
  Nothing : Within
  Text : Within
  TextEscape : Within
  Bytes : Within
  BytesEscape : Within
  Comment : Within

-- what the text is within after this character
abbrev pub after : Within → ℕ → Within
after Nothing b = if b == 34 then Text else if b == 39 then Bytes else if b == 47 then Comment else Nothing
after Text b = if b == 92 then TextEscape else if b == 34 then Nothing else Text
after TextEscape b = Text
after Bytes b = if b == 92 then BytesEscape else if b == 39 then Nothing else Bytes
after BytesEscape b = Bytes
after Comment b = if b == 47 then Nothing else Comment

-- every line feed is outside of quotes and comments
abbrev pub BreaksApart : Within → List ℕ → Type 0
BreaksApart w [] = Unit {0}
BreaksApart w (b ∷ bs) = ((b ≡ 10) → w ≡ Nothing) × BreaksApart (after w b) bs
