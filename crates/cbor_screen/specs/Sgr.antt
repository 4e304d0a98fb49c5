-- `without_sgr`: a text without the escape sequences that set colours (Select Graphic Rendition, of ECMA-48): ESC [,
-- parameters, and `m`. It leaves out all bytes from an ESC to the next `m`. A text is the list of its bytes.
use Rattle.std.specs.Prelude.{ℕ, ◌==◌, not, Bool, true, false, List, [], ◌∷◌, if◌then◌else◌}

-- what is left of a text without its sequences, each from an ESC (27) to the next m (109); whether the text begins
-- inside of one
abbrev pub outside_sgr : Bool → List ℕ → List ℕ
outside_sgr inside [] = []
outside_sgr true (c ∷ cs) = outside_sgr (not (c == 109)) cs
outside_sgr false (c ∷ cs) = if c == 27 then outside_sgr true cs else c ∷ outside_sgr false cs

-- a text without its sequences
abbrev pub without_sgr : List ℕ → List ℕ
without_sgr text = outside_sgr false text
