-- `IsWithout`: an array or a map without some of its members, up to the last of these. `IsWith`: an array or a map with
-- one member more at its end. The head gets the new count, and an indefinite length stays.
use Rattle.std.specs.Prelude.{◌≡◌, ◌⊎◌, ℕ, ◌+◌, ◌-◌, List, [], ◌∷◌, ◌++◌, length, take, drop}
use Rattle.cbor_grammar.specs.declared.argument.Argument.{Argument}
use Rattle.cbor_grammar.specs.declared.argument.Argument.TheVariants.{Number, Indefinite}
use Rattle.cbor_grammar.specs.Head.{head, opening, break_byte}
use Rattle.cbor_trace.specs.declared.span.Span.{Span}
use Rattle.cbor_edit.specs.Edited.{kept}

-- the head of a container: its count in a width, or the opening byte of an indefinite length
abbrev pub argument_head : ℕ → Argument → List ℕ
argument_head major (Number n w) = head major n w
argument_head major Indefinite = opening major ∷ []

-- what ends it
abbrev pub argument_end : Argument → List ℕ
argument_end (Number n w) = []
argument_end Indefinite = break_byte ∷ []

-- the first count, and the same without so many members; an indefinite length stays
abbrev pub IsLess : ℕ → Argument → Argument → Type 0
IsLess gone (Number n w) (Number m v) = (n ≡ m + gone) × (v ≡ kept w m)
IsLess gone Indefinite Indefinite = Unit {0}
IsLess gone _ _ = ⊥

-- the same with one member more
abbrev pub OneMore : Argument → Argument → Type 0
OneMore (Number n w) (Number m v) = (m ≡ n + 1) × (v ≡ kept w m)
OneMore Indefinite Indefinite = Unit {0}
OneMore _ _ = ⊥

-- arrays and maps
abbrev pub IsContainer : ℕ → Type 0
IsContainer major = (major ≡ 4) ⊎ (major ≡ 5)

-- the bytes from a place on but for those of these spans, up to the last of these
abbrev pub between : List ℕ → ℕ → List Span → List ℕ
between b at [] = []
between b at (s ∷ ss) = take (s.start - at) (drop at b) ++ between b s.end ss

-- A container begins at a place. Its head with so many members less as these are, and the bytes between them.
abbrev pub IsWithout : List ℕ → ℕ → List Span → List ℕ → Type 0
IsWithout b start gone now = (major inner : ℕ) × (from to : Argument) × IsContainer major
    × (drop start b ≡ argument_head major from ++ drop inner b) × IsLess (length gone) from to
    × (now ≡ argument_head major to ++ between b inner gone)

-- The bytes of a container become its head with one member more, its members, the new one, and what ended it.
abbrev pub IsWith : List ℕ → List ℕ → List ℕ → Type 0
IsWith member was now = (major : ℕ) × (from to : Argument) × (members : List ℕ)
    × IsContainer major × OneMore from to × (was ≡ argument_head major from ++ (members ++ argument_end from))
    × (now ≡ argument_head major to ++ (members ++ (member ++ argument_end to)))
