-- `IsColored`: one text is another in colours. The text is split into spans, and each span that is a token has an
-- escape sequence before and after it (`in_color`), if its kind has a colour. Such a span contains no line feed.
use Rattle.std.specs.Prelude.{◌≡◌, ℕ, List, [], ◌∷◌, ◌++◌, Option, None, Some, IfSome}
use Rattle.cbor_marks.specs.Lines.{Lacks}
use Rattle.cbor_marks.specs.declared.kind.Kind.{Kind}
use Rattle.cbor_marks.specs.declared.kind.Kind.TheVariants as kind

-- the sequence that is written before a token: ESC [ parameters m; none before a bracket
abbrev pub start_of : Kind → List ℕ
start_of kind.Key = 27 ∷ 91 ∷ 49 ∷ 59 ∷ 51 ∷ 52 ∷ 109 ∷ []
start_of kind.Text = 27 ∷ 91 ∷ 51 ∷ 50 ∷ 109 ∷ []
start_of kind.Bytes = 27 ∷ 91 ∷ 51 ∷ 51 ∷ 109 ∷ []
start_of kind.Number = 27 ∷ 91 ∷ 51 ∷ 54 ∷ 109 ∷ []
start_of kind.Tag = 27 ∷ 91 ∷ 51 ∷ 53 ∷ 109 ∷ []
start_of kind.Note = 27 ∷ 91 ∷ 57 ∷ 48 ∷ 109 ∷ []
start_of kind.Opening = []
start_of kind.Closing = []
start_of kind.Fault = 27 ∷ 91 ∷ 49 ∷ 59 ∷ 51 ∷ 49 ∷ 109 ∷ []

-- the one that is written after it, which ends its colour: ESC [ 0 m
abbrev pub end_of : Kind → List ℕ
end_of kind.Opening = []
end_of kind.Closing = []
end_of other = 27 ∷ 91 ∷ 48 ∷ 109 ∷ []

-- a token in its colour
abbrev pub in_color : Kind → List ℕ → List ℕ
in_color k text = start_of k ++ text ++ end_of k

-- a part of a text in its colour, if it is a token
abbrev pub in_color_of : Option Kind → List ℕ → List ℕ
in_color_of None text = text
in_color_of (Some k) text = in_color k text

-- a part of a text: a token with its kind, or what is between tokens
pub record Span : Type 0 where
  pub kind : Option Kind
  pub text : List ℕ

-- spans, one after the other
abbrev pub texts_of : List Span → List ℕ
texts_of [] = []
texts_of (span ∷ spans) = span.text ++ texts_of spans

-- the same in colours
abbrev pub colored : List Span → List ℕ
colored [] = []
colored (span ∷ spans) = in_color_of span.kind span.text ++ colored spans

-- no token goes past the end of a line
abbrev pub KeepLines : List Span → Type 0
KeepLines [] = Unit {0}
KeepLines (span ∷ spans) = IfSome span.kind (λ _. Lacks 10 span.text) × KeepLines spans

-- the second is the first in colours
abbrev pub IsColored : List ℕ → List ℕ → Type 0
IsColored text shown =
    (spans : List Span) × (texts_of spans ≡ text) × (colored spans ≡ shown) × KeepLines spans
