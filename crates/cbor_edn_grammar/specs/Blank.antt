-- Blanks in EDN: spaces, tabs, line ends and comments.
use Rattle.std.specs.Prelude.{ℕ, zero, suc, List, [], ◌∷◌, length, Option, Some, None, Bool, true, false}
use Rattle.std.specs.Prelude.{◌==◌, ◌&&◌, if◌then◌else◌, is_some}
use Rattle.cbor_tokens.specs.Token.{is_whitespace}

-- the text after the first line feed; nothing where there is none
abbrev pub after_line : List ℕ → List ℕ
after_line [] = []
after_line (b ∷ text) = if b == 10 then text else after_line text

-- the text after the first `/`
abbrev pub after_slash : List ℕ → Option (List ℕ)
after_slash [] = None
after_slash (b ∷ text) = if b == 47 then Some text else after_slash text

-- The text after the first `*` and `/`. The flag says whether a `*` is right before the text.
abbrev pub after_star : Bool → List ℕ → Option (List ℕ)
after_star star [] = None
after_star star (b ∷ text) = if star && (b == 47) then Some text else after_star (b == 42) text

-- the text after a comment whose first `/` was read: `//` up to the line's end, `/*` up to `*/`, or up to the next `/`
abbrev pub after_comment : List ℕ → Option (List ℕ)
after_comment [] = None
after_comment (b ∷ text) =
    if b == 47 then Some (after_line text)
    else if b == 42 then after_star false text
    else after_slash text

-- the text after a space, a tab, a line end or a comment; `#` begins one that goes to the line's end, and `/` one
-- where slashes do
abbrev pub after_space : Bool → List ℕ → Option (List ℕ)
after_space slashes [] = None
after_space slashes (b ∷ text) =
    if is_whitespace b then Some text
    else if b == 35 then Some (after_line text)
    else if slashes && (b == 47) then after_comment text
    else None

abbrev pub or_here : (List ℕ → List ℕ) → List ℕ → Option (List ℕ) → List ℕ
or_here go text None = text
or_here go text (Some rest) = go rest

-- the text after this many of them at most
unfoldable pub after_spaces : Bool → ℕ → List ℕ → List ℕ
after_spaces slashes zero text = text
after_spaces slashes (suc n) text = or_here (after_spaces slashes n) text (after_space slashes text)

-- the text after the longest blank at its front
abbrev pub after_blank : Bool → List ℕ → List ℕ
after_blank slashes text = after_spaces slashes (length text) text

abbrev pub skip_blank : List ℕ → List ℕ
skip_blank text = after_blank true text

-- whether a blank that is not empty comes first
abbrev pub is_apart : List ℕ → Bool
is_apart text = is_some (after_space true text)
