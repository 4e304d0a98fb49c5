-- `uncommented`: hex with comments, without its comments, spaces and line ends. A comment begins at `#` and goes up to
-- the end of the line. All calls that read hex use this definition.
use Rattle.std.specs.Prelude.{◌≢◌, ℕ, ◌==◌, not, List, filter, flat_map}
use Rattle.std.specs.List.{All, before_first}
use Rattle.std.specs.Str.Lines.{lines}
use Rattle.cbor_tokens.specs.Ascii.{space, hash}

-- a character of ASCII that a text doesn't have
abbrev pub Lacks : ℕ → List ℕ → Type 0
Lacks c text = All (λ b. b ≢ c) text

-- bytes without spaces
abbrev pub unspaced : List ℕ → List ℕ
unspaced bytes = filter (λ b. not (b == space)) bytes

-- a line without its comment: what is before its first `#`, without spaces
abbrev pub kept : List ℕ → List ℕ
kept line = unspaced (before_first (λ b. b == hash) line)

-- A text without its comments: what is kept of each line. A line ends at a line feed, and one carriage return
-- right before it belongs to the end.
abbrev pub uncommented : List ℕ → List ℕ
uncommented text = flat_map kept (lines text)
