-- `is_url`: a text is a URL if the parser of `url`, which follows the URL Standard, accepts it.
use Rattle.std.specs.Prelude.{Bool, List, ℕ, None, is_ok}
use Rattle.url.specs.Parser.{parse_url}

-- the text parses as a URL, without a base
abbrev pub is_url : List ℕ → Bool
is_url text = is_ok (parse_url None text)
