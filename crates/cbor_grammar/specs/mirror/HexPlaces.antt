-- Walking over a text, as `hex_text/place.rt` of `cbor_bytes` does: which bytes are kept between two places. No
-- public clause names it.
use Rattle.std.specs.Prelude.{◌≡◌, ℕ, List, [], ◌++◌, slice_index}
use Rattle.cbor_tokens.specs.Uncommented.{uncommented}

-- Bytes that may come in the place of others: they begin with no line feed, which drops a carriage return before it,
-- unless those do, and they are empty if those are.
pub record Replaces (c rest : List ℕ) : Type 0 where
  pub feed : slice_index c 0 ≡ 10 → slice_index rest 0 ≡ 10
  pub none : rest ≡ [] → c ≡ []

-- From the text to its rest these bytes are kept, whatever comes in the place of the rest.
pub record Keeps (text rest bytes : List ℕ) : Type 0 where
  pub over : List ℕ
  pub parts : text ≡ over ++ rest
  pub along : (c : List ℕ) → Replaces c rest → uncommented (over ++ c) ≡ bytes ++ uncommented c
