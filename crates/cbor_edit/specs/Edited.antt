-- `Edited`: bytes after a part of them was replaced. The head of a byte string of definite length around the part gets
-- the new length, in the same width if it fits (`kept`). `changed`: bytes with several parts replaced, up to the last
-- of these parts.
use Rattle.std.specs.Prelude.{ℕ, ◌-◌, ◌^◌, List, [], ◌∷◌, ◌++◌, length, take, drop, nat_lt, if◌then◌else◌}
use Rattle.cbor_grammar.specs.declared.width.IntegerWidth.{IntegerWidth}
use Rattle.cbor_grammar.specs.declared.width.IntegerWidth.TheVariants.{Unknown, Zero, Eight, Sixteen, ThirtyTwo}
use Rattle.cbor_grammar.specs.declared.width.IntegerWidth.TheVariants.{SixtyFour}
use Rattle.cbor_grammar.specs.Head.{FitsStated, shortest, head}
use Rattle.cbor_trace.specs.declared.span.Span.{Span}
use Rattle.cbor_edit.specs.declared.place.Change.{Change}

-- the bytes of a span
abbrev pub bytes_of : Span → List ℕ → List ℕ
bytes_of s b = take (s.end - s.start) (drop s.start b)

-- The width of a number in place of one with this width: the same if it fits, or else the shortest that it fits.
abbrev pub kept : IntegerWidth → ℕ → IntegerWidth
kept Unknown n = shortest n
kept Zero n = shortest n
kept Eight n = if nat_lt n (2 ^ 8) then Eight else shortest n
kept Sixteen n = if nat_lt n (2 ^ 16) then Sixteen else shortest n
kept ThirtyTwo n = if nat_lt n (2 ^ 32) then ThirtyTwo else shortest n
kept SixtyFour n = SixtyFour

-- The bytes `was` with `new` in place of a part of them, which is `old`, are `now`: the part itself; or with bytes
-- before and after it, which stay; or in a byte string of definite length, whose head gets the length of the new
-- content.
pub data Edited (old new : List ℕ) : List ℕ → List ℕ → Type 0 where
  part : Edited old new old new
  beside : {was now : List ℕ} (before after : List ℕ) → Edited old new was now
      → Edited old new (before ++ (was ++ after)) (before ++ (now ++ after))
  in_string : {was now : List ℕ} (w : IntegerWidth) → FitsStated w (length was) → Edited old new was now
      → Edited old new (head 2 (length was) w ++ was) (head 2 (length now) (kept w (length now)) ++ now)

-- the bytes from a place on with what takes the place of some, up to the last of these
abbrev pub changed : List ℕ → ℕ → List Change → List ℕ
changed b at [] = []
changed b at (c ∷ cs) =
    take (c.place.span.start - at) (drop at b) ++ (c.new.items ++ changed b c.place.span.end cs)
