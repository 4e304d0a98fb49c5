-- For the loops in `escapes/hidden.rt`, which test a text from left to right: if no byte so far can begin a hidden
-- character, and the next byte cannot, `HidesNone` holds for one byte more. If no hidden character begins before a
-- place, nor between it and a later place, none begins before the later place (`ShownAt`).
use Rattle.std.proofs.Common.{◌≡◌, ℕ, ◌+◌, ◌<◌, inl, inr, Bool, true, false, ◌&&◌, IsTrue, List, subst, refl, arith}
use Rattle.std.proofs.Common.{slice_index}
use Rattle.std.proofs.lemmas.Bool.{cases_lt, false≢true}
use Rattle.cbor_tokens.specs.Hidden.{NeverHides, HidesNone, ShownAt, ShownBetween}

one_more : (lines : Bool) (text : List ℕ) (from at : ℕ) → HidesNone lines text from at
    → NeverHides lines (slice_index text at) → HidesNone lines text from (at + 1)
one_more lines text from at before here = λ k above small. elim (cases_lt k at) [
  | inl less ↦ before k above less
  | inr more ↦
      let same : at ≡ k = omega arith in subst (λ (x : ℕ). NeverHides lines (slice_index text x)) same here
]

-- one more byte, if both are true
pub none_more : (lines : Bool) (text : List ℕ) (from at : ℕ) (before here : Bool)
    → (IsTrue before → HidesNone lines text from at) → (IsTrue here → NeverHides lines (slice_index text at))
    → IsTrue (before && here) → HidesNone lines text from (at + 1)
none_more lines text from at true here none this = λ yes. one_more lines text from at (none refl) (this yes)
none_more lines text from at false here none this = λ no. absurd (false≢true no)

-- all characters up to a place, and those from there on
pub all_shown : (lines : Bool) (text : List ℕ) (at end : ℕ) → ((k : ℕ) → k < at → ShownAt lines text k)
    → ShownBetween lines text at end → (k : ℕ) → k < end → ShownAt lines text k
all_shown lines text at end before between k small = elim (cases_lt k at) [
  | inl less ↦ before k less
  | inr more ↦ between k more small
]
