-- For `cut_line` and `after_line` in `hex_text.rt`: `memchr` finds the place that `position_or_len` gives, which is the
-- length of the text if nothing is found. `memchr2` finds the first `#` or line feed: neither is before the place
-- found, or anywhere if none is found.
use Rattle.std.proofs.Common.{◌≡◌, ◌≢◌, ℕ, ◌<◌, List, length, get_or, Bool, true, ◌||◌, ◌==◌, Some, None, arith, inl}
use Rattle.std.proofs.Common.{inr}
use Rattle.std.specs.List.{position_or_len}
use Rattle.std.proofs.lemmas.Bool.{cases_Bool, eq-eqb, eqb-true, or_cases, or_left, or_right}
use Rattle.std.proofs.lemmas.List.Sums.{position_or_len_is}
use Rattle.memchr.specs.Find.{IsFirstByte, is_byte2}

-- a byte that is found is the first that passes
pub found_at : (test : ℕ → Bool) (text : List ℕ) (at : ℕ) → IsFirstByte test text (Some at)
    → position_or_len test text ≡ at
found_at test text at found =
    let inside = found.0.high in
    position_or_len_is test text at 0 (omega (arith, inside))
    (λ k lt. elim (cases_Bool (test (get_or text k 0)))
    [ inl is ↦ absurd (found.0.before k (omega arith) lt is) | inr other ↦ other ])
    (λ _. found.1)

-- where none is found, none passes
pub found_none : (test : ℕ → Bool) (text : List ℕ) → IsFirstByte test text None
    → position_or_len test text ≡ length text
found_none test text none =
    position_or_len_is test text (length text) 0 (omega arith)
    (λ k lt. elim (cases_Bool (test (get_or text k 0)))
    [ inl is ↦ absurd (none k (omega arith) lt is) | inr other ↦ other ])
    (λ lt. absurd (omega arith))

-- a byte that is neither of two
neither : (b : ℕ) → ¬ ((b == 35 || b == 10) ≡ true) → (b ≢ 35) × (b ≢ 10)
neither b fails = (
  λ e. fails (or_left (b == 35) (b == 10) (eq-eqb b 35 e)),
  λ e. fails (or_right (b == 35) (b == 10) (eq-eqb b 10 e)),
)

-- the same of the bytes of a text
module _ (text : List ℕ) where
  pub neither_at : IsFirstByte (is_byte2 35 10) text None → (k : ℕ) → k < length text
      → (get_or text k 0 ≢ 35) × (get_or text k 0 ≢ 10)
  neither_at none k lt = neither (get_or text k 0) (none k (omega arith) lt)

  pub neither_before : (at : ℕ) → IsFirstByte (is_byte2 35 10) text (Some at) → (k : ℕ) → k < at
      → (get_or text k 0 ≢ 35) × (get_or text k 0 ≢ 10)
  neither_before at found k lt = neither (get_or text k 0) (found.0.before k (omega arith) lt)

  pub either_here : (at : ℕ) → IsFirstByte (is_byte2 35 10) text (Some at) → get_or text at 0 ≢ 35
      → get_or text at 0 ≡ 10
  either_here at found other =
      elim (or_cases (get_or text at 0 == 35) (get_or text at 0 == 10) found.1) [
        | inl is ↦ absurd (other (eqb-true (get_or text at 0) 35 is))
        | inr is ↦ eqb-true (get_or text at 0) 10 is
      ]
