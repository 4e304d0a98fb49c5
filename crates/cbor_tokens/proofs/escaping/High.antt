-- In UTF-8, each byte of a character past U+007F is 128 or more (`High`).
use Rattle.std.proofs.Common.{ℕ, ◌≤◌, List, inl, inr, arith}
use Rattle.std.proofs.Math.Utf8.{encode}
use Rattle.std.proofs.lemmas.Bool.{cases_lt, lt-ltb, le-ltb}
use Rattle.std.specs.List.{AllByRecursion}

-- bytes past U+007F
abbrev pub High : List ℕ → Type 0
High bytes = AllByRecursion (λ b. 128 ≤ b) bytes

pub high_encode : (c : ℕ) → 128 ≤ c → High (encode c)
unfolding encode
high_encode c low = elim (cases_lt c 2048) [
  | inl b ↦ rw (le-ltb c 128 low, lt-ltb c 2048 b) (omega arith, (omega arith, tt))
  | inr b ↦ elim (cases_lt c 65536) [
    | inl d ↦ rw (le-ltb c 128 low, le-ltb c 2048 b, lt-ltb c 65536 d) (omega arith, (omega arith, (omega arith, tt)))
    | inr d ↦ rw (le-ltb c 128 low, le-ltb c 2048 b, le-ltb c 65536 d)
        (omega arith, (omega arith, (omega arith, (omega arith, tt))))
  ]
]
