-- For `unpadded_len` in `base32.rt`: in base 32, a group has 2, 4, 5, 7 or 8 digits before its padding
-- (`IsDigitCount`). If `ends_with` finds no such padding at the end of eight characters, their last characters are not
-- this padding.
use Rattle.std.proofs.Common.{◌≡◌, ℕ, zero, suc, ◌-◌, ◌<◌, ◌≤◌, ◌⊎◌, nat_eq, true, false, List, drop, length, ◌∙◌, inl}
use Rattle.std.proofs.Common.{inr, arith}
use Rattle.std.specs.List.{ends_with}
use Rattle.std.specs.Cmp.Lexicographic.{pointwise}
use Rattle.cbor_tokens.specs.Base32.{digit_count, IsDigitCount}

abbrev pub IsOneOf : ℕ → Type 0
IsOneOf k = (k ≡ 2) ⊎ ((k ≡ 4) ⊎ ((k ≡ 5) ⊎ ((k ≡ 7) ⊎ (k ≡ 8))))

of_bytes : (k bytes : ℕ) → 0 < bytes → bytes ≤ 5 → k ≡ digit_count bytes → IsOneOf k
of_bytes k zero some few is = absurd (omega arith)
of_bytes k (suc zero) some few is = inl is
of_bytes k (suc (suc zero)) some few is = inr (inl is)
of_bytes k (suc (suc (suc zero))) some few is = inr (inr (inl is))
of_bytes k (suc (suc (suc (suc zero)))) some few is = inr (inr (inr (inl is)))
of_bytes k (suc (suc (suc (suc (suc zero))))) some few is = inr (inr (inr (inr is)))
of_bytes k (suc (suc (suc (suc (suc (suc bytes)))))) some few is = absurd (omega arith)

pub digit_counts : (k : ℕ) → IsDigitCount k → IsOneOf k
digit_counts k is = of_bytes k is.0 is.1 is.2 is.3

-- what holds for each of them holds
pub by_count : {P : Type 0} (k : ℕ) → IsDigitCount k → (k ≡ 2 → P) → (k ≡ 4 → P) → (k ≡ 5 → P) → (k ≡ 7 → P)
    → (k ≡ 8 → P) → P
by_count k is two four five seven eight =
    elim (digit_counts k is) [
      | inl e ↦ two e
      | inr e ↦ elim e [
        | inl e ↦ four e
        | inr e ↦ elim e [
          | inl e ↦ five e
          | inr e ↦ elim e [ inl e ↦ seven e | inr e ↦ eight e ]
        ]
      ]
    ]

-- digits that do not end with this much padding
pub not_padded : (digits padding : List ℕ) (k : ℕ) → length digits ≡ 8 → false ≡ ends_with nat_eq digits padding
    → length padding ≡ 8 - k → k ≤ 8 → pointwise nat_eq padding padding ≡ true → drop k digits ≡ padding → ⊥
not_padded digits padding k eight unlike short fits itself ends =
    let start : length digits - length padding ≡ k = omega arith in
    let like : ends_with nat_eq digits padding ≡ true = rw (start, ends) itself in
    let never : false ≡ true = unlike ∙ like in
    cc never
