-- For the estimate of pretty text: a number from 10 ^ k up to 10 ^ (k + 1) - 1 has k + 1 digits in `decimal`, if it is
-- below 2 ^ 64.
use Rattle.std.proofs.Common.{◌≡◌, ℕ, zero, suc, ◌+◌, ◌*◌, ◌/◌, ◌%◌, ◌^◌, ◌<◌, ◌≤◌, ◌∷◌, [], length, ap, arith}
use Rattle.std.proofs.Common.{length-append}
use Rattle.std.specs.Fmt.{decimal}
use Rattle.std.proofs.lemmas.Fmt.{decimal_digit, decimal_step}

-- how many digits a number has, by the greatest power of ten that is not above it
pub power_below : (k n : ℕ) → 10 ^ k ≤ n → n < 10 * 10 ^ k → n < 2 ^ 64 → length (decimal n) ≡ k + 1
power_below zero n low high small = ap length (decimal_digit n (omega arith))
power_below (suc k) n low high small =
    let front = power_below k (n / 10) (omega arith) (omega arith) (omega arith) in
    rw (decimal_step n (omega arith) small)
    (omega (arith, front, length-append (decimal (n / 10)) ((48 + n % 10) ∷ [])))
