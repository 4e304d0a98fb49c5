-- For `element.rt`: the number that up to sixteen bytes encode fits in 128 bits, and `signed_text` shows a number in
-- the lower half of its range as it is, and one in the upper half as negative. An element has 1 to 16 bytes (`size`).
use Rattle.std.proofs.Common.{Bool, Option, Some, None, lit<, ◌/◌, zero, [], ◌∷◌, get_or, ◌≡◌, ℕ, suc, ◌+◌, ◌-◌, ◌*◌}
use Rattle.std.proofs.Common.{◌%◌, ◌^◌, ◌<◌, ◌≤◌, true, false, List, length, take, refl, sym, ap, ◌∙◌, arith}
use Rattle.std.proofs.Math.Nat.{pow-le-pow_right, pow-suc, two-pow-succ}
use Rattle.std.proofs.Math.Pow.{pow-lt}
use Rattle.std.proofs.lemmas.Bool.Decides.{nat_tests}
use Rattle.std.proofs.lemmas.Int.Digits.{number_lt, number_more}
use Rattle.std.specs.Int.Digits.{number_from_digits}
use Rattle.std.proofs.lemmas.List.{length-reverse, length-take-le}
use Rattle.std.proofs.lemmas.Nat.{pow-add}
use Rattle.std.specs.Prelude.{nat_lt, if◌then◌else◌, is_some, reverse, unwrap_or}
use Rattle.cbor_tokens.specs.AreBytes.{AreBytes}
use Rattle.cbor_notes.specs.Element.{signed_text, size}
use Rattle.cbor_notes.specs.Text.{grouped}

-- a shifted one
pub half_is : (size : ℕ) → 1 ≤ size → size ≤ 16 → (1 * 2 ^ (8 * size - 1)) % 2 ^ 128 ≡ 2 ^ (8 * size - 1)
half_is size some few =
    let k : 8 * size - 1 < 128 = omega arith in
    let fits : 2 ^ (8 * size - 1) < 2 ^ 128 = pow-lt k in
    omega arith

-- two halves
pub halves : (size : ℕ) → 1 ≤ size → 2 ^ (8 * size) ≡ 2 ^ (8 * size - 1) + 2 ^ (8 * size - 1)
halves size some =
    let k : 8 * size ≡ suc (8 * size - 1) = omega arith in
    ap (λ n. 2 ^ n) k ∙ two-pow-succ (8 * size - 1)

-- a number in the lower half, and one in the upper half
pub signed_text-lower : (size number : ℕ) → number < 2 ^ (8 * size - 1) → signed_text size number ≡ grouped number false
signed_text-lower size number h =
    let test : nat_lt number (2 ^ (8 * size - 1)) ≡ true = grind (arith, nat_tests) in
    rw test refl

pub signed_text-upper : (size number : ℕ) → 2 ^ (8 * size - 1) ≤ number
    → signed_text size number ≡ grouped (2 ^ (8 * size) - number) true
signed_text-upper size number h =
    let test : nat_lt number (2 ^ (8 * size - 1)) ≡ false = grind (arith, nat_tests) in
    rw test refl

-- bytes as they are known of a slice
pub are_bytes : (xs : List ℕ) → ((i : ℕ) → get_or xs i 0 < 256) → AreBytes xs
are_bytes [] fit = tt
are_bytes (x ∷ xs) fit = (fit 0, are_bytes xs (λ i. fit (suc i)))

powers : (n : ℕ) → 256 ^ n ≡ 2 ^ (8 * n)
powers zero = refl
powers (suc n) =
    let e : 8 * suc n ≡ 8 * n + 8 = omega arith in
    pow-suc 256 n ∙ ap (λ m. m * 256) (powers n) ∙ sym (pow-add 2 (8 * n) 8) ∙ sym (ap (λ m. 2 ^ m) e)

-- the number of bytes is below the power that they can write
pub number_below : (xs : List ℕ) → ((i : ℕ) → get_or xs i 0 < 256) → number_from_digits 256 xs < 2 ^ (8 * length xs)
number_below xs fit = rw (← powers (length xs)) (number_lt 256 xs (are_bytes xs fit))

take_fits : (n : ℕ) (xs : List ℕ) → ((i : ℕ) → get_or xs i 0 < 256) → (i : ℕ) → get_or (take n xs) i 0 < 256
take_fits zero xs fit i = omega arith
take_fits (suc n) [] fit i = omega arith
take_fits (suc n) (x ∷ xs) fit zero = fit 0
take_fits (suc n) (x ∷ xs) fit (suc i) = take_fits n xs (λ j. fit (suc j)) i

-- one more byte
pub next_number : (xs : List ℕ) (i number : ℕ) → ((j : ℕ) → get_or xs j 0 < 256) → i < length xs → length xs ≤ 16
    → number ≡ number_from_digits 256 (take i xs)
    → (number * 256 + get_or xs i 0 ≡ number_from_digits 256 (take (i + 1) xs))
    × (number * 256 + get_or xs i 0 < 2 ^ 128)
next_number xs i number fit inside few is =
    let more : number * 256 + get_or xs i 0 ≡ number_from_digits 256 (take (i + 1) xs) =
    rw is (sym (number_more 256 xs i inside)) in
    let below = number_below (take (i + 1) xs) (take_fits (i + 1) xs fit) in
    let len : 8 * length (take (i + 1) xs) ≤ 128 = omega (arith, length-take-le (i + 1) xs (omega arith)) in
    let most : 2 ^ (8 * length (take (i + 1) xs)) ≤ 2 ^ 128 = pow-le-pow_right (lit< tt) len in
    (more, rw more (omega arith))

two_to : (e : ℕ) → e ≤ 4 → (1 ≤ 2 ^ e) × (2 ^ e ≤ 16)
two_to zero h = (omega arith, omega arith)
two_to (suc zero) h = (omega arith, omega arith)
two_to (suc (suc zero)) h = (omega arith, omega arith)
two_to (suc (suc (suc zero))) h = (omega arith, omega arith)
two_to (suc (suc (suc (suc zero)))) h = (omega arith, omega arith)
two_to (suc (suc (suc (suc (suc e))))) h = absurd (omega arith)

-- an element has one to sixteen bytes
pub size_small : (tag : ℕ) → (1 ≤ size tag) × (size tag ≤ 16)
size_small tag = two_to (tag / 16 % 2 + tag % 4) (omega arith)

-- reversed bytes have the same length
pub length_either : (b : Bool) (xs : List ℕ) → length (if b then reverse xs else xs) ≡ length xs
length_either true xs = length-reverse xs
length_either false xs = refl

-- an option, by whether it has a value and which
pub some_is : (o : Option (List ℕ)) (xs : List ℕ) → true ≡ is_some o → xs ≡ unwrap_or o [] → Some xs ≡ o
some_is None xs some is = cc
some_is (Some ys) xs some is = ap Some is

pub none_is : (o : Option (List ℕ)) → false ≡ is_some o → None ≡ o
none_is None none = refl
none_is (Some ys) none = cc
