-- The function `places` returns the lowest digits of a number in a base: as many as asked for, each below the base, and
-- they make the number again if it fits. Digits below the base are the `places` of the number that they make.
use Rattle.std.proofs.Common.{◌≡◌, ℕ, zero, suc, ◌+◌, ◌*◌, ◌/◌, ◌%◌, ◌^◌, ◌<◌, List, [], ◌∷◌, ◌++◌, length, take, refl}
use Rattle.std.proofs.Common.{sym, ap, ◌∙◌, arith}
use Rattle.std.proofs.lemmas.List.{length-append, take-append-le, take_all}
use Rattle.std.proofs.lemmas.Nat.{same_from_place, mod_below, div_below, div-add-mod'}
use Rattle.std.proofs.lemmas.Int.Digits.{number_push, number_lt}
use Rattle.std.proofs.Math.Nat.{zero-add, suc-add, mul_comm, pow-zero, pow-suc, div-one, div-div-eq-div-mul}
use Rattle.std.specs.Int.Digits.{AllBelowBase, number_from_digits, number_from_digits_after}
use Rattle.cbor_tokens.specs.Base32.{places}

pub length-places : (b k n : ℕ) → length (places b k n) ≡ k
length-places b zero n = refl
length-places b (suc k) n = length-append (places b k (n / b)) (n % b ∷ [])
    ∙ rw (length-places b k (n / b)) (omega arith)

pub AllBelowBase_push : (b : ℕ) (ds : List ℕ) (d : ℕ) → AllBelowBase b ds → d < b → AllBelowBase b (ds ++ d ∷ [])
AllBelowBase_push b [] d all small = (small, tt)
AllBelowBase_push b (x ∷ ds) d all small = (all.0, AllBelowBase_push b ds d all.1 small)

pub AllBelowBase-places : (b k n : ℕ) → 0 < b → AllBelowBase b (places b k n)
AllBelowBase-places b zero n positive = tt
AllBelowBase-places b (suc k) n positive =
    AllBelowBase_push b (places b k (n / b)) (n % b) (AllBelowBase-places b k (n / b) positive) (mod_below n b positive)

pub number-places : (b k n : ℕ) → 0 < b → n < b ^ k → number_from_digits b (places b k n) ≡ n
number-places b zero n positive small = let one : n < 1 = rw pow-zero at small in omega arith
number-places b (suc k) n positive small =
    let whole : n < b ^ k * b = rw pow-suc at small in
    number_push b (places b k (n / b)) (n % b)
    ∙ ap (λ (q : ℕ). q * b + n % b) (number-places b k (n / b) positive (div_below n b (b ^ k) positive whole))
    ∙ div-add-mod' n b

-- lists of digits of one length are equal where the numbers are
same_digits_after : (b m n : ℕ) (xs ys : List ℕ) → length xs ≡ length ys → AllBelowBase b xs → AllBelowBase b ys
    → number_from_digits_after b m xs ≡ number_from_digits_after b n ys → (m ≡ n) × (xs ≡ ys)
same_digits_after b m n [] [] len x y is = (is, refl)
same_digits_after b m n [] (d ∷ ys) len x y is = absurd (omega (arith, len))
same_digits_after b m n (c ∷ xs) [] len x y is = absurd (omega (arith, len))
same_digits_after b m n (c ∷ xs) (d ∷ ys) len x y is =
    let more = same_digits_after b (m * b + c) (n * b + d) xs ys (omega (arith, len)) x.1 y.1 is in
    let first = same_from_place m c n d b x.0 y.0 more.0 in
    (first.0, rw (first.1, more.1) refl)

pub same_digits : (b : ℕ) (xs ys : List ℕ) → length xs ≡ length ys → AllBelowBase b xs → AllBelowBase b ys
    → number_from_digits b xs ≡ number_from_digits b ys → xs ≡ ys
same_digits b xs ys len x y is = (same_digits_after b 0 0 xs ys len x y is).1

-- the digits of the number that digits make
pub places-number : (b : ℕ) (ds : List ℕ) → 0 < b → AllBelowBase b ds
    → places b (length ds) (number_from_digits b ds) ≡ ds
places-number b ds positive all =
    same_digits b (places b (length ds) (number_from_digits b ds)) ds
    (length-places b (length ds) (number_from_digits b ds))
    (AllBelowBase-places b (length ds) (number_from_digits b ds) positive) all
    (number-places b (length ds) (number_from_digits b ds) positive (number_lt b ds all))

-- the first digits
pub take-places : (b j i n : ℕ) → take j (places b (i + j) n) ≡ places b j (n / b ^ i)
take-places b j zero n = rw (zero-add, pow-zero, div-one)
    (take_all j (places b j n) (omega (arith, length-places b j n)))
take-places b j (suc i) n =
    let shift : n / b / b ^ i ≡ n / b ^ suc i = div-div-eq-div-mul n b (b ^ i)
    ∙ ap (λ (m : ℕ). n / m) (mul_comm b (b ^ i) ∙ sym (pow-suc b i)) in
    let front : take j (places b (i + j) (n / b) ++ n % b ∷ []) ≡ take j (places b (i + j) (n / b)) =
    take-append-le j (places b (i + j) (n / b)) (n % b ∷ []) (omega (arith, length-places b (i + j) (n / b))) in
    rw suc-add (front ∙ take-places b j i (n / b) ∙ ap (places b j) shift)
