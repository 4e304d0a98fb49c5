-- For `reduced.rt`: the integer that a double is (`integer_of`) is given by its sign bit and the size of its other bits
-- (`size_of_bits`). For each range of exponents, this size is the number that the code computes, or there is none.
use Rattle.std.proofs.Common.{◌≡◌, ℕ, zero, suc, ◌+◌, ◌-◌, ◌*◌, ◌/◌, ◌%◌, ◌^◌, ◌<◌, ◌≤◌, Bool, true, false, cond, ◌&&◌}
use Rattle.std.proofs.Common.{ltb, leb, eqb, Some, None, inl, inr, refl, sym, ap, subst, ◌∙◌, arith}
use Rattle.std.proofs.lemmas.Bool.{lt-ltb, le-ltb, eq-eqb, ne_eqb, ltb-false, leb-true, cases_eq}
use Rattle.std.proofs.lemmas.Bool.{cases_lt}
use Rattle.std.proofs.lemmas.Nat.{div-add-mod', le-div, pow-add}
use Rattle.std.proofs.Math.Nat.{mul_right_comm, eq_of_mul-eq-mul_right, mul-mod_left, mod-one, div-one}
use Rattle.std.proofs.Math.Nat.{mod-eq_of_lt, div-le_self, mul_assoc, mul-one, one-mul, mul-pos, mul-le-mul_right}
use Rattle.std.proofs.Math.Nat.{le_trans, le_of_eq}
use Rattle.std.proofs.Math.Nat.{lt_of_lt_of_le}
use Rattle.std.proofs.Math.Pow.{pow_mono, pow_pos, pow-lt, shl_lt}
use Rattle.std.specs.Float.MulAdd.{units_of_bits}
use lib.Ieee.{Float, nan, inf, fin, binary64, up, down, odd, of_bits, of_fields}
use lib.Ieee.Exact.{HasValue, odd_sign}
use lib.Ieee.Fits.{down_pos}
use lib.Ieee.Nearest.{div_same}
use Rattle.cbor_rules.specs.Reduced.{in_range, whole, integer_of}
use Rattle.cbor_rules.specs.mirror.DoubleSizes.{whole_size, size_of_bits, signed}

-- ---- equal fractions

no_rest : (a b c d : ℕ) → 0 < b → 0 < d → a * d ≡ c * b → a % b ≡ 0 → c % d ≡ 0
no_rest a b c d B D e none =
    let is_whole : a / b * b ≡ a = omega (arith, div-add-mod' a b) in
    let product : c * b ≡ (a / b * d) * b =
    sym e ∙ ap (λ (x : ℕ). x * d) (sym is_whole) ∙ mul_right_comm (a / b) b d in
    ap (λ (x : ℕ). x % d) (eq_of_mul-eq-mul_right b B c (a / b * d) product) ∙ mul-mod_left (a / b) d

rest_same : (a b c d : ℕ) → 0 < b → 0 < d → a * d ≡ c * b → eqb (a % b) 0 ≡ eqb (c % d) 0
rest_same a b c d B D e =
    elim (cases_eq (a % b) 0) [
      | inl is ↦ eq-eqb (a % b) 0 is ∙ sym (eq-eqb (c % d) 0 (no_rest a b c d B D e is))
      | inr other ↦ ne_eqb (a % b) 0 other
          ∙ sym (ne_eqb (c % d) 0 (λ is. other (no_rest c d a b D B (sym e) is)))
    ]

whole_same : (s : Bool) (a b c d : ℕ) → 0 < b → 0 < d → a * d ≡ c * b → whole s a b ≡ whole s c d
whole_same s a b c d B D e =
    let rest = rest_same a b c d B D e in
    let quotient : a / b ≡ c / d = div_same a b c d B D e in
    λ i. cond (rest i && in_range s (quotient i)) (Some (s, quotient i)) None

size_same : (a b c d : ℕ) → 0 < b → 0 < d → a * d ≡ c * b → whole_size a b ≡ whole_size c d
unfolding whole_size
size_same a b c d B D e =
    let rest = rest_same a b c d B D e in
    let quotient : a / b ≡ c / d = div_same a b c d B D e in
    λ i. cond (rest i && ltb (quotient i) (2 ^ 64)) (Some (quotient i)) None

-- ---- the sign

positive : (q : ℕ) (t : Bool) → t ≡ ltb q (2 ^ 64)
    → cond t (Some (false, q)) None ≡ signed false (cond t (Some q) None)
positive q true e = rw (sym e) refl
positive q false e = refl

negative : (q : ℕ) (t u : Bool) → t ≡ leb q (2 ^ 63) → u ≡ ltb q (2 ^ 64)
    → cond t (Some (true, q)) None ≡ signed true (cond u (Some q) None)
negative q t true e f = ap (λ (x : Bool). cond x (Some (true, q)) None) e
negative q false false e f = refl
negative q true false e f =
    let most = leb-true q (2 ^ 63) (sym e) in
    let least = ltb-false q (2 ^ 64) (sym f) in
    absurd (omega arith)

signed_is : (s : Bool) (a b : ℕ) → whole s a b ≡ signed s (whole_size a b)
unfolding whole_size
signed_is s a b = go (eqb (a % b) 0) s
  where
    go : (r s : Bool) → cond (r && in_range s (a / b)) (Some (s, a / b)) None
        ≡ signed s (cond (r && ltb (a / b) (2 ^ 64)) (Some (a / b)) None)
    go false s = refl
    go true false = positive (a / b) (ltb (a / b) (2 ^ 64)) refl
    go true true = negative (a / b) (leb (a / b) (2 ^ 63)) (ltb (a / b) (2 ^ 64)) refl refl

integer_by_value : (x : Float) (s : Bool) (c d : ℕ) → 0 < d → HasValue x s c d → integer_of x ≡ whole s c d
integer_by_value nan s c d D h = absurd h
integer_by_value (inf t) s c d D h = absurd h
integer_by_value (fin t m e) s c d D h =
    ap (λ (u : Bool). whole u (m * up e) (down e)) h.0
    ∙ whole_same s (m * up e) (down e) c d (down_pos e) D h.1

-- ---- fractions by their size

under_one : (c d : ℕ) → 0 < c → c < d → whole_size c d ≡ None
unfolding whole_size
under_one c d some less =
    let other : ¬ (c % d ≡ 0) = λ e. omega (arith, mod-eq_of_lt less) in rw (ne_eqb (c % d) 0 other) refl

integer : (n : ℕ) → n < 2 ^ 64 → whole_size n 1 ≡ Some n
unfolding whole_size
integer n less =
    let none : eqb (n % 1) 0 ≡ true = eq-eqb (n % 1) 0 (mod-one n) in
    let same : n / 1 ≡ n = div-one n in
    let fits : ltb (n / 1) (2 ^ 64) ≡ true = lt-ltb (n / 1) (2 ^ 64) (omega arith) in
    rw (none, fits, same) refl

huge : (c d : ℕ) → 2 ^ 64 ≤ c / d → whole_size c d ≡ None
unfolding whole_size
huge c d least = go (eqb (c % d) 0)
  where
    go : (r : Bool) → cond (r && ltb (c / d) (2 ^ 64)) (Some (c / d)) None ≡ None
    go true = rw (le-ltb (c / d) (2 ^ 64) least) refl
    go false = refl

-- a quotient of few bits
few : (s p : ℕ) → s < 2 ^ 64 → whole_size s p ≡ cond (eqb (s % p) 0) (Some (s / p)) None
unfolding whole_size
few s p less = go (eqb (s % p) 0)
  where
    fits : ltb (s / p) (2 ^ 64) ≡ true
    fits = lt-ltb (s / p) (2 ^ 64) (omega (arith, div-le_self s p))

    go : (r : Bool) → cond (r && ltb (s / p) (2 ^ 64)) (Some (s / p)) None ≡ cond r (Some (s / p)) None
    go true = rw fits refl
    go false = refl

-- ---- the units of a double

steps_low : (b : ℕ) → b < 2 ^ 52 → units_of_bits b ≡ b
unfolding units_of_bits
steps_low b low = rw (lt-ltb b (2 ^ 52) low) refl

steps_high : (b : ℕ) → 2 ^ 52 ≤ b → units_of_bits b ≡ (2 ^ 52 + b % 2 ^ 52) * 2 ^ (b / 2 ^ 52 - 1)
unfolding units_of_bits
steps_high b high = rw (le-ltb b (2 ^ 52) high) refl

fields : (s : Bool) (x t b : ℕ) → x < 2047 → t < 2 ^ 52 → b ≡ x * 2 ^ 52 + t
    → HasValue (of_fields binary64 s x t) s (units_of_bits b) (2 ^ 1074)
unfolding of_fields
fields s zero t b less few_digits e =
    let units : t * 2 ^ 0 ≡ units_of_bits b = omega (arith, steps_low b (omega arith)) in
    subst (λ (a : ℕ). HasValue (odd 53 s t 0 1074) s a (2 ^ 1074)) units (odd_sign 53 s t 0 1074)
fields s (suc j) t b less few_digits e =
    let p : t ≡ b % 2 ^ 52 = omega arith in
    let q : j ≡ b / 2 ^ 52 - 1 = omega arith in
    let units : (2 ^ 52 + t) * 2 ^ j ≡ units_of_bits b =
    (λ i. (2 ^ 52 + p i) * 2 ^ q i) ∙ sym (steps_high b (omega arith)) in
    let number = odd 53 s (2 ^ 52 + t) j 1074 in
    subst (λ (k : Bool). HasValue (cond k (cond (eqb t 0) (inf s) nan) number) s (units_of_bits b) (2 ^ 1074))
    (sym (ne_eqb (suc j) 2047 (omega arith)))
    (subst (λ (a : ℕ). HasValue number s a (2 ^ 1074)) units (odd_sign 53 s (2 ^ 52 + t) j 1074))

read : (b : ℕ) → b % 2 ^ 63 < 2047 * 2 ^ 52
    → HasValue (of_bits binary64 b) (leb (2 ^ 63) b) (units_of_bits (b % 2 ^ 63)) (2 ^ 1074)
unfolding of_bits
read b less =
    fields (leb (2 ^ 63) b) (b % 2 ^ 63 / 2 ^ 52) (b % 2 ^ 52) (b % 2 ^ 63) (omega arith) (omega arith) (omega arith)

-- ---- doubles by their exponent

-- the digits, with the leading one
abbrev pub digits : ℕ → ℕ
digits b = 2 ^ 52 + b % 2 ^ 52

-- two powers of two are one, by the sum of their exponents
joined : (s i j k : ℕ) → i + j ≡ k → (s * 2 ^ i) * 2 ^ j ≡ s * 2 ^ k
joined s i j k e =
    mul_assoc s (2 ^ i) (2 ^ j) ∙ ap (λ (x : ℕ). s * x) (sym (pow-add 2 i j)) ∙ ap (λ (x : ℕ). s * 2 ^ x) e

pub size_zero : (b : ℕ) → b ≡ 0 → size_of_bits b ≡ Some 0
unfolding size_of_bits whole_size units_of_bits
size_zero b e = rw e refl

units_small : (b : ℕ) → b / 2 ^ 52 < 1023 → units_of_bits b < 2 ^ 1074
units_small b less =
    elim (cases_lt b (2 ^ 52)) [
      | inl low ↦
          (let wide : 2 ^ 52 ≤ 2 ^ 1074 = pow_mono {i = 52} {j = 1074} (omega arith) in
          subst (λ (x : ℕ). x < 2 ^ 1074) (sym (steps_low b low)) (lt_of_lt_of_le low wide))
      | inr high ↦
          (let k = b / 2 ^ 52 - 1 in
          let shifted : digits b * 2 ^ k < 2 ^ (53 + k) = shl_lt {a = digits b} 53 k (omega arith) in
          let wide : 2 ^ (53 + k) ≤ 2 ^ 1074 = pow_mono {i = 53 + k} {j = 1074} (omega arith) in
          subst (λ (x : ℕ). x < 2 ^ 1074) (sym (steps_high b high)) (lt_of_lt_of_le shifted wide))
    ]

units_some : (b : ℕ) → 0 < b → 0 < units_of_bits b
units_some b some =
    elim (cases_lt b (2 ^ 52)) [
      | inl low ↦ subst (λ (x : ℕ). 0 < x) (sym (steps_low b low)) some
      | inr high ↦ subst (λ (x : ℕ). 0 < x) (sym (steps_high b high))
          (mul-pos (omega arith) (pow_pos (b / 2 ^ 52 - 1)))
    ]

pub size_small : (b : ℕ) → 0 < b → b / 2 ^ 52 < 1023 → size_of_bits b ≡ None
unfolding size_of_bits
size_small b some less = under_one (units_of_bits b) (2 ^ 1074) (units_some b some) (units_small b less)

size_fraction : (b : ℕ) → 1023 ≤ b / 2 ^ 52 → b / 2 ^ 52 < 1075
    → size_of_bits b ≡ whole_size (digits b) (2 ^ (1075 - b / 2 ^ 52))
unfolding size_of_bits
size_fraction b least most =
    let i = b / 2 ^ 52 - 1 in
    let j = 1075 - b / 2 ^ 52 in
    ap (λ (x : ℕ). whole_size x (2 ^ 1074)) (steps_high b (omega arith))
    ∙ size_same (digits b * 2 ^ i) (2 ^ 1074) (digits b) (2 ^ j) (pow_pos 1074) (pow_pos j)
    (joined (digits b) i j 1074 (omega arith))

size_integer : (b : ℕ) → 1075 ≤ b / 2 ^ 52 → b / 2 ^ 52 < 1087
    → size_of_bits b ≡ Some (digits b * 2 ^ (b / 2 ^ 52 - 1075))
unfolding size_of_bits
size_integer b least most =
    let i = b / 2 ^ 52 - 1 in
    let j = b / 2 ^ 52 - 1075 in
    let n = digits b * 2 ^ j in
    let shifted : n < 2 ^ (53 + j) = shl_lt {a = digits b} 53 j (omega arith) in
    let wide : 2 ^ (53 + j) ≤ 2 ^ 64 = pow_mono {i = 53 + j} {j = 64} (omega arith) in
    let same : digits b * 2 ^ i * 1 ≡ n * 2 ^ 1074 =
    mul-one (digits b * 2 ^ i) ∙ sym (joined (digits b) j 1074 i (omega arith)) in
    ap (λ (x : ℕ). whole_size x (2 ^ 1074)) (steps_high b (omega arith))
    ∙ size_same (digits b * 2 ^ i) (2 ^ 1074) n 1 (pow_pos 1074) (omega arith) same
    ∙ integer n (lt_of_lt_of_le shifted wide)

pub size_huge : (b : ℕ) → 1087 ≤ b / 2 ^ 52 → size_of_bits b ≡ None
unfolding size_of_bits
size_huge b least =
    let i = b / 2 ^ 52 - 1 in
    let wide : 2 ^ (64 + 1074) ≤ 2 ^ (52 + i) = pow_mono {i = 64 + 1074} {j = 52 + i} (omega arith) in
    let few_digits : 2 ^ 52 * 2 ^ i ≤ digits b * 2 ^ i = mul-le-mul_right (2 ^ i) (omega arith) in
    let product : 2 ^ 64 * 2 ^ 1074 ≤ digits b * 2 ^ i =
    le_trans (le_of_eq (sym (pow-add 2 64 1074)))
    (le_trans wide (le_trans (le_of_eq (pow-add 2 52 i)) few_digits)) in
    ap (λ (x : ℕ). whole_size x (2 ^ 1074)) (steps_high b (omega arith))
    ∙ huge (digits b * 2 ^ i) (2 ^ 1074) (le-div (2 ^ 64) (digits b * 2 ^ i) (2 ^ 1074) (pow_pos 1074) product)

-- ---- as the code has them

-- a unit in 64 bits
unit_is : (k : ℕ) → k < 64 → 1 * 2 ^ k % 2 ^ 64 ≡ 2 ^ k
unit_is k less =
    let below : 2 ^ k < 2 ^ 64 = pow-lt {i = k} {j = 64} less in
    let same : 1 * 2 ^ k ≡ 2 ^ k = one-mul (2 ^ k) in
    ap (λ (x : ℕ). x % 2 ^ 64) same ∙ mod-eq_of_lt below

fraction_is : (b unit : ℕ) → 1023 ≤ b / 2 ^ 52 → b / 2 ^ 52 < 1075 → unit ≡ 1 * 2 ^ (1075 - b / 2 ^ 52) % 2 ^ 64
    → size_of_bits b ≡ cond (eqb (digits b % unit) 0) (Some (digits b / unit)) None
fraction_is b unit least most e =
    let k = 1075 - b / 2 ^ 52 in
    let same : 2 ^ k ≡ unit = sym (e ∙ unit_is k (omega arith)) in
    size_fraction b least most ∙ ap (whole_size (digits b)) same ∙ few (digits b) unit (omega arith)

pub fraction_whole : (b unit : ℕ) → 1023 ≤ b / 2 ^ 52 → b / 2 ^ 52 < 1075
    → unit ≡ 1 * 2 ^ (1075 - b / 2 ^ 52) % 2 ^ 64 → digits b % unit ≡ 0 → size_of_bits b ≡ Some (digits b / unit)
fraction_whole b unit least most e none =
    fraction_is b unit least most e
    ∙ ap (λ t. cond t (Some (digits b / unit)) None) (eq-eqb (digits b % unit) 0 none)

pub fraction_none : (b unit : ℕ) → 1023 ≤ b / 2 ^ 52 → b / 2 ^ 52 < 1075
    → unit ≡ 1 * 2 ^ (1075 - b / 2 ^ 52) % 2 ^ 64 → ¬ (digits b % unit ≡ 0) → size_of_bits b ≡ None
fraction_none b unit least most e some =
    fraction_is b unit least most e
    ∙ ap (λ t. cond t (Some (digits b / unit)) None) (ne_eqb (digits b % unit) 0 some)

pub integer_whole : (b : ℕ) → 1075 ≤ b / 2 ^ 52 → b / 2 ^ 52 < 1087
    → size_of_bits b ≡ Some (digits b * 2 ^ (b / 2 ^ 52 - 1075) % 2 ^ 64)
integer_whole b least most =
    let j = b / 2 ^ 52 - 1075 in
    let shifted : digits b * 2 ^ j < 2 ^ (53 + j) = shl_lt {a = digits b} 53 j (omega arith) in
    let wide : 2 ^ (53 + j) ≤ 2 ^ 64 = pow_mono {i = 53 + j} {j = 64} (omega arith) in
    size_integer b least most ∙ ap Some (sym (mod-eq_of_lt (lt_of_lt_of_le shifted wide)))

-- ---- with the sign

no_number : (s : Bool) (x t : ℕ) → x ≡ 2047 → integer_of (of_fields binary64 s x t) ≡ None
unfolding of_fields
no_number s x t e = subst (λ (k : ℕ). integer_of (of_fields binary64 s k t) ≡ None) (sym e) (go (eqb t 0))
  where
    go : (u : Bool) → integer_of (cond u (inf s) nan) ≡ None
    go true = refl
    go false = refl

finite_is : (b : ℕ) → b % 2 ^ 63 < 2047 * 2 ^ 52
    → integer_of (of_bits binary64 b) ≡ signed (leb (2 ^ 63) b) (size_of_bits (b % 2 ^ 63))
unfolding size_of_bits
finite_is b finite =
    let u = units_of_bits (b % 2 ^ 63) in
    integer_by_value (of_bits binary64 b) (leb (2 ^ 63) b) u (2 ^ 1074) (pow_pos 1074) (read b finite)
    ∙ signed_is (leb (2 ^ 63) b) u (2 ^ 1074)

pub integer_is : (b : ℕ) → integer_of (of_bits binary64 b) ≡ signed (leb (2 ^ 63) b) (size_of_bits (b % 2 ^ 63))
unfolding of_bits
integer_is b =
    let s = leb (2 ^ 63) b in
    let c = b % 2 ^ 63 in
    elim (cases_lt c (2047 * 2 ^ 52)) [
      | inl finite ↦ finite_is b finite
      | inr other ↦ no_number s (c / 2 ^ 52) (b % 2 ^ 52) (omega arith)
          ∙ sym (ap (signed s) (size_huge c (omega arith)))
    ]
