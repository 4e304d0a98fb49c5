-- For `hex_float/nearest.rt`: the float nearest to a number follows from the digits at its front (below 2 ^ 60) and
-- from whether any digit behind them is not zero. The bits of the float follow from how many units of the least
-- positive float it is. Zeros added behind a short front change nothing.
use Rattle.std.proofs.Common.{◌≡◌, ◌⊎◌, inl, inr, ℕ, zero, suc, ◌+◌, ◌-◌, ◌*◌, ◌/◌, ◌%◌, ◌^◌, ◌<◌, ◌≤◌, min}
use Rattle.std.proofs.Common.{true≢false, Bool, true, false, cond, T, ltb, refl, sym, ap, ap₂, ◌∙◌, subst, arith}
use Rattle.std.proofs.Common.{lit<, lit≤, mul_assoc, mul_right_comm, mul-one, mul-pos}
use Rattle.std.proofs.Common.{mul-le-mul_right, mul-lt-mul_of_pos_right, div-lt_iff_lt-mul, not-le_of_lt, mul_comm}
use Rattle.std.proofs.Math.Nat.{pow-suc, two-pow-succ}
use Rattle.std.proofs.Math.Pow.{pow-lt}
use Rattle.std.proofs.Common.{le_trans, le_of_eq, lt_of_lt_of_le, lt_of_le_of_lt, lt_of_not-le}
use Rattle.std.proofs.Common.{le-div_iff_mul-le, pow-add, pow_pos, pow_mono, ltb-true, ltb-false}
use Rattle.std.proofs.Common.{mod-eq_of_lt, mul-div_cancel, le-ltb}
use Rattle.std.proofs.lemmas.Bool.{cases_Bool}
use Rattle.std.proofs.lemmas.Nat.{div-mul-add, div-add-mod', mod_below}
use Rattle.std.proofs.Math.Nat.{div-eq_of_lt, add-mul, lt_of_mul-lt-mul_right, le_of_mul-le-mul_right}
use Prim.Native.Nat.{compare}
use lib.Ieee.{odd, up, down}
use lib.Ieee.Fits.{odd-fits}
use lib.Ieee.{nearest, Float, Format, nan, inf, fin, binary32, binary64, fits, to_bits, of_bits, size, units, round}
use lib.Ieee.{prec, low, emax, hid, ones}
use lib.Ieee.Bits.{of_bits-to_bits}
use lib.Ieee.Digits.{size-lt, size-le, size_reaches}
use lib.Ieee.Exact.{HasValue, units_val}
use lib.Ieee.Fits.{round_is, down_pos}
use lib.Ieee.Nearest.{closest, closest_same}
use lib.Ieee.Scale.{round_same}
use Rattle.cbor_floats.proofs.Rounding.{closest_below, closest_above, closest_tie}

-- ---- what is closest, by the digits at the front

-- f over u, with less than p behind f: the quotient is the same, and what remains is in front
below_next : (r u p t : ℕ) → r < u → t < p → r * p + t < u * p
below_next r u p t h less =
    let up : r + 1 ≤ u = omega arith in
    let next : (r + 1) * p ≤ u * p = mul-le-mul_right p up in
    let e : (r + 1) * p ≡ r * p + p = omega arith in
    omega (arith, next, e, less)

split : (f u p t : ℕ) → f * p + t ≡ f / u * (u * p) + (f % u * p + t)
split f u p t =
    let e = ap (λ z. z * p) (div-add-mod' f u) in
    let g : (f / u * u + f % u) * p ≡ f / u * (u * p) + f % u * p = simp (add-mul, mul_assoc) in
    omega (arith, e, g)

front_div : (f u p t : ℕ) → 0 < u → t < p → (f * p + t) / (u * p) ≡ f / u
front_div f u p t some less =
    ap (λ z. z / (u * p)) (split f u p t)
    ∙ div-mul-add (f / u) (u * p) (f % u * p + t) (below_next (f % u) u p t (mod_below f u some) less)

front_mod : (f u p t : ℕ) → 0 < u → t < p → (f * p + t) % (u * p) ≡ f % u * p + t
front_mod f u p t some less =
    let n = f * p + t in
    let d = ap (λ z. z * (u * p)) (front_div f u p t some less) in
    let e = div-add-mod' n (u * p) in
    let s = split f u p t in
    omega (arith, d, e, s)

closest_at : (a b q : ℕ) → a / b ≡ q → closest a b ≡ nearest q (compare (a % b * 2) b)
closest_at a b q e = ap (λ z. nearest z (compare (a % b * 2) b)) e

-- u is twice v
pub front_below : (f u v p t : ℕ) → u ≡ v * 2 → 0 < u → t < p → f % u * 2 < u
    → f / u ≡ closest (f * p + t) (u * p)
front_below f u v p t even some less h =
    let m = front_mod f u p t some less in
    let r : f % u * p + t < v * p = below_next (f % u) v p t (omega (arith, h, even)) less in
    let e : u * p ≡ v * p * 2 = ap (λ z. z * p) even ∙ mul_right_comm v 2 p in
    sym (front_div f u p t some less)
    ∙ closest_below (f * p + t) (u * p) (omega (arith, m, r, e))

pub front_above : (f u v p t : ℕ) → u ≡ v * 2 → 0 < u → t < p → u < f % u * 2
    → f / u + 1 ≡ closest (f * p + t) (u * p)
front_above f u v p t even some less h =
    let m = front_mod f u p t some less in
    let up : v + 1 ≤ f % u = omega (arith, h, even) in
    let r : (v + 1) * p ≤ f % u * p = mul-le-mul_right p up in
    let n : (v + 1) * p ≡ v * p + p = omega arith in
    let e : u * p ≡ v * p * 2 = ap (λ z. z * p) even ∙ mul_right_comm v 2 p in
    ap (λ z. z + 1) (sym (front_div f u p t some less))
    ∙ closest_above (f * p + t) (u * p) (omega (arith, m, r, n, e, less))

half_is : (f u v p : ℕ) → u ≡ v * 2 → f % u * 2 ≡ u → f % u * p ≡ v * p
half_is f u v p even h = ap (λ z. z * p) {x = f % u} {y = v} (omega (arith, h, even))

pub front_more : (f u v p t : ℕ) → u ≡ v * 2 → 0 < u → t < p → f % u * 2 ≡ u → 0 < t
    → f / u + 1 ≡ closest (f * p + t) (u * p)
front_more f u v p t even some less h more =
    let m = front_mod f u p t some less in
    let r = half_is f u v p even h in
    let e : u * p ≡ v * p * 2 = ap (λ z. z * p) even ∙ mul_right_comm v 2 p in
    ap (λ z. z + 1) (sym (front_div f u p t some less))
    ∙ closest_above (f * p + t) (u * p) (omega (arith, m, r, e, more))

pub front_tie : (f u v p t : ℕ) → u ≡ v * 2 → 0 < u → t < p → f % u * 2 ≡ u → t ≡ 0
    → f / u + f / u % 2 ≡ closest (f * p + t) (u * p)
front_tie f u v p t even some less h none =
    let m = front_mod f u p t some less in
    let r = half_is f u v p even h in
    let e : u * p ≡ v * p * 2 = ap (λ z. z * p) even ∙ mul_right_comm v 2 p in
    ap (λ z. z + z % 2) (sym (front_div f u p t some less))
    ∙ closest_tie (f * p + t) (u * p) (omega (arith, m, r, e, none)) (omega (arith, m, r, e, none))

pub even_power : (cut : ℕ) → 1 ≤ cut → 2 ^ cut ≡ 2 ^ (cut - 1) * 2
even_power cut some =
    let e : cut - 1 + 1 ≡ cut = omega arith in
    ap (λ z. 2 ^ z) (sym e) ∙ pow-add 2 (cut - 1) 1

-- no more than 62 digits have to be cut off
pub capped : (f cut p t : ℕ) → f < 2 ^ 60 → t < p
    → closest (f * p + t) (2 ^ min cut 62 * p) ≡ closest (f * p + t) (2 ^ cut * p)
capped f cut p t small less =
    elim (cases_Bool (ltb cut 62)) [
      | inl e ↦ let l : min cut 62 ≡ cut = omega (arith, ltb-true cut 62 e) in
          ap (λ z. closest (f * p + t) (2 ^ z * p)) l
      | inr e ↦
          let g : 62 ≤ cut = ltb-false cut 62 e in
          let l : min cut 62 ≡ 62 = omega arith in
          ap (λ z. closest (f * p + t) (2 ^ z * p)) l ∙ sym (none 62 (lit≤ tt)) ∙ none cut g
    ]
  where
    none : (c : ℕ) → 62 ≤ c → 0 ≡ closest (f * p + t) (2 ^ c * p)
    none c g =
        let w : 2 ^ 62 ≤ 2 ^ c = pow_mono {i = 62} {j = c} g in
        let l : f < 2 ^ c = lt_of_lt_of_le (omega (arith, small)) w in
        let twice : f * 2 < 2 ^ c = lt_of_lt_of_le (omega (arith, small)) w in
        sym (div-eq_of_lt l)
        ∙ front_below f (2 ^ c) (2 ^ (c - 1)) p t (even_power c (omega (arith, g))) (pow_pos c) less
        (subst (λ r. r * 2 < 2 ^ c) (sym (mod-eq_of_lt l)) twice)

-- ---- how many binary digits a number has

size_at : (u n : ℕ) → 2 ^ n ≤ u → u < 2 ^ suc n → size u ≡ suc n
size_at u n a b =
    let s : n < size u = lt_of_not-le (λ (g : size u ≤ n). not-le_of_lt
    (lt_of_lt_of_le (size-lt u) (pow_mono {i = size u} {j = n} g)) a) in
    omega (arith, size-le u (suc n) b)

pub digits_of : (f : ℕ) → 2 ^ 56 ≤ f → 57 ≤ size f
digits_of f low = lt_of_not-le (λ (g : size f ≤ 56). not-le_of_lt
    (lt_of_lt_of_le (size-lt f) (pow_mono {i = size f} {j = 56} g)) low)

-- with less than 2 ^ c behind it
size_front : (f c t : ℕ) → 0 < f → t < 2 ^ c → size (f * 2 ^ c + t) ≡ size f + c
size_front f c t some less = at (size f) refl
  where
    at : (s : ℕ) → s ≡ size f → size (f * 2 ^ c + t) ≡ s + c
    at zero e = absurd (omega (arith, ap (λ z. 2 ^ z) e, size-lt f))
    at (suc n) e =
        let low : 2 ^ n ≤ f = size_reaches f n (omega (arith, e)) in
        let high : f < 2 ^ suc n = subst (λ z. f < 2 ^ z) (sym e) (size-lt f) in
        let a : 2 ^ (n + c) ≤ f * 2 ^ c = le_trans (le_of_eq (pow-add 2 n c)) (mul-le-mul_right (2 ^ c) low) in
        let b : f * 2 ^ c + t < 2 ^ suc n * 2 ^ c = below_next f (2 ^ suc n) (2 ^ c) t high less in
        size_at (f * 2 ^ c + t) (n + c) (omega (arith, a))
        (lt_of_lt_of_le b (le_of_eq (sym (pow-add 2 (suc n) c)
        ∙ ap (λ z. 2 ^ z) {x = suc n + c} {y = suc (n + c)} (omega arith))))
        ∙ omega arith

size_times : (n c : ℕ) → 0 < n → size (n * 2 ^ c) ≡ size n + c
size_times n c some =
    ap size {x = n * 2 ^ c} {y = n * 2 ^ c + 0} (omega arith) ∙ size_front n c 0 some (pow_pos c)

size_none : size 0 ≡ 0
size_none = omega (arith, size-le 0 0 (lit< tt))

size_shift : (x d : ℕ) → size (x / 2 ^ d) ≡ size x - d
size_shift x d = at (size x) refl
  where
    at : (s : ℕ) → s ≡ size x → size (x / 2 ^ d) ≡ s - d
    at s e =
        elim (cases_Bool (ltb d s)) [
          | inr h ↦
              let le : s ≤ d = ltb-false d s h in
              let less : x < 2 ^ d = lt_of_lt_of_le (subst (λ z. x < 2 ^ z) (sym e) (size-lt x))
              (pow_mono {i = s} {j = d} le) in
              ap size (div-eq_of_lt less) ∙ size_none ∙ omega arith
          | inl h ↦
              let lt : d < s = ltb-true d s h in
              let n = s - 1 - d in
              let low : 2 ^ (s - 1) ≤ x = size_reaches x (s - 1) (omega (arith, e, lt)) in
              let high : x < 2 ^ s = subst (λ z. x < 2 ^ z) (sym e) (size-lt x) in
              let p : 2 ^ n * 2 ^ d ≡ 2 ^ (s - 1) = sym (pow-add 2 n d)
              ∙ ap (λ z. 2 ^ z) {x = n + d} {y = s - 1} (omega arith) in
              let q : 2 ^ suc n * 2 ^ d ≡ 2 ^ s = sym (pow-add 2 (suc n) d)
              ∙ ap (λ z. 2 ^ z) {x = suc n + d} {y = s} (omega arith) in
              size_at (x / 2 ^ d) n ((le-div_iff_mul-le (pow_pos d)).1 (le_trans (le_of_eq p) low))
              ((div-lt_iff_lt-mul (pow_pos d)).1 (lt_of_lt_of_le high (le_of_eq (sym q)))) ∙ omega arith
        ]

-- ---- the float, in units of the least one above 0

round_units : (f : Format) (num down k : ℕ) → k ≡ size (num * 2 ^ low f) - (down + prec f)
    → round f false num (2 ^ down) ≡ units f false (closest (num * 2 ^ low f) (2 ^ down * 2 ^ k)) k
round_units f num down k e =
    let s : size (num * 2 ^ low f / 2 ^ down) - prec f ≡ k =
    ap (λ z. z - prec f) (size_shift (num * 2 ^ low f) down) ∙ omega (arith, e) in
    round_is f false num (2 ^ down)
    ∙ ap (λ z. units f false (closest (num * 2 ^ low f) (2 ^ down * 2 ^ z)) z) s

-- the fraction is the same over the front and what is behind it
same_closest : (l n up down k cut b : ℕ) → up + l + cut + b ≡ down + k
    → closest (n * 2 ^ up * 2 ^ l) (2 ^ down * 2 ^ k) ≡ closest n (2 ^ cut * 2 ^ b)
same_closest l n up down k cut b e =
    closest_same (n * 2 ^ up * 2 ^ l) (2 ^ down * 2 ^ k) n (2 ^ cut * 2 ^ b)
    (mul-pos (pow_pos down) (pow_pos k)) (mul-pos (pow_pos cut) (pow_pos b))
    (ap (λ z. z * (2 ^ cut * 2 ^ b)) (mul_assoc n (2 ^ up) (2 ^ l))
    ∙ mul_assoc n (2 ^ up * 2 ^ l) (2 ^ cut * 2 ^ b)
    ∙ ap (λ z. n * z) (ap₂ (λ y z. y * z) (sym (pow-add 2 up l)) (sym (pow-add 2 cut b))
    ∙ sym (pow-add 2 (up + l) (cut + b))
    ∙ ap (λ z. 2 ^ z) {x = up + l + (cut + b)} {y = down + k} (omega (arith, e))
    ∙ pow-add 2 down k))

-- some digits of the front are cut off
pub cut_is : (p size lift down : ℕ) → p < size → lift + 1 ≤ down + (lift + size - (down + p))
cut_is p size lift down h = omega arith

-- a front of 57 digits has more of them than a float
pub more_digits : (f : Format) (size : ℕ) → 57 ≤ size → prec f < size
more_digits binary32 size h = omega arith
more_digits binary64 size h = omega arith

pub some_digits : (f : Format) → 0 < prec f
some_digits binary32 = lit< tt
some_digits binary64 = lit< tt

pub nearest_is : (f : Format) (d b t n up down size_d lift scale : ℕ) → 2 ^ 56 ≤ d → d < 2 ^ 60 → t < 2 ^ b
    → n ≡ d * 2 ^ b + t → size_d ≡ size d → lift ≡ up + b + low f → scale ≡ lift + size_d - (down + prec f)
    → round f false (n * 2 ^ up) (2 ^ down)
    ≡ units f false (closest (d * 2 ^ b + t) (2 ^ min (down + scale - lift) 62 * 2 ^ b)) scale
nearest_is f d b t n up down size_d lift scale least high less is size_is lift_is scale_is =
    let some : 0 < d = omega (arith, least) in
    let n_some : 0 < n = positive n d b t some is in
    let size_n : size n ≡ size d + b = ap size is ∙ size_front d b t some less in
    let up_some : 0 < n * 2 ^ up = mul-pos n_some (pow_pos up) in
    let size_x : size (n * 2 ^ up * 2 ^ low f) ≡ size d + b + up + low f =
    size_times (n * 2 ^ up) (low f) up_some
    ∙ ap (λ z. z + low f) (size_times n up n_some ∙ ap (λ z. z + up) size_n) in
    let k : scale ≡ size (n * 2 ^ up * 2 ^ low f) - (down + prec f) =
    omega (arith, scale_is, size_x, size_is, lift_is) in
    let cut = down + scale - lift in
    let room = cut_is (prec f) size_d lift down (subst (λ z. prec f < z) (sym size_is)
    (more_digits f (size d) (digits_of d least))) in
    let e : up + low f + cut + b ≡ down + scale = omega (arith, lift_is, scale_is, room) in
    round_units f (n * 2 ^ up) down scale k
    ∙ ap (λ z. units f false z scale) (same_closest (low f) n up down scale cut b e
    ∙ ap (λ z. closest z (2 ^ cut * 2 ^ b)) is ∙ sym (capped d cut (2 ^ b) t high less))
  where
    positive : (n d b t : ℕ) → 0 < d → n ≡ d * 2 ^ b + t → 0 < n
    positive n d b t some is = let m = mul-pos some (pow_pos b) in omega (arith, m, is)

-- ---- the float of this many units, by its bits

bits_of_value : (f : Format) (x : Float) (a : ℕ) → HasValue x false a (2 ^ low f)
    → to_bits f x ≡ 0 + (size a - prec f) * hid f + a / 2 ^ (size a - prec f)
unfolding to_bits
bits_of_value f nan a v = absurd v
bits_of_value f (inf t) a v = absurd v
bits_of_value f (fin true m e) a v = absurd (true≢false v.0)
bits_of_value f (fin false m e) a v =
    let n : m * up e * 2 ^ low f / down e ≡ a = ap (λ k. k / down e) v.1 ∙ mul-div_cancel a (down_pos e) in
    ap (λ k. 0 + (size k - prec f) * hid f + k / 2 ^ (size k - prec f)) n

-- one digit more than h
twice : (h k : ℕ) → 2 ^ suc h * 2 ^ k ≡ 2 ^ h * 2 ^ (1 + k)
twice h k = ap (λ z. z * 2 ^ k) (pow-suc 2 h) ∙ mul_assoc (2 ^ h) 2 (2 ^ k)
    ∙ ap (λ z. 2 ^ h * z) (sym (pow-add 2 1 k))

-- a number q of suc h digits, where k is not 0: its leading digit is there
abbrev pub Normal : ℕ → ℕ → ℕ → Type 0
Normal h q k = (k ≡ 0) ⊎ (2 ^ h ≤ q)

-- q * 2 ^ k in units: its digits but for the last k
kept_bits : (h q k : ℕ) → q ≤ 2 ^ suc h → Normal h q k
    → (size (q * 2 ^ k) - suc h) * 2 ^ h + q * 2 ^ k / 2 ^ (size (q * 2 ^ k) - suc h) ≡ k * 2 ^ h + q
kept_bits h q k most normal = elim (cases_Bool (ltb q (2 ^ suc h))) [
  | inl e ↦ less (ltb-true q (2 ^ suc h) e) normal
  | inr e ↦ top (omega (arith, ltb-false q (2 ^ suc h) e))
]
  where
    from : (s : ℕ) → size (q * 2 ^ k) - suc h ≡ s
        → (size (q * 2 ^ k) - suc h) * 2 ^ h + q * 2 ^ k / 2 ^ (size (q * 2 ^ k) - suc h)
        ≡ s * 2 ^ h + q * 2 ^ k / 2 ^ s
    from s e = ap (λ z. z * 2 ^ h + q * 2 ^ k / 2 ^ z) e

    at : size (q * 2 ^ k) - suc h ≡ k
        → (size (q * 2 ^ k) - suc h) * 2 ^ h + q * 2 ^ k / 2 ^ (size (q * 2 ^ k) - suc h) ≡ k * 2 ^ h + q
    at e = from k e ∙ ap (λ z. k * 2 ^ h + z) (mul-div_cancel q (pow_pos k))

    less : q < 2 ^ suc h → Normal h q k
        → (size (q * 2 ^ k) - suc h) * 2 ^ h + q * 2 ^ k / 2 ^ (size (q * 2 ^ k) - suc h) ≡ k * 2 ^ h + q
    less lt (inl e) =
        let n : q * 2 ^ k ≡ q = ap (λ z. q * 2 ^ z) e ∙ mul-one q in
        at (omega (arith, ap size n, size-le q (suc h) lt, e))
    less lt (inr g) =
        let some : 0 < q = lt_of_lt_of_le (pow_pos h) g in
        let s : size q ≡ suc h = size_at q h g lt in
        at (omega (arith, size_times q k some, s))

    top : q ≡ 2 ^ suc h
        → (size (q * 2 ^ k) - suc h) * 2 ^ h + q * 2 ^ k / 2 ^ (size (q * 2 ^ k) - suc h) ≡ k * 2 ^ h + q
    top e =
        let some : 0 < q = subst (λ z. 0 < z) (sym e) (pow_pos (suc h)) in
        let s : size q ≡ suc (suc h) = size_at q (suc h) (le_of_eq (sym e))
        (subst (λ z. z < 2 ^ suc (suc h)) (sym e) (pow-lt (omega arith))) in
        let n : q * 2 ^ k ≡ 2 ^ h * 2 ^ (1 + k) = ap (λ z. z * 2 ^ k) e ∙ twice h k in
        from (1 + k) (omega (arith, size_times q k some, s))
        ∙ ap (λ z. (1 + k) * 2 ^ h + z / 2 ^ (1 + k)) n
        ∙ ap (λ z. (1 + k) * 2 ^ h + z) (mul-div_cancel (2 ^ h) (pow_pos (1 + k)))
        ∙ omega (arith, add-mul 1 k (2 ^ h), two-pow-succ h, e)

-- Units are below 2 ^ (j + suc h), where the infinity is, if and only if the bits are below its bits, (j + 2) * 2 ^ h.
below_top : (j h q k : ℕ) → 0 < j → q ≤ 2 ^ suc h → Normal h q k → k * 2 ^ h + q < (j + 2) * 2 ^ h
    → q * 2 ^ k < 2 ^ (j + suc h)
below_top j h q k some most (inl none) lt =
    lt_of_le_of_lt (le_trans (le_of_eq (ap (λ z. q * 2 ^ z) none ∙ mul-one q)) most)
    (pow-lt {i = suc h} {j = j + suc h} (omega (arith, some)))
below_top j h q k some most (inr g) lt = elim (cases_Bool (ltb k j)) [
  | inl e ↦
      let a : q * 2 ^ k ≤ 2 ^ suc h * 2 ^ k = mul-le-mul_right (2 ^ k) most in
      let c : 2 ^ (suc h + k) < 2 ^ (j + suc h) =
      pow-lt {i = suc h + k} {j = j + suc h} (omega (arith, ltb-true k j e)) in
      lt_of_le_of_lt (le_trans a (le_of_eq (sym (pow-add 2 (suc h) k)))) c
  | inr e ↦
      let high : (k + 1) * 2 ^ h < (j + 2) * 2 ^ h = lt_of_le_of_lt (omega (arith, add-mul k 1 (2 ^ h), g)) lt in
      let k_less : k + 1 < j + 2 = lt_of_mul-lt-mul_right (2 ^ h) high in
      let same : k ≡ j = omega (arith, ltb-false k j e, k_less) in
      let at_j : j * 2 ^ h + q < (j + 2) * 2 ^ h = subst (λ z. z * 2 ^ h + q < (j + 2) * 2 ^ h) same lt in
      let less : q < 2 ^ suc h = omega (arith, at_j, add-mul j 2 (2 ^ h), two-pow-succ h) in
      lt_of_lt_of_le (mul-lt-mul_of_pos_right less (pow_pos k)) (le_of_eq (sym (pow-add 2 (suc h) k)
      ∙ ap (λ z. 2 ^ z) {x = suc h + k} {y = j + suc h} (omega (arith, same))))
]

from_top : (j h q k : ℕ) → 0 < j → q ≤ 2 ^ suc h → Normal h q k → (j + 2) * 2 ^ h ≤ k * 2 ^ h + q
    → 2 ^ (j + suc h) ≤ q * 2 ^ k
from_top j h q k some most (inl e) le =
    let a : 1 * 2 ^ h ≤ j * 2 ^ h = mul-le-mul_right (2 ^ h) some in
    let z : k * 2 ^ h ≡ 0 = ap (λ z. z * 2 ^ h) e ∙ omega arith in
    absurd (omega (arith, a, z, most, le, add-mul j 2 (2 ^ h), two-pow-succ h, pow_pos h))
from_top j h q k some most (inr g) le = elim (cases_Bool (ltb j k)) [
  | inl e ↦
      let a : 2 ^ h * 2 ^ k ≤ q * 2 ^ k = mul-le-mul_right (2 ^ k) g in
      let c : 2 ^ (j + suc h) ≤ 2 ^ (h + k) =
      pow_mono {i = j + suc h} {j = h + k} (omega (arith, ltb-true j k e)) in
      le_trans c (le_trans (le_of_eq (pow-add 2 h k)) a)
  | inr e ↦
      let low : k * 2 ^ h ≤ j * 2 ^ h = mul-le-mul_right (2 ^ h) (ltb-false j k e) in
      let top : 2 ^ suc h ≤ q = omega (arith, low, le, add-mul j 2 (2 ^ h), two-pow-succ h) in
      let high : j * 2 ^ h ≤ k * 2 ^ h = omega (arith, most, le, add-mul j 2 (2 ^ h), two-pow-succ h) in
      let same : j ≤ k = le_of_mul-le-mul_right high (pow_pos h) in
      le_trans (pow_mono {i = j + suc h} {j = suc h + k} (omega (arith, same)))
      (le_trans (le_of_eq (pow-add 2 (suc h) k)) (mul-le-mul_right (2 ^ k) top))
]

units_inf : (f : Format) (q k : ℕ) → 2 ^ (low f + suc (emax f)) ≤ q * 2 ^ k → units f false q k ≡ inf false
unfolding units
units_inf f q k h =
    ap (λ b. cond b (odd (suc (prec f)) false q k (low f)) (inf false))
    (le-ltb (q * 2 ^ k) (2 ^ (low f + suc (emax f))) h)

top_bits : (f : Format) → of_bits f (ones f * hid f) ≡ inf false
unfolding of_bits
top_bits binary32 = refl
top_bits binary64 = refl

units_fits : (f : Format) (q k : ℕ) → q ≤ 2 ^ prec f → T (fits f (units f false q k))
unfolding units fits
units_fits f q k a =
    go (ltb (q * 2 ^ k) (2 ^ (low f + suc (emax f)))) (λ t. ltb-true (q * 2 ^ k) (2 ^ (low f + suc (emax f))) t)
  where
    go : (b : Bool) → (b ≡ true → q * 2 ^ k < 2 ^ (low f + suc (emax f)))
        → T (fits f (cond b (odd (suc (prec f)) false q k (low f)) (inf false)))
    go true h = odd-fits f (suc (prec f)) false q k (lt_of_le_of_lt a (pow-lt (omega arith))) a (h refl)
    go false h = tt

-- what a format is in the numbers above: the digits after the leading one, and the exponent of the infinity
pub record Shape (f : Format) (j h : ℕ) : Type 0 where
  pub some : 0 < j
  pub digits : prec f ≡ suc h
  pub infinity : ones f ≡ j + 2
  pub exponent : low f + suc (emax f) ≡ j + suc h

shape : (f : Format) → Shape f (ones f - 2) (prec f - 1)
shape binary32 = record { some = lit< tt; digits = refl; infinity = refl; exponent = refl }
shape binary64 = record { some = lit< tt; digits = refl; infinity = refl; exponent = refl }

pub units_bits : (f : Format) (q k : ℕ) → q ≤ 2 ^ prec f → (k ≡ 0) ⊎ (hid f ≤ q)
    → of_bits f (min (k * hid f + q) (ones f * hid f)) ≡ units f false q k
units_bits f q k most normal =
    let j = ones f - 2 in
    let h = prec f - 1 in
    let s = shape f in
    let most' : q ≤ 2 ^ suc h = subst (λ z. q ≤ 2 ^ z) s.digits most in
    elim (cases_Bool (ltb (k * hid f + q) (ones f * hid f))) [
      | inl e ↦
          let lt = ltb-true (k * hid f + q) (ones f * hid f) e in
          let m : min (k * hid f + q) (ones f * hid f) ≡ k * hid f + q = omega (arith, lt) in
          let below : q * 2 ^ k < 2 ^ (low f + suc (emax f)) = subst (λ z. q * 2 ^ k < 2 ^ z) (sym s.exponent)
          (below_top j h q k s.some most' normal (subst (λ z. k * hid f + q < z * hid f) s.infinity lt)) in
          let b = bits_of_value f (units f false q k) (q * 2 ^ k) (units_val f false q k below) in
          let n = q * 2 ^ k in
          let kept = subst (λ p. (size n - p) * hid f + n / 2 ^ (size n - p) ≡ k * hid f + q) (sym s.digits)
          (kept_bits h q k most' normal) in
          ap (of_bits f) {x = min (k * hid f + q) (ones f * hid f)} {y = to_bits f (units f false q k)}
          (omega (arith, m, b, kept)) ∙ of_bits-to_bits f (units f false q k) (units_fits f q k most)
      | inr e ↦
          let ge = ltb-false (k * hid f + q) (ones f * hid f) e in
          let m : min (k * hid f + q) (ones f * hid f) ≡ ones f * hid f = omega (arith, ge) in
          let above : 2 ^ (low f + suc (emax f)) ≤ q * 2 ^ k = subst (λ z. 2 ^ z ≤ q * 2 ^ k) (sym s.exponent)
          (from_top j h q k s.some most' normal (subst (λ z. z * hid f ≤ k * hid f + q) s.infinity ge)) in
          ap (of_bits f) m ∙ top_bits f ∙ sym (units_inf f q k above)
    ]

-- ---- bounds of what is kept

pub kept_most : (p d lift size_d down scale cut q : ℕ) → d < 2 ^ 60 → size_d ≡ size d
    → scale ≡ lift + size_d - (down + p) → cut ≡ min (down + scale - lift) 62 → q ≤ d / 2 ^ cut + 1 → q ≤ 2 ^ p
kept_most p d lift size_d down scale cut q high size_is scale_is cut_is le =
    let far : size d ≤ cut + p = omega (arith, size_is, scale_is, cut_is, size-le d 60 high) in
    let a : d < 2 ^ (cut + p) = lt_of_lt_of_le (size-lt d) (pow_mono {i = size d} {j = cut + p} far) in
    let b : 2 ^ p * 2 ^ cut ≡ 2 ^ (cut + p) = mul_comm (2 ^ p) (2 ^ cut) ∙ sym (pow-add 2 cut p) in
    let c : d / 2 ^ cut < 2 ^ p = (div-lt_iff_lt-mul (pow_pos cut)).1 (lt_of_lt_of_le a (le_of_eq (sym b))) in
    omega (arith, c, le)

pub kept_normal : (p d lift size_d down scale cut q : ℕ) → d < 2 ^ 60 → size_d ≡ size d → 0 < p → p < size d
    → scale ≡ lift + size_d - (down + p) → cut ≡ min (down + scale - lift) 62 → d / 2 ^ cut ≤ q
    → Normal (p - 1) q scale
kept_normal p d lift size_d down scale cut q high size_is some digits scale_is cut_is le =
    elim (cases_Bool (ltb 0 scale)) [
      | inr e ↦ inl (omega (arith, ltb-false 0 scale e))
      | inl e ↦
          let more = ltb-true 0 scale e in
          let h = p - 1 in
          let s : size d ≡ suc (cut + h) =
          omega (arith, more, size_is, some, digits, scale_is, cut_is, size-le d 60 high) in
          let a : 2 ^ (cut + h) ≤ d = size_reaches d (cut + h) (omega (arith, s)) in
          let b : 2 ^ h * 2 ^ cut ≡ 2 ^ (cut + h) = mul_comm (2 ^ h) (2 ^ cut) ∙ sym (pow-add 2 cut h) in
          let c : 2 ^ h ≤ d / 2 ^ cut = (le-div_iff_mul-le (pow_pos cut)).1 (le_trans (le_of_eq b) a) in
          inr (le_trans c le)
    ]

-- ---- zeros behind a short front

pub spare_bits : (f leading : ℕ) → f < 2 ^ 60 → 64 - leading ≡ size f → leading ≤ 64
    → (4 ≤ leading) × (leading - 4 ≡ 60 - size f)
spare_bits f leading high e le = let s = size-le f 60 high in (omega (arith, e, s, le), omega (arith, e, s, le))

pub widened_low : (f spare : ℕ) → 0 < f → spare ≡ 60 - size f → f < 2 ^ 60 → 2 ^ 56 ≤ f * 2 ^ spare
widened_low f spare some e high =
    let s = size-le f 60 high in
    let n = size f - 1 in
    let z : 0 < size f = lt_of_not-le (λ (g : size f ≤ 0). not-le_of_lt
    (lt_of_lt_of_le (size-lt f) (pow_mono {i = size f} {j = 0} g)) some) in
    let a : 2 ^ n ≤ f = size_reaches f n (omega (arith, z)) in
    let b : 2 ^ n * 2 ^ spare ≡ 2 ^ 59 = sym (pow-add 2 n spare)
    ∙ ap (λ z. 2 ^ z) {x = n + spare} {y = 59} (omega (arith, e, s, z)) in
    le_trans (lit≤ tt) (le_trans (le_of_eq (sym b)) (mul-le-mul_right (2 ^ spare) a))

pub widened_high : (f spare : ℕ) → spare ≡ 60 - size f → f < 2 ^ 60 → f * 2 ^ spare < 2 ^ 60
widened_high f spare e high =
    let s = size-le f 60 high in
    lt_of_lt_of_le (mul-lt-mul_of_pos_right (size-lt f) (pow_pos spare))
    (le_of_eq (sym (pow-add 2 (size f) spare) ∙ ap (λ z. 2 ^ z) {x = size f + spare} {y = 60} (omega (arith, e, s))))

pub widened_same : (f : Format) (n up down spare : ℕ)
    → round f false (n * 2 ^ spare * 2 ^ up) (2 ^ (down + spare)) ≡ round f false (n * 2 ^ up) (2 ^ down)
widened_same f n up down spare =
    round_same f false (n * 2 ^ spare * 2 ^ up) (2 ^ (down + spare)) (n * 2 ^ up) (2 ^ down)
    (pow_pos (down + spare)) (pow_pos down)
    (ap (λ z. z * 2 ^ down) (mul_right_comm n (2 ^ spare) (2 ^ up))
    ∙ mul_assoc (n * 2 ^ up) (2 ^ spare) (2 ^ down)
    ∙ ap (λ z. n * 2 ^ up * z) (mul_comm (2 ^ spare) (2 ^ down) ∙ sym (pow-add 2 down spare)))

zero_bits : (f : Format) → of_bits f 0 ≡ round f false 0 1
unfolding of_bits round
zero_bits binary32 = refl
zero_bits binary64 = refl

pub round_zero : (f : Format) (n up down : ℕ) → n ≡ 0 → of_bits f 0 ≡ round f false (n * 2 ^ up) (2 ^ down)
round_zero f n up down e =
    zero_bits f ∙ round_same f false 0 1 (n * 2 ^ up) (2 ^ down) (lit< tt) (pow_pos down)
    (sym (mul-one (n * 2 ^ up) ∙ ap (λ z. z * 2 ^ up) e ∙ omega arith))
