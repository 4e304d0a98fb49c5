use Rattle.std.proofs.Common.{◌≡◌, ℕ, ◌+◌, ◌-◌, ◌*◌, ◌%◌, ◌^◌, ◌<◌, ◌≤◌, ◌∙◌, refl, sym, ap, subst, arith}
use Rattle.std.proofs.Common.{lt_of_lt_of_le, lit≤, mod-eq_of_lt, zero, suc, pow_pos}
use lib.Count.{count_leading_zeros, leading_le}
use lib.Ieee.{size}
use Rattle.cbor_floats.proofs.Rounding.{size_is}
use Rattle.cbor_edn_tokens.proofs.Nearest.{spare_bits, widened_low, widened_high, widened_same, round_zero}
use Rattle.cbor_edn_tokens.specs.mirror.Front.{format_of}
use Rattle.cbor_edn_tokens.proofs.hex_float.nearest.nearest.Goals as goal

-- the bits before a short front
spare : (f : ℕ) → f < 2 ^ 60 → (4 ≤ count_leading_zeros 64 f) × (count_leading_zeros 64 f - 4 ≡ 60 - size f)
spare f high =
    spare_bits f (count_leading_zeros 64 f) high (size_is f (lt_of_lt_of_le high (lit≤ tt))) (leading_le 64 f)

shifted : (f : ℕ) → f < 2 ^ 60
    → (f * 2 ^ (count_leading_zeros 64 f - 4)) % 2 ^ 64 ≡ f * 2 ^ (count_leading_zeros 64 f - 4)
shifted f high = mod-eq_of_lt (lt_of_lt_of_le (widened_high f _ (spare f high).1 high) (lit≤ tt))

nothing : (f behind tail n : ℕ) → f ≡ 0 → (0 < behind → 2 ^ 56 ≤ f) → tail < 2 ^ (4 * behind)
    → n ≡ f * 2 ^ (4 * behind) + tail → n ≡ 0
nothing f zero tail n e long less is = omega (arith, e, less, is, ap (λ z. z * 2 ^ 0) e)
nothing f (suc b) tail n e long less is = absurd (omega (arith, e, long (omega arith)))

-- with nothing behind it the front is the number
alone : (f behind tail n : ℕ) → behind ≡ 0 → tail < 2 ^ (4 * behind) → n ≡ f * 2 ^ (4 * behind) + tail
    → (n ≡ f) × (tail ≡ 0) × (2 ^ (4 * behind) ≡ 1)
alone f zero tail n e less is = (omega (arith, less, is), omega (arith, less), refl)
alone f (suc b) tail n e less is = absurd (omega (arith, e))

pub returns-then-front-eq0-clause-bits : goal.returns-then-front-eq0-clause-bits
returns-then-front-eq0-clause-bits c = λ n is.
    round_zero (format_of c.args.format) n c.args.up c.args.down
    (nothing c.args.front.digits c.args.front.behind is.tail n c.if-front-eq0.true c.requires.fits.long is.behind.less
    is.number)

pub overflow_sub-spare : goal.overflow_sub-spare
overflow_sub-spare c = (spare c.args.front.digits c.requires.fits.digits).0

pub nearest_long-requires-2-clause-low : goal.nearest_long-requires-2-clause-low
nearest_long-requires-2-clause-low c =
    let f = c.args.front.digits in
    let s = spare f c.requires.fits.digits in
    subst (λ z. 2 ^ 56 ≤ z) (sym (shifted f c.requires.fits.digits))
    (widened_low f _ (omega (arith, c.if-front-eq0.false)) s.1 c.requires.fits.digits)

pub nearest_long-requires-2-clause-high : goal.nearest_long-requires-2-clause-high
nearest_long-requires-2-clause-high c =
    let f = c.args.front.digits in
    subst (λ z. z < 2 ^ 60) (sym (shifted f c.requires.fits.digits))
    (widened_high f _ (spare f c.requires.fits.digits).1 c.requires.fits.digits)

pub returns-clause-bits : goal.returns-clause-bits
returns-clause-bits c = λ n is.
    let f = c.args.front.digits in
    let k = count_leading_zeros 64 f - 4 in
    let a = alone f c.args.front.behind is.tail n (omega (arith, c.if-front-gt0.false)) is.behind.less is.number in
    let s = shifted f c.requires.fits.digits in
    c.nearest_long-2.ensures.bits (n * 2 ^ k) (record {
      tail = 0;
      behind = record {
        less = pow_pos (4 * c.args.front.behind);
        some = λ e. absurd (omega (arith, a.1, is.behind.some e));
        none = λ _. refl;
      };
      number = ap (λ z. z * 2 ^ k) a.0 ∙ sym s
          ∙ omega (arith, ap (λ z. (f * 2 ^ k) % 2 ^ 64 * z) a.2);
    }) ∙ widened_same (format_of c.args.format) n c.args.up c.args.down k
