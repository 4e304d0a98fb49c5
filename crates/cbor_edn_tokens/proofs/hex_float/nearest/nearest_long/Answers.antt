use Rattle.std.proofs.Common.{◌≡◌, ℕ, false, ◌+◌, ◌-◌, ◌*◌, ◌^◌, ◌<◌, ◌≤◌}
use Rattle.std.proofs.Common.{◌∙◌, sym, ap, subst, arith, lt_of_lt_of_le, lit≤}
use lib.Count.{count_leading_zeros}
use lib.Ieee.{Format, prec, units, size}
use lib.Ieee.Nearest.{closest}
use Rattle.cbor_floats.proofs.Rounding.{size_is}
use Rattle.cbor_edn_tokens.proofs.Nearest.{digits_of, some_digits, more_digits, kept_most, kept_normal}
use Rattle.cbor_edn_tokens.proofs.Nearest.{nearest_is, Normal}
use Rattle.cbor_edn_tokens.specs.mirror.Front.{format_of}
use Rattle.cbor_edn_tokens.proofs.hex_float.nearest.nearest_long.Goals as goal

size_front : (f : ℕ) → f < 2 ^ 60 → 64 - count_leading_zeros 64 f ≡ size f
size_front f high = size_is f (lt_of_lt_of_le high (lit≤ tt))

-- more digits in the front than in a float
room : (f : Format) (d : ℕ) → 2 ^ 56 ≤ d → prec f < size d
room f d least = more_digits f (size d) (digits_of d least)

pub overflow_sub-down : goal.overflow_sub-down
overflow_sub-down c =
    let d = c.args.front.digits in
    omega (
      arith,
      c.saturating_sub-scale.ensures,
      c.precision.ensures,
      size_front d c.requires.high,
      room (format_of c.args.format) d c.requires.low,
    )

pub rounded-kept-requires : goal.rounded-kept-requires
rounded-kept-requires c =
    let d = c.args.front.digits in (
      c.requires.high,
      omega (
        arith,
        c.min-cut.ensures,
        c.saturating_sub-scale.ensures,
        c.precision.ensures,
        size_front d c.requires.high,
        room (format_of c.args.format) d c.requires.low,
      ),
      omega (arith, c.min-cut.ensures),
    )

pub bits_of_units-requires-clause-kept : goal.bits_of_units-requires-clause-kept
bits_of_units-requires-clause-kept c =
    let d = c.args.front.digits in
    subst (λ p. c.rounded-kept.result ≤ 2 ^ p) c.precision.ensures
    (kept_most c.precision.result d _ _ c.args.down _ _ c.rounded-kept.result c.requires.high
    (size_front d c.requires.high) c.saturating_sub-scale.ensures c.min-cut.ensures c.rounded-kept.ensures.most)

pub bits_of_units-requires-clause-normal : goal.bits_of_units-requires-clause-normal
bits_of_units-requires-clause-normal c =
    let d = c.args.front.digits in
    let f = format_of c.args.format in
    let p = c.precision.ensures in
    subst (λ p. Normal (p - 1) c.rounded-kept.result c.saturating_sub-scale.result) p
    (kept_normal c.precision.result d _ _ c.args.down _ _ c.rounded-kept.result c.requires.high
    (size_front d c.requires.high) (subst (λ z. 0 < z) (sym p) (some_digits f))
    (subst (λ z. z < size d) (sym p) (room f d c.requires.low)) c.saturating_sub-scale.ensures
    c.min-cut.ensures c.rounded-kept.ensures.least)

pub returns-clause-bits : goal.returns-clause-bits
returns-clause-bits c = λ n is.
    let d = c.args.front.digits in
    let f = format_of c.args.format in
    let b = 4 * c.args.front.behind in
    let scale = c.saturating_sub-scale.result in
    let lift = c.args.up + b + c.least.result in
    let size_d = 64 - count_leading_zeros 64 d in
    c.bits_of_units.ensures.bits
    ∙ ap (λ z. units f false z scale) (c.rounded-kept.ensures.closest is.tail is.behind
    ∙ ap (λ z. closest (d * 2 ^ b + is.tail) (2 ^ z * 2 ^ b)) c.min-cut.ensures)
    ∙ sym (nearest_is f d b is.tail n c.args.up c.args.down _ _ scale c.requires.low c.requires.high is.behind.less
    is.number (size_front d c.requires.high) (ap (λ z. c.args.up + b + z) c.least.ensures)
    (c.saturating_sub-scale.ensures ∙ ap (λ z. lift + size_d - (c.args.down + z)) c.precision.ensures))
