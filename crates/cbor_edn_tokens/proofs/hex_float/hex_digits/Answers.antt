use Rattle.std.proofs.Common.{◌≡◌, ℕ, ◌+◌, ◌==◌, ◌||◌, List, [], length, take, drop, position, codes, bytes_eq}
use Rattle.std.proofs.Common.{Option, Some, None, false, if◌then◌else◌, refl, sym, ap, ◌∙◌}
use Rattle.std.proofs.Common.{rules, lit<}
use Rattle.cbor_edn_grammar.specs.HexFloat.{hex_run, hex_digits, digits_at}
use Rattle.cbor_edn_grammar.specs.Reading.{◌>>=◌}
use Rattle.cbor_edn_tokens.specs.mirror.Front.{IsFront}
use Rattle.cbor_edn_tokens.proofs.HexFloats.{rest_is}
use Rattle.cbor_edn_tokens.proofs.hex_float.hex_digits.Goals as goal

-- some digits, or a point and some
with_digits : (digits : List ℕ) (found : Option ℕ) → bytes_eq digits [] ≡ false → bytes_eq digits (codes ".") ≡ false
    → position (λ b. b == 46) digits ≡ found → hex_digits digits ≡ digits_at digits found
with_digits digits found some more is =
    ap (λ t. if t || bytes_eq digits (codes ".") then None else digits_at digits (position (λ b. b == 46) digits)) some
    ∙ ap (λ t. if t then None else digits_at digits (position (λ b. b == 46) digits)) more
    ∙ ap (digits_at digits) is

at_none : (digits : List ℕ) (n : ℕ) → hex_run 0 digits ≡ Some n → digits_at digits None ≡ Some (n, 0)
at_none digits n is = ap (λ r. r >>= λ n. Some (n, 0)) is

at_point : (digits fraction : List ℕ) (at whole n : ℕ) → fraction ≡ drop (at + 1) digits
    → hex_run 0 (take at digits) ≡ Some whole → hex_run whole fraction ≡ Some n
    → digits_at digits (Some at) ≡ Some (n, length fraction)
at_point digits fraction at whole n same is more =
    rw (sym same, is, more) refl

zero_front : IsFront (record { digits = 0; behind = 0; more = false }) 0
zero_front = record {
  tail = 0;
  behind = record { less = lit< tt; some = λ e. absurd cc; none = λ e. refl };
  number = refl;
}

pub returns-in_default-clause-finds : goal.returns-in_default-clause-finds
returns-in_default-clause-finds c =
    let digits = c.args.digits.now in
    let found = c.in_ok-number.ensures.finds 0 zero_front in (
      found.0,
      with_digits digits None (search rules) (search rules) (sym c.find_point.ensures.at ∙ c.in_default.is)
          ∙ at_none digits found.0 found.1,
      found.2,
    )

pub returns-clause-finds : goal.returns-clause-finds
returns-clause-finds c =
    let digits = c.args.digits.now in
    let at = c.in-Some.point in
    let whole = c.in_ok-whole.ensures.finds 0 zero_front in
    let found = c.in_ok-number-2.ensures.finds whole.0 whole.2 in (
      found.0,
      with_digits digits (Some at) (search rules) (search rules) (sym c.find_point.ensures.at ∙ c.in-Some.is)
          ∙ at_point digits _ at whole.0 found.0 (rest_is digits (at + 1)) whole.1 found.1,
      found.2,
    )
