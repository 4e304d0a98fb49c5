-- A number (`IsNumber`) with an indicator has a `_`. A number that consists of decimal digits alone has the value that
-- they write in base 10.
use Rattle.std.proofs.Common.{◌≡◌, ℕ, List, [], ◌∷◌, ◌++◌, Option, Some, None, ap, subst, sym, ◌∙◌, append-nil}
use Rattle.std.proofs.Common.{append_assoc, arith}
use Rattle.std.specs.Str.Parse.{AllDigits}
use Rattle.cbor_tokens.specs.Token.{decimal_base, hexadecimal_base, octal_base, binary_base}
use Rattle.cbor_tokens.specs.Token.{Base}
use Rattle.cbor_tokens.specs.Token.{prefix, radix, AreDigits, Indicates, IsNumber}

-- an indicator follows `_`
pub behind_underscore : (text : List ℕ) (value indicator : ℕ) → IsNumber text value (Some indicator)
    → (front rest : List ℕ) × (text ≡ front ++ 95 ∷ rest)
behind_underscore text value indicator is = (
  prefix is.base ++ is.digits,
  is.after_is.0,
  is.text_is
      ∙ ap (λ (z : List ℕ). prefix is.base ++ (is.digits ++ z)) is.after_is.1
      ∙ sym (append_assoc (prefix is.base) is.digits (95 ∷ is.after_is.0)),
)

digits_behind : (front rest : List ℕ) → AllDigits 10 (front ++ rest) → AllDigits 10 rest
digits_behind [] rest h = h
digits_behind (d ∷ front) rest h = digits_behind front rest h.1

only_digits : (base : Base) (text digits after : List ℕ) (value : ℕ) (indicator : Option ℕ)
    → text ≡ prefix base ++ (digits ++ after) → AreDigits (radix base) digits value → Indicates after indicator
    → AllDigits 10 text → AreDigits 10 text value
only_digits hexadecimal_base text digits after value indicator is are behind all =
    let h : AllDigits 10 (48 ∷ 120 ∷ (digits ++ after)) = subst (AllDigits 10) is all in absurd (omega (arith, h.1.0))
only_digits octal_base text digits after value indicator is are behind all =
    let h : AllDigits 10 (48 ∷ 111 ∷ (digits ++ after)) = subst (AllDigits 10) is all in absurd (omega (arith, h.1.0))
only_digits binary_base text digits after value indicator is are behind all =
    let h : AllDigits 10 (48 ∷ 98 ∷ (digits ++ after)) = subst (AllDigits 10) is all in absurd (omega (arith, h.1.0))
only_digits decimal_base text digits after value None is are behind all =
    subst (λ (z : List ℕ). AreDigits 10 z value)
    (sym (is ∙ ap (λ (z : List ℕ). digits ++ z) behind ∙ append-nil digits)) are
only_digits decimal_base text digits after value (Some i) is are behind all =
    let h : AllDigits 10 (digits ++ (95 ∷ behind.0)) =
    subst (AllDigits 10) (is ∙ ap (λ (z : List ℕ). digits ++ z) behind.1) all in
    absurd (omega (arith, (digits_behind digits (95 ∷ behind.0) h).0))

-- a number of decimal digits alone is what they write
pub decimal_number : (text : List ℕ) (value : ℕ) (indicator : Option ℕ) → IsNumber text value indicator
    → AllDigits 10 text → AreDigits 10 text value
decimal_number text value indicator is all =
    only_digits is.base text is.digits is.after value indicator is.text_is is.digits_are is.after_is all
