-- A number (`IsNumber`) begins with a decimal digit. Decimal digits alone are a number without an indicator.
use Rattle.std.proofs.Common.{◌≡◌, ℕ, true, List, [], ◌∷◌, ◌++◌, Option, None, refl, sym, ap, ◌∙◌, arith}
use Rattle.std.specs.Char.{digit_value}
use Rattle.std.proofs.lemmas.List.{append-nil}
use Rattle.std.proofs.lemmas.Bool.{lt-ltb}
use Rattle.cbor_tokens.specs.Token.{Base}
use Rattle.cbor_tokens.specs.Token.{decimal_base, hexadecimal_base, octal_base, binary_base}
use Rattle.cbor_tokens.specs.Token.{AreDigits, IsNumber, prefix, radix}
use Rattle.cbor_tokens.specs.TokenReading.{starts_with_digit}

digit_first : (base : Base) (digits after : List ℕ) (value : ℕ) → AreDigits (radix base) digits value
    → starts_with_digit 10 (prefix base ++ (digits ++ after)) ≡ true
digit_first decimal_base [] after value are = absurd (omega (arith, are.0.0))
digit_first decimal_base (d ∷ digits) after value are = lt-ltb (digit_value d) 10 are.0.1.0
digit_first hexadecimal_base digits after value are = refl
digit_first octal_base digits after value are = refl
digit_first binary_base digits after value are = refl

-- a number begins with a decimal digit
pub number_digit : (text : List ℕ) (value : ℕ) (indicator : Option ℕ) → IsNumber text value indicator
    → starts_with_digit 10 text ≡ true
number_digit text value indicator is = ap (starts_with_digit 10) is.text_is
    ∙ digit_first is.base is.digits is.after value is.digits_are

-- decimal digits are a number
pub decimal_number : (digits : List ℕ) (value : ℕ) → AreDigits 10 digits value → IsNumber digits value None
decimal_number digits value are = record {
  base = decimal_base;
  digits = digits;
  after = [];
  text_is =
      sym (append-nil digits);
  digits_are = are;
  after_is = refl;
}
