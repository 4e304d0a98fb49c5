use Rattle.std.proofs.Common.{◌≡◌, ℕ, List, [], ◌∷◌, ◌++◌, codes, Option, Some, None, refl, sym, ap, ◌∙◌, arith}
use Rattle.cbor_tokens.specs.Token.{decimal_base, hexadecimal_base, binary_base}
use Rattle.cbor_tokens.specs.Token.{IsNumber, IsSomeNumber}
use Rattle.cbor_tokens.specs.TokenReading.{number_of}
use Rattle.cbor_tokens.proofs.tokens.Numbers.{longest_number, number_of-append}
use Rattle.cbor_tokens.proofs.examples.numbers.Goals as goal

-- what is read of a text that is a number leaves nothing
abbrev Read : Type 0
Read = Option (ℕ × Option ℕ × List ℕ)

leaves_nothing : (value other : ℕ) (indicator another : Option ℕ) (byte : ℕ) (rest : List ℕ)
    → ◌≡◌ {A = Read} (Some (value, indicator, byte ∷ rest)) (Some (other, another, [])) → ⊥
leaves_nothing value other indicator another byte rest is =
    let same : ◌≡◌ {A = ℕ × Option ℕ × List ℕ} (value, indicator, byte ∷ rest) (other, another, []) = cc is in
    let never : ◌≡◌ {A = List ℕ} (byte ∷ rest) [] = ap (λ (r : ℕ × Option ℕ × List ℕ). r.2) same in
    cc never

part_alone : (text : List ℕ) (value : ℕ) (indicator : Option ℕ) (byte : ℕ) (rest : List ℕ)
    → number_of (text ++ []) ≡ Some (value, indicator, byte ∷ rest) → IsSomeNumber text → ⊥
part_alone text value indicator byte rest read is =
    leaves_nothing value is.0 indicator is.1 byte rest (sym read ∙ number_of-append text [] is.0 is.1 is.2 tt)

pub returns-clause-zeros : goal.returns-clause-zeros
returns-clause-zeros c = record {
  base = decimal_base;
  digits = codes "007";
  after = [];
  text_is = refl;
  digits_are =
      ((omega arith, (omega arith, (omega arith, (omega arith, tt)))), refl);
  after_is = refl;
}

pub returns-clause-hexadecimal : goal.returns-clause-hexadecimal
returns-clause-hexadecimal c = record {
  base = hexadecimal_base;
  digits = codes "1aF";
  after = codes "_1";
  text_is = refl;
  digits_are = ((omega arith, (omega arith, (omega arith, (omega arith, tt)))), refl);
  after_is = (codes "1", refl, ((omega arith, (omega arith, tt)), refl), omega arith);
}

pub returns-clause-zeros_of_the_indicator : goal.returns-clause-zeros_of_the_indicator
returns-clause-zeros_of_the_indicator c = record {
  base = binary_base;
  digits = codes "11";
  after = codes "_002";
  text_is = refl;
  digits_are = ((omega arith, (omega arith, (omega arith, tt))), refl);
  after_is = (codes "002", refl, ((omega arith, (omega arith, (omega arith, (omega arith, tt)))), refl), omega arith);
}

pub returns-clause-indicator_past_three : goal.returns-clause-indicator_past_three
returns-clause-indicator_past_three c = λ is. part_alone (codes "1_4") 1 None 95 (codes "4") refl is

pub returns-clause-prefix_alone : goal.returns-clause-prefix_alone
returns-clause-prefix_alone c = λ is. part_alone (codes "0x") 0 None 120 [] refl is

pub returns-clause-upper_case_prefix : goal.returns-clause-upper_case_prefix
returns-clause-upper_case_prefix c = λ is. part_alone (codes "0X1") 0 None 88 (codes "1") refl is

pub returns-clause-digit_of_another_base : goal.returns-clause-digit_of_another_base
returns-clause-digit_of_another_base c = λ is. part_alone (codes "0o8") 0 None 111 (codes "8") refl is

pub returns-clause-no_indicator : goal.returns-clause-no_indicator
returns-clause-no_indicator c = λ is. part_alone (codes "1_") 1 None 95 [] refl is

one_zero : IsNumber (codes "1_0") 1 (Some 0)
one_zero = record {
  base = decimal_base;
  digits = codes "1";
  after = codes "_0";
  text_is = refl;
  digits_are = ((omega arith, (omega arith, tt)), refl);
  after_is = (codes "0", refl, ((omega arith, (omega arith, tt)), refl), omega arith);
}

pub returns-clause-longest : goal.returns-clause-longest
returns-clause-longest c = longest_number (codes "1_0") (codes "4") 1 (Some 0) one_zero refl
