-- What `cbor_tokens` finds in a text decides what the definitions return: `read_number` for a number, `after_space` for
-- whitespace, and `digits_of` for digits up to an apostrophe. Hex digits that are read one by one (`hex_after`) are
-- their `numeral`, and sixteen of them fit 64 bits.
use Rattle.std.proofs.Common.{◌≡◌, ℕ, ◌≤◌, List, [], ◌∷◌, ◌++◌, ◌+◌, ◌-◌, ◌*◌, ◌^◌, ◌<◌, ◌≢◌, Bool, false, not, nat_lt}
use Rattle.std.proofs.Common.{◌==◌, if◌then◌else◌, true, option_and_then, length, take, drop, position, Option, Some}
use Rattle.std.proofs.Common.{None, Ok, Err, refl, sym, ap, ◌∙◌, arith}
use Rattle.std.specs.Char.{digit_value}
use Rattle.std.specs.List.{list_all}
use Rattle.std.specs.Str.Parse.{digits_value_after}
use Rattle.std.proofs.lemmas.List.{take_rest}
use Rattle.std.proofs.lemmas.Bool.{cond-true, lt-ltb}
use Rattle.std.proofs.Math.Nat.{pow-le-pow_right}
use Rattle.cbor_grammar.specs.declared.error.Error.TheVariants as refusal
use Rattle.cbor_tokens.specs.Token.{is_whitespace, DigitsBetween}
use Rattle.cbor_tokens.specs.TokenReading.{number_of, digits_of}
use Rattle.cbor_tokens.proofs.tokens.Spaced.{digits_of-DigitsBetween}
use Rattle.cbor_grammar.specs.Reading.{◌>>=◌}
use Rattle.cbor_notation.specs.mirror.NotationReading.{or_refused, read_number, after_byte, after_space}
use Rattle.cbor_notation.specs.mirror.NotationReading.{numeral}

pub number_found : (text : List ℕ) (end value : ℕ) (indicator : Option ℕ)
    → number_of text ≡ Some (value, indicator, drop end text)
    → read_number text ≡ Ok ((value, indicator), take (length text - end) (drop end text))
number_found text end value indicator here =
    ap (λ r. or_refused r >>= λ x. Ok ((x.0, x.1), x.2)) here
    ∙ ap (λ rest. Ok ((value, indicator), rest)) (sym (take_rest text end))

pub number_missing : (text : List ℕ) → number_of text ≡ None → read_number text ≡ Err refusal.Notation
number_missing text none = ap (λ r. or_refused r >>= λ x. Ok ((x.0, x.1), x.2)) none

-- whitespace before the close of a list
abbrev after_spaces : ℕ → List ℕ → Option ℕ → Option (List ℕ)
after_spaces close text place = option_and_then
    (λ spaces. if nat_lt 0 spaces then after_byte close (drop spaces text) else None) place

pub space_missing : (close : ℕ) (text : List ℕ) (place : Option ℕ) → place ≡ position (λ b. not (is_whitespace b)) text
    → place ≡ None → after_space close text ≡ None
space_missing close text place found e = ap (after_spaces close text) (sym found ∙ e)

pub space_found : (close : ℕ) (text : List ℕ) (place : Option ℕ) (spaces : ℕ)
    → place ≡ position (λ b. not (is_whitespace b)) text → place ≡ Some spaces → spaces ≢ 0
    → after_space close text ≡ after_byte close (drop spaces text)
space_found close text place spaces found e some = ap (after_spaces close text) (sym found ∙ e)
    ∙ cond-true (nat_lt 0 spaces) (after_byte close (drop spaces text)) None (lt-ltb 0 spaces (omega (arith, some)))

-- The number that hex digits write after those of another, read one by one.
abbrev pub hex_after : ℕ → List ℕ → Option ℕ
hex_after n [] = Some n
hex_after n (d ∷ ds) = if nat_lt (digit_value d) 16 then hex_after (n * 16 + digit_value d) ds else None

hex_after-is : (n : ℕ) (ds : List ℕ) → hex_after n ds
    ≡ (if list_all (λ c. nat_lt (digit_value c) 16) ds then Some (digits_value_after 16 n ds) else None)
hex_after-is n [] = refl
hex_after-is n (d ∷ ds) = by_test (hex_after-is (n * 16 + digit_value d) ds) (nat_lt (digit_value d) 16) refl where
  by_test : hex_after (n * 16 + digit_value d) ds
      ≡ (if list_all (λ c. nat_lt (digit_value c) 16) ds then Some (digits_value_after 16 (n * 16 + digit_value d) ds)
      else None) → (t : Bool) → nat_lt (digit_value d) 16 ≡ t
      → hex_after n (d ∷ ds) ≡ (if list_all (λ c. nat_lt (digit_value c) 16) (d ∷ ds)
      then Some (digits_value_after 16 n (d ∷ ds)) else None)
  by_test more true e = rw e more
  by_test more false e = rw e refl

pub numeral-hex_after : (ds : List ℕ) → false ≡ (length ds == 0) → hex_after 0 ds ≡ numeral 16 ds
numeral-hex_after [] none = absurd cc
numeral-hex_after (d ∷ ds) some = hex_after-is 0 (d ∷ ds)

-- sixteen digits fit 64 bits
pub room_for_digit : (n i : ℕ) → n < 16 ^ i → i < 16 → n * 16 + 15 < 2 ^ 64
room_for_digit n i small lt =
    let most : 16 ^ i ≤ 16 ^ 15 = let sixteen : 0 < 16 = omega arith in let low : i ≤ 15 =
    omega arith in pow-le-pow_right sixteen low in
    omega (arith, most)

-- digits between quotes
pub digits_found : (comments : Bool) (text content digits rest : List ℕ) → text ≡ content ++ 39 ∷ rest
    → DigitsBetween comments content digits → digits_of comments text ≡ Some (digits, rest)
digits_found comments text content digits rest is between = ap (digits_of comments) is
    ∙ digits_of-DigitsBetween comments content digits rest between
