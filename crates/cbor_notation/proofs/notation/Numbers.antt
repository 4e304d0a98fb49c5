-- `read_core` reads each integer, negative integer and tag that the grammar has (`NumberOf`, `NegativeOf`), with its
-- width. After an integer, a byte that may follow a core has to come, or the end (`core_ends`); `read` has to read the
-- item in a tag (`ReadsAgain`).
use Rattle.std.proofs.Common.{◌≡◌, ℕ, ◌+◌, ◌^◌, ◌<◌, true, ◌==◌, ◌&&◌, nat_le, List, [], ◌∷◌, ◌++◌, codes, Option, Some}
use Rattle.std.proofs.Common.{None, Ok, refl, sym, ap, ◌∙◌, subst, inl, inr, arith}
use Rattle.std.specs.List.{AllByRecursion}
use Rattle.std.specs.Char.{digit_value}
use Rattle.std.proofs.Math.Numerals.{add-one}
use Rattle.std.proofs.lemmas.Bool.{agree_below_at, and_from, lt-ltb, le-leb, or_cases, eqb-true, ltb-true}
use Rattle.std.proofs.lemmas.List.{append_assoc}
use Rattle.std.proofs.lemmas.Str.Parse.{digit_from_value}
use Rattle.cbor_tokens.specs.Token.{IsNumber}
use Rattle.cbor_tokens.specs.TokenReading.{starts_with_digit}
use Rattle.cbor_tokens.proofs.tokens.NumberFronts.{number_digit}
use Rattle.cbor_tokens.proofs.tokens.Numbers.{EndsNumber, number_of-append}
use Rattle.cbor_grammar.specs.declared.width.IntegerWidth.{IntegerWidth}
use Rattle.cbor_grammar.specs.declared.width.IntegerWidth.TheVariants.{Unknown, Zero, Eight, Sixteen, ThirtyTwo}
use Rattle.cbor_grammar.specs.declared.width.IntegerWidth.TheVariants.{SixtyFour}
use Rattle.cbor_grammar.specs.Item.{Item, atom, integer, negative, tagged}
use Rattle.cbor_grammar.specs.Head.{FitsWidth}
use Rattle.cbor_grammar.specs.Reading.{Read, ◌>>=◌}
use Rattle.cbor_grammar.specs.Notation.{HasWidth, NumberOf, NegativeOf, width_of}
use Rattle.cbor_notation.specs.mirror.NotationReading.{or_refused, read_number, past_width, with_width, negative_number}
use Rattle.cbor_notation.specs.mirror.NotationReading.{after_byte, integer_or_tag, read_integer, start_of, read_core}
use Rattle.cbor_notation.specs.mirror.NotationReading.{core_of}
use Rattle.cbor_notation.proofs.notation.Ends.{is_one_of, Begins, Ends, begins_append, ends_after_byte, core_ends}
use Rattle.cbor_notation.proofs.notation.Ends.{digits}
use Rattle.cbor_notation.proofs.notation.Ends.{ends_number}
use Rattle.cbor_notation.proofs.notation.Lists.{ReadsAgain}

-- ---- digits

-- what holds at each of some bytes
pub at_one_of : (P : ℕ → Type 0) (bytes : List ℕ) (b : ℕ) → AllByRecursion P bytes → is_one_of bytes b ≡ true → P b
at_one_of P [] b all some = cc some
at_one_of P (c ∷ bytes) b all some =
    elim (or_cases (c == b) (is_one_of bytes b) some) [
      | inl is ↦ subst P (eqb-true c b is) all.0
      | inr more ↦ at_one_of P bytes b all.1 more
    ]

decimal_digit : (d : ℕ) → digit_value d < 10 → is_one_of digits d ≡ true
decimal_digit d is =
    let range = digit_from_value d is in
    agree_below_at (is_one_of digits) (λ b. nat_le 48 b && nat_le b 57) 58 d refl (omega (arith, range))
    ∙ and_from (nat_le 48 d) (nat_le d 57) (le-leb 48 d (omega (arith, range))) (le-leb d 57 (omega (arith, range)))

digit_begins : (text : List ℕ) → starts_with_digit 10 text ≡ true → Begins digits text
digit_begins [] starts = cc starts
digit_begins (d ∷ text) starts = decimal_digit d (ltb-true (digit_value d) 10 starts)

pub number_begins : (text : List ℕ) (n : ℕ) (indicator : Option ℕ) → IsNumber text n indicator → Begins digits text
number_begins text n indicator is = digit_begins text (number_digit text n indicator is)

-- ---- widths

fits_64 : (w : IntegerWidth) (n : ℕ) → FitsWidth w n → n < 2 ^ 64
fits_64 Unknown n fits = fits
fits_64 Zero n fits = omega arith
fits_64 Eight n fits = omega arith
fits_64 Sixteen n fits = omega arith
fits_64 ThirtyTwo n fits = omega arith
fits_64 SixtyFour n fits = fits

fits_past : (w : IntegerWidth) (n : ℕ) → FitsWidth w n → n < past_width w
fits_past Unknown n fits = fits
fits_past _ n fits = fits

sized_again : (n : ℕ) (indicator : Option ℕ) (w : IntegerWidth) → HasWidth n indicator w
    → with_width n indicator ≡ Ok (n, w)
sized_again n None w is = rw (lt-ltb n (2 ^ 64) (fits_64 w n is.1)) (ap (λ (v : IntegerWidth). Ok (n, v)) (sym is.0))
sized_again n (Some indicator) w is =
    rw (lt-ltb n (past_width (width_of indicator))
    (subst (λ (v : IntegerWidth). n < past_width v) is.0 (fits_past w n is.1)))
    (ap (λ (v : IntegerWidth). Ok (n, v)) (sym is.0))

-- ---- numbers

number_again : (text rest : List ℕ) (n : ℕ) (indicator : Option ℕ) → IsNumber text n indicator → EndsNumber rest
    → read_number (text ++ rest) ≡ Ok ((n, indicator), rest)
number_again text rest n indicator is ends =
    ap (λ (o : Option (ℕ × Option ℕ × List ℕ)). or_refused o >>= λ x. Ok ((x.0, x.1), x.2))
    (number_of-append text rest n indicator is ends)

module _ (read : List ℕ → Read Item) where
  -- where a digit is, an integer or a tag is read
  digit_core : (text : List ℕ) → Begins digits text → read_core read text ≡ read_integer read text
  unfolding read_core start_of
  digit_core [] begins = absurd begins
  digit_core (b ∷ text) begins =
      at_one_of (λ c. core_of read (start_of c) (b ∷ text) text ≡ read_integer read (b ∷ text)) digits b
      (refl, (refl, (refl, (refl, (refl, (refl, (refl, (refl, (refl, (refl, tt)))))))))) begins

  integer_read : (text rest : List ℕ) (n : ℕ) (w : IntegerWidth) → NumberOf text n w → EndsNumber rest
      → read_core read (text ++ rest) ≡ integer_or_tag read n w rest (after_byte 40 rest)
  integer_read text rest n w is ends =
      digit_core (text ++ rest) (begins_append digits text rest (number_begins text n is.0 is.1))
      ∙ rw (number_again text rest n is.0 is.1 ends, sized_again n is.0 w is.2) refl

  pub integer_again : (text rest : List ℕ) (n : ℕ) (w : IntegerWidth) → NumberOf text n w → Ends core_ends rest
      → read_core read (text ++ rest) ≡ Ok (atom (integer n w), rest)
  integer_again text rest n w is ends =
      integer_read text rest n w is (ends_number core_ends rest refl ends)
      ∙ rw (ends_after_byte 40 core_ends rest refl ends) refl

  pub negative_again : (text rest : List ℕ) (n : ℕ) (w : IntegerWidth) → NegativeOf text n w → Ends core_ends rest
      → read_core read (text ++ rest) ≡ Ok (atom (negative n w), rest)
  unfolding read_core start_of
  negative_again text rest n w is ends =
      let number = number_again is.0 rest (n + 1) is.1 is.3 (ends_number core_ends rest refl ends) in
      let one_less : negative_number (n + 1) is.1 ≡ Ok (n, w) = rw (add-one n) (sized_again n is.1 w is.4) in
      ap (λ (t : List ℕ). read_core read (t ++ rest)) is.2 ∙ rw (number, one_less) refl

  pub tag_again : (Reads : List ℕ → Item → Type 0) (number inner rest : List ℕ) (t : ℕ) (w : IntegerWidth) (i : Item)
      → ReadsAgain Reads read → NumberOf number t w → Reads inner i
      → read_core read ((number ++ (codes "(" ++ (inner ++ codes ")"))) ++ rest) ≡ Ok (tagged t w i, rest)
  tag_again Reads number inner rest t w i it is inner_is =
      let tail : List ℕ = 40 ∷ (inner ++ 41 ∷ rest) in
      let whole : (number ++ (codes "(" ++ (inner ++ codes ")"))) ++ rest ≡ number ++ tail =
      append_assoc number (codes "(" ++ (inner ++ codes ")")) rest
      ∙ ap (λ (r : List ℕ). number ++ 40 ∷ r) (append_assoc inner (codes ")") rest) in
      ap (read_core read) whole ∙ (integer_read number tail t w is (ends_number (codes "(") tail refl refl)
      ∙ rw (it.again inner (41 ∷ rest) i inner_is refl) refl)
