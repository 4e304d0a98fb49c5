-- If `read_integer`, `read_negative` or `read_word` returns an item, the text that was read is this item by the grammar
-- (`Core`): an integer or a tag, a negative integer (after its `-`), a simple value or a float. An error is one that
-- the text allows (`Sound`).
use Rattle.std.proofs.Common.{◌≡◌, ℕ, zero, suc, ◌+◌, ◌-◌, ◌<◌, ◌^◌, true, ◌==◌, ◌&&◌, cond, nat_lt, List, [], ◌∷◌}
use Rattle.std.proofs.Common.{◌++◌, codes, length, take, drop, Option, Some, None, Result, Ok, Err, refl, sym, ap}
use Rattle.std.proofs.Common.{Bool, get_or, subst, ◌∙◌, append_assoc, append-nil, length-append, ◌⊎◌, inl, inr, arith}
use Rattle.std.specs.List.{position, list_all}
use Rattle.std.specs.Char.{digit_value}
use Rattle.std.specs.Str.Parse.{AllDigits, digits_value}
use Rattle.std.proofs.Math.Seq.{take-append_seam}
use Rattle.std.proofs.lemmas.Bool.{cond_both, eqb-true, and_parts}
use Rattle.std.proofs.lemmas.List.{length-take-le, take-append-drop}
use Rattle.std.proofs.lemmas.List.Sums.{passes_at_first, sum_by-append, sum_by-cons}
use borrow.Author.Tests.{ltb-true}
use Rattle.cbor_tokens.specs.Token.{IsNumber, AreDigits}
use Rattle.cbor_tokens.specs.TokenReading.{number_of}
use Rattle.cbor_tokens.proofs.tokens.NumberParts.{behind_underscore, decimal_number}
use Rattle.cbor_tokens.proofs.tokens.Numbers.{IsNumber-number_of}
use Rattle.cbor_tokens.proofs.tokens.TextPlaces.{first_at, from_byte}
use Rattle.cbor_grammar.specs.declared.error.Error.{Error}
use Rattle.cbor_grammar.specs.declared.error.Error.TheVariants as refusal
use Rattle.cbor_grammar.specs.declared.width.IntegerWidth.{IntegerWidth}
use Rattle.cbor_grammar.specs.declared.width.IntegerWidth.TheVariants.{Unknown}
use Rattle.cbor_grammar.specs.declared.width.FloatWidth.{FloatWidth}
use Rattle.cbor_grammar.specs.declared.width.FloatWidth.TheVariants as float_width_of
use Rattle.cbor_grammar.specs.Item.{Item, atom, negative, float, simple, tagged}
use Rattle.cbor_grammar.specs.Head.{FitsWidth}
use Rattle.cbor_grammar.specs.Reading.{Read, ◌>>=◌}
use Rattle.cbor_grammar.specs.Notation.{width_of, number_width, HasWidth, NumberOf, NegativeOf, FloatDigits, Core}
use Rattle.cbor_notation.specs.mirror.NotationReading.{or_refused, after_byte, after_word, numeral, read_number}
use Rattle.cbor_notation.specs.mirror.NotationReading.{past_width}
use Rattle.cbor_notation.specs.mirror.NotationReading.{with_width, negative_number, read_negative, read_tagged}
use Rattle.cbor_notation.specs.mirror.NotationReading.{integer_or_tag, read_integer, simple_value, read_simple}
use Rattle.cbor_notation.specs.mirror.NotationReading.{float_of}
use Rattle.cbor_notation.specs.mirror.NotationReading.{read_float, or_else, named, read_word}
use Rattle.cbor_grammar.specs.NotationRefused.{MayRefuse, HoldsByte}
use Rattle.cbor_notation.proofs.notation.sound.Steps.{none_some, a_test, Sound, moved, moved_in, sound_then}
use Rattle.cbor_notation.proofs.notation.sound.Steps.{sound_option}
use Rattle.cbor_notation.proofs.notation.sound.Steps.{after_byte_is, after_word_is}

-- ---- widths

-- why a number is refused: it is none, or it does not fit the width that an indicator states
abbrev pub OddNumber : Option ℕ → Error → Type 0
OddNumber indicator e = (e ≡ refusal.Notation) ⊎ ((e ≡ refusal.PastWidth) × (i : ℕ) × (indicator ≡ Some i))

abbrev SizedSo : ℕ → Option ℕ → Result (ℕ × IntegerWidth) Error → Type 0
SizedSo n indicator (Ok x) = (x.0 ≡ n) × HasWidth n indicator x.1
SizedSo n indicator (Err e) = OddNumber indicator e

fits_past : (w : IntegerWidth) (n : ℕ) → n < past_width w → FitsWidth w n
fits_past Unknown n h = h
fits_past _ n h = h

fits_open : (n : ℕ) → n < 2 ^ 64 → FitsWidth (number_width n None) n
fits_open n h =
    elim (a_test (nat_lt n 24)) [
      | inl this ↦ rw this (ltb-true n 24 this)
      | inr other ↦ rw other h
    ]

sized_is : (n : ℕ) (indicator : Option ℕ) → SizedSo n indicator (with_width n indicator)
sized_is n None =
    elim (a_test (nat_lt n (2 ^ 64))) [
      | inl this ↦ rw this (refl, (refl, fits_open n (ltb-true n (2 ^ 64) this)))
      | inr other ↦ rw other (inl refl)
    ]
sized_is n (Some i) =
    elim (a_test (nat_lt n (past_width (width_of i)))) [
      | inl this ↦ rw this (refl, (refl, fits_past (width_of i) n (ltb-true n (past_width (width_of i)) this)))
      | inr other ↦ rw other (inr (refl, i, refl))
    ]

-- ---- numbers

underscore : (front : List ℕ) (n i : ℕ) → IsNumber front n (Some i) → HoldsByte 95 front
underscore front n i is =
    let u = behind_underscore front n i is in
    rw u.2 (omega (
      arith,
      sum_by-append (λ x. cond (x == 95) 1 0) u.0 (95 ∷ u.1),
      sum_by-cons (λ x. cond (x == 95) 1 0) 95 u.1,
    ))

holds_left : (byte : ℕ) (text front rest : List ℕ) → text ≡ front ++ rest → HoldsByte byte front → HoldsByte byte text
holds_left byte text front rest is h = rw is (omega (arith, sum_by-append (λ x. cond (x == byte) 1 0) front rest))

odd_number : (levels : ℕ) (text front rest : List ℕ) (n : ℕ) (indicator : Option ℕ) (e : Error) → text ≡ front ++ rest
    → IsNumber front n indicator → OddNumber indicator e → MayRefuse levels text e
odd_number levels text front rest n indicator e is number (inl none) = rw none tt
odd_number levels text front rest n indicator e is number (inr past) =
    rw past.0 (holds_left 95 text front rest is
    (underscore front n past.1 (subst (λ (o : Option ℕ). IsNumber front n o) past.2 number)))

abbrev numbered_by : Option (ℕ × Option ℕ × List ℕ) → Read (ℕ × Option ℕ)
numbered_by o = or_refused o >>= λ x. Ok ((x.0, x.1), x.2)

-- what is made of a number and of what follows it
module _ {A B : Type 0} (levels : ℕ) (Is : List ℕ → B → Type 0) (text : List ℕ) (size : ℕ → Option ℕ → List ℕ
    → Result A Error) (f : A → List ℕ → Read B)
    (odd : (front rest : List ℕ) (n : ℕ) (indicator : Option ℕ) → text ≡ front ++ rest → IsNumber front n indicator
    → (e : Error) → size n indicator rest ≡ Err e → OddNumber indicator e)
    (h : (front rest : List ℕ) (n : ℕ) (indicator : Option ℕ) → text ≡ front ++ rest → IsNumber front n indicator
    → (a : A) → size n indicator rest ≡ Ok a → Sound levels (λ g b. Is (front ++ g) b) rest (f a rest)) where
  size_step : (front rest : List ℕ) (n : ℕ) (indicator : Option ℕ) → text ≡ front ++ rest → IsNumber front n indicator
      → (r : Result A Error) → size n indicator rest ≡ r → Sound levels Is text (r >>= λ a. f a rest)
  size_step front rest n indicator is number (Ok a) e =
      moved levels Is text front rest (f a rest) is (h front rest n indicator is number a e)
  size_step front rest n indicator is number (Err d) e =
      odd_number levels text front rest n indicator d is number (odd front rest n indicator is number d e)

  number_step : (o : Option (ℕ × Option ℕ × List ℕ)) → number_of text ≡ o
      → Sound levels Is text (numbered_by o >>= λ x. size x.0.0 x.0.1 x.1 >>= λ a. f a x.1)
  number_step None e = tt
  number_step (Some x) e =
      let number = IsNumber-number_of text x e in
      size_step number.0 x.2 x.0 x.1 number.1 number.2 (size x.0 x.1 x.2) refl

  pub sound_number : Sound levels Is text (read_number text >>= λ x. size x.0.0 x.0.1 x.1 >>= λ a. f a x.1)
  sound_number = number_step (number_of text) refl

-- a number that is tested before it is used
module _ {A B : Type 0} (size : ℕ → Option ℕ → Result A Error) (f : A → List ℕ → Read B) where
  abbrev tested : List ℕ → Result A Error → Read A
  tested rest r = r >>= λ a. Ok (a, rest)

  abbrev used : Read A → Read B
  used r = r >>= λ n. f n.0 n.1

  tested_then : (rest : List ℕ) (r : Result A Error) → used (tested rest r) ≡ (r >>= λ a. f a rest)
  tested_then rest (Ok a) = refl
  tested_then rest (Err e) = refl

  number_tested : (o : Option (ℕ × Option ℕ × List ℕ))
      → used (numbered_by o >>= λ x. tested x.1 (size x.0.0 x.0.1))
      ≡ (numbered_by o >>= λ x. size x.0.0 x.0.1 >>= λ a. f a x.1)
  number_tested None = refl
  number_tested (Some x) = tested_then x.2 (size x.0 x.1)

-- ---- integers and tags

pub sized_ok : (n : ℕ) (indicator : Option ℕ) (x : ℕ × IntegerWidth) → with_width n indicator ≡ Ok x
    → (x.0 ≡ n) × HasWidth n indicator x.1
sized_ok n indicator x e = subst (SizedSo n indicator) e (sized_is n indicator)

sized_odd : (n : ℕ) (indicator : Option ℕ) (d : Error) → with_width n indicator ≡ Err d → OddNumber indicator d
sized_odd n indicator d e = subst (SizedSo n indicator) e (sized_is n indicator)

pub number_here : (front : List ℕ) (n : ℕ) (indicator : Option ℕ) (x : ℕ × IntegerWidth) → IsNumber front n indicator
    → (x.0 ≡ n) × HasWidth n indicator x.1 → NumberOf front x.0 x.1
number_here front n indicator x number h = rw h.0 (indicator, number, h.1)

module _ (left : ℕ) (R : List ℕ → Item → Type 0) (read : List ℕ → Read Item) (sound : (text : List ℕ)
    → Sound left R text (read text)) where
  or_tag : (front rest : List ℕ) (n : ℕ) (w : IntegerWidth) → NumberOf front n w → (o : Option (List ℕ))
      → after_byte 40 rest ≡ o → Sound (suc left) (λ g i. Core R (front ++ g) i) rest (integer_or_tag read n w rest o)
  or_tag front rest n w number None e = (
    [],
    refl,
    subst (λ (z : List ℕ). NumberOf z n w) (sym (append-nil front))
        number,
  )
  or_tag front rest n w number (Some inner) e =
      moved_in left (λ g i. Core R (front ++ g) i) rest [] 40 inner (read_tagged read n w inner)
      (after_byte_is 40 rest inner e) refl
      (sound_then left R (λ g i. Core R (front ++ 40 ∷ g) i) inner (read inner)
      (λ i. or_refused (after_byte 41 i.1) >>= λ after. Ok (tagged n w i.0, after)) (sound inner)
      (λ i within after is reads.
      sound_option left (λ g j. Core R (front ++ 40 ∷ (within ++ g)) j) after (after_byte 41 after)
      (λ last. Ok (tagged n w i, last))
      (λ last closed. (41 ∷ [], after_byte_is 41 after last closed, (front, within, refl, number, reads)))))

  pub integer_sound : (text : List ℕ) → Sound (suc left) (Core R) text (read_integer read text)
  integer_sound text =
      subst (Sound (suc left) (Core R) text) (sym
      (number_tested with_width (λ x rest. integer_or_tag read x.0 x.1 rest (after_byte 40 rest)) (number_of text)))
      (sound_number (suc left) (Core R) text (λ n indicator rest. with_width n indicator)
      (λ x rest. integer_or_tag read x.0 x.1 rest (after_byte 40 rest))
      (λ front rest n indicator is number e odd. sized_odd n indicator e odd)
      (λ front rest n indicator is number x ok. or_tag front rest x.0 x.1
      (number_here front n indicator x number (sized_ok n indicator x ok)) (after_byte 40 rest) refl))

  -- ---- negative integers

  below_ok : (front : List ℕ) (n : ℕ) (indicator : Option ℕ) (x : ℕ × IntegerWidth) → IsNumber front n indicator
      → negative_number n indicator ≡ Ok x → NegativeOf (45 ∷ front) x.0 x.1
  below_ok front zero indicator x number e = absurd cc
  below_ok front (suc n) indicator x number e =
      let ok = sized_ok n indicator x e in
      let more : suc n ≡ x.0 + 1 = omega (arith, ok.0) in
      (front, indicator, refl, subst (λ (m : ℕ). IsNumber front m indicator) more number, rw ok.0 ok.1)

  below_odd : (n : ℕ) (indicator : Option ℕ) (d : Error) → negative_number n indicator ≡ Err d → OddNumber indicator d
  below_odd zero indicator d e = let same : refusal.Notation ≡ d = cc in inl (sym same)
  below_odd (suc n) indicator d e = sized_odd n indicator d e

  -- after the minus
  pub negative_sound : (text : List ℕ) → Sound (suc left) (λ g i. Core R (45 ∷ g) i) text (read_negative text)
  negative_sound text =
      let made : ℕ × IntegerWidth → List ℕ → Read Item = λ x rest. Ok (atom (negative x.0 x.1), rest) in
      subst (Sound (suc left) (λ g i. Core R (45 ∷ g) i) text)
      (sym (number_tested negative_number made (number_of text)))
      (sound_number (suc left) (λ g i. Core R (45 ∷ g) i) text (λ n indicator rest. negative_number n indicator)
      (λ x rest. Ok (atom (negative x.0 x.1), rest))
      (λ front rest n indicator is number e odd. below_odd n indicator e odd)
      (λ front rest n indicator is number x ok. (
        [],
        refl,
        subst (λ (z : List ℕ). NegativeOf (45 ∷ z) x.0 x.1) (sym (append-nil front))
            (below_ok front n indicator x number ok),
      )))

  -- ---- simple values

  all_digits : (radix : ℕ) (ds : List ℕ) → list_all (λ c. nat_lt (digit_value c) radix) ds ≡ true → AllDigits radix ds
  all_digits radix [] h = tt
  all_digits radix (d ∷ ds) h =
      let parts = and_parts (nat_lt (digit_value d) radix) (list_all (λ c. nat_lt (digit_value c) radix) ds) h in
      (ltb-true (digit_value d) radix parts.0, all_digits radix ds parts.1)

  simple_ok : (front : List ℕ) (n m : ℕ) (indicator : Option ℕ) → IsNumber front n indicator
      → simple_value n front ≡ Ok m → AreDigits 10 front m × (m < 256)
  simple_ok front n m indicator number e =
      elim (a_test (list_all (λ c. nat_lt (digit_value c) 10) front && nat_lt n 256)) [
        | inl this ↦
            let parts = and_parts (list_all (λ c. nat_lt (digit_value c) 10) front) (nat_lt n 256) this in
            let same : n ≡ m = cc (rw this at e) in
            subst (λ (k : ℕ). AreDigits 10 front k × (k < 256)) same
            (decimal_number front n indicator number (all_digits 10 front parts.0), ltb-true n 256 parts.1)
        | inr other ↦ absurd (cc (rw other at e))
      ]

  simple_odd : (front : List ℕ) (n : ℕ) (indicator : Option ℕ) (d : Error) → simple_value n front ≡ Err d
      → OddNumber indicator d
  simple_odd front n indicator d e =
      elim (a_test (list_all (λ c. nat_lt (digit_value c) 10) front && nat_lt n 256)) [
        | inl this ↦ absurd (cc (rw this at e))
        | inr other ↦ let same : refusal.Notation ≡ d = cc (rw other at e) in inl (sym same)
      ]

  front_of : (text front rest : List ℕ) → text ≡ front ++ rest → take (length text - length rest) text ≡ front
  front_of text front rest is =
      let n : length text - length rest ≡ length front = omega (arith, ap length is, length-append front rest) in
      rw n (ap (take (length front)) is ∙ take-append_seam front rest)

  -- after `simple(`
  pub simple_sound : (text : List ℕ) → Sound (suc left) (λ g i. Core R (codes "simple(" ++ g) i) text (read_simple text)
  simple_sound text =
      sound_number (suc left) (λ g i. Core R (codes "simple(" ++ g) i) text
      (λ n indicator rest. simple_value n (take (length text - length rest) text))
      (λ n rest. or_refused (after_byte 41 rest) >>= λ last. Ok (atom (simple n), last))
      (λ front rest n indicator is number e odd. let same =
      front_of text front rest is in simple_odd front n indicator e (rw same at odd))
      (λ front rest n indicator is number m ok.
      sound_option (suc left) (λ g i. Core R (codes "simple(" ++ (front ++ g)) i) rest (after_byte 41 rest)
      (λ last. Ok (atom (simple m), last))
      (λ last closed. (
        41 ∷ [],
        after_byte_is 41 rest last closed,
        let same =
            front_of text front rest is in inr (front, refl, simple_ok front n m indicator number (rw same at ok)),
      )))

  -- ---- floats

  numeral_is : (radix : ℕ) (ds : List ℕ) (n : ℕ) → numeral radix ds ≡ Some n → AreDigits radix ds n
  numeral_is radix [] n e = absurd (none_some n e)
  numeral_is radix (d ∷ ds) n e =
      elim (a_test (list_all (λ c. nat_lt (digit_value c) radix) (d ∷ ds))) [
        | inl this ↦ (
          (omega arith, all_digits radix (d ∷ ds) this),
          let same : Some (digits_value radix (d ∷ ds))
              ≡ Some n = rw this at e in cc,
        )
        | inr other ↦ absurd (none_some n (rw other at e))
      ]

  float_width : (count : ℕ) (w : FloatWidth) → float_of count ≡ Some w → FloatDigits w count
  float_width count w e =
      width_or (count == 4) float_width_of.Sixteen _ (eqb-true count 4)
      (width_or (count == 8) float_width_of.ThirtyTwo _ (eqb-true count 8)
      (width_or (count == 16) float_width_of.SixtyFour _ (eqb-true count 16) (λ never. absurd (none_some w never)))) e
    where
      width_or : (test : Bool) (v : FloatWidth) (o : Option FloatWidth) → (test ≡ true → FloatDigits v count)
          → (o ≡ Some w → FloatDigits w count) → cond test (Some v) o ≡ Some w → FloatDigits w count
      width_or test v o this other = cond_both test (Some v) o (λ r. r ≡ Some w → FloatDigits w count)
          (λ passes is. let same : v ≡ w = cc in subst (λ (x : FloatWidth). FloatDigits x count) same (this passes))
          (λ fails. other)

  position_is : (text : List ℕ) (count : ℕ) → position (λ b. b == 39) text ≡ Some count
      → (count < length text) × (text ≡ take count text ++ 39 ∷ drop (count + 1) text)
  position_is text count e =
      let first = first_at (λ b. b == 39) text (Some count) count (sym e) refl in
      let found : (get_or text count 0 == 39) ≡ true =
      rw first.0 (passes_at_first (λ b. b == 39) text 0 (rw first.0 at first.1)) in (
        first.1,
        sym (take-append-drop count text)
            ∙ ap (λ (z : List ℕ). take count text ++ z)
            (from_byte text count 39 first.1 (eqb-true (get_or text count 0) 39 found)),
      )

  -- after `float'`
  pub float_sound : (text : List ℕ) → Sound (suc left) (λ g i. Core R (codes "float'" ++ g) i) text (read_float text)
  float_sound text =
      sound_option (suc left) (λ g i. Core R (codes "float'" ++ g) i) text (position (λ b. b == 39) text)
      (λ count. or_refused (float_of count) >>= λ w. or_refused (numeral 16 (take count text))
      >>= λ bits. Ok (atom (float bits w), drop (count + 1) text))
      (λ count at.
      let p = position_is text count at in
      let digits = take count text in
      sound_option (suc left) (λ g i. Core R (codes "float'" ++ g) i) text (float_of count)
      (λ w. or_refused (numeral 16 digits) >>= λ bits. Ok (atom (float bits w), drop (count + 1) text))
      (λ w wide.
      sound_option (suc left) (λ g i. Core R (codes "float'" ++ g) i) text (numeral 16 digits)
      (λ bits. Ok (atom (float bits w), drop (count + 1) text))
      (λ bits are.
      let long : length digits ≡ count = length-take-le count text (omega (arith, p.0)) in (
        digits ++ 39 ∷ [],
        p.1 ∙ sym (append_assoc digits (39 ∷ []) (drop (count + 1) text)),
        (digits, refl, (numeral_is 16 digits bits are, rw long (float_width count w wide))),
      ))))

  -- ---- words

  or_word : (Is : List ℕ → Item → Type 0) (text word : List ℕ) (f : List ℕ → Read Item) (other : Read Item)
      → ((rest : List ℕ) → Sound (suc left) (λ g i. Is (word ++ g) i) rest (f rest)) → Sound (suc left) Is text other
      → (o : Option (List ℕ)) → after_word word text ≡ o → Sound (suc left) Is text (or_else o f other)
  or_word Is text word f other h k None e = k
  or_word Is text word f other h k (Some rest) e =
      moved (suc left) Is text word rest (f rest) (after_word_is word text rest e) (h rest)

  named_sound : (n : ℕ) (word rest : List ℕ) → Core R (word ++ []) (atom (simple n))
      → Sound (suc left) (λ g i. Core R (word ++ g) i) rest (named n rest)
  named_sound n word rest is = ([], refl, is)

  pub word_sound : (text : List ℕ) → Sound (suc left) (Core R) text (read_word text)
  word_sound text =
      or_word (Core R) text (codes "false") (named 20) _
      (λ rest. named_sound 20 (codes "false") rest (inl (inl (refl, refl))))
      (or_word (Core R) text (codes "true") (named 21) _
      (λ rest. named_sound 21 (codes "true") rest (inl (inr (inl (refl, refl)))))
      (or_word (Core R) text (codes "null") (named 22) _
      (λ rest. named_sound 22 (codes "null") rest (inl (inr (inr (inl (refl, refl))))))
      (or_word (Core R) text (codes "undefined") (named 23) _
      (λ rest. named_sound 23 (codes "undefined") rest (inl (inr (inr (inr (refl, refl))))))
      (or_word (Core R) text (codes "simple(") read_simple _ simple_sound
      (or_word (Core R) text (codes "float'") read_float (Err refusal.Notation) float_sound tt
      (after_word (codes "float'") text) refl)
      (after_word (codes "simple(") text) refl)
      (after_word (codes "undefined") text) refl)
      (after_word (codes "null") text) refl)
      (after_word (codes "true") text) refl)
      (after_word (codes "false") text) refl
