-- In EDN, a decimal number that was laid out (`IsLaidOutNumber`) begins with a digit or a minus, is read as one word,
-- and has no `_` or `f` in it. `name_and_width` and `digits_and_width` split the number from a width after it that
-- begins with `_`.
use Rattle.std.proofs.Common.{◌≡◌, ℕ, ◌+◌, ◌<◌, ◌==◌, ◌||◌, ◌&&◌, Bool, true, false, if◌then◌else◌}
use Rattle.std.proofs.Common.{List, [], ◌∷◌, ◌++◌, length, position}
use Rattle.std.proofs.Common.{refl, sym, ap, ap₂, subst, ◌∙◌, arith}
use Rattle.std.proofs.Math.Seq.{take-append_seam, drop-append_seam}
use Rattle.std.proofs.lemmas.Bool.{agree_below_at}
use Rattle.std.proofs.lemmas.Bool.Decides.{nat_tests}
use Rattle.std.proofs.lemmas.List.{append-nil}
use Rattle.std.proofs.lemmas.Str.Parse.{digit_from_value}
use Rattle.std.specs.Char.{digit_value}
use Rattle.std.specs.Fmt.{sign_text}
use Rattle.std.specs.Float.Numeral.{Parts, text_of, exponent_text, IsWellFormed}
use Rattle.std.specs.List.{AllByRecursion}
use Rattle.std.specs.Str.Parse.{AllDigits}
use Rattle.ryu.specs.Plain.{IsLaidOutNumber}
use Rattle.cbor_edn_grammar.specs.Float.{cut_at, name_and_width, digits_and_width}
use Rattle.cbor_edn_grammar.proofs.Words.{position_none, position_some}
use Rattle.cbor_edn_grammar.specs.Word.{is_digit, is_word_byte, is_sign, is_exponent, run_len}

-- ---- the bytes

-- a byte of a decimal number, where the flag says whether a sign may be here
abbrev in_decimal : Bool → ℕ → Bool
in_decimal signed b = is_digit b || (b == 46) || (b == 101) || (signed && (b == 45))

-- the bytes of a decimal number from here on
abbrev pub IsDecimalRun : Bool → List ℕ → Type 0
IsDecimalRun signed [] = Unit {0}
IsDecimalRun signed (b ∷ text) = (in_decimal signed b ≡ true) × IsDecimalRun (b == 101) text

-- a digit, or a minus
abbrev pub begins_decimal : ℕ → Bool
begins_decimal b = is_digit b || (b == 45)

-- a text that begins so
abbrev BeginsDecimal : List ℕ → Type 0
BeginsDecimal text = (b : ℕ) × (later : List ℕ) × (text ≡ b ∷ later) × (begins_decimal b ≡ true)

digit_is : (d : ℕ) → digit_value d < 10 → is_digit d ≡ true
digit_is d lt = let range = digit_from_value d lt in grind (arith, nat_tests, range)

digits_run : (signed : Bool) (ds rest : List ℕ) → AllDigits 10 ds → ((s : Bool) → IsDecimalRun s rest)
    → IsDecimalRun signed (ds ++ rest)
digits_run signed [] rest h r = r signed
digits_run signed (d ∷ ds) rest h r = (rw (digit_is d h.0) refl, digits_run (d == 101) ds rest h.1 r)

last_digits : (signed : Bool) (ds : List ℕ) → AllDigits 10 ds → IsDecimalRun signed ds
last_digits signed ds h = subst (IsDecimalRun signed) (append-nil ds) (digits_run signed ds [] h (λ s. tt))

exponent_run : (signed negative : Bool) (ds : List ℕ) → AllDigits 10 ds
    → IsDecimalRun signed (exponent_text negative ds)
exponent_run signed negative [] h = tt
exponent_run signed true (d ∷ ds) h = (refl, (refl, last_digits false (d ∷ ds) h))
exponent_run signed false (d ∷ ds) h = (refl, last_digits true (d ∷ ds) h)

point_run : (signed point : Bool) (ds rest : List ℕ) → AllDigits 10 ds → ((s : Bool) → IsDecimalRun s rest)
    → IsDecimalRun signed ((if point then 46 ∷ ds else []) ++ rest)
point_run signed true ds rest h r = (refl, digits_run false ds rest h r)
point_run signed false ds rest h r = r signed

parts_run : (signed : Bool) (p : Parts) → IsWellFormed p → IsDecimalRun signed (text_of p)
parts_run signed p w =
    let last : List ℕ = exponent_text p.exponent_negative p.exponent in
    digits_run signed p.whole ((if p.point then 46 ∷ p.fraction else []) ++ last) w.whole_digits
    (λ s. point_run s p.point p.fraction last w.fraction_digits
    (λ s. exponent_run s p.exponent_negative p.exponent w.exponent_digits))

sign_run : (negative : Bool) (size : List ℕ) → ((s : Bool) → IsDecimalRun s size)
    → IsDecimalRun true (sign_text negative ++ size)
sign_run true size r = (refl, r false)
sign_run false size r = r true

digits_begin : (ds rest : List ℕ) → 0 < length ds → AllDigits 10 ds → BeginsDecimal (ds ++ rest)
digits_begin [] rest some h = absurd (omega arith)
digits_begin (d ∷ ds) rest some h = (d, ds ++ rest, refl, rw (digit_is d h.0) refl)

sign_begins : (negative : Bool) (size : List ℕ) → BeginsDecimal size → BeginsDecimal (sign_text negative ++ size)
sign_begins true size b = (45, size, refl, refl)
sign_begins false size b = b

pub laid_out_run : (text : List ℕ) → IsLaidOutNumber 16 4 text → IsDecimalRun true text
laid_out_run text h =
    let p : Parts = h.3.0 in
    subst (IsDecimalRun true) (sym (h.2 ∙ ap (λ x. sign_text h.0 ++ x) h.3.1))
    (sign_run h.0 (text_of p) (λ s. parts_run s p h.3.2.well_formed))

pub laid_out_begins : (text : List ℕ) → IsLaidOutNumber 16 4 text → BeginsDecimal text
laid_out_begins text h =
    let p : Parts = h.3.0 in
    subst BeginsDecimal (sym (h.2 ∙ ap (λ x. sign_text h.0 ++ x) h.3.1))
    (sign_begins h.0 (text_of p) (digits_begin p.whole _ h.3.2.whole h.3.2.well_formed.whole_digits))

-- ---- they are one word

in_decimal_low : (b : ℕ) → in_decimal true b ≡ true → b < 102
in_decimal_low b e = grind (arith, nat_tests)

in_decimal_signed : (signed : Bool) (b : ℕ) → in_decimal signed b ≡ true → in_decimal true b ≡ true
in_decimal_signed true b e = e
in_decimal_signed false b e = grind (arith, nat_tests)

-- what holds of each byte of a decimal number
at_decimal : (f : ℕ → Bool) (signed : Bool) (b : ℕ)
    → ((k : ℕ) → k < 102 → (if in_decimal signed k then f k else true) ≡ true)
    → in_decimal signed b ≡ true → f b ≡ true
at_decimal f signed b all e =
    let low : b < 102 = in_decimal_low b (in_decimal_signed signed b e) in
    sym (ap (λ t. if t then f b else true) e) ∙ all b low

in_word : (signed : Bool) (b : ℕ) → in_decimal signed b ≡ true → (is_word_byte b || (signed && is_sign b)) ≡ true
in_word true b = at_decimal (λ k. is_word_byte k || is_sign k) true b
    (λ k. agree_below_at (λ k. if in_decimal true k then is_word_byte k || is_sign k else true) (λ k. true) 102 k refl)
in_word false b = at_decimal (λ k. is_word_byte k || false) false b
    (λ k. agree_below_at (λ k. if in_decimal false k then is_word_byte k || false else true) (λ k. true) 102 k refl)

exponents : (b : ℕ) → in_decimal true b ≡ true → is_exponent b ≡ (b == 101)
exponents b e = grind (arith, nat_tests)

pub decimal_run_len : (signed : Bool) (text rest : List ℕ) (n : ℕ) → IsDecimalRun signed text
    → ((s : Bool) → run_len true s rest ≡ n) → run_len true signed (text ++ rest) ≡ length text + n
decimal_run_len signed [] rest n h end = end signed ∙ omega arith
decimal_run_len signed (b ∷ text) rest n h end =
    rw (in_word signed b h.0, exponents b (in_decimal_signed signed b h.0))
    (let more = decimal_run_len (b == 101) text rest n h.1 end in omega (arith, more))

-- ---- and no mark of a width

-- nothing, or a text that begins with a mark
abbrev pub IsMark : (ℕ → Bool) → List ℕ → Type 0
IsMark p [] = Unit {0}
IsMark p (b ∷ mark) = p b ≡ true

pub cut_front : (p : ℕ → Bool) (text mark : List ℕ) → AllByRecursion (λ b. p b ≡ false) text → IsMark p mark
    → cut_at (text ++ mark) (position p (text ++ mark)) ≡ (text, mark)
cut_front p text [] h m =
    ap (λ t. cut_at t (position p t)) (append-nil text) ∙ ap (cut_at text) (position_none p text h)
cut_front p text (b ∷ mark) h m =
    ap (cut_at (text ++ b ∷ mark)) (position_some p text mark b h m)
    ∙ ap₂ (λ t u. (t, u)) (take-append_seam text (b ∷ mark)) (drop-append_seam text (b ∷ mark))

-- no byte of a decimal number passes this test
abbrev PassesNone : (ℕ → Bool) → Type 0
PassesNone p = (k : ℕ) → k < 102 → (if in_decimal true k then p k else false) ≡ false

decimal_without : (p : ℕ → Bool) → PassesNone p → (signed : Bool) (text : List ℕ) → IsDecimalRun signed text
    → AllByRecursion (λ b. p b ≡ false) text
decimal_without p none signed [] h = tt
decimal_without p none signed (b ∷ text) h =
    let e : in_decimal true b ≡ true = in_decimal_signed signed b h.0 in (
      sym (ap (λ t. if t then p b else false) e) ∙ none b (in_decimal_low b e),
      decimal_without p none (b == 101) text h.1,
    )

no_underscore : PassesNone (λ b. b == 95)
no_underscore k = agree_below_at (λ k. if in_decimal true k then k == 95 else false) (λ k. false) 102 k refl

no_mark : PassesNone (λ b. (b == 95) || (b == 102))
no_mark k =
    agree_below_at (λ k. if in_decimal true k then (k == 95) || (k == 102) else false) (λ k. false) 102 k refl

either_mark : (mark : List ℕ) → IsMark (λ b. b == 95) mark → IsMark (λ b. (b == 95) || (b == 102)) mark
either_mark [] h = tt
either_mark (b ∷ mark) h = rw h refl

-- the number and the mark of a word, where the mark begins with `_`
module _ (text mark : List ℕ) (run : IsDecimalRun true text) (is : IsMark (λ b. b == 95) mark) where
  pub name_of_decimal : name_and_width (text ++ mark) ≡ (text, mark)
  name_of_decimal =
      cut_front (λ b. b == 95) text mark (decimal_without (λ b. b == 95) no_underscore true text run) is

  pub digits_of_decimal : digits_and_width (text ++ mark) ≡ (text, mark)
  digits_of_decimal =
      cut_front (λ b. (b == 95) || (b == 102)) text mark
      (decimal_without (λ b. (b == 95) || (b == 102)) no_mark true text run) (either_mark mark is)
