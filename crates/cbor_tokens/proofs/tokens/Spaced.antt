-- The function `digits_in` returns digits and a rest if and only if the text is these digits with blanks before,
-- between or after them (`Spaced`), then `'`, then the rest. `digits_of` does the same, but returns None for blanks
-- without a digit (`DigitsBetween`). For the loop of `digits_front`: a blank before digits is left out.
use Rattle.std.proofs.Common.{◌≡◌, ◌≢◌, ◌⊎◌, ℕ, ◌+◌, ◌-◌, ◌<◌, Bool, true, false, not, ◌==◌, ◌&&◌, ◌||◌, List, [], ◌∷◌}
use Rattle.std.proofs.Common.{◌++◌, length, get_or, take, drop, Option, Some, None, refl, sym, ap, ◌∙◌, inl, inr}
use Rattle.std.proofs.Common.{subst, arith, IsTrue, nat_lt}
use Rattle.std.specs.List.{AllByRecursion, position_or_len}
use Rattle.std.proofs.lemmas.List.{append_assoc, append-nil, length-append, nil_from_length}
use Rattle.std.proofs.lemmas.Bool.{or_parts, or_cases, and_parts, not-true, not-false, eqb-true, eqb-false, ne_eqb}
use Rattle.std.proofs.lemmas.Bool.{cases_Bool, cond-true, cond-false, ltb-true, lt-ltb, le-ltb, false≢true}
use Rattle.std.proofs.Math.Numerals.{one-add}
use Rattle.cbor_tokens.specs.Token.{Blank, nothing, whitespace, comment, Spaced, blank, digit, DigitsBetween}
use Rattle.cbor_tokens.specs.Token.{is_whitespace, is_digit}
use Rattle.cbor_tokens.specs.TokenReading.{with_front, after_blank_in, after_blank, digits_in, some_digits, digits_of}
use Rattle.cbor_tokens.proofs.tokens.Blanks.{Blank-append, all_push, at_whitespace, blank_left, length-after_blank}
use Rattle.cbor_tokens.proofs.tokens.TextPlaces.{place_after}
use Rattle.cbor_tokens.proofs.tokens.Contents.{from_front, with_front-append, with_front-nil}

-- a blank before digits
pub Spaced-blank : {comments : Bool} {front text digits : List ℕ} → Blank comments front → Spaced comments text digits
    → Spaced comments (front ++ text) digits
Spaced-blank is (blank after) = blank (Blank-append is after)
Spaced-blank {front} is (digit before rest between is_one more text_is) =
    digit (front ++ before) rest (Blank-append is between) is_one more
    (ap (λ (t : List ℕ). front ++ t) text_is ∙ sym (append_assoc front before (_ ∷ rest)))

-- digits, whose text is this, up to a quote, and what follows it
abbrev Between : Bool → List ℕ → List ℕ × List ℕ → Type 0
Between comments whole read = (text : List ℕ) × (whole ≡ text ++ 39 ∷ read.1) × Spaced comments text read.0

between_blank : (comments : Bool) (front rest : List ℕ) (read : List ℕ × List ℕ) → Blank comments front
    → Between comments rest read → Between comments (front ++ rest) read
between_blank comments front rest read is more = (
  front ++ more.0,
  ap (λ (t : List ℕ). front ++ t) more.1 ∙ sym (append_assoc front more.0 (39 ∷ read.1)),
  Spaced-blank is more.2,
)

between_digit : (comments : Bool) (byte : ℕ) (rest : List ℕ) (next read : List ℕ × List ℕ)
    → IsTrue (is_digit comments byte) → Between comments rest next → read.0 ≡ byte ∷ next.0 → read.1 ≡ next.1
    → Between comments (byte ∷ rest) read
between_digit comments byte rest next read is_one more digits after = (
  byte ∷ more.0,
  ap (λ (t : List ℕ). byte ∷ t) more.1 ∙ ap (λ (t : List ℕ). byte ∷ more.0 ++ 39 ∷ t) (sym after),
  subst (Spaced comments (byte ∷ more.0)) (sym digits) (digit [] more.0 nothing is_one more.2 refl),
)

-- where reading is: at a place, or in a comment whose words so far have no `/`
abbrev Stands : Bool → Bool → List ℕ → List ℕ → Type 0
Stands comments false text whole = whole ≡ text
Stands comments true text whole = IsTrue comments
    × ((words : List ℕ) × AllByRecursion (λ byte. byte ≢ 47) words × (whole ≡ 47 ∷ words ++ text))

-- a byte that is no digit, no `'` and opens no comment is whitespace
white_else : (comments : Bool) (byte : ℕ) → is_digit comments byte ≡ false → (byte == 39) ≡ false
    → (comments && (byte == 47)) ≡ false → is_whitespace byte ≡ true
white_else comments byte no_digit no_quote no_comment =
    elim (or_cases (is_whitespace byte || (byte == 39)) (comments && (byte == 47)) (not-false _ no_digit)) [
      | inl early ↦ elim (or_cases (is_whitespace byte) (byte == 39) early) [
        | inl white ↦ white
        | inr quote ↦ absurd (false≢true (sym no_quote ∙ quote))
      ]
      | inr opens ↦ absurd (false≢true (sym no_comment ∙ opens))
    ]

-- what is read are digits with blanks between
read_in : (comments inside : Bool) (text whole : List ℕ) (read : List ℕ × List ℕ) → Stands comments inside text whole
    → digits_in comments inside text ≡ Some read → Between comments whole read
read_in comments inside [] whole read stands is = cc is
read_in comments true (byte ∷ rest) whole read stands is =
    let words = stands.1.0 in
    elim (cases_Bool (byte == 47)) [
      | inl closes ↦
          let is_comment : Blank comments (47 ∷ words ++ 47 ∷ []) = comment words [] stands.0 stands.1.1 nothing refl in
          let whole_is : whole ≡ (47 ∷ words ++ 47 ∷ []) ++ rest =
          stands.1.2 ∙ (ap (λ (b : ℕ). 47 ∷ words ++ b ∷ rest) (eqb-true byte 47 closes)
          ∙ sym (append_assoc (47 ∷ words) (47 ∷ []) rest)) in
          subst (λ (t : List ℕ). Between comments t read) (sym whole_is)
          (between_blank comments (47 ∷ words ++ 47 ∷ []) rest read is_comment
          (read_in comments false rest rest read refl (rw closes at is)))
      | inr goes_on ↦
          read_in comments true rest whole read (
            stands.0,
            (
              words ++ byte ∷ [],
              all_push words byte stands.1.1 (eqb-false byte 47 goes_on),
              stands.1.2
                  ∙ sym (append_assoc (47 ∷ words) (byte ∷ []) rest),
            ),
          )
          (rw goes_on at is)
    ]
read_in comments false (byte ∷ rest) whole read stands is =
    subst (λ (t : List ℕ). Between comments t read) (sym stands)
    (elim (cases_Bool (byte == 39)) as (λ _. Between comments (byte ∷ rest) read) [
      | inl closes ↦
          let same : ◌≡◌ {A = Option (List ℕ × List ℕ)} (Some ([], rest)) (Some read) = rw closes at is in
          let pair : ◌≡◌ {A = List ℕ × List ℕ} ([], rest) read = cc same in (
            [],
            ap (λ (b : ℕ). b ∷ rest) (eqb-true byte 39 closes) ∙ ap (λ (r : List ℕ × List ℕ). 39 ∷ r.1) pair,
            subst (λ (r : List ℕ × List ℕ). Spaced comments [] r.0) pair (blank nothing),
          )
      | inr goes_on ↦
          elim (cases_Bool (is_digit comments byte)) [
            | inl is_one ↦
                let next = from_front (byte ∷ []) (digits_in comments false rest) read (rw (is_one, goes_on) at is) in
                between_digit comments byte rest next.0 read is_one
                (read_in comments false rest rest next.0 refl next.1) next.2 next.3
            | inr no_digit ↦
                elim (cases_Bool (comments && (byte == 47))) [
                  | inl opens ↦
                      let parts = and_parts comments (byte == 47) opens in
                      read_in comments true rest (byte ∷ rest) read
                      (parts.0, ([], tt, ap (λ (b : ℕ). b ∷ rest) (eqb-true byte 47 parts.1)))
                      (rw (no_digit, goes_on, opens) at is)
                  | inr no_comment ↦
                      let white : IsTrue (is_whitespace byte) = white_else comments byte no_digit goes_on no_comment in
                      between_blank comments (byte ∷ []) rest read (whitespace white nothing)
                      (read_in comments false rest rest read refl (rw (no_digit, goes_on, no_comment) at is))
                ]
          ]
    ])

-- blanks are left out
white_read : (comments : Bool) (byte : ℕ) (rest : List ℕ) → IsTrue (is_whitespace byte)
    → digits_in comments false (byte ∷ rest) ≡ digits_in comments false rest
white_read true byte rest white = at_whitespace (λ b. digits_in true false (b ∷ rest) ≡ digits_in true false rest) refl
    refl refl refl byte white
white_read false byte rest white = at_whitespace (λ b. digits_in false false (b ∷ rest) ≡ digits_in false false rest)
    refl refl refl refl byte white

words_read : (comments : Bool) (words rest : List ℕ) → AllByRecursion (λ byte. byte ≢ 47) words
    → digits_in comments true (words ++ 47 ∷ rest) ≡ digits_in comments false rest
words_read comments [] rest all = refl
words_read comments (w ∷ words) rest all =
    ap (λ (b : Bool). digits_in comments (not b) (words ++ 47 ∷ rest)) (ne_eqb w 47 all.0)
    ∙ words_read comments words rest all.1

comment_read : (comments : Bool) (words rest : List ℕ) → IsTrue comments → AllByRecursion (λ byte. byte ≢ 47) words
    → digits_in comments false (47 ∷ (words ++ 47 ∷ rest)) ≡ digits_in comments false rest
comment_read true words rest allowed all = words_read true words rest all
comment_read false words rest allowed all = absurd (false≢true allowed)

pub digits_in-blank : {comments : Bool} {front : List ℕ} → Blank comments front → (rest : List ℕ)
    → digits_in comments false (front ++ rest) ≡ digits_in comments false rest
digits_in-blank nothing after = refl
digits_in-blank {comments} (whitespace {byte = byte} {rest = rest} is more) after =
    white_read comments byte (rest ++ after) is ∙ digits_in-blank more after
digits_in-blank {comments} (comment words rest allowed no_slash more is) after =
    ap (digits_in comments false) (ap (λ (t : List ℕ). t ++ after) is ∙ append_assoc (47 ∷ words) (47 ∷ rest) after)
    ∙ (comment_read comments words (rest ++ after) allowed no_slash ∙ digits_in-blank more after)

-- a digit is read
digit_parts : (comments : Bool) (byte : ℕ) → IsTrue (is_digit comments byte) → (byte == 39) ≡ false
digit_parts comments byte is = (or_parts (is_whitespace byte) (byte == 39)
    (or_parts _ (comments && (byte == 47)) (not-true _ is)).0).1

digit_read : (comments : Bool) (byte : ℕ) (rest : List ℕ) → IsTrue (is_digit comments byte)
    → digits_in comments false (byte ∷ rest) ≡ with_front (byte ∷ []) (digits_in comments false rest)
digit_read comments byte rest is = rw (is, digit_parts comments byte is) refl

-- digits with blanks between are read
pub digits_in-Spaced : {comments : Bool} {text digits : List ℕ} → Spaced comments text digits → (rest : List ℕ)
    → digits_in comments false (text ++ 39 ∷ rest) ≡ Some (digits, rest)
digits_in-Spaced (blank is) after = digits_in-blank is (39 ∷ after)
digits_in-Spaced {comments} (digit {byte = byte} before rest between is_one more text_is) after =
    ap (λ (t : List ℕ). digits_in comments false (t ++ 39 ∷ after)) text_is
    ∙ (ap (digits_in comments false) (append_assoc before (byte ∷ rest) (39 ∷ after))
    ∙ (digits_in-blank between (byte ∷ (rest ++ 39 ∷ after))
    ∙ (digit_read comments byte (rest ++ 39 ∷ after) is_one
    ∙ ap (with_front (byte ∷ [])) (digits_in-Spaced more after))))

pub Spaced-digits_in : (comments : Bool) (text : List ℕ) (read : List ℕ × List ℕ)
    → digits_in comments false text ≡ Some read → Between comments text read
Spaced-digits_in comments text read is = read_in comments false text text read refl is

-- a comment that no `/` closes
unclosed : (comments : Bool) (opened rest : List ℕ) → length rest < length opened
    → after_blank_in comments (Some opened) rest ≡ opened → digits_in comments true rest ≡ None
unclosed comments opened [] shorter is = refl
unclosed comments opened (byte ∷ rest) shorter is =
    elim (cases_Bool (byte == 47)) [
      | inl closes ↦
          let left : after_blank comments rest ≡ opened = rw closes at is in
          absurd (omega (arith, ap length left, length-after_blank comments rest))
      | inr goes_on ↦ ap (λ (b : Bool). digits_in comments (not b) rest) goes_on
          ∙ unclosed comments opened rest (omega arith) (rw goes_on at is)
    ]

-- if neither a blank, a digit nor the quote comes next, there are no digits up to a quote
pub digits_in-none : (comments : Bool) (byte : ℕ) (rest : List ℕ) → (byte == 39) ≡ false
    → is_digit comments byte ≡ false → after_blank comments (byte ∷ rest) ≡ byte ∷ rest
    → digits_in comments false (byte ∷ rest) ≡ None
digits_in-none comments byte rest no_quote no_digit no_blank =
    elim (cases_Bool (comments && (byte == 47))) [
      | inl opens ↦
          let slash : byte ≡ 47 = eqb-true byte 47 (and_parts comments (byte == 47) opens).1 in
          rw (no_digit, no_quote, opens) (unclosed comments (byte ∷ rest) rest (omega arith) (unread slash opens))
      | inr no_comment ↦
          let white = white_else comments byte no_digit no_quote no_comment in
          let left : after_blank comments rest ≡ byte ∷ rest = rw white at no_blank in
          absurd (omega (arith, ap length left, length-after_blank comments rest))
    ]
  where
    unread : byte ≡ 47 → (comments && (byte == 47)) ≡ true
        → after_blank_in comments (Some (byte ∷ rest)) rest ≡ byte ∷ rest
    unread slash opens = let black : is_whitespace byte ≡ false =
        ap is_whitespace slash in rw (black, opens) at no_blank

-- digits are read up to the first byte that is none
pub digits_in-run : (comments : Bool) (text : List ℕ)
    → let n = position_or_len (λ b. not (is_digit comments b)) text in digits_in comments false text
    ≡ with_front (take n text) (digits_in comments false (drop n text))
digits_in-run comments [] = refl
digits_in-run comments (byte ∷ rest) =
    elim (cases_Bool (is_digit comments byte)) [
      | inl is_one ↦
          let n = position_or_len (λ b. not (is_digit comments b)) rest in
          rw (is_one, digit_parts comments byte is_one, one-add n)
          (ap (with_front (byte ∷ [])) (digits_in-run comments rest)
          ∙ with_front-append (byte ∷ []) (take n rest) (digits_in comments false (drop n rest)))
      | inr no_digit ↦
          let none : position_or_len (λ b. not (is_digit comments b)) (byte ∷ rest) ≡ 0 = rw no_digit refl in
          sym (with_front-nil (digits_in comments false (byte ∷ rest)))
          ∙ ap (λ (n : ℕ). with_front (take n (byte ∷ rest)) (digits_in comments false (drop n (byte ∷ rest))))
          (sym none)
    ]

-- some digits, or none
from_some_digits : (left : Option (List ℕ × List ℕ)) (read : List ℕ × List ℕ) → some_digits left ≡ Some read
    → (left ≡ Some read) × (0 < length read.0)
from_some_digits None read is = cc is
from_some_digits (Some next) read is =
    elim (cases_Bool (nat_lt 0 (length next.0))) [
      | inl some ↦
          let same : ◌≡◌ {A = Option (List ℕ × List ℕ)} (Some next) (Some read) = rw some at is in
          let pair : ◌≡◌ {A = List ℕ × List ℕ} next read = cc same in
          (same, subst (λ (r : List ℕ × List ℕ). 0 < length r.0) pair (ltb-true 0 (length next.0) some))
      | inr none ↦ let never : ◌≡◌ {A = Option (List ℕ × List ℕ)} None (Some read) = rw none at is in cc never
    ]

-- what `digits_of` reads is content of quotes
pub DigitsBetween-digits_of : (comments : Bool) (text : List ℕ) (read : List ℕ × List ℕ)
    → digits_of comments text ≡ Some read → (content : List ℕ) × (text ≡ content ++ 39 ∷ read.1)
    × DigitsBetween comments content read.0
DigitsBetween-digits_of comments [] read is = cc is
DigitsBetween-digits_of comments (byte ∷ rest) read is =
    elim (cases_Bool (byte == 39)) [
      | inl closes ↦
          let same : ◌≡◌ {A = Option (List ℕ × List ℕ)} (Some ([], rest)) (Some read) = rw closes at is in
          let pair : ◌≡◌ {A = List ℕ × List ℕ} ([], rest) read = cc same in (
            [],
            ap (λ (b : ℕ). b ∷ rest) (eqb-true byte 39 closes) ∙ ap (λ (r : List ℕ × List ℕ). 39 ∷ r.1) pair,
            (subst (λ (r : List ℕ × List ℕ). Spaced comments [] r.0) pair (blank nothing), inl refl),
          )
      | inr goes_on ↦
          let some = from_some_digits (digits_in comments false (byte ∷ rest)) read
          (sym (cond-false (byte == 39) (Some ([], rest)) (some_digits (digits_in comments false (byte ∷ rest)))
          goes_on) ∙ is) in
          let between = Spaced-digits_in comments (byte ∷ rest) read some.0 in
          (between.0, between.1, (between.2, inr some.1))
    ]

no_digits : (comments : Bool) (rest digits after : List ℕ) → digits_in comments false (39 ∷ rest) ≡ Some (digits, after)
    → digits ≡ []
no_digits comments rest digits after is =
    let same : ◌≡◌ {A = Option (List ℕ × List ℕ)} (Some ([], rest)) (Some (digits, after)) = is in
    let pair : ◌≡◌ {A = List ℕ × List ℕ} ([], rest) (digits, after) = cc same in
    ap (λ (r : List ℕ × List ℕ). r.0) (sym pair)

-- content of quotes is read
pub digits_of-DigitsBetween : (comments : Bool) (content digits rest : List ℕ) → DigitsBetween comments content digits
    → digits_of comments (content ++ 39 ∷ rest) ≡ Some (digits, rest)
digits_of-DigitsBetween comments [] digits rest is =
    ap (λ (d : List ℕ). Some (d, rest)) (sym (no_digits comments rest digits rest (digits_in-Spaced is.0 rest)))
digits_of-DigitsBetween comments (byte ∷ content) digits rest is =
    let read = digits_in-Spaced is.0 rest in
    let some : 0 < length digits = elim is.1 [ inl none ↦ cc none | inr some ↦ some ] in
    elim (cases_Bool (byte == 39)) [
      | inl closes ↦
          let never : digits ≡ [] = no_digits comments (content ++ 39 ∷ rest) digits rest
          (ap (λ (b : ℕ). digits_in comments false (b ∷ (content ++ 39 ∷ rest))) (sym (eqb-true byte 39 closes))
          ∙ read) in
          absurd (omega (arith, ap length never, some))
      | inr goes_on ↦
          cond-false (byte == 39) (Some ([], content ++ 39 ∷ rest))
          (some_digits (digits_in comments false (byte ∷ (content ++ 39 ∷ rest)))) goes_on
          ∙ (ap some_digits read ∙ cond-true (nat_lt 0 (length digits)) (Some (digits, rest)) None
          (lt-ltb 0 (length digits) some))
    ]

-- a blank is left out before digits
pub digits_in-after_blank : (comments : Bool) (text : List ℕ)
    → digits_in comments false text ≡ digits_in comments false (after_blank comments text)
digits_in-after_blank comments text =
    let left = blank_left comments text in
    ap (digits_in comments false) left.1 ∙ digits_in-blank left.2 (after_blank comments text)

pub run_read : (comments : Bool) (text run rest : List ℕ)
    → let n = position_or_len (λ b. not (is_digit comments b)) text in run ≡ take n text → rest ≡ drop n text
    → digits_in comments false text ≡ with_front run (digits_in comments false rest)
run_read comments text run rest front back = rw (front, back) (digits_in-run comments text)

-- here is no digit, no blank and no quote
pub none_from : (comments : Bool) (text : List ℕ) → position_or_len (λ b. not (is_digit comments b)) text ≡ 0
    → (0 < length text → get_or text 0 0 ≢ 39) → after_blank comments text ≡ text
    → digits_in comments false text ≡ None
none_from comments [] none no_quote blank_read = refl
none_from comments (byte ∷ rest) none no_quote blank_read =
    elim (cases_Bool (is_digit comments byte)) [
      | inl is_one ↦
          let more : 1 + position_or_len (λ b. not (is_digit comments b)) rest ≡ 0 = rw is_one at none in
          absurd (omega arith)
      | inr no_digit ↦ digits_in-none comments byte rest (ne_eqb byte 39 (no_quote (omega arith))) no_digit blank_read
    ]

-- the quote closes
pub digits_closed : (comments : Bool) (text digits rest after : List ℕ)
    → digits_in comments false text ≡ with_front digits (digits_in comments false rest) → rest ≡ 39 ∷ after
    → digits_in comments false text ≡ Some (digits, after)
digits_closed comments text digits rest after read quote =
    read ∙ (ap (λ (t : List ℕ). with_front digits (digits_in comments false t)) quote
    ∙ ap (λ (d : List ℕ). Some (d, after)) (append-nil digits))

-- further digits, and the blank behind them
pub run_more : (comments : Bool) (text digits run all rest after next : List ℕ)
    → digits_in comments false text ≡ with_front digits (digits_in comments false rest)
    → digits_in comments false rest ≡ with_front run (digits_in comments false after)
    → next ≡ after_blank comments after → all ≡ digits ++ run
    → digits_in comments false text ≡ with_front all (digits_in comments false next)
run_more comments text digits run all rest after next read found next_is items =
    rw (
      items,
      next_is,
      ← digits_in-after_blank comments after,
      ← with_front-append digits run (digits_in comments false after),
      ← found,
    ) read

-- some digits, none in empty content, and none in blanks
not_quote : (comments : Bool) (byte : ℕ) (rest digits after : List ℕ)
    → digits_in comments false (byte ∷ rest) ≡ Some (digits, after) → (length digits ≡ 0 → rest ≡ after → ⊥)
    → (byte == 39) ≡ false
not_quote comments byte rest digits after read other =
    ne_eqb byte 39 (λ is.
    let here : digits_in comments false (39 ∷ rest) ≡ Some (digits, after) =
    ap (λ (b : ℕ). digits_in comments false (b ∷ rest)) (sym is) ∙ read in
    let same : ◌≡◌ {A = Option (List ℕ × List ℕ)} (Some ([], rest)) (Some (digits, after)) = here in
    let pair : ◌≡◌ {A = List ℕ × List ℕ} ([], rest) (digits, after) = cc same in
    other (ap (λ (r : List ℕ × List ℕ). length r.0) (sym pair)) (ap (λ (r : List ℕ × List ℕ). r.1) pair))

-- digits up to the quote are read where there are some, or where nothing is before the quote
pub digits_read : (comments : Bool) (text digits after : List ℕ) → digits_in comments false text ≡ Some (digits, after)
    → (0 < length digits) ⊎ (length text ≡ length after + 1) → digits_of comments text ≡ Some (digits, after)
digits_read comments text digits after read some =
    let between = Spaced-digits_in comments text (digits, after) read in
    let full : (between.0 ≡ []) ⊎ (0 < length digits) = elim some [
      | inl one ↦ inr one
      | inr same ↦ inl (nil_from_length between.0
          (omega (arith, ap length between.1, length-append between.0 (39 ∷ after), same)))
    ] in
    ap (digits_of comments) between.1 ∙ digits_of-DigitsBetween comments between.0 digits after (between.2, full)

-- and what is left, by its place
pub digits_place : (comments : Bool) (text digits rest : List ℕ) → digits_of comments text ≡ Some (digits, rest)
    → digits_of comments text ≡ Some (digits, drop (length text - length rest) text)
digits_place comments text digits rest read =
    let found = DigitsBetween-digits_of comments text (digits, rest) read in
    read ∙ ap (λ (t : List ℕ). Some (digits, t)) (sym (place_after text found.0 rest 39 found.1))

pub digits_of-blank : (comments : Bool) (text digits rest : List ℕ)
    → digits_in comments false text ≡ Some (digits, rest) → length digits ≡ 0 → length rest + 1 < length text
    → digits_of comments text ≡ None
digits_of-blank comments [] digits rest read none longer = refl
digits_of-blank comments (byte ∷ more) digits rest read none longer =
    cond-false (byte == 39) (Some ([], more)) (some_digits (digits_in comments false (byte ∷ more)))
    (not_quote comments byte more digits rest read (λ _ same. omega (arith, ap length same, longer)))
    ∙ (ap some_digits read ∙ cond-false (nat_lt 0 (length digits)) (Some (digits, rest)) None
    (le-ltb 0 (length digits) (omega (arith, none))))

pub digits_of-none : (comments : Bool) (text : List ℕ) → digits_in comments false text ≡ None
    → digits_of comments text ≡ None
digits_of-none comments [] read = refl
digits_of-none comments (byte ∷ more) read =
    let other : byte ≢ 39 = λ is.
    let here : ◌≡◌ {A = Option (List ℕ × List ℕ)} (Some ([], more)) None =
    ap (λ (b : ℕ). digits_in comments false (b ∷ more)) (sym is) ∙ read in cc here
    in
    cond-false (byte == 39) (Some ([], more)) (some_digits (digits_in comments false (byte ∷ more)))
    (ne_eqb byte 39 other) ∙ ap some_digits read

-- what the result says of the text: these digits and this rest, or none
pub only_digits : (comments : Bool) (text digits rest : List ℕ) → digits_of comments text ≡ Some (digits, rest)
    → (content other after : List ℕ) → text ≡ content ++ 39 ∷ after → DigitsBetween comments content other
    → (digits ≡ other) × (rest ≡ after)
only_digits comments text digits rest read content other after is between =
    let same : ◌≡◌ {A = Option (List ℕ × List ℕ)} (Some (digits, rest)) (Some (other, after)) = sym read
    ∙ (ap (digits_of comments) is ∙ digits_of-DigitsBetween comments content other after between) in
    let pair : ◌≡◌ {A = List ℕ × List ℕ} (digits, rest) (other, after) = cc same in
    (ap (λ (r : List ℕ × List ℕ). r.0) pair, ap (λ (r : List ℕ × List ℕ). r.1) pair)

pub none_digits : (comments : Bool) (text : List ℕ) → digits_of comments text ≡ None → (content other after : List ℕ)
    → text ≡ content ++ 39 ∷ after → DigitsBetween comments content other → ⊥
none_digits comments text read content other after is between =
    let never : ◌≡◌ {A = Option (List ℕ × List ℕ)} None (Some (other, after)) = sym read
    ∙ (ap (digits_of comments) is ∙ digits_of-DigitsBetween comments content other after between) in cc never
