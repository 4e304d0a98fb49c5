-- In EDN, a UTF-8 text that is escaped and put between double quotes is read back as the same text (`quoted_read`):
-- each character is read from its escape, or from its own bytes.
use Rattle.std.proofs.Common.{◌≡◌, inl, inr, ℕ, ◌+◌, ◌*◌, ◌/◌, ◌%◌, ◌<◌, ◌≤◌, List, [], ◌∷◌, ◌++◌, codes}
use Rattle.std.proofs.Common.{Some, None, Bool, true, false, ◌==◌, ◌&&◌, if◌then◌else◌, refl, sym, ap, subst, ◌∙◌}
use Rattle.std.proofs.Common.{arith, slice_index}
use Rattle.std.specs.Prelude.{nat_lt}
use Rattle.std.proofs.Math.Utf8.{encode, encodes}
use Rattle.std.proofs.lemmas.Bool.{cases_lt, lt-ltb, lt-leb, agree_below_at, eqb-true}
use Rattle.std.proofs.lemmas.Bool.Decides.{nat_tests}
use Rattle.std.proofs.lemmas.List.{append-nil}
use Rattle.std.proofs.lemmas.Str.{encode_ascii, encodes-chars}
use Rattle.std.specs.Char.{digit_value}
use Rattle.std.specs.List.{flat_map}
use Rattle.std.specs.Str.{IsUtf8, chars}
use Rattle.hex.specs.Hex.{encode_lower, encode_with, lower_digits}
use Rattle.cbor_edn_grammar.specs.Reading.{Read, ◌>>=◌}
use Rattle.cbor_tokens.specs.Escapes.{is_hidden, escaped_char, escaped_text, unit_escape}
use Rattle.cbor_tokens.proofs.escaping.High.{High, high_encode}
use Rattle.cbor_edn_grammar.specs.Quoted.{two_hex, four_hex, is_first_half, is_second_half, second_half, character}
use Rattle.cbor_edn_grammar.specs.Quoted.{unicode_escape, content_turn, quoted}
use Rattle.cbor_edn_grammar.proofs.Pieces.{Taken, taken_nothing, taken_then, taken_turn, taken_all}

-- between quotes, the text gives this content
abbrev GivesContent : List ℕ → List ℕ → Type 0
GivesContent text content = Taken (content_turn 34) text content

-- ---- bytes as they are

byte_gives : (b : ℕ) → (b == 34) ≡ false → (b == 92) ≡ false → GivesContent (b ∷ []) (b ∷ [])
byte_gives b no_quote no_escape = taken_turn (omega arith) (λ rest. rw (no_quote, no_escape) refl)

high_gives : (bytes : List ℕ) → High bytes → GivesContent bytes bytes
high_gives [] h = taken_nothing
high_gives (b ∷ bytes) h =
    let low : 128 ≤ b = h.0 in
    let one = byte_gives b (grind (arith, nat_tests, low)) (grind (arith, nat_tests, low)) in
    taken_then one (high_gives bytes h.1)

plain_gives : (c : ℕ) → (c == 34) ≡ false → (c == 92) ≡ false → GivesContent (encode c) (encode c)
plain_gives c no_quote no_escape = elim (cases_lt c 128) [
  | inl ascii ↦ subst (λ t. GivesContent t t) (sym (encode_ascii c ascii)) (byte_gives c no_quote no_escape)
  | inr high ↦ high_gives (encode c) (high_encode c high)
]

-- ---- hex digits

digit_found : (k : ℕ) → k < 16 → digit_value (slice_index lower_digits k) ≡ k
digit_found k lt = eqb-true (digit_value (slice_index lower_digits k)) k
    (agree_below_at (λ k. digit_value (slice_index lower_digits k) == k) (λ k. true) 16 k refl lt)

no_brace : (k : ℕ) → k < 16 → (slice_index lower_digits k == 123) ≡ false
no_brace k lt = agree_below_at (λ k. slice_index lower_digits k == 123) (λ k. false) 16 k refl lt

abbrev found_if : Bool → ℕ → List ℕ → Read ℕ
found_if test n rest = if test then Some (n, rest) else None

two_values : (v w b : ℕ) (rest : List ℕ) → b < 256 → v ≡ b / 16 → w ≡ b % 16
    → found_if (nat_lt v 16 && nat_lt w 16) (v * 16 + w) rest ≡ Some (b, rest)
two_values v w b rest lt high low =
    rw (lt-ltb v 16 (omega arith), lt-ltb w 16 (omega arith)) (ap (λ n. Some (n, rest)) (omega arith))

two_read : (b : ℕ) (rest : List ℕ) → b < 256
    → two_hex (slice_index lower_digits (b / 16) ∷ slice_index lower_digits (b % 16) ∷ rest) ≡ Some (b, rest)
two_read b rest lt = two_values (digit_value (slice_index lower_digits (b / 16)))
    (digit_value (slice_index lower_digits (b % 16))) b rest lt (digit_found (b / 16) (omega arith))
    (digit_found (b % 16) (omega arith))

four_read : (a b : ℕ) (rest : List ℕ) → a < 256 → b < 256
    → four_hex (encode_lower (a ∷ b ∷ []) ++ rest) ≡ Some (a * 256 + b, rest)
unfolding encode_with
four_read a b rest first second =
    ap (λ r. r >>= λ high. two_hex high.1 >>= λ low. Some (high.0 * 256 + low.0, low.1)) (two_read a _ first)
    ∙ ap (λ r. r >>= λ low. Some (a * 256 + low.0, low.1)) (two_read b rest second)

-- ---- escapes

-- a hidden character has at most 16 bits, and is no half of another
no_half : (c : ℕ) → is_hidden c ≡ true → (c < 65536) × (is_first_half c ≡ false) × (is_second_half c ≡ false)
no_half c h = elim (cases_lt c 0xd800) [
  | inl low ↦ (omega (arith, low), grind (arith, nat_tests, low), grind (arith, nat_tests, low))
  | inr middle ↦ elim (cases_lt c 0xe000) [
    | inl half ↦ absurd (let wrong : true ≡ false = sym h ∙ shown c middle half in cc)
    | inr high ↦ elim (cases_lt c 65536) [
      | inl lt ↦ (lt, grind (arith, nat_tests, high), grind (arith, nat_tests, high))
      | inr past ↦ absurd (let wrong : true ≡ false = sym h ∙ past_shown c past in cc)
    ]
  ]
]
  where
    shown : (c : ℕ) → 0xd800 ≤ c → c < 0xe000 → is_hidden c ≡ false
    shown c low high = grind (arith, nat_tests)

    past_shown : (c : ℕ) → 65536 ≤ c → is_hidden c ≡ false
    past_shown c low = grind (arith, nat_tests)

whole_read : (c : ℕ) (rest : List ℕ) → c < 65536 → is_first_half c ≡ false → is_second_half c ≡ false
    → (if is_first_half c then second_half c rest else character c rest) ≡ Some (c, rest)
whole_read c rest lt first second = rw (first, second, lt-leb 0x110000 c (omega arith)) refl

unit_read : (c : ℕ) (rest : List ℕ) → is_hidden c ≡ true
    → unicode_escape (encode_lower (c / 256 ∷ c % 256 ∷ []) ++ rest) ≡ Some (c, rest)
unfolding encode_with
unit_read c rest h =
    let is = no_half c h in
    let digit : c / 256 / 16 < 16 = omega (arith, is.0) in
    let read : four_hex (encode_lower (c / 256 ∷ c % 256 ∷ []) ++ rest) ≡ Some (c, rest) =
    four_read (c / 256) (c % 256) rest (omega (arith, is.0)) (omega arith)
    ∙ ap (λ n. Some (n, rest)) (omega arith) in
    rw (no_brace (c / 256 / 16) digit, read) (whole_read c rest is.0 is.1 is.2)

unit_gives : (c : ℕ) → is_hidden c ≡ true → GivesContent (unit_escape c) (encode c)
unit_gives c h = taken_turn (omega arith) (λ rest.
    ap (λ r. r >>= λ e. Some (encode e.0, true, e.1)) (unit_read c rest h))

-- a letter that stands for the character k
short_gives : (c k : ℕ) (text : List ℕ) → GivesContent text (encode k) → (c == k) ≡ true → GivesContent text (encode c)
short_gives c k text h e = subst (λ x. GivesContent text (encode x)) (sym (eqb-true c k e)) h

letter_gives : (k letter : ℕ) → ((rest : List ℕ)
    → content_turn 34 (92 ∷ letter ∷ rest) ≡ Some (encode k, true, rest)) → GivesContent (92 ∷ letter ∷ []) (encode k)
letter_gives k letter h = taken_turn (omega arith) h

-- ---- characters

chosen : (P : List ℕ → Type 0) (test : Bool) (a b : List ℕ) → (test ≡ true → P a) → (test ≡ false → P b)
    → P (if test then a else b)
chosen P true a b h k = h refl
chosen P false a b h k = k refl

char_gives : (c : ℕ) → GivesContent (escaped_char c) (encode c)
char_gives c =
    let P : List ℕ → Type 0 = λ t. GivesContent t (encode c) in
    chosen P (c == 34) _ _ (short_gives c 34 _ (letter_gives 34 34 (λ rest. refl))) (λ no_quote.
    chosen P (c == 92) _ _ (short_gives c 92 _ (letter_gives 92 92 (λ rest. refl))) (λ no_escape.
    chosen P (c == 10) _ _ (short_gives c 10 _ (letter_gives 10 110 (λ rest. refl))) (λ e.
    chosen P (c == 13) _ _ (short_gives c 13 _ (letter_gives 13 114 (λ rest. refl))) (λ e.
    chosen P (c == 9) _ _ (short_gives c 9 _ (letter_gives 9 116 (λ rest. refl))) (λ e.
    chosen P (c == 8) _ _ (short_gives c 8 _ (letter_gives 8 98 (λ rest. refl))) (λ e.
    chosen P (c == 12) _ _ (short_gives c 12 _ (letter_gives 12 102 (λ rest. refl))) (λ e.
    chosen P (is_hidden c) (unit_escape c) (encode c) (unit_gives c)
    (λ shown. plain_gives c no_quote no_escape))))))))

chars_give : (cs : List ℕ) → GivesContent (flat_map escaped_char cs) (encodes cs)
chars_give [] = taken_nothing
chars_give (c ∷ cs) = taken_then (char_gives c) (chars_give cs)

-- a text that was escaped is read up to the quote after it
pub quoted_read : (text rest : List ℕ) → IsUtf8 text
    → quoted 34 (escaped_text text ++ (codes "\"" ++ rest)) ≡ Some (text, rest)
quoted_read text rest utf8 = taken_all (chars_give (chars text)) (codes "\"" ++ rest) [] rest refl
    ∙ ap (λ t. Some (t, rest)) (append-nil (encodes (chars text)) ∙ encodes-chars text utf8)
