-- In JSON and EDN, a text is written as it is (`escaped_text`) if none of its bytes can begin a character that is
-- escaped (`begins_escape`).
use Rattle.std.proofs.Common.{◌≡◌, ℕ, ◌+◌, ◌/◌, ◌<◌, ◌≤◌, true, false, List, [], ◌∷◌, refl, sym, ap, ◌∙◌}
use Rattle.std.proofs.Common.{inl, inr, arith}
use Rattle.std.proofs.Math.Utf8.{encode, encodes}
use Rattle.std.proofs.lemmas.Bool.{cases_lt, or_parts}
use Rattle.std.proofs.lemmas.Bool.Decides.{nat_tests}
use Rattle.std.proofs.lemmas.List.Folds.{list_any-append}
use Rattle.std.proofs.lemmas.Str.{encode_ascii, encodes-chars}
use Rattle.std.specs.List.{flat_map, list_any}
use Rattle.std.specs.Str.{IsUtf8, chars}
use Rattle.cbor_tokens.specs.Escapes.{is_hidden, escaped_char, escaped_text, begins_escape}

-- U+0080 to U+00BF begin with 194, U+0600 to U+063F with 216, U+2000 to U+2FFF with 226, U+F000 to U+FFFF with 239
begins_194 : (c : ℕ) → 128 ≤ c → c < 192 → list_any begins_escape (encode c) ≡ true
unfolding encode
begins_194 c low high = let first : 192 + c / 64 ≡ 194 = omega arith in grind (arith, nat_tests)

begins_216 : (c : ℕ) → 0x600 ≤ c → c < 0x640 → list_any begins_escape (encode c) ≡ true
unfolding encode
begins_216 c low high = let first : 192 + c / 64 ≡ 216 = omega arith in grind (arith, nat_tests)

begins_226 : (c : ℕ) → 0x2000 ≤ c → c < 0x3000 → list_any begins_escape (encode c) ≡ true
unfolding encode
begins_226 c low high = let first : 224 + c / 4096 ≡ 226 = omega arith in grind (arith, nat_tests)

begins_239 : (c : ℕ) → 0xf000 ≤ c → c < 0x10000 → list_any begins_escape (encode c) ≡ true
unfolding encode
begins_239 c low high = let first : 224 + c / 4096 ≡ 239 = omega arith in grind (arith, nat_tests)

-- other characters past U+007F are not hidden
as_it_is : (c : ℕ) → 128 ≤ c → is_hidden c ≡ false → escaped_char c ≡ encode c
as_it_is c high shown = grind (arith, nat_tests)

unescaped_char : (c : ℕ) → list_any begins_escape (encode c) ≡ false → escaped_char c ≡ encode c
unescaped_char c none = elim (cases_lt c 128) [
  | inl ascii ↦ let one = encode_ascii c ascii in grind (arith, nat_tests, one)
  | inr a ↦ elim (cases_lt c 192) [
    | inl b ↦ let found = begins_194 c a b in absurd (let wrong = sym found ∙ none in cc)
    | inr b ↦ elim (cases_lt c 0x600) [
      | inl d ↦ as_it_is c a (grind (arith, nat_tests))
      | inr d ↦ elim (cases_lt c 0x640) [
        | inl e ↦ let found = begins_216 c d e in absurd (let wrong = sym found ∙ none in cc)
        | inr e ↦ elim (cases_lt c 0x2000) [
          | inl f ↦ as_it_is c a (grind (arith, nat_tests))
          | inr f ↦ elim (cases_lt c 0x3000) [
            | inl g ↦ let found = begins_226 c f g in absurd (let wrong = sym found ∙ none in cc)
            | inr g ↦ elim (cases_lt c 0xf000) [
              | inl h ↦ as_it_is c a (grind (arith, nat_tests))
              | inr h ↦ elim (cases_lt c 0x10000) [
                | inl k ↦ let found = begins_239 c h k in absurd (let wrong = sym found ∙ none in cc)
                | inr k ↦ as_it_is c a (grind (arith, nat_tests))
              ]
            ]
          ]
        ]
      ]
    ]
  ]
]

unescaped_chars : (cs : List ℕ) → list_any begins_escape (encodes cs) ≡ false
    → flat_map escaped_char cs ≡ encodes cs
unescaped_chars [] none = refl
unescaped_chars (c ∷ cs) none =
    let parts = or_parts _ _ (sym (list_any-append begins_escape (encode c) (encodes cs)) ∙ none) in
    rw (unescaped_char c parts.0, unescaped_chars cs parts.1) refl

pub unescaped_text : (text : List ℕ) → IsUtf8 text → list_any begins_escape text ≡ false → escaped_text text ≡ text
unescaped_text text utf8 none =
    let whole = encodes-chars text utf8 in
    unescaped_chars (chars text) (ap (list_any begins_escape) whole ∙ none) ∙ whole
