-- For `push_escaped_text`: a UTF-8 text is its own `escaped_text` if none of its bytes begins an escape
-- (`begins_escape`). For `write_quoted_bytes`: after each piece of escaped bytes, the text so far and the escaped rest
-- still make the whole.
use Rattle.std.proofs.Common.{◌≡◌, ℕ, ◌+◌, ◌/◌, ◌<◌, ◌≤◌, true, false, List, [], ◌∷◌, refl, sym, ap, ◌∙◌}
use Rattle.std.proofs.Common.{inl, inr, arith}
use Rattle.std.proofs.Math.Utf8.{encode, encodes}
use Rattle.std.proofs.lemmas.Bool.{cases_lt, or_parts}
use Rattle.std.proofs.lemmas.Bool.Decides.{nat_tests}
use Rattle.std.proofs.lemmas.List.Folds.{list_any-append}
use Rattle.std.proofs.lemmas.Str.{encode_ascii, encodes-chars}
use Rattle.std.specs.List.{flat_map, list_any}
use Rattle.std.specs.Str.{IsUtf8, chars}
use Rattle.cbor_notes.specs.Text.{escaped_char, escaped_text}
use Rattle.cbor_notes.specs.Views.{begins_escape}
use Rattle.std.proofs.Common.{◌++◌}
use Rattle.std.proofs.Common.{append_assoc}
use Rattle.std.proofs.lemmas.Grind.{flat_map-append}
use Rattle.cbor_notes.specs.Text.{escaped_byte}

-- U+0080 to U+00BF begin with 194
begins_high : (c : ℕ) → 128 ≤ c → c < 192 → list_any begins_escape (encode c) ≡ true
unfolding encode
begins_high c low high =
    let first : 192 + c / 64 ≡ 194 = omega arith in
    grind (arith, nat_tests)

unescaped_char : (c : ℕ) → list_any begins_escape (encode c) ≡ false → escaped_char c ≡ encode c
unescaped_char c none = elim (cases_lt c 128) [
  | inl ascii ↦ let one = encode_ascii c ascii in grind (arith, nat_tests, one)
  | inr more ↦ elim (cases_lt c 192) [
    | inl high ↦ let found = begins_high c more high in absurd (let wrong = sym found ∙ none in cc)
    | inr higher ↦ grind (arith, nat_tests)
  ]
]

unescaped_chars : (cs : List ℕ) → list_any begins_escape (encodes cs) ≡ false
    → flat_map escaped_char cs ≡ encodes cs
unescaped_chars [] none = refl
unescaped_chars (c ∷ cs) none =
    let parts = or_parts _ _ (sym (list_any-append begins_escape (encode c) (encodes cs)) ∙ none) in
    rw (unescaped_char c parts.0, unescaped_chars cs parts.1) refl

pub unescaped_text : (text : List ℕ) → IsUtf8 text → list_any begins_escape text ≡ false → escaped_text text ≡ text
unescaped_text text utf8 none =
    let whole = encodes-chars text utf8 in
    unescaped_chars (chars text) (ap (list_any begins_escape) whole ∙ none) ∙ whole

-- a piece more is written, escaped
pub escaped_more : (text piece after rest whole : List ℕ) → piece ++ after ≡ rest
    → text ++ flat_map escaped_byte rest ≡ whole
    → (text ++ flat_map escaped_byte piece) ++ flat_map escaped_byte after ≡ whole
escaped_more text piece after rest whole parts h =
    append_assoc text (flat_map escaped_byte piece) (flat_map escaped_byte after)
    ∙ ap (λ x. text ++ x) (sym (flat_map-append escaped_byte piece after))
    ∙ ap (λ x. text ++ flat_map escaped_byte x) parts
    ∙ h
