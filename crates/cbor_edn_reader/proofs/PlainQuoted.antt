-- For `plain_quoted`: if the closing quote comes right after the content before the first quote or backslash, `quoted`
-- returns this content and the text after the quote.
use Rattle.std.proofs.Common.{◌≡◌, ℕ, ◌==◌, List, [], ◌∷◌, ◌++◌, take, drop, Some, None, false, inl, inr}
use Rattle.std.proofs.Common.{refl, sym, ap, ◌∙◌, append-nil}
use Rattle.std.proofs.lemmas.Bool.{cases_Bool}
use Rattle.cbor_edn_grammar.specs.Reading.{◌>>=◌, after_byte}
use Rattle.cbor_edn_grammar.specs.Quoted.{plain_len, content_turn, quoted}
use Rattle.cbor_edn_grammar.proofs.Turns.{turns_begin, turn_last}
use Rattle.cbor_edn_tokens.proofs.PlainText.{plain_more}

nothing : (after : List ℕ) → None ≡ Some after → ⊥
nothing after e = cc

closing : (quote : ℕ) (text after : List ℕ) → after_byte quote text ≡ Some after
    → content_turn quote text ≡ Some ([], false, after)
closing quote [] after e = absurd (nothing after e)
closing quote (b ∷ text) after e = elim (cases_Bool (b == quote)) [
  | inl t ↦ rw t (ap (λ r. r >>= λ x. Some ([], false, x)) (rw t at e))
  | inr f ↦ absurd (nothing after (rw f at e))
]

-- content that a quote follows is all of it, where no escape comes before that
pub quoted_plain : (quote n : ℕ) (text content rest after : List ℕ) → n ≡ plain_len quote text → content ≡ take n text
    → rest ≡ drop n text → Some after ≡ after_byte quote rest → quoted quote text ≡ Some (content, after)
quoted_plain quote n text content rest after same front back closed =
    let plain = take (plain_len quote text) text in
    let begun = turns_begin (content_turn quote) text [] refl in
    let passed = plain_more quote begun.0 [] text (quoted quote text) begun.1 begun.2 in
    let rest_is : rest ≡ drop (plain_len quote text) text = back ∙ ap (λ k. drop k text) same in
    let last = closing quote (drop (plain_len quote text) text) after (rw rest_is at (sym closed)) in
    turn_last (content_turn quote) ([] ++ plain) passed.0 _ (quoted quote text) passed.1 passed.2 last
    ∙ ap (λ b. Some (b, after)) (append-nil ([] ++ plain) ∙ sym (front ∙ ap (λ k. take k text) same))
