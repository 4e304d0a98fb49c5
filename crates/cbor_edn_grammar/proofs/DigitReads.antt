-- In the definitions of EDN, `read_digits` returns the bytes that the text before the first apostrophe encodes
-- (`decoded_front`), and the text after the apostrophe. It returns nothing if there is no apostrophe or the text before
-- it encodes no bytes.
use Rattle.std.proofs.Common.{◌≡◌, ℕ, ◌+◌, ◌==◌, List, drop, position, Some, None, sym, ap, subst, ◌∙◌}
use Rattle.cbor_edn_grammar.specs.declared.error.Stop.{Stop}
use Rattle.cbor_edn_grammar.specs.declared.opening.Base.{Base}
use Rattle.cbor_edn_grammar.specs.Reading.{◌>>=◌, Refuses}
use Rattle.cbor_edn_grammar.specs.Digits.{decoded_front, read_digits}
use Rattle.cbor_edn_grammar.proofs.Turns.{refused_step}

module _ (base : Base) (text : List ℕ) where
  pub digits_none : None ≡ position (λ b. b == 39) text → read_digits base text ≡ None
  digits_none at =
      sym (ap (λ r. r >>= λ n. decoded_front base text n >>= λ bytes. Some (bytes, drop (n + 1) text)) at)

  digits_at : (n : ℕ) → Some n ≡ position (λ b. b == 39) text
      → read_digits base text ≡ (decoded_front base text n >>= λ bytes. Some (bytes, drop (n + 1) text))
  digits_at n at =
      sym (ap (λ r. r >>= λ n. decoded_front base text n >>= λ bytes. Some (bytes, drop (n + 1) text)) at)

  pub digits_refused : (e : Stop) (n : ℕ) → Some n ≡ position (λ b. b == 39) text
      → Refuses e (decoded_front base text n) → Refuses e (read_digits base text)
  digits_refused e n at h = subst (λ r. Refuses e r) (sym (digits_at n at))
      (refused_step e (decoded_front base text n) (λ bytes. Some (bytes, drop (n + 1) text)) h)

  pub digits_read : (n : ℕ) (bytes : List ℕ) → Some n ≡ position (λ b. b == 39) text
      → decoded_front base text n ≡ Some bytes → read_digits base text ≡ Some (bytes, drop (n + 1) text)
  digits_read n bytes at e = digits_at n at ∙ ap (λ r. r >>= λ bytes. Some (bytes, drop (n + 1) text)) e
