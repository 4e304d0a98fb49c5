-- `h_notation` and `b_notation` are `Sound`: the bytes that they return are encoded by the digits that were read, in
-- base 16, 32 or 64 (`Notation`), and an error that they return is one that the text allows. Also, a list stays a list
-- if its text and its closing text are both extended by the same bytes (`members_more`).
use Rattle.std.proofs.Common.{◌≡◌, ℕ, Bool, true, false, List, [], ◌∷◌, ◌++◌, codes, Option, Some, None}
use Rattle.std.proofs.Common.{Ok, refl, sym, ap, ◌∙◌, append_assoc, inl, inr}
use Rattle.cbor_tokens.specs.Base32 as base32
use Rattle.cbor_tokens.specs.TokenReading.{digits_of}
use Rattle.cbor_tokens.proofs.tokens.Spaced.{DigitsBetween-digits_of}
use Rattle.cbor_grammar.specs.Item.{Item}
use Rattle.cbor_grammar.specs.Item.{items_of}
use Rattle.cbor_grammar.specs.Reading.{Read, ◌>>=◌}
use Rattle.cbor_grammar.specs.Notation.{Closes, Further, Members, list_of, DigitsIn, Notation, in_base16, in_base32}
use Rattle.cbor_grammar.specs.Notation.{in_base32hex, in_base64}
use Rattle.cbor_tokens.proofs.texts.HexDecoded.{decoded}
use Rattle.cbor_notation.specs.mirror.NotationReading.{or_refused, after_word, base32_of, base64_of}
use Rattle.cbor_tokens.specs.HexDigits.{base16_of}
use Rattle.cbor_notation.specs.mirror.NotationReading.{read_decoded, either_word, h_notation, b_notation}
use Rattle.cbor_notation.proofs.notation.sound.Steps.{Sound, moved, sound_option, after_word_is}
use Rattle.cbor_notation.proofs.notation.DigitsFound.{base32_found, base64_found}

-- ---- one notation of bytes

pub list_of-items_of : (is : List Item) → list_of (items_of is) ≡ is
list_of-items_of [] = refl
list_of-items_of (i ∷ is) = ap (λ (js : List Item). i ∷ js) (list_of-items_of is)

-- a list with more after its close
closes_more : (close more text : List ℕ) → Closes close text → Closes (close ++ more) (text ++ more)
closes_more close more text (inl is) = inl (ap (λ (z : List ℕ). z ++ more) is)
closes_more close more text (inr last) = inr (
  last.0,
  ap (λ (z : List ℕ). z ++ more) last.1 ∙ ap (λ (z : List ℕ). 44 ∷ z) (append_assoc last.0 close more),
  last.2,
)

further_more : {X : Type 0} (Member : List ℕ → X → Type 0) (close more text : List ℕ) (xs : List X)
    → Further Member close text xs → Further Member (close ++ more) (text ++ more) xs
further_more Member close more text [] h = closes_more close more text h
further_more Member close more text (x ∷ xs) h = (
  h.0,
  h.1 ++ more,
  ap (λ (z : List ℕ). z ++ more) h.2 ∙ ap (λ (z : List ℕ). 44 ∷ z) (append_assoc h.0 h.1 more),
  h.3,
  further_more Member close more h.1 xs h.4,
)

pub members_more : {X : Type 0} (Member : List ℕ → X → Type 0) (close more text : List ℕ) (xs : List X)
    → Members Member close text xs → Members Member (close ++ more) (text ++ more) xs
members_more Member close more text [] h = (
  h.0,
  h.1 ++ more,
  ap (λ (z : List ℕ). z ++ more) h.2 ∙ append_assoc h.0 h.1 more,
  h.3,
  closes_more close more h.1 h.4,
)
members_more Member close more text (x ∷ xs) h = (
  h.0,
  h.1 ++ more,
  ap (λ (z : List ℕ). z ++ more) h.2 ∙ append_assoc h.0 h.1 more,
  h.3,
  further_more Member close more h.1 xs h.4,
)

-- ---- digits

module _ (R : List ℕ → Item → Type 0) where
  from_base16 : (text digits bytes : List ℕ) → DigitsIn true (codes "h'") text digits → base16_of digits ≡ Some bytes
      → Notation R text bytes
  from_base16 text digits bytes within e = in_base16 digits within (decoded digits bytes e)

  -- after the opened quote of a notation
  decoded_sound : (levels : ℕ) (comments : Bool) (decode : List ℕ → Option (List ℕ)) (word : List ℕ)
      → ((text digits bytes : List ℕ) → DigitsIn comments word text digits → decode digits ≡ Some bytes
      → Notation R text bytes)
      → (text : List ℕ) → Sound levels (λ g bytes. Notation R (word ++ g) bytes) text
      (read_decoded comments decode text)
  decoded_sound levels comments decode word makes text =
      sound_option levels (λ g bytes. Notation R (word ++ g) bytes) text (digits_of comments text)
      (λ x. or_refused (decode x.0) >>= λ bytes. Ok (bytes, x.1))
      (λ x read.
      let d = DigitsBetween-digits_of comments text x read in
      sound_option levels (λ g bytes. Notation R (word ++ g) bytes) text (decode x.0) (λ bytes. Ok (bytes, x.1))
      (λ bytes are. (
        d.0 ++ 39 ∷ [],
        d.1 ∙ sym (append_assoc d.0 (39 ∷ []) x.1),
        makes (word ++ (d.0 ++ 39 ∷ [])) x.0 bytes (d.0, refl, d.2) are,
      )))

  either_sound : (levels : ℕ) (Is : List ℕ → List ℕ → Type 0) (text first second : List ℕ) (f g : List ℕ
      → Read (List ℕ))
      → ((rest : List ℕ) → Sound levels (λ h bytes. Is (first ++ h) bytes) rest (f rest))
      → ((rest : List ℕ) → Sound levels (λ h bytes. Is (second ++ h) bytes) rest (g rest))
      → (o p : Option (List ℕ)) → after_word first text ≡ o → after_word second text ≡ p
      → Sound levels Is text (either_word o f p g)
  either_sound levels Is text first second f g h k (Some rest) p e d =
      moved levels Is text first rest (f rest) (after_word_is first text rest e) (h rest)
  either_sound levels Is text first second f g h k None (Some rest) e d =
      moved levels Is text second rest (g rest) (after_word_is second text rest d) (k rest)
  either_sound levels Is text first second f g h k None None e d = tt

  pub h_sound : (levels : ℕ) (text : List ℕ)
      → Sound levels (λ g bytes. Notation R (104 ∷ g) bytes) text (h_notation text)
  h_sound levels text =
      either_sound levels (λ g bytes. Notation R (104 ∷ g) bytes) text (codes "'") (codes "32'")
      (read_decoded true base16_of) (read_decoded true (base32_of base32.extended_hex))
      (decoded_sound levels true base16_of (codes "h'") from_base16)
      (decoded_sound levels true (base32_of base32.extended_hex) (codes "h32'") (λ text digits bytes within e.
      let found = base32_found base32.extended_hex digits bytes e in in_base32hex digits within found.0 found.1))
      (after_word (codes "'") text) (after_word (codes "32'") text) refl refl

  pub b_sound : (levels : ℕ) (text : List ℕ)
      → Sound levels (λ g bytes. Notation R (98 ∷ g) bytes) text (b_notation text)
  b_sound levels text =
      either_sound levels (λ g bytes. Notation R (98 ∷ g) bytes) text (codes "32'") (codes "64'")
      (read_decoded true (base32_of base32.standard)) (read_decoded false base64_of)
      (decoded_sound levels true (base32_of base32.standard) (codes "b32'") (λ text digits bytes within e.
      let found = base32_found base32.standard digits bytes e in in_base32 digits within found.0 found.1))
      (decoded_sound levels false base64_of (codes "b64'") (λ text digits bytes within e.
      let found = base64_found digits bytes e in in_base64 digits within found.0 found.1))
      (after_word (codes "32'") text) (after_word (codes "64'") text) refl refl
