-- In the definitions of EDN, the lower-case hex digits of some bytes, with an apostrophe after them, are read as these
-- bytes (`hex_read`). None of the digits is an apostrophe or begins a blank, so `digits_of` returns all of them.
use Rattle.std.proofs.Common.{◌≡◌, ℕ, ◌/◌, ◌%◌, ◌<◌, ◌==◌, List, [], ◌∷◌, ◌++◌, length}
use Rattle.std.proofs.Common.{codes, Some, None, true, false, refl, sym, ap, ◌∙◌, arith, slice_index}
use Rattle.std.proofs.Math.Seq.{take-append_seam, drop-append-add}
use Rattle.std.proofs.lemmas.Bool.{agree_below_at}
use Rattle.std.proofs.lemmas.List.{append-nil}
use Rattle.std.specs.List.{AllByRecursion, list_any}
use Rattle.hex.specs.Hex.{encode_lower, encode_with, lower_digits}
use Rattle.hex.proofs.HexLemmas.{decode_of-encode_lower}
use Rattle.cbor_tokens.specs.HexDigits.{base16_bytes}
use Rattle.cbor_tokens.specs.Token.{is_whitespace}
use Rattle.cbor_grammar.proofs.bytes.Laws.{bytes_at}
use Rattle.cbor_notation.proofs.notation.Lists.{first_at}
use Rattle.cbor_edn_grammar.specs.declared.opening.Base.TheVariants.{Hex}
use Rattle.cbor_edn_grammar.specs.Reading.{◌>>=◌}
use Rattle.cbor_edn_grammar.specs.Blank.{after_space}
use Rattle.cbor_edn_grammar.specs.Digits.{digit_here, digit_turn, digits_of, decoded, decoded_front, read_digits}
use Rattle.cbor_edn_grammar.proofs.DigitReads.{digits_read}
use Rattle.cbor_edn_grammar.proofs.Words.{skip_none}
use Rattle.cbor_edn_grammar.proofs.Pieces.{Taken, taken_nothing, taken_then, taken_turn, taken_all}

-- ---- a digit

no_space : (b : ℕ) (rest : List ℕ) → is_whitespace b ≡ false → (b == 35) ≡ false → (b == 47) ≡ false
    → after_space true (b ∷ rest) ≡ None
no_space b rest white sharp slash = rw (white, sharp, slash) refl

-- a byte is a digit in all that matters here: no blank begins with it, and it is no apostrophe
pub record IsDigit (b : ℕ) : Type 0 where
  pub white : is_whitespace b ≡ false
  pub sharp : (b == 35) ≡ false
  pub slash : (b == 47) ≡ false
  pub quote : (b == 39) ≡ false

hex_digit : (k : ℕ) → k < 16 → IsDigit (slice_index lower_digits k)
hex_digit k lt = record {
  white = agree_below_at (λ k. is_whitespace (slice_index lower_digits k)) (λ k. false) 16 k refl lt;
  sharp = agree_below_at (λ k. slice_index lower_digits k == 35) (λ k. false) 16 k refl lt;
  slash = agree_below_at (λ k. slice_index lower_digits k == 47) (λ k. false) 16 k refl lt;
  quote = agree_below_at (λ k. slice_index lower_digits k == 39) (λ k. false) 16 k refl lt;
}

digit_taken : (b : ℕ) → IsDigit b → Taken (digit_turn true) (b ∷ []) (b ∷ [])
digit_taken b is = taken_turn (omega arith) (λ rest.
    ap (λ text. Some (digit_here text))
    (skip_none (b ∷ rest) (no_space b rest is.white is.sharp is.slash)))

-- ---- digits

digits_are : (bytes : List ℕ) → AllByRecursion (λ b. b < 256) bytes → AllByRecursion IsDigit (encode_lower bytes)
unfolding encode_with
digits_are [] h = tt
digits_are (b ∷ bytes) h =
    let lt : b < 256 = h.0 in
    (hex_digit (b / 16) (omega arith), (hex_digit (b % 16) (omega arith), digits_are bytes h.1))

digits_taken : (digits : List ℕ) → AllByRecursion IsDigit digits → Taken (digit_turn true) digits digits
digits_taken [] h = taken_nothing
digits_taken (d ∷ digits) h = taken_then (digit_taken d h.0) (digits_taken digits h.1)

unquoted : (digits : List ℕ) → AllByRecursion IsDigit digits → list_any (λ b. b == 39) digits ≡ false
unquoted [] h = refl
unquoted (d ∷ digits) h = rw h.0.quote (unquoted digits h.1)

pub all_found : (digits : List ℕ) → AllByRecursion IsDigit digits → digits_of true digits ≡ Some digits
all_found digits h =
    ap (λ text. digits_of true text) (sym (append-nil digits))
    ∙ ap (λ r. r >>= λ x. Some x.0) (taken_all (digits_taken digits h) [] [] []
    (ap (λ text. Some (digit_here text)) (skip_none [] refl)))
    ∙ ap (λ found. Some found) (append-nil digits)

hex_front : (bytes rest : List ℕ) → AllByRecursion (λ b. b < 256) bytes
    → decoded_front Hex (encode_lower bytes ++ 39 ∷ rest) (length (encode_lower bytes)) ≡ Some bytes
hex_front bytes rest h =
    ap (λ text. digits_of true text >>= decoded Hex) (take-append_seam (encode_lower bytes) (39 ∷ rest))
    ∙ ap (λ found. found >>= decoded Hex) (all_found (encode_lower bytes) (digits_are bytes h))
    ∙ ap base16_bytes (decode_of-encode_lower bytes (bytes_at bytes h))

-- the digits of bytes are read up to the apostrophe after them
pub hex_read : (bytes rest : List ℕ) → AllByRecursion (λ b. b < 256) bytes
    → read_digits Hex (encode_lower bytes ++ (codes "'" ++ rest)) ≡ Some (bytes, rest)
hex_read bytes rest h =
    let digits = encode_lower bytes in
    digits_read Hex (digits ++ 39 ∷ rest) (length digits) bytes
    (sym (first_at (λ b. b == 39) digits 39 rest (unquoted digits (digits_are bytes h)) refl)) (hex_front bytes rest h)
    ∙ ap (λ after. Some (bytes, after)) (drop-append-add digits (39 ∷ rest) 1)
