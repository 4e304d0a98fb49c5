-- Which bytes an input stands for as hex, EDN, base 64 or bytes (`Stands`), and whether one of these forms takes it
-- (`Takes`). `NoneBefore` and `NoneAfter` say that no form before or after one takes it, and `IsWhy` says why an input
-- does not have a form.
use Rattle.std.specs.Prelude.{◌≡◌, ◌≢◌, ◌⊎◌, ℕ, ◌≤◌, List, [], length, drop, IsUtf8, Ok, Some, None}
use Rattle.hex.specs.Hex.{decode_of}
use Rattle.cbor_edn_grammar.specs.Edn.{bytes_of_edn}
use Rattle.cbor_inputs.specs.Base64.{digits_of, Encodes}
use Rattle.cbor_inputs.specs.declared.decode.Input.{Input}
use Rattle.cbor_inputs.specs.declared.decode.Input.TheVariants as input
use Rattle.cbor_inputs.specs.declared.decode.Refusal.{Refusal}
use Rattle.cbor_inputs.specs.declared.decode.Refusal.TheVariants as refusal
use Rattle.cbor_paths.specs.declared.end.End.TheVariants as end
use Rattle.cbor_inputs.specs.declared.loose.Mode.TheVariants.{Apart}
use Rattle.cbor_inputs.specs.Loose.{loose}
use Rattle.cbor_paths.specs.Sequence.{IsSequence}
use Rattle.cbor_paths.specs.Ends.{EndsSo}
use Rattle.cbor_inputs.specs.Texts.{IsText, unmarked}

-- the bytes that an input of this form stands for; a byte order mark before a text is no part of it
abbrev pub Stands : Input → List ℕ → List ℕ → Type 0
Stands input.Bytes text bytes = bytes ≡ text
Stands input.Hex text bytes = decode_of (loose Apart (unmarked text)) ≡ Ok bytes
Stands input.Diag text bytes = IsUtf8 (unmarked text) × (bytes_of_edn (unmarked text) ≡ Some bytes)
Stands input.Base64 text bytes = Encodes (digits_of (unmarked text)) bytes

-- What the form takes the input for: items, one after the other. But a text of pairs of hex digits is hex, whatever
-- bytes they are: hex that was cut, or is wrong, is still hex.
abbrev pub Takes : Input → List ℕ → List ℕ → Type 0
Takes form text bytes = Stands form text bytes × (form ≢ input.Hex → IsSequence bytes)

-- the form takes the input for something
abbrev pub Has : Input → List ℕ → Type 0
Has form text = (bytes : List ℕ) × Takes form text bytes

-- the forms that come before this one do not
abbrev pub NoneBefore : Input → List ℕ → Type 0
NoneBefore input.Hex text = Unit {0}
NoneBefore input.Diag text = ¬ (Has input.Hex text)
NoneBefore input.Base64 text = ¬ (Has input.Hex text) × ¬ (Has input.Diag text)
NoneBefore input.Bytes text = ¬ (Has input.Hex text) × ¬ (Has input.Diag text) × ¬ (Has input.Base64 text)

-- the form is what the input may be taken for; no text is taken for bytes
abbrev pub MayBe : Input → List ℕ → Type 0
MayBe form text = Has form text × (form ≡ input.Bytes → ¬ (IsText text))

-- the forms of text that come after this one do not take the input for anything
abbrev pub NoneAfter : Input → List ℕ → Type 0
NoneAfter input.Hex text = ¬ (Has input.Diag text) × ¬ (Has input.Base64 text)
NoneAfter input.Diag text = ¬ (Has input.Base64 text)
NoneAfter input.Base64 text = Unit {0}
NoneAfter input.Bytes text = Unit {0}

-- this form of text comes after that one
abbrev pub ComesAfter : Input → Input → Type 0
ComesAfter input.Hex other = (other ≡ input.Diag) ⊎ (other ≡ input.Base64)
ComesAfter input.Diag other = other ≡ input.Base64
ComesAfter input.Base64 other = ⊥
ComesAfter input.Bytes other = ⊥

-- The input does not have that form, and why. A place is one in the text.
abbrev pub IsWhy : Input → List ℕ → Refusal → Type 0
IsWhy form text refusal.Memory = Unit {0}
IsWhy form text (refusal.Hex fault) = form ≡ input.Hex
IsWhy form text (refusal.Utf8 at) = (form ≡ input.Diag) × ¬ (IsUtf8 (unmarked text)) × (at ≤ length text)
IsWhy form text (refusal.Diag expected at) =
    (form ≡ input.Diag) × (bytes_of_edn (unmarked text) ≡ None) × (at ≤ length text)
IsWhy form text refusal.Base64 = form ≡ input.Base64
IsWhy form text (refusal.Items other shown) =
    (other ≡ form) × (bytes : List ℕ) × Stands form text bytes × (shown.end ≢ end.Done)
    × EndsSo (drop shown.used bytes) shown.end
