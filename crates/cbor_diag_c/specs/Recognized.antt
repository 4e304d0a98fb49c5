-- The results of the C call `cbor_diag_recognize`: the number of the first form that takes an input, and the bytes that
-- the input stands for (`IsRecognized`), or the number of an error (`IsNotRecognized`).
use Rattle.std.specs.Prelude.{◌≡◌, ◌⊎◌, ℕ, List, length}
use Rattle.cbor_inputs.specs.declared.decode.Input.{Input}
use Rattle.cbor_inputs.specs.declared.decode.Input.TheVariants as input
use Rattle.cbor_inputs.specs.declared.decode.Refusal.{Refusal}
use Rattle.cbor_inputs.specs.declared.decode.Refusal.TheVariants as refusal
use Rattle.cbor_inputs.specs.Inputs.{Takes, NoneBefore, MayBe}
use Rattle.cbor_diag_c.specs.Answers.{not_recognized, written}

-- the number of a form of an input
abbrev pub input_number : Input → ℕ
input_number input.Bytes = 0
input_number input.Hex = 1
input_number input.Diag = 2
input_number input.Base64 = 3

-- the number of the error for which an input has no form
abbrev pub refusal_number : Refusal → ℕ
refusal_number refusal.Memory = 1
refusal_number (refusal.Hex fault) = not_recognized
refusal_number (refusal.Utf8 at) = not_recognized
refusal_number (refusal.Diag expected at) = not_recognized
refusal_number refusal.Base64 = not_recognized
refusal_number (refusal.Items form shown) = not_recognized

-- The first form that takes the input, by its number, and how many bytes it stands for, with the buffer after they were
-- written.
abbrev pub IsRecognized : List ℕ → ℕ → List ℕ → List ℕ → ℕ → Type 0
IsRecognized text number old new n =
    (form : Input) × (bytes : List ℕ) × (number ≡ input_number form) × Takes form text bytes × NoneBefore form text
    × (n ≡ length bytes) × (new ≡ written bytes old)

-- out of memory, or the input may be in no form
abbrev pub IsNotRecognized : List ℕ → ℕ → Type 0
IsNotRecognized text n = (n ≡ 1) ⊎ ((n ≡ not_recognized) × ((form : Input) → ¬ (MayBe form text)))
