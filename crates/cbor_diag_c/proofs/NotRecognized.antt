-- For `cbor_diag_recognize`: an error that C gets says that memory ran out or that the input may be in no form
-- (`IsNotRecognized`), if each refusal but that of memory means that the input may be in no form.
use Rattle.std.proofs.Common.{◌≢◌, ℕ, List, ℤ, pos, negsuc, inl, inr}
use Rattle.cbor_inputs.specs.declared.decode.Input.{Input}
use Rattle.cbor_inputs.specs.declared.decode.Refusal.{Refusal}
use Rattle.cbor_inputs.specs.declared.decode.Refusal.TheVariants as refusal
use Rattle.cbor_inputs.specs.Inputs.{MayBe}
use Rattle.cbor_diag_c.specs.Answers.{IfError, IsMinus}
use Rattle.cbor_diag_c.specs.Recognized.{refusal_number, IsNotRecognized}

pub none : (text : List ℕ) (e : Refusal) (z : ℤ) → IsMinus (refusal_number e) z
    → (e ≢ refusal.Memory → (form : Input) → ¬ (MayBe form text)) → IfError z (IsNotRecognized text)
none text e (pos n) minus why = tt
none text refusal.Memory (negsuc n) minus why = inl minus
none text (refusal.Hex fault) (negsuc n) minus why = inr (minus, why (λ is. absurd cc))
none text (refusal.Utf8 at) (negsuc n) minus why = inr (minus, why (λ is. absurd cc))
none text (refusal.Diag expected at) (negsuc n) minus why = inr (minus, why (λ is. absurd cc))
none text refusal.Base64 (negsuc n) minus why = inr (minus, why (λ is. absurd cc))
none text (refusal.Items form shown) (negsuc n) minus why = inr (minus, why (λ is. absurd cc))
