-- For `recognize`: an input that is neither hex nor diagnostic notation nor base64 may be in no form (`MayBe`), if it
-- is a text or if its bytes are not items. If each of two refusals says why the input lacks some form (`IsWhy`), a
-- refusal that is one of the two says so, too.
use Rattle.std.proofs.Common.{◌≡◌, ◌⊎◌, ℕ, List, inl, inr, refl, sym, subst}
use Rattle.cbor_inputs.specs.declared.decode.Input.{Input}
use Rattle.cbor_inputs.specs.declared.decode.Input.TheVariants as input
use Rattle.cbor_inputs.specs.declared.decode.Refusal.{Refusal}
use Rattle.cbor_inputs.specs.Inputs.{Has, MayBe, IsWhy}
use Rattle.cbor_inputs.specs.Texts.{IsText}

-- a text is nothing then
pub text_is_none : (text : List ℕ) → IsText text → ¬ (Has input.Hex text) → ¬ (Has input.Diag text)
    → ¬ (Has input.Base64 text) → (form : Input) → ¬ (MayBe form text)
text_is_none text all hex diag base64 input.Hex = λ may. hex may.0
text_is_none text all hex diag base64 input.Diag = λ may. diag may.0
text_is_none text all hex diag base64 input.Base64 = λ may. base64 may.0
text_is_none text all hex diag base64 input.Bytes = λ may. may.1 refl all

-- other bytes are nothing if they are no items either
pub none_is_read : (text : List ℕ) → ¬ (Has input.Bytes text) → ¬ (Has input.Hex text)
    → ¬ (Has input.Diag text) → ¬ (Has input.Base64 text) → (form : Input) → ¬ (MayBe form text)
none_is_read text bytes hex diag base64 input.Hex = λ may. hex may.0
none_is_read text bytes hex diag base64 input.Diag = λ may. diag may.0
none_is_read text bytes hex diag base64 input.Base64 = λ may. base64 may.0
none_is_read text bytes hex diag base64 input.Bytes = λ may. bytes may.0

-- one of two refusals, of which each says why the text does not have some form
pub why_or : (text : List ℕ) (a b r : Refusal) → (r ≡ a) ⊎ (r ≡ b) → (form : Input) × IsWhy form text a
    → (form : Input) × IsWhy form text b → (form : Input) × IsWhy form text r
why_or text a b r (inl e) first second = subst (λ (x : Refusal). (form : Input) × IsWhy form text x) (sym e) first
why_or text a b r (inr e) first second = subst (λ (x : Refusal). (form : Input) × IsWhy form text x) (sym e) second
