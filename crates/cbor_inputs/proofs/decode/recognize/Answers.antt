use Rattle.std.proofs.Common.{rules, ◌≡◌}
use Rattle.cbor_inputs.specs.declared.decode.Input.TheVariants as input
use Rattle.cbor_inputs.specs.Inputs.{Has}
use Rattle.cbor_inputs.specs.Texts.{IsText}
use Rattle.cbor_inputs.proofs.InputLemmas.{text_is_none, none_is_read, why_or}
use Rattle.cbor_inputs.proofs.decode.recognize.Goals as goal

pub returns-then-is_text-clause-refused : goal.returns-then-is_text-clause-refused
returns-then-is_text-clause-refused c =
    let text = c.args.text.now in
    let hex : ¬ (Has input.Hex text) = search rules in
    let diag : ¬ (Has input.Diag text) = search rules in
    let base64 : ¬ (Has input.Base64 text) = search rules in
    let all : IsText text = search rules in
    λ _ form. text_is_none text all hex diag base64 form

pub returns-in-Ok-take-3-clause-first : goal.returns-in-Ok-take-3-clause-first
returns-in-Ok-take-3-clause-first c =
    let text = c.args.text.now in
    let hex : ¬ (Has input.Hex text) = search rules in
    let diag : ¬ (Has input.Diag text) = search rules in
    let base64 : ¬ (Has input.Base64 text) = search rules in
    let named : c.in-Ok-take-3.found.form ≡ input.Bytes = search rules in
    rw named (hex, diag, base64)

pub returns-in-Err-take-3-clause-refused : goal.returns-in-Err-take-3-clause-refused
returns-in-Err-take-3-clause-refused c =
    let text = c.args.text.now in
    let hex : ¬ (Has input.Hex text) = search rules in
    let diag : ¬ (Has input.Diag text) = search rules in
    let base64 : ¬ (Has input.Base64 text) = search rules in
    let bytes : ¬ (Has input.Bytes text) = search rules in
    λ _ form. none_is_read text bytes hex diag base64 form

pub returns-then-is_text-clause-why : goal.returns-then-is_text-clause-why
returns-then-is_text-clause-why c =
    let text = c.args.text.now in
    let first = why_or text c.in-Err-take.refusal c.in-Err.refusal c.or.result c.or.ensures
    (input.Diag, c.in-Err-take.ensures.why) (input.Hex, c.in-Err.ensures.why) in
    why_or text c.or.result c.in-Err-take-2.refusal c.or-furthest.result c.or-furthest.ensures first
    (input.Base64, c.in-Err-take-2.ensures.why)

pub returns-in-Err-take-3-clause-why : goal.returns-in-Err-take-3-clause-why
returns-in-Err-take-3-clause-why c =
    let text = c.args.text.now in
    let first = why_or text c.in-Err-take.refusal c.in-Err.refusal c.or.result c.or.ensures
    (input.Diag, c.in-Err-take.ensures.why) (input.Hex, c.in-Err.ensures.why) in
    let second = why_or text c.or.result c.in-Err-take-2.refusal c.or-furthest.result c.or-furthest.ensures first
    (input.Base64, c.in-Err-take-2.ensures.why) in
    why_or text c.or-furthest.result c.in-Err-take-3.bytes c.or-in-Err-take-3.result c.or-in-Err-take-3.ensures second
    (input.Bytes, c.in-Err-take-3.ensures.why)
