use Rattle.std.proofs.Common.{rules, ◌≡◌, ℕ, List, length, sym, subst, refl, w64, pos, ℤ, to_z, of_z}
use Rattle.cbor_inputs.specs.Inputs.{Takes}
use Rattle.cbor_diag_c.specs.Answers.{IfLength, IfError}
use Rattle.cbor_diag_c.specs.Recognized.{IsRecognized, IsNotRecognized}
use Rattle.cbor_diag_c.proofs.NotRecognized.{none}
use Rattle.cbor_diag_c.proofs.recognized.cbor_diag_recognize.Goals as goal

-- The bytes that were found are written.
pub returns-in-Ok-clause-recognized : goal.returns-in-Ok-clause-recognized
returns-in-Ok-clause-recognized c =
    let bytes = c.deref.result.now in
    let same : to_z w64 (of_z w64 c.write.result) ≡ pos (length bytes) = search rules in
    let is : c.in-Ok.found.bytes.items ≡ bytes = search rules in
    let takes = subst (λ (b : List ℕ). Takes c.in-Ok.found.form c.args.input.now b) is c.in-Ok.ensures.takes in
    subst (λ (z : ℤ). IfLength z (IsRecognized c.args.input.now c.input_number.result c.args.output.now
    c.write.new.output)) (sym same)
    (c.in-Ok.found.form, bytes, c.input_number.ensures, takes, c.in-Ok.ensures.first, refl, c.write.ensures.written)

-- The error is that of the input.
pub returns-in-Err-clause-refused : goal.returns-in-Err-clause-refused
returns-in-Err-clause-refused c =
    let same : to_z w64 (of_z w64 c.not_recognized.result) ≡ c.not_recognized.result = search rules in
    subst (λ (z : ℤ). IfError z (IsNotRecognized c.args.input.now)) (sym same)
    (none c.args.input.now c.in-Err.refusal c.not_recognized.result c.not_recognized.ensures c.in-Err.ensures.refused)
