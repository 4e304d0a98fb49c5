use Rattle.std.proofs.Common.{rules, ◌≡◌, ℕ, List, length, inr, sym, subst, refl, w64, pos, ℤ, to_z, of_z}
use Rattle.cbor_diag_c.specs.Answers.{IfLength, written}
use Rattle.cbor_diag_c.specs.Messages.{IsFaultMessage, IsNoItemIn}
use Rattle.cbor_diag_c.proofs.messages.cbor_diag_fault_message.Goals as goal

-- The message is of an input that is no item.
pub returns-in-Ok-Some-clause-message : goal.returns-in-Ok-Some-clause-message
returns-in-Ok-Some-clause-message c =
    let text = c.as_bytes.result.now in
    let same : to_z w64 (of_z w64 c.write.result) ≡ pos (length text) = search rules in
    let told = rw c.in-Ok-Some.field-0-is at c.in-Ok-Some.ensures.refused in
    let why : IsNoItemIn c.args.from c.args.input.now =
    (c.in-Some.form, c.in-Ok-Some.fault.error, c.in-Some.ensures.named, told) in
    subst (λ (z : ℤ). IfLength z (λ n. (x : List ℕ) × IsFaultMessage c.args.from c.args.input.now x
    × (n ≡ length x) × (c.write.new.output ≡ written x c.args.output.now))) (sym same)
    (text, inr why, refl, c.write.ensures.written)
