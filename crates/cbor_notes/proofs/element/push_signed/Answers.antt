use Rattle.std.proofs.Common.{◌≡◌, ◌-◌, ◌*◌, ◌%◌, ◌^◌, ◌<◌, ◌≤◌, ◌++◌, length, true, false, ◌∙◌, ap, sym, arith}
use Rattle.std.proofs.lemmas.Result.{on_ok_weaker}
use Rattle.std.specs.Int.Digits.{number_from_digits}
use Rattle.std.specs.String.{string_bytes}
use Rattle.cbor_notes.specs.Text.{grouped}
use Rattle.cbor_notes.proofs.texts.ElementLemmas.{half_is, halves, signed_text-lower, signed_text-upper}
use Rattle.cbor_notes.proofs.element.push_signed.Goals as goal

pub returns-then-number-half-clause-text : goal.returns-then-number-half-clause-text
returns-then-number-half-clause-text c =
    let bytes = c.args.bytes.now in
    let half = half_is (length bytes) c.requires.0 c.requires.1 in
    let value = c.big_endian_number-number.ensures.value in
    let below : number_from_digits 256 bytes < 2 ^ (8 * length bytes - 1) = omega arith in
    let text = ap (λ n. grouped n false) value
    ∙ sym (signed_text-lower (length bytes) (number_from_digits 256 bytes) below) in
    on_ok_weaker c.push_grouped.result (λ q. q ∙ ap (λ t. string_bytes c.args.text.now ++ t) text)
    c.push_grouped.ensures.text

pub returns-else-number-half-clause-text : goal.returns-else-number-half-clause-text
returns-else-number-half-clause-text c =
    let bytes = c.args.bytes.now in
    let half = half_is (length bytes) c.requires.0 c.requires.1 in
    let whole = halves (length bytes) c.requires.0 in
    let value = c.big_endian_number-number.ensures.value in
    let above : 2 ^ (8 * length bytes - 1) ≤ number_from_digits 256 bytes = omega arith in
    let upper = signed_text-upper (length bytes) (number_from_digits 256 bytes) above in
    let shifted = (1 * 2 ^ (8 * length bytes - 1)) % 2 ^ 128 in
    let below : shifted - (c.big_endian_number-number.result - shifted)
    ≡ 2 ^ (8 * length bytes) - number_from_digits 256 bytes = omega arith in
    let text = ap (λ n. grouped n true) below ∙ sym upper in
    on_ok_weaker c.push_grouped-else-number-half.result (λ q. q ∙ ap (λ t. string_bytes c.args.text.now ++ t) text)
    c.push_grouped-else-number-half.ensures.text
