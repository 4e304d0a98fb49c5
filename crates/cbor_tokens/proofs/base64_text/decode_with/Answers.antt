use Rattle.std.proofs.Common.{◌∙◌, sym, ap}
use Rattle.std.specs.Result.{result_ok}
use Rattle.base64.specs.GeneralPurpose.{decoded_of}
use Rattle.cbor_tokens.proofs.bases.Base64Digits.{bytes_at, bytes_from}
use Rattle.cbor_tokens.proofs.base64_text.decode_with.Goals as goal

pub returns-in-Ok-clause-found : goal.returns-in-Ok-clause-found
returns-in-Ok-clause-found c = (bytes_from _ c.in-Ok.ensures.bytes, c.in-Ok.ensures.exact c.requires)

pub returns-in-Ok-clause-only : goal.returns-in-Ok-clause-only
returns-in-Ok-clause-only c = λ bytes all is.
    let other = (c.in-Ok.ensures.strict c.requires bytes (bytes_at bytes all)).1 is in
    let same = sym c.in-Ok.ensures.ok ∙ other in
    cc same

pub returns-in-Err-DecodeError-clause-only : goal.returns-in-Err-DecodeError-clause-only
returns-in-Err-DecodeError-clause-only c = λ bytes all is.
    let other = (c.in-Err-DecodeError.ensures.strict c.requires bytes (bytes_at bytes all)).1 is in
    let failed = rw c.in-Err-DecodeError.field-0-is at c.in-Err-DecodeError.ensures.err in
    let never = sym other ∙ failed in
    cc never

pub returns-in-Ok-clause-value : goal.returns-in-Ok-clause-value
unfolding decoded_of
returns-in-Ok-clause-value c = sym (ap result_ok c.in-Ok.ensures.ok)

pub returns-in-Err-DecodeError-clause-value : goal.returns-in-Err-DecodeError-clause-value
unfolding decoded_of
returns-in-Err-DecodeError-clause-value c =
    let failed = rw c.in-Err-DecodeError.field-0-is at c.in-Err-DecodeError.ensures.err in sym (ap result_ok failed)
