use Rattle.base64.specs.GeneralPurpose.{decoded_of}
use Rattle.cbor_tokens.specs.Base64.{decoded}
use Rattle.cbor_tokens.proofs.base64_text.decode.Goals as goal

pub returns-then-url-clause-only : goal.returns-then-url-clause-only
returns-then-url-clause-only c = λ bytes all is. let safe =
    rw c.if-url.true at is in c.decode_with.ensures.only bytes all safe

pub returns-else-url-clause-found : goal.returns-else-url-clause-found
returns-else-url-clause-found c = rw c.if-url.false c.decode_with-else-url.ensures.found

pub returns-else-url-clause-only : goal.returns-else-url-clause-only
returns-else-url-clause-only c = λ bytes all is. let standard =
    rw c.if-url.false at is in c.decode_with-else-url.ensures.only bytes all standard

pub returns-then-url-clause-value : goal.returns-then-url-clause-value
unfolding decoded decoded_of
returns-then-url-clause-value c = rw c.if-url.true c.decode_with.ensures.value

pub returns-else-url-clause-value : goal.returns-else-url-clause-value
unfolding decoded decoded_of
returns-else-url-clause-value c = rw c.if-url.false c.decode_with-else-url.ensures.value
