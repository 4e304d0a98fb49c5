use Rattle.std.proofs.Common.{◌∙◌, Some, option_map, sym, ap}
use Rattle.cbor_notes.specs.DecodedLines.{base64_lines, decoded_lines}
use Rattle.cbor_tokens.specs.Base64.{decoded}
use Rattle.cbor_notes.proofs.decoded.base64_lines.Goals as goal

pub returns-in_ok-decoded_lines-in-Some-clause-found : goal.returns-in_ok-decoded_lines-in-Some-clause-found
returns-in_ok-decoded_lines-in-Some-clause-found c =
    let found = rw c.in-Some.is at c.in_ok-bytes.ensures.found in (
      c.in-Some.bytes.items,
      found.0,
      sym c.as_bytes.ensures.value ∙ found.1,
      c.in_ok-decoded_lines-in-Some.ensures ∙ ap decoded_lines c.deref.ensures.value,
    )

pub returns-in_ok-decoded_lines-in-Some-clause-only : goal.returns-in_ok-decoded_lines-in-Some-clause-only
returns-in_ok-decoded_lines-in-Some-clause-only c = λ bytes all is.
    let same = rw c.in-Some.is at (c.in_ok-bytes.ensures.only bytes all (c.as_bytes.ensures.value ∙ is)) in
    c.in_ok-decoded_lines-in-Some.ensures ∙ ap decoded_lines (c.deref.ensures.value ∙ same)

pub returns-in-None-clause-none : goal.returns-in-None-clause-none
returns-in-None-clause-none c = λ bytes all is. rw c.in-None.is at
    (c.in_ok-bytes.ensures.only bytes all (c.as_bytes.ensures.value ∙ is))

pub returns-in-None-clause-only : goal.returns-in-None-clause-only
returns-in-None-clause-only c = returns-in-None-clause-none c

pub returns-in_ok-decoded_lines-in-Some-clause-value : goal.returns-in_ok-decoded_lines-in-Some-clause-value
unfolding base64_lines
returns-in_ok-decoded_lines-in-Some-clause-value c =
    let found = rw c.in-Some.is at c.in_ok-bytes.ensures.value in
    ap Some (c.in_ok-decoded_lines-in-Some.ensures ∙ ap decoded_lines c.deref.ensures.value)
    ∙ ap (option_map decoded_lines) (found ∙ ap (decoded c.args.url) c.as_bytes.ensures.value)

pub returns-in-None-clause-value : goal.returns-in-None-clause-value
unfolding base64_lines
returns-in-None-clause-value c =
    let found = rw c.in-None.is at c.in_ok-bytes.ensures.value in
    ap (option_map decoded_lines) (found ∙ ap (decoded c.args.url) c.as_bytes.ensures.value)
