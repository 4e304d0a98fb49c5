-- The number from the place on, or none.
use Rattle.std.proofs.Common.{◌∙◌, ◌+◌, ap, sym}
use Rattle.cbor_tokens.specs.Token.{capped}
use Rattle.cbor_tokens.specs.TokenReading.{number_of}
use Rattle.cbor_tokens.proofs.tokens.NumberPlaces.{IsReadAt, read_at, none_at}
use Rattle.cbor_tokens.proofs.token.number.number_at.Goals as goal
use Rattle.cbor_tokens.proofs.token.number.number_at.Goals.{In_ok-value}

pub returns-in_err-value-clause-none : goal.returns-in_err-value-clause-none
returns-in_err-value-clause-none c = rw c.from_residual.ensures (none_at _
    (sym (ap number_of c.split_at.ensures.back) ∙ c.in_err-value.ensures.none))

read : (c : In_ok-value) → IsReadAt c.args.text.now c.args.at (c.args.at + c.in_ok-value.len)
    c.in_ok-value.ensures.found.0 c.in_ok-value.indicator
read c = read_at c.args.text.now c.split_at.result.1.now c.args.at c.in_ok-value.len _ c.in_ok-value.indicator
    c.split_at.ensures.back c.in_ok-value.ensures.found.2

pub returns-clause-value : goal.returns-clause-value
returns-clause-value c = (c.in_ok-value.ensures.found.0, c.in_ok-value.ensures.found.1, (read c).is)

pub returns-clause-longest : goal.returns-clause-longest
returns-clause-longest c = (read c).longest

pub returns-clause-only : goal.returns-clause-only
returns-clause-only c = λ value indicator is.
    let same = (read c).only value indicator is in
    (c.in_ok-value.ensures.found.1 ∙ ap capped same.0, same.1)
