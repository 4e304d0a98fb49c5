-- Digits are read up to the first byte that is none.
use Rattle.std.proofs.Common.{◌∙◌, ap, ℕ, take, drop}
use Rattle.cbor_tokens.proofs.tokens.Spaced.{run_read}
use Rattle.cbor_tokens.proofs.token.content.split_run.Goals as goal

pub returns-else-is_empty-clause-found : goal.returns-else-is_empty-clause-found
returns-else-is_empty-clause-found c =
    let text = c.args.text.now in
    let first = c.run_len.ensures.first in
    run_read c.args.comments text c.split_at.result.0.now c.split_at.result.1.now
    (c.split_at.ensures.front ∙ ap (λ (n : ℕ). take n text) first)
    (c.split_at.ensures.back ∙ ap (λ (n : ℕ). drop n text) first)
