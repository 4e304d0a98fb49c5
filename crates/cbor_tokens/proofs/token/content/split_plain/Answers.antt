-- Each byte before a special one is itself.
use Rattle.std.proofs.Common.{◌∙◌, ap, sym, ℕ, take, drop, arith, refl}
use Rattle.cbor_tokens.proofs.tokens.Quoted.{plain_read, special_first, plain_to_end}
use Rattle.cbor_tokens.proofs.tokens.TextPlaces.{front_byte}
use Rattle.cbor_tokens.proofs.token.content.split_plain.Goals as goal

pub returns-in-len1-up-clause-found : goal.returns-in-len1-up-clause-found
returns-in-len1-up-clause-found c =
    let text = c.args.text.now in
    let first = c.plain_len.ensures.first in
    plain_read c.args.quote text c.split_at.result.0.now _
    (c.split_at.ensures.front ∙ ap (λ (n : ℕ). take n text) first)
    (sym (front_byte c.split_at.result.1.now _ c.in-len1-up.len_at_least refl)
    ∙ c.split_at.ensures.back ∙ ap (λ (n : ℕ). drop n text) first)

pub returns-in-len1-up-clause-special : goal.returns-in-len1-up-clause-special
returns-in-len1-up-clause-special c = special_first c.args.quote c.args.text.now c.split_at.result.1.now
    (c.split_at.ensures.back ∙ ap (λ (n : ℕ). drop n c.args.text.now) c.plain_len.ensures.first)
    c.in-len1-up.len_at_least

pub returns-in-empty-clause-none : goal.returns-in-empty-clause-none
returns-in-empty-clause-none c = plain_to_end c.args.quote c.args.text.now c.split_at.result.1.now
    (c.split_at.ensures.back ∙ ap (λ (n : ℕ). drop n c.args.text.now) c.plain_len.ensures.first) (omega arith)
