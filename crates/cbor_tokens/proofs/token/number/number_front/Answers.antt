-- Digits behind the prefix, and what follows them, or none.
use Rattle.std.proofs.Common.{◌∙◌, ℕ, drop, Some, None, ap, arith}
use Rattle.cbor_tokens.specs.Views.{base_view}
use Rattle.cbor_tokens.proofs.tokens.NumberPlaces.{number_none, number_some}
use Rattle.cbor_tokens.proofs.token.number.number_front.Goals as goal

pub returns-then-len-eq0-clause-none : goal.returns-then-len-eq0-clause-none
returns-then-len-eq0-clause-none c =
    let run = c.read_digits-value.ensures.run in
    number_none c.args.text.now c.split_at.result.1.now c.prefix_len-start.result c.radix.result run.0
    (base_view c.of-base.result) c.of-base.ensures c.prefix_len-start.ensures c.radix.ensures c.split_at.ensures.back
    (run.2 ∙ ap (λ (n : ℕ). (run.0, drop n c.split_at.result.1.now)) c.if-len-eq0.true)

pub returns-in-Some-clause-found : goal.returns-in-Some-clause-found
returns-in-Some-clause-found c =
    let digits = c.read_digits-value in
    let run = digits.ensures.run in (
      run.0,
      run.1,
      number_some c.args.text.now c.split_at.result.1.now c.split_at-2.result.1.now
          c.prefix_len-start.result c.radix.result digits.result.1 run.0 (base_view c.of-base.result)
          (Some (c.in-Some.indicator, c.in-Some.more)) c.of-base.ensures c.prefix_len-start.ensures c.radix.ensures
          c.split_at.ensures.back run.2 (omega (arith, c.if-len-eq0.false)) digits.ensures.within
          c.split_at-2.ensures.back c.in-Some.ensures.gives,
    )

pub returns-in-None-clause-found : goal.returns-in-None-clause-found
returns-in-None-clause-found c =
    let digits = c.read_digits-value in
    let run = digits.ensures.run in (
      run.0,
      run.1,
      number_some c.args.text.now c.split_at.result.1.now c.split_at-2.result.1.now
          c.prefix_len-start.result c.radix.result digits.result.1 run.0 (base_view c.of-base.result) None
          c.of-base.ensures c.prefix_len-start.ensures c.radix.ensures c.split_at.ensures.back run.2
          (omega (arith, c.if-len-eq0.false)) digits.ensures.within c.split_at-2.ensures.back c.in-None.ensures.gives,
    )
