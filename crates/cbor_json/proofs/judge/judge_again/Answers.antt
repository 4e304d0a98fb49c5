-- The text has unique keys, or not.
use Rattle.std.proofs.Common.{arith}
use Rattle.std.specs.String.{string_bytes}
use Rattle.cbor_json.proofs.writing.Json.{is_text, has_same_keys}
use Rattle.cbor_json.proofs.judge.judge_again.Goals as goal

pub returns-in-Some-clause-judged : goal.returns-in-Some-clause-judged
returns-in-Some-clause-judged c =
    let p = c.in_ok-text.ensures.written in (p.0, p.1, c.in-Some.ensures.lost p.0 c.in_ok-text.rest.now p.1)

pub returns-then-branch-clause-judged : goal.returns-then-branch-clause-judged
returns-then-branch-clause-judged c =
    let p = c.in_ok-text.ensures.written in (
      p.0,
      p.1,
      is_text c.args.style c.args.bytes.now p.0 c.in_ok-text.rest.now p.2 (string_bytes c.in_ok-text.text)
          (λ i. omega (arith, c.type_inv.bytes i)) p.1 p.3 p.4 c.in_ok-has_unique_keys.field-0
          c.as_str.result.now c.as_str.ensures.value
          c.in_ok-has_unique_keys.ensures c.if-branch.true
          (c.in_default.ensures.kept p.0 c.in_ok-text.rest.now p.1),
    )

pub returns-clause-judged : goal.returns-clause-judged
returns-clause-judged c =
    let p = c.in_ok-text.ensures.written in (
      p.0,
      p.1,
      has_same_keys c.args.style c.args.bytes.now p.0 c.in_ok-text.rest.now p.2 (string_bytes c.in_ok-text.text)
          (λ i. omega (arith, c.type_inv.bytes i)) p.1 p.3 p.4 c.in_ok-has_unique_keys.field-0
          c.as_str.result.now c.as_str.ensures.value
          c.in_ok-has_unique_keys.ensures c.if-branch.false
          (c.in_default.ensures.kept p.0 c.in_ok-text.rest.now p.1),
    )
