-- The text, or what JSON does not keep.
use Rattle.std.proofs.Common.{arith}
use Rattle.std.specs.String.{string_bytes}
use Rattle.cbor_json.proofs.writing.Json.{unique_json}
use Rattle.cbor_json.proofs.judge.judged_text.Goals as goal

pub returns-in-Some-clause-judged : goal.returns-in-Some-clause-judged
returns-in-Some-clause-judged c = λ i rest read of unique. c.in-Some.ensures.lost i rest read

pub returns-in-None-clause-judged : goal.returns-in-None-clause-judged
returns-in-None-clause-judged c = λ i rest read of unique.
    unique_json c.args.style c.args.bytes.now i rest (string_bytes c.args.text) (λ i. omega (arith, c.type_inv.bytes i))
    read of unique (c.in-None.ensures.kept i rest read)
