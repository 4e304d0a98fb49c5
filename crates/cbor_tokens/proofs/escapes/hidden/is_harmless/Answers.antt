use Rattle.std.proofs.Common.{arith}
use Rattle.cbor_tokens.proofs.escaping.HiddenLemmas.{none_more}
use Rattle.cbor_tokens.proofs.escapes.hidden.is_harmless.Goals as goal

pub bytes-preserved : goal.bytes-preserved
bytes-preserved c =
    none_more c.args.lines c.args.text.now c.args.from c.bytes.at c.bytes.harmless c.never_hides-harmless.result
    c.bytes.invariant c.never_hides-harmless.ensures

pub returns : goal.returns
returns c = λ yes k above small. c.bytes.invariant yes k above (omega arith)
