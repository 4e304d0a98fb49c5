-- Bytes begin in exactly one of three ways.
use Rattle.std.proofs.Common.{◌-◌, arith}
use Rattle.cbor_grammar.proofs.bytes.ExactlyOne.{one_outcome}
use Rattle.cbor_grammar.proofs.laws.one_of_three.Goals as goal

pub returns : goal.returns
returns c = λ level b from to fits. one_outcome level (129 - level) b (omega arith) fits
