use Rattle.std.proofs.Common.{◌<◌, arith}
use Rattle.std.proofs.lemmas.Bool.Decides.{nat_tests}
use Rattle.hex.proofs.Pairs.{decode_done}
use Rattle.cbor_tokens.proofs.texts.HexTables.{read_step}
use Rattle.cbor_tokens.proofs.hex_digits.read_hex.Goals as goal

pub bytes-preserved : goal.bytes-preserved
bytes-preserved c =
    read_step c.args.digits.now c.bytes.bytes c.bytes.i c.bytes.all _ (omega arith) (omega arith)
    c.value_of-value.ensures.value c.bytes.invariant

pub returns-clause-read : goal.returns-clause-read
returns-clause-read c = λ t.
    let all : c.bytes.all < 256 = grind (arith, nat_tests) in
    decode_done c.args.digits.now c.bytes.bytes c.bytes.i (omega arith) (omega arith) (c.bytes.invariant.read all)
