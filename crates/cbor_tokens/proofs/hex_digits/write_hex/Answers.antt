use Rattle.std.proofs.Common.{ℕ, arith, slice_index}
use Rattle.hex.specs.Hex.{lower_digits}
use Rattle.hex.proofs.Pairs.{encode_step, encode_done}
use Rattle.cbor_tokens.proofs.texts.HexTables.{pair_of}
use Rattle.cbor_tokens.proofs.hex_digits.write_hex.Goals as goal

pub bytes-preserved : goal.bytes-preserved
bytes-preserved c =
    let byte : ℕ = slice_index c.args.bytes.now c.bytes.i in
    let pair = pair_of byte c.from-pair.result (omega (arith, c.from-pair.ensures)) (omega (arith, c.from-pair.ensures))
    in
    encode_step lower_digits c.args.bytes.now c.bytes.digits c.bytes.i _ _ (omega arith) (omega arith) pair.0 pair.1
    c.bytes.invariant

pub returns : goal.returns
returns c = encode_done lower_digits _ _ c.bytes.i (omega arith) (omega arith) c.bytes.invariant
