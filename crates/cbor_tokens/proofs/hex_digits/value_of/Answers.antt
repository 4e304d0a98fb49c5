use Rattle.std.proofs.Common.{arith}
use Rattle.cbor_tokens.proofs.texts.HexTables.{value_found, value_fits}
use Rattle.cbor_tokens.proofs.hex_digits.value_of.Goals as goal

pub overflow_add-result : goal.overflow_add-result
overflow_add-result c =
    let fits = value_fits c.args.first c.args.second c.from.result c.from-2.result 65535 (omega (arith, c.from.ensures))
    (omega (arith, c.from-2.ensures)) (omega arith) (omega arith) (omega arith) in
    omega (arith, fits)

pub returns-clause-value : goal.returns-clause-value
returns-clause-value c =
    value_found c.args.first c.args.second c.from.result c.from-2.result (omega (arith, c.from.ensures))
    (omega (arith, c.from-2.ensures)) (omega arith) (omega arith)

pub returns-clause-small : goal.returns-clause-small
returns-clause-small c =
    value_fits c.args.first c.args.second c.from.result c.from-2.result 512 (omega (arith, c.from.ensures))
    (omega (arith, c.from-2.ensures)) (omega arith) (omega arith) (omega arith)
