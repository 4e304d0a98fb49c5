use Rattle.std.proofs.Common.{◌<◌, ℕ, get_or, arith}
use Rattle.std.proofs.lemmas.List.{take_all}
use Rattle.cbor_notes.proofs.texts.ElementLemmas.{number_below, next_number}
use Rattle.cbor_notes.proofs.element.big_endian_number.Goals as goal

pub overflow_mul-number : goal.overflow_mul-number
overflow_mul-number c =
    let fit : (i : ℕ) → get_or c.args.bytes.now i 0 < 256 = λ i. omega (arith, c.type_inv.bytes i) in
    let next = next_number c.args.bytes.now c.loop-byte.byte-index c.loop-byte.number fit c.loop-byte-test.true
    c.requires c.loop-byte.invariant in
    omega arith

pub overflow_add-number : goal.overflow_add-number
overflow_add-number c =
    let fit : (i : ℕ) → get_or c.args.bytes.now i 0 < 256 = λ i. omega (arith, c.type_inv.bytes i) in
    let next = next_number c.args.bytes.now c.loop-byte.byte-index c.loop-byte.number fit c.loop-byte-test.true
    c.requires c.loop-byte.invariant in
    omega arith

pub loop-byte-preserved : goal.loop-byte-preserved
loop-byte-preserved c =
    let fit : (i : ℕ) → get_or c.args.bytes.now i 0 < 256 = λ i. omega (arith, c.type_inv.bytes i) in
    let next = next_number c.args.bytes.now c.loop-byte.byte-index c.loop-byte.number fit c.loop-byte-test.true
    c.requires c.loop-byte.invariant in
    rw c.from.ensures next.0

pub returns-clause-bound : goal.returns-clause-bound
returns-clause-bound c =
    let fit : (i : ℕ) → get_or c.args.bytes.now i 0 < 256 = λ i. omega (arith, c.type_inv.bytes i) in
    let all = take_all c.loop-byte.byte-index c.args.bytes.now c.loop-byte-test.false in
    rw (c.loop-byte.invariant, all) (number_below c.args.bytes.now fit)
