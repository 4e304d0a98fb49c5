-- The item that the bytes encode, by the clauses of `parse_bytes`.
use Rattle.std.proofs.Common.{Some, true, false, ap, sym, ◌∙◌, arith}
use Rattle.cbor_diag.specs.View.{view as item_view}
use Rattle.cbor_fits.specs.Decoded.{has_key_twice}
use Rattle.cbor_fits.proofs.Decodes.{decoded_is, decoded_none, valid}
use Rattle.cbor_fits.proofs.InOrder.{raised}
use Rattle.cbor_fits.proofs.read.read_item.Goals as goal

pub returns-in-Ok-datum_of : goal.returns-in-Ok-datum_of
returns-in-Ok-datum_of c =
    let i = item_view c.in-Ok.item in
    let twice = raised c.new-reader.result.key_twice c.datum_of.new.self.key_twice (has_key_twice i)
    c.in-Ok-datum_of.ensures.key_twice c.new-reader.ensures in
    sym (valid i true (sym c.if-reader.true ∙ twice))
    ∙ decoded_is c.args.bytes.now i (λ k. omega (arith, c.type_inv.bytes k)) c.in-Ok.ensures.ok

pub returns-in-Ok-2 : goal.returns-in-Ok-2
returns-in-Ok-2 c =
    let i = item_view c.in-Ok.item in
    let once = raised c.new-reader.result.key_twice c.datum_of.new.self.key_twice (has_key_twice i)
    c.in-Ok-datum_of.ensures.key_twice c.new-reader.ensures in
    ap Some c.in-Ok-datum_of.ensures.value ∙ (sym (valid i false (sym c.if-reader.false ∙ once))
    ∙ decoded_is c.args.bytes.now i (λ k. omega (arith, c.type_inv.bytes k)) c.in-Ok.ensures.ok)

pub returns : goal.returns
returns c =
    decoded_none c.args.bytes.now (λ i. omega (arith, c.type_inv.bytes i))
    (λ i here. c.in_default.not-Memory (c.in-Err.ensures.every_item i here))
