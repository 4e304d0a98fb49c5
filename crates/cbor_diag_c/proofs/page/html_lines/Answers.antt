-- The item of the lines is each item that the bytes encode, with all its widths stated.
use Rattle.std.proofs.Common.{refl, arith}
use Rattle.cbor_grammar.proofs.bytes.ExactlyOne.{one_outcome}
use Rattle.cbor_grammar.proofs.straight.PublicCalls.{every_shown}
use Rattle.cbor_diag_c.specs.Forms.{IsHtmlLines}
use Rattle.cbor_diag_c.proofs.Lines.{resolved_lines}
use Rattle.cbor_diag_c.proofs.page.html_lines.Goals as goal

pub returns-clause-ok : goal.returns-clause-ok
returns-clause-ok c = resolved_lines c.args.bytes.now c.item_lines.result (λ l. l.items) c.item_lines.ensures.ok

pub returns-clause-every_item : goal.returns-clause-every_item
returns-clause-every_item c =
    every_shown c.args.bytes.now c.item_lines.result (λ l i. IsHtmlLines i l.items)
    (one_outcome 1 128 c.args.bytes.now refl (λ i. omega (arith, c.type_inv.bytes i))) c.item_lines.ensures.ok
    c.item_lines.ensures.refused
