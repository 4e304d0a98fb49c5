-- What the dialect writes is EDN of the item, and its notes stand at their items.
use Rattle.std.proofs.Common.{length, sym, ◌∙◌, arith}
use Rattle.std.proofs.lemmas.Bool.{eqb-true, eqb-false}
use Rattle.std.specs.String.{string_bytes}
use Rattle.cbor_edn_writer.proofs.writing.Edn.{edn_so, noted_so}
use Rattle.cbor_edn_writer.proofs.write.push_front.Goals as goal

pub returns-then-is_empty-clause-written : goal.returns-then-is_empty-clause-written
returns-then-is_empty-clause-written c =
    let none = eqb-true (length c.args.noted.notes.now) 0 (sym c.is_empty.ensures ∙ c.if-is_empty.true) in
    edn_so c.args.noted.style c.args.noted.notes.now c.new-place.result c.args.bytes.now c.new-place.ensures.outermost
    (λ i. omega (arith, c.type_inv.bytes i)) c.push_outermost.result (λ rest. rest.now) (string_bytes c.args.out.now)
    (string_bytes c.push_outermost.new.out) none c.push_outermost.ensures.written

pub returns-else-is_empty-clause-written : goal.returns-else-is_empty-clause-written
returns-else-is_empty-clause-written c =
    let wrote = c.push_outermost-else-is_empty in
    let some = eqb-false (length c.args.noted.notes.now) 0 (sym c.is_empty.ensures ∙ c.if-is_empty.false) in
    noted_so c.args.noted.style c.args.noted.notes.now c.new-place.result c.args.bytes.now c.new-place.ensures.outermost
    (λ i. omega (arith, c.type_inv.bytes i)) wrote.result (λ rest. rest.now) (string_bytes c.args.out.now)
    (string_bytes wrote.new.out) some wrote.ensures.written
