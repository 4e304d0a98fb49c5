-- What is found at the front is the content of the item there, if that is a byte string of definite length.
use Rattle.std.proofs.Common.{Some, ap, sym, ◌∙◌, arith}
use Rattle.cbor_grammar.specs.declared.argument.Argument.TheVariants.{Number}
use Rattle.cbor_grammar.specs.declared.head.ItemHead.TheVariants as item_head
use Rattle.cbor_grammar.specs.declared.strings.StringKind.TheVariants.{Text}
use Rattle.cbor_dump.proofs.dump.Fronts.{not_string, not_number, other_bytes, own_content}
use Rattle.cbor_dump.proofs.walk.definite_bytes.Goals as goal

pub returns-in_default-head : goal.returns-in_default-head
returns-in_default-head c = λ level i rest le e.
    sym (other_bytes level c.args.bytes.now rest c.in-Ok.rest.now i c.in-Ok.head le
    (λ n. omega (arith, c.type_inv.bytes n)) e c.in-Ok.ensures.gives
    (not_string c.in-Ok.head c.in_default-head.not-String))

pub returns-in_default-length : goal.returns-in_default-length
returns-in_default-length c = λ level i rest le e.
    sym (other_bytes level c.args.bytes.now rest c.in-Ok.rest.now i
    (item_head.String c.in-String.kind c.in-String.length) le
    (λ n. omega (arith, c.type_inv.bytes n)) e (rw c.in-String.is at c.in-Ok.ensures.gives)
    (not_number c.in-String.kind c.in-String.length c.in_default-length.not-Number))

pub returns-in-Text : goal.returns-in-Text
returns-in-Text c = λ level i rest le e.
    sym (other_bytes level c.args.bytes.now rest c.in-Ok.rest.now i
    (item_head.String Text (Number c.in-Number.count c.in-Number.field-1)) le (λ n. omega (arith, c.type_inv.bytes n)) e
    (rw (c.in-String.is, c.in-Number.is, c.in-Text.is) at c.in-Ok.ensures.gives) tt)

pub returns-in-Ok-read_borrowed : goal.returns-in-Ok-read_borrowed
returns-in-Ok-read_borrowed c = λ level i rest le e.
    let w = c.in-Number.field-1 in
    let content = c.in-Ok-read_borrowed.content in
    ap Some c.as_bytes.ensures.bytes
    ∙ sym (own_content level c.in-Number.count w content c.args.bytes.now rest c.in-Ok.rest.now
    c.in-Ok-read_borrowed.field-0-1.now i e
    (rw (c.in-String.is, c.in-Number.is, c.in-Bytes.is) at c.in-Ok.ensures.gives)
    (rw c.in-Bytes.is at c.in-Ok-read_borrowed.ensures.kind)
    (rw c.in-Bytes.is at (c.in-Ok-read_borrowed.ensures.gives w)))
