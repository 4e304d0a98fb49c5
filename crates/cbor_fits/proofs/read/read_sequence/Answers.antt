-- The items are all if no bytes are left, unless a key stands twice in them.
use Rattle.std.proofs.Common.{Some, length, eqb-true, map, ap, sym, ◌∙◌}
use Rattle.std.proofs.lemmas.List.{nil_from_length}
use Rattle.cbor_grammar.specs.Embedded.{sequence}
use Rattle.cbor_fits.specs.View.{view}
use Rattle.cbor_fits.proofs.Views.{view-Array}
use Rattle.cbor_fits.proofs.Decodes.{whole, others, not_once, twice}
use Rattle.cbor_fits.proofs.InOrder.{raised}
use Rattle.cbor_fits.proofs.read.read_sequence.Goals as goal

pub returns-then-reader : goal.returns-then-reader
returns-then-reader c =
    let flag = raised c.new-reader.result.key_twice c.read_items.new.reader.key_twice
    (twice (sequence 1 c.args.bytes.now))
    c.in_ok-data.ensures.key_twice c.new-reader.ensures in
    not_once c.args.bytes.now (sym flag ∙ c.if-reader.true)

pub returns-then-is_empty : goal.returns-then-is_empty
returns-then-is_empty c =
    let d = c.in_ok-data in
    let flag = raised c.new-reader.result.key_twice c.read_items.new.reader.key_twice
    (twice (sequence 1 c.args.bytes.now))
    d.ensures.key_twice c.new-reader.ensures in
    ap Some (view-Array d.data) ∙ whole c.args.bytes.now (map view d.data.items) d.rest.now d.ensures.values
    (nil_from_length d.rest.now (eqb-true (length d.rest.now) 0 (sym c.is_empty.ensures ∙ c.if-is_empty.true)))
    (sym flag ∙ c.if-reader.false)

pub returns-else-is_empty : goal.returns-else-is_empty
returns-else-is_empty c =
    let d = c.in_ok-data in
    others c.args.bytes.now (map view d.data.items) d.rest.now d.ensures.values
    (sym c.is_empty.ensures ∙ c.if-is_empty.false)
